use Rattle.std.proofs.Common.{◌∙◌, sym, subst, [], ◌∷◌, arith}
use Rattle.std.specs.Prelude.{map as list_map}
use Rattle.std.proofs.lemmas.List.{map-append}
use Rattle.claim_laws.specs.Acts.{packet_of as asked_packet}
use Rattle.cells_world.specs.Post.{Puts, Sends}
use Rattle.cells_world.proofs.Sending.{puts_then, sends_on}
use Rattle.cells_world.proofs.post.Post.send_requests.Goals as goal

pub loop-request-preserved : goal.loop-request-preserved
loop-request-preserved g c = record {
  sends = subst (Sends (Puts g.N.Wire) c.args.wire.now c.send.new.wire c.args.self.now c.send.new.self) (sym (map-append asked_packet c.loop-request.yielded (c.in-Some.request ∷ [])))
      (sends_on (Puts g.N.Wire) (puts_then g.N.Wire) c.args.wire.now c.loop-request.wire c.send.new.wire c.args.self.now c.loop-request.self c.send.new.self
      (list_map asked_packet c.loop-request.yielded) (asked_packet c.in-Some.request ∷ []) c.loop-request.invariant.sends c.in_ok-send.ensures.sends);
  packets = c.in_ok-send.ensures.packets;
  handed = λ tells. c.send.ensures.handed tells ∙ c.loop-request.invariant.handed tells;
  later = let a = c.loop-request.invariant.later in let b = c.send.ensures.later in omega (arith, a, b);
}
