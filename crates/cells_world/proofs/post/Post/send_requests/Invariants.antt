use Rattle.std.proofs.Common.{◌≡◌, ◌≤◌, IsTrue}
use Rattle.std.specs.Prelude.{map as list_map}
use Rattle.claim_laws.specs.Acts.{packet_of as asked_packet}
use Rattle.cells_world.specs.Post.{ArePackets, Puts, Sends}
use Rattle.cells_world.proofs.post.Post.send_requests.Given as goal

abbrev pub invariant-loop-request : goal.invariant-loop-request
invariant-loop-request g l = record {
  sends : Sends (Puts g.N.Wire) l.fn.wire l.wire l.fn.self l.self (list_map asked_packet l.yielded);
  packets : ArePackets l.self;
  handed : IsTrue g.N.Wire.tells → g.N.Wire.handed l.wire ≡ g.N.Wire.handed l.fn.wire;
  later : g.N.Wire.faults l.fn.wire ≤ g.N.Wire.faults l.wire;
}
