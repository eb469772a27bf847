-- A node is cut off: what it would have sent is not sent, and the installation stays in order.
use Rattle.std.proofs.Common.{List, ◌++◌, Option, Some, None}
use Rattle.std.specs.List.{Contains}
use Rattle.claim_types.specs.declared.rule.Ended.{Ended}
use Rattle.claim_types.specs.declared.rule.Ended.TheVariants.{Denied as EndedDenied, Changed as EndedChanged}
use Rattle.claim_types.specs.declared.rule.Note.{Note}
use Rattle.claim_types.specs.declared.step.Step.{Step}
use Rattle.claim_map.specs.Registry.{Registry}
use Rattle.claim_map.specs.State.{ClaimMap}
use Rattle.claim_map.specs.Legal.{Message}
use Rattle.claim_laws.specs.World.{Packet, World}
use Rattle.claim_laws.specs.Acts.{with_sent, with_step, with_note}
use Rattle.claim_laws.specs.Facts.{WasSent, IsInOrder}
use Rattle.claim_laws.proofs.Service.{sent_before}

-- what was handed over had been sent
abbrev pub HandsSent : World → Type 0
HandsSent w = (m : Message) → Contains w.handed (Some m) → WasSent w.sent m

module _ (registry : Registry) (beginning : ClaimMap) where
  -- where less was sent, less is to be true
  less_sent : (u : World) (ps : List Packet) (ns : List Note) → HandsSent u → IsInOrder registry beginning (record u { sent = u.sent ++ ps; notes = ns }) → IsInOrder registry beginning u
  less_sent u ps ns handed order = record {
    sound = order.sound;
    lives = order.lives;
    cells = order.cells;
    installed = order.installed;
    messages = λ m is. order.messages m (sent_before u.sent ps m is);
    begins = λ lease ops theirs a b. order.begins lease ops theirs (sent_before u.sent ps _ a) (sent_before u.sent ps _ b);
    handed = handed;
    legal = order.legal;
    stands = order.stands;
  }

  pub undone : (u : World) (ps : List Packet) (e : Option Ended) → HandsSent u → IsInOrder registry beginning (with_sent ps (with_note e u)) → IsInOrder registry beginning u
  undone u ps None handed order = less_sent u ps u.notes handed order
  undone u ps (Some (EndedDenied lease denial)) handed order = less_sent u ps u.notes handed order
  undone u ps (Some (EndedChanged lease before now)) handed order = less_sent u ps _ handed order

  pub still_handed : (w : World) (o : Option Step) → HandsSent w → HandsSent (with_step o w)
  still_handed w None handed = handed
  still_handed w (Some step) handed = handed
