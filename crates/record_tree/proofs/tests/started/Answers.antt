use Rattle.std.proofs.Common.{rules, ◌≡◌, sym, subst}
use Rattle.cells_base.proofs.Members.{nowhere}
use Rattle.claim_types.specs.declared.record.Record.{Record}
use Rattle.claim_map.specs.State.{Tree}
use Rattle.record_tree.specs.Known.{IsWithin}
use Rattle.record_tree.specs.declared.tests.TheConstants.{KNOWN}
use Rattle.record_tree.proofs.tests.started.Goals as goal

pub returns : goal.returns
returns c = subst (λ (t : Tree). IsWithin t KNOWN) (sym c.start.ensures) (record { rising = search rules; ids = λ r h. absurd (nowhere r h) })
