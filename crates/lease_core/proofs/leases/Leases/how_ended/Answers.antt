use Rattle.std.proofs.Common.{sym, ◌∙◌, ap}
use Rattle.std.specs.FinMap as fin
use Rattle.claim_map.specs.State.{LeaseState}
use Rattle.key_table.proofs.Picked.{what_gives}
use Rattle.lease_core.proofs.States.{ended, get_ended}
use Rattle.lease_core.proofs.leases.Leases.how_ended.Goals as goal

pub returns-in-Some : goal.returns-in-Some
returns-in-Some c = sym (get_ended c.self.inside.settled c.args.id ∙ ap (what_gives ended) (sym c.in-Some.ensures)) ∙ ap (λ (s : LeaseState). fin.get s.settled c.args.id) c.self.view_is

pub returns-in-None : goal.returns-in-None
returns-in-None c = sym (get_ended c.self.inside.settled c.args.id ∙ ap (what_gives ended) (sym c.in-None.ensures)) ∙ ap (λ (s : LeaseState). fin.get s.settled c.args.id) c.self.view_is
