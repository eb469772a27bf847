use Rattle.std.proofs.Common.{refl}
use Rattle.key_table.proofs.Parts.{then_claimed}
use Rattle.key_table.proofs.Joins.{on_ok}
use Rattle.key_table.proofs.keys.Keys.hold.Goals as goal

pub returns-clause-ok : goal.returns-clause-ok
returns-clause-ok c = on_ok c.put.result c.put.ensures.ok (λ put. then_claimed c.self.inside.states _ c.self.view_is c.args.key c.args.key.value refl _ c.args.holding put)
