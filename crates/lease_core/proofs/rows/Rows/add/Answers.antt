use Rattle.std.proofs.Common.{◌∙◌, ap}
use Rattle.std.specs.FinSet as set
use Rattle.lease_core.proofs.RowOrder.{row_order, rows_total, rows_exact}
use Rattle.lease_core.proofs.Trees.{insert_keys_by}
use Rattle.lease_core.proofs.rows.Rows.add.Goals as goal

pub returns-clause-ok : goal.returns-clause-ok
returns-clause-ok c = insert_keys_by row_order rows_total rows_exact c.self.inside.places.keys c.insert.new.self.keys c.args.place c.in_ok-insert.ensures.updates.0 ∙ ap (λ s. set.insert s c.args.place) c.self.view_is
