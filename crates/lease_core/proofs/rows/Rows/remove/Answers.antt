use Rattle.std.proofs.Common.{◌∙◌, ap}
use Rattle.std.specs.FinSet as set
use Rattle.lease_core.proofs.RowOrder.{row_order, rows_total, rows_exact}
use Rattle.lease_core.proofs.Trees.{remove_keys_by}
use Rattle.lease_core.proofs.rows.Rows.remove.Goals as goal

pub returns : goal.returns
returns c = remove_keys_by row_order rows_total rows_exact c.self.inside.places.keys c.remove.new.self.keys c.args.place.now c.remove.ensures.updates.0 ∙ ap (λ s. set.remove s c.args.place.now) c.self.view_is
