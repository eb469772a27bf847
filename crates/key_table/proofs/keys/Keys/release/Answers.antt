use Rattle.key_table.proofs.Parts.{then_released}
use Rattle.key_table.proofs.keys.Keys.release.Goals as goal

pub returns : goal.returns
returns c = then_released c.self.inside.states _ c.self.view_is c.args.key.now c.as_slice.result.now c.as_slice.ensures _ c.remove.ensures
