use Rattle.std.proofs.Common.{◌∙◌, ap}
use Rattle.key_table.proofs.Parts.{of_none}
use Rattle.key_table.specs.Parts.{parts_of}
use Rattle.key_table.proofs.keys.Keys.new.Goals as goal

pub returns : goal.returns
returns c = ap parts_of c.new.ensures ∙ of_none
