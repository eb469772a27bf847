use Rattle.entry_codec.proofs.Entries.{cell_one}
use Rattle.entry_codec.proofs.reading.one_cell_entry.Goals as goal

pub returns : goal.returns
returns c = cell_one
