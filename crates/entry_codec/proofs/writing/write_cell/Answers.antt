use Rattle.std.proofs.Common.{◌≡◌, sym, subst, rules}
use Rattle.entry_codec.specs.Spelling.{IsBody, cell_entry_bytes}
use Rattle.entry_codec.proofs.Lengths.{cell_body}
use Rattle.entry_codec.proofs.writing.write_cell.Goals as goal

pub returns-clause-length : goal.returns-clause-length
returns-clause-length c = let same : c.from_vec.result ≡ cell_entry_bytes c.args.entry.now = search rules in subst IsBody (sym same) (cell_body c.args.entry.now c.requires)
