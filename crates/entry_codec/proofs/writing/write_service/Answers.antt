use Rattle.std.proofs.Common.{◌≡◌, sym, subst, rules}
use Rattle.entry_codec.specs.Spelling.{IsBody, service_entry_bytes}
use Rattle.entry_codec.proofs.Lengths.{service_body}
use Rattle.entry_codec.proofs.writing.write_service.Goals as goal

pub returns-clause-length : goal.returns-clause-length
returns-clause-length c = let same : c.from_vec.result ≡ service_entry_bytes c.args.entry.now = search rules in subst IsBody (sym same) (service_body c.args.entry.now c.requires)
