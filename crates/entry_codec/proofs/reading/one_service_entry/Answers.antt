use Rattle.entry_codec.proofs.Entries.{service_one}
use Rattle.entry_codec.proofs.reading.one_service_entry.Goals as goal

pub returns : goal.returns
returns c = service_one
