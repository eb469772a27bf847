use Rattle.std.proofs.Common.{arith}
use Rattle.disk_journal.proofs.Reading.{body_here}
use Rattle.disk_journal.proofs.records.body_of.Goals as goal

pub returns : goal.returns
returns c = body_here c.args.behind.now c.from_be_bytes-length.result (omega arith) (λ i. let fits = c.type_inv.behind i in omega (arith, fits)) c.from_be_bytes-length.ensures (omega arith) (omega arith) (omega arith)
