use Rattle.std.proofs.Common.{IsTrue}
use Rattle.disk_journal.specs.Disk.{Image}
use Rattle.disk_journal.proofs.Moments.{joins}
use Rattle.disk_journal.proofs.Settled.{reopened}
use Rattle.disk_journal.proofs.laws.one_run.Goals as goal

pub returns-clause-joins : goal.returns-clause-joins
returns-clause-joins g c old mid new test first second =
    let P : Image → Type 0 = λ img. IsTrue (test img) in
    joins g.D.Disk old mid new P P P first second (λ img is. is) (λ img is. is)

pub returns-clause-reopened : goal.returns-clause-reopened
returns-clause-reopened g c = reopened g.D.Disk
