use Rattle.std.proofs.Common.{◌≤◌, take, IsTrue}
use Rattle.std.specs.List.{All}
use Rattle.disk_journal.specs.Moments.{StaysEverywhere}
use Rattle.cells_cli.specs.Files.{IsFree}
use Rattle.cells_cli.proofs.init.ask_all.Given as goal

abbrev pub invariant-loop-file : goal.invariant-loop-file
invariant-loop-file g l = record {
  free : IsTrue g.D.Disk.tells → All (IsFree (g.D.Disk.seen l.fn.disk)) (take l.file-index l.files);
  stays : StaysEverywhere g.D.Disk l.fn.disk l.disk;
  later : g.D.Disk.faults l.fn.disk ≤ g.D.Disk.faults l.disk;
}
