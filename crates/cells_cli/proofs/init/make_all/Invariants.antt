use Rattle.std.proofs.Common.{◌≡◌, ◌++◌, ◌≤◌, take, IsTrue}
use Rattle.std.specs.List.{All}
use Rattle.cells_cli.specs.Files.{made_lines}
use Rattle.cells_cli.specs.Making.{IsFresh, OthersStay}
use Rattle.cells_cli.proofs.init.make_all.Given as goal

abbrev pub invariant-loop-file : goal.invariant-loop-file
invariant-loop-file g l = record {
  said : IsTrue g.W.Sink.tells → g.W.Sink.written l.out ≡ g.W.Sink.written l.fn.out ++ made_lines (take l.file-index l.files);
  made : IsTrue g.D.Disk.tells → All (IsFresh g.D.Disk l.disk) (take l.file-index l.files);
  others : OthersStay g.D.Disk (take l.file-index l.files) l.fn.disk l.disk;
  later : g.D.Disk.faults l.fn.disk ≤ g.D.Disk.faults l.disk;
  written : g.W.Sink.faults l.fn.out ≤ g.W.Sink.faults l.out;
}
