use Rattle.std.proofs.Common.{◌≡◌, ◌≤◌, ◌++◌, ◌-◌, ◌*◌}
use Rattle.cells_script.specs.declared.limits.TheConstants.{LINE_BYTES}
use Rattle.cells_world.specs.Cluster.{IsReady}
use Rattle.cells_world.specs.World.{at as moment}
use Rattle.cells_world.specs.declared.limits.TheConstants.{TAKES_A_LINE}
use Rattle.cells_cli.specs.Doing.{SoFar}
use Rattle.cells_cli.specs.ScriptLines.{script_lines_of}
use Rattle.cells_cli.specs.Script.{line_refused, lines_done}
use Rattle.cells_cli.specs.Went.{moment_shown}
use Rattle.cells_cli.proofs.up.do_lines.Given as goal

abbrev pub invariant-loop-cluster : goal.invariant-loop-cluster
invariant-loop-cluster g l =
    let script = script_lines_of (g.S.Source.left l.fn.script) in record {
      so_far : SoFar g.W.Sink g.D.Disk g.N.Wire (moment_shown g.C.Clock l.fn.clock) g.S.Source.tells (lines_done 0 script) (line_refused 0 script) l.lines.given (script_lines_of (l.lines.pending ++ g.S.Source.left l.script)) (moment l.fn.cluster l.fn.disk l.fn.wire) (moment l.cluster l.disk l.wire) l.fn.out l.out;
      ready : IsReady g.D.Disk l.disk l.cluster;
      takes : l.cluster.takes ≤ TAKES_A_LINE * l.lines.given;
      limit : l.lines.limit ≡ LINE_BYTES;
      read : g.S.Source.faults l.fn.script ≤ g.S.Source.faults l.script;
      write : g.W.Sink.faults l.fn.out ≤ g.W.Sink.faults l.out;
      disk : g.D.Disk.faults l.fn.disk ≤ g.D.Disk.faults l.disk;
      clock : moment_shown g.C.Clock l.clock ≡ moment_shown g.C.Clock l.fn.clock;
    }

abbrev pub decreases-loop-cluster : goal.decreases-loop-cluster
decreases-loop-cluster g l = 4096 - l.lines.given
