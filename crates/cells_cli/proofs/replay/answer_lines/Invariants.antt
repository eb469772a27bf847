use Rattle.std.proofs.Common.{◌≡◌, ◌≤◌, ◌++◌, ◌-◌, IsTrue, take, drop}
use Rattle.cells_cli.specs.Lines.{lines_of, first_refused}
use Rattle.cells_cli.specs.Service.{map_of, KeepsBounds}
use Rattle.cells_cli.specs.Replay.{answers, after_lines, NoneRefused}
use Rattle.claim_types.specs.declared.limits.TheConstants.{BODY}
use Rattle.cells_cli.proofs.replay.answer_lines.Given as goal

abbrev pub invariant-loop-service : goal.invariant-loop-service
invariant-loop-service g l =
    let lines = lines_of (g.S.Source.left l.fn.script) in record {
      done : IsTrue g.S.Source.tells → IsTrue g.W.Sink.tells → g.W.Sink.written l.out ≡ g.W.Sink.written l.fn.out ++ answers l.fn.service.registry (map_of l.fn.service) (take l.reader.given lines);
      map : IsTrue g.S.Source.tells → map_of l.service ≡ after_lines l.fn.service.registry (map_of l.fn.service) (take l.reader.given lines);
      ahead : IsTrue g.S.Source.tells → lines_of (l.reader.pending ++ g.S.Source.left l.script) ≡ drop l.reader.given lines;
      refused : IsTrue g.S.Source.tells → first_refused l.reader.limit l.reader.given (lines_of (l.reader.pending ++ g.S.Source.left l.script)) ≡ first_refused BODY 0 lines;
      none : IsTrue g.S.Source.tells → NoneRefused (take l.reader.given lines);
      limit : l.reader.limit ≡ BODY;
      registry : l.service.registry ≡ l.fn.service.registry;
      bounds : KeepsBounds l.service;
      read : g.S.Source.faults l.fn.script ≤ g.S.Source.faults l.script;
      write : g.W.Sink.faults l.fn.out ≤ g.W.Sink.faults l.out;
    }

abbrev pub decreases-loop-service : goal.decreases-loop-service
decreases-loop-service g l = 4096 - l.reader.given
