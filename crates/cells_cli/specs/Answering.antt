-- What answering the lines of a script leaves, by how it ended.
use Rattle.std.specs.Prelude.{◌≡◌, ℕ, IsTrue, List, [], Some, Result, Ok, Err}
use Rattle.cells_edge.specs.Streams.{Writes}
use Rattle.cells_edge.specs.declared.sink.Sink.{Ghosts as SinkGhosts}
use Rattle.cells_edge.specs.declared.source.Source.{Ghosts as SourceGhosts}
use Rattle.claim_types.specs.declared.limits.TheConstants.{BODY}
use Rattle.cells_cli.specs.declared.replay.Stop.{Stop}
use Rattle.cells_cli.specs.declared.replay.Stop.TheVariants.{Script}
use Rattle.cells_cli.specs.declared.service.Service.{Service}
use Rattle.cells_cli.specs.Lines.{lines_of, first_refused}
use Rattle.cells_cli.specs.Service.{map_of}
use Rattle.cells_cli.specs.Replay.{line_answer, NoneRefused, IsAnswered}

-- what a service answers to a line
abbrev pub answer_of : Service → List ℕ → List ℕ
answer_of service line = line_answer service.registry (map_of service) line

-- what was written are the answers to the script's lines, so far as it went
abbrev pub AnswersLines : {S W : Type 0} → SourceGhosts S → SinkGhosts W → Service → S → W → W → Result (Unit {0}) Stop → Type 0
AnswersLines s w service script old new result = IsTrue s.tells → Writes w old new (IsAnswered service.registry (map_of service) (lines_of (s.left script)) result)

-- the script was read to its end and none of its lines is refused, or its first refused line is named
abbrev pub EndsAt : List ℕ → List ℕ → Result (Unit {0}) Stop → Type 0
EndsAt script left (Ok done) = (left ≡ []) × NoneRefused (lines_of script)
EndsAt script left (Err (Script k)) = first_refused BODY 0 (lines_of script) ≡ Some k
EndsAt script left (Err other) = Unit {0}
