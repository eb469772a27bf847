use Rattle.std.proofs.Common.{◌≡◌, drop}
use Rattle.entry_codec.specs.Reading.{are_creates_distinct}
use Rattle.entry_codec.proofs.operations.are_creates_distinct.Given as goal

abbrev pub invariant-loop-index : goal.invariant-loop-index
invariant-loop-index l = are_creates_distinct (drop l.index l.creates) l.others ≡ are_creates_distinct l.creates l.others
