use Rattle.std.proofs.Common.{◌≡◌, drop}
use Rattle.entry_codec.specs.Reading.{are_distinct}
use Rattle.entry_codec.proofs.operations.are_keys_distinct.Given as goal

abbrev pub invariant-loop-index : goal.invariant-loop-index
invariant-loop-index l = are_distinct (drop l.index l.keys) ≡ are_distinct l.keys
