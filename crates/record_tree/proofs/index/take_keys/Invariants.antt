use Rattle.std.proofs.Common.{◌≡◌, drop}
use Rattle.record_tree.specs.Unique.{without}
use Rattle.record_tree.proofs.index.take_keys.Given as goal

abbrev pub invariant-loop-key : goal.invariant-loop-key
invariant-loop-key l = record { so_far : without (drop l.key-index l.keys) l.index ≡ without l.keys l.fn.index }
