use Rattle.std.proofs.Common.{◌≡◌, ◌++◌, ◌∷◌, length, take}
use Rattle.std.specs.List.{flat_map}
use Rattle.entry_codec.specs.Spelling.{create_bytes}
use Rattle.entry_codec.proofs.writing.push_creates.Given as goal

abbrev pub invariant-loop-create : goal.invariant-loop-create
invariant-loop-create l = l.out.items ≡ l.fn.out.items ++ length l.creates ∷ flat_map create_bytes (take l.create-index l.creates)
