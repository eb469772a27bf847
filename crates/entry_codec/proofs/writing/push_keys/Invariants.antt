use Rattle.std.proofs.Common.{◌≡◌, ◌++◌, ◌∷◌, length, take}
use Rattle.std.specs.List.{flat_map}
use Rattle.entry_codec.specs.Spelling.{key_bytes}
use Rattle.entry_codec.proofs.writing.push_keys.Given as goal

abbrev pub invariant-loop-key : goal.invariant-loop-key
invariant-loop-key l = l.out.items ≡ l.fn.out.items ++ length l.keys ∷ flat_map key_bytes (take l.key-index l.keys)
