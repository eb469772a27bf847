use Rattle.std.proofs.Common.{◌≡◌, ◌-◌}
use Rattle.entry_codec.specs.Reading.{repeated, key_at}
use Rattle.entry_codec.proofs.Loop.{with_front}
use Rattle.entry_codec.proofs.operations.keys_of.Given as goal

abbrev pub invariant-loop : goal.invariant-loop
invariant-loop l = with_front l.keys.items (repeated key_at (l.count - l.counter) l.rest) ≡ repeated key_at l.count l.bytes
