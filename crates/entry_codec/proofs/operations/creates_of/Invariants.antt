use Rattle.std.proofs.Common.{◌≡◌, ◌-◌}
use Rattle.entry_codec.specs.Reading.{repeated, create_at}
use Rattle.entry_codec.proofs.Loop.{with_front}
use Rattle.entry_codec.proofs.operations.creates_of.Given as goal

abbrev pub invariant-loop : goal.invariant-loop
invariant-loop l = with_front l.creates.items (repeated create_at (l.count - l.counter) l.rest) ≡ repeated create_at l.count l.bytes
