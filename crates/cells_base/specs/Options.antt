-- The first of two that is there.
use Rattle.std.specs.Prelude.{Option, Some, None}

infixr 20 ◌or_else◌
abbrev pub ◌or_else◌ : {A : Type 0} → Option A → Option A → Option A
(Some x) or_else other = Some x
None or_else other = other
