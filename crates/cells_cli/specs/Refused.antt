-- Which line a reader refuses.
use Rattle.std.specs.Prelude.{◌≡◌, ℕ, ◌+◌, Option, Some}
use Rattle.cells_cli.specs.declared.lines.TheConstants.{LINES}
use Rattle.cells_cli.specs.declared.lines.LineFault.{LineFault}
use Rattle.cells_cli.specs.declared.lines.LineFault.TheVariants.{TooLong, TooMany, Read}

-- the fault names the first line that is refused
abbrev pub Refuses : LineFault → Option ℕ → Type 0
Refuses (TooLong line) refused = refused ≡ Some line
Refuses TooMany refused = refused ≡ Some (LINES + 1)
Refuses Read refused = Unit {0}
