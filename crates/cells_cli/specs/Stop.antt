-- Why a replay stops where no further line comes.
use Rattle.std.specs.Prelude.{◌+◌}
use Rattle.cells_cli.specs.declared.lines.TheConstants.{LINES}
use Rattle.cells_cli.specs.declared.lines.LineFault.{LineFault}
use Rattle.cells_cli.specs.declared.lines.LineFault.TheVariants.{TooLong, TooMany, Read}
use Rattle.cells_cli.specs.declared.replay.Stop.{Stop}
use Rattle.cells_cli.specs.declared.replay.Stop.TheVariants.{Script, ReadFault}

abbrev pub stop_of : LineFault → Stop
stop_of (TooLong line) = Script line
stop_of TooMany = Script (LINES + 1)
stop_of Read = ReadFault
