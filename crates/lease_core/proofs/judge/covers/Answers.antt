use Rattle.std.proofs.Common.{sym}
use Rattle.lease_core.proofs.Covering.{covered}
use Rattle.lease_core.proofs.judge.covers.Goals as goal

pub returns-then-has : goal.returns-then-has
returns-then-has c = sym (covered c.args.given.now c.args.cell c.args.id c.partition_point-place.result (record { cell = 0; number = 0; low = 0; high = 0 }) c.if-place-given.true (sym c.if-has.ensures))
