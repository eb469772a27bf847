use Rattle.std.proofs.Common.{◌≡◌, true}
use Rattle.journal_bench.proofs.append_all.Given as goal

abbrev pub invariant-loop : goal.invariant-loop
invariant-loop l = l.journal.live ≡ true
