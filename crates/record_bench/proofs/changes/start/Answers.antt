use Rattle.std.proofs.Common.{[], sym, subst, arith}
use Rattle.claim_types.specs.declared.limits.TheConstants.{GREATEST_IDENTIFIER}
use Rattle.claim_map.specs.State.{Tree, empty_tree}
use Rattle.claim_map.specs.Trees.{TreeFits}
use Rattle.claim_map.proofs.Trees.{fits_more, empty_fits}
use Rattle.record_bench.specs.declared.changes.TheConstants.{KNOWN}
use Rattle.record_bench.proofs.changes.start.Goals as goal

pub returns : goal.returns
returns c = subst (λ (t : Tree). TreeFits t KNOWN) (sym c.new.ensures) (fits_more empty_tree [] (record { cell = 1; number = 1; low = 1; high = GREATEST_IDENTIFIER }) empty_fits (omega arith) (omega arith))
