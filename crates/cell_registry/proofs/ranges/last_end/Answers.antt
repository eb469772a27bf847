use Rattle.std.proofs.Common.{◌≤◌, Option, sym, subst}
use Rattle.std.specs.Option.{option_map_or}
use Rattle.claim_types.specs.declared.cell.Range.{Range}
use Rattle.claim_types.specs.declared.limits.TheConstants.{GREATEST_IDENTIFIER}
use Rattle.claim_map.proofs.Ranges.{last_end-bound}
use Rattle.cell_registry.proofs.ranges.last_end.Goals as goal

pub returns-in-Some-clause-bound : goal.returns-in-Some-clause-bound
returns-in-Some-clause-bound c = subst (λ (last : Option Range). option_map_or (λ r. r.high) last 0 ≤ GREATEST_IDENTIFIER) (sym c.in-Some.ensures.value) (last_end-bound c.args.given.now c.requires)
