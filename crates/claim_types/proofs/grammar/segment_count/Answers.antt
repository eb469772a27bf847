use Rattle.std.proofs.Common.{arith}
use Rattle.std.proofs.lemmas.List.Splits.{length-slice_split}
use Rattle.claim_types.specs.Keys as spec
use Rattle.claim_types.proofs.grammar.segment_count.Goals as goal

pub returns : goal.returns
returns c = omega (arith, length-slice_split spec.is_slash c.args.value.now, c.slash_count.ensures)
