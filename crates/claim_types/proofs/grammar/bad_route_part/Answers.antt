use Rattle.std.proofs.Common.{arith, not, length, position, take}
use Rattle.std.specs.List.{slice_split}
use Rattle.std.proofs.lemmas.List.Splits.{length-slice_split}
use Rattle.claim_types.specs.Keys as spec
use Rattle.claim_types.proofs.Parts.{none_bad}
use Rattle.claim_types.proofs.grammar.bad_route_part.Goals as goal

pub returns : goal.returns
returns c =
    let segments = slice_split spec.is_slash c.args.value.now in
    let count = length-slice_split spec.is_slash c.args.value.now in
    none_bad (position (λ part. not (spec.is_segment part)) (take 20 segments)) (length segments) c.in_default.ensures (omega (arith, count)) (omega (arith, c.segment_count.ensures))
