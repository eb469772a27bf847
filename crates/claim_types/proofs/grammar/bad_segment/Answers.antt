use Rattle.std.proofs.Common.{rules, tests, not}
use Rattle.std.proofs.lemmas.Iterator.{YieldsList-from_take}
use Rattle.std.proofs.lemmas.Iterator.Search.{position_from_yields_List}
use Rattle.std.proofs.lemmas.Iterator.Splits.{YieldsList-from_slice_split}
use Rattle.claim_types.specs.Keys as spec
use Rattle.claim_types.proofs.grammar.bad_segment.Goals as goal

pub returns : goal.returns
returns c =
    position_from_yields_List (λ part. not (spec.is_segment part)) _ _ _ c.position.ensures.ran
    (YieldsList-from_take 20 (YieldsList-from_slice_split _ spec.is_slash c.args.value.now (cc) (cc) (cc) (λ x b q k. search (rules, tests))) (cc))
    (λ x b q k. search (rules, tests))
