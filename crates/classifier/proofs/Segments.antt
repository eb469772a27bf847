-- A route has at most twenty segments, and so nineteen '/'.
use Rattle.std.proofs.Common.{◌≡◌, ℕ, ◌+◌, ◌<◌, ◌≤◌, Bool, true, false, ◌==◌, nat_lt, not, cond, List, length, map, take, position, Option, Some, None, Result, Ok, Err, refl, sym, ◌∙◌, ap, subst, arith}
use Rattle.std.specs.List.{count_by, slice_split}
use Rattle.std.specs.Option.{option_or}
use Rattle.std.specs.Char.{to_ascii_lowercase}
use Rattle.std.proofs.lemmas.Bool.{ltb-false}
use Rattle.std.proofs.lemmas.List.Splits.{length-slice_split}
use Rattle.cells_base.proofs.Truth.{not_picked}
use Rattle.claim_types.specs.Bounds.{IsKey}
use Rattle.claim_types.specs.declared.key.Bucket.{Bucket}
use Rattle.claim_types.specs.declared.key.Bucket.TheVariants.{Route}
use Rattle.claim_types.specs.declared.key.ClaimKey.{ClaimKey}
use Rattle.claim_types.specs.declared.limits.TheConstants.{ROUTE_SEGMENTS}
use Rattle.claim_types.proofs.KeyRead.{key_of-says}
use Rattle.claim_types.specs.Keys.{is_part, is_slash, first_bad, miscounted_at}

no_second : (a b : Option ℕ) → option_or a b ≡ None → b ≡ None
no_second None b h = h
no_second (Some x) b h = absurd cc

few_parts : (parts : List (List ℕ)) → first_bad Route parts ≡ None → length parts ≤ ROUTE_SEGMENTS
few_parts parts h =
    let counted = no_second (position (λ part. not (is_part Route part)) (take ROUTE_SEGMENTS parts)) (miscounted_at 1 ROUTE_SEGMENTS (length parts)) h in
    ltb-false ROUTE_SEGMENTS (length parts) (not_picked (nat_lt ROUTE_SEGMENTS (length parts)) ROUTE_SEGMENTS _ counted).0

pub few_slashes : (value : List ℕ) → IsKey (record { bucket = Route; value = value }) → count_by is_slash value < ROUTE_SEGMENTS
few_slashes value is =
    let read = key_of-says Route value (record { bucket = Route; value = value }) is.unchanged in
    let small = map to_ascii_lowercase value in
    let few = subst (λ (v : List ℕ). length (slice_split is_slash v) ≤ ROUTE_SEGMENTS) (sym read.value_is) (few_parts (slice_split is_slash small) read.good_parts) in
    omega (arith, few, length-slice_split is_slash value)
