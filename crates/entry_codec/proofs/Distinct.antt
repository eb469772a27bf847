-- The test of whether keys are distinct.
use Rattle.std.proofs.Common.{◌≡◌, ◌≢◌, Bool, true, false, ◌&&◌, ◌||◌, List, [], ◌∷◌, ◌++◌, map, refl, sym, ap, ◌∙◌}
use Rattle.std.specs.Prelude.{not}
use Rattle.std.specs.Bool.{Decides}
use Rattle.std.specs.List.{AllByRecursion, AllPairs, IsDistinct, list_any}
use Rattle.std.specs.Cmp.Derive.{both_true}
use Rattle.std.proofs.lemmas.List.Folds.{list_any-append}
use Rattle.std.proofs.lemmas.Map.Made.{AllPairs-from_IsDistinct, IsDistinct-from_AllPairs}
use Rattle.cells_base.proofs.Truth.{and_split, neither, false_of_not}
use Rattle.claim_types.proofs.Equal.{Decides-key}
use Rattle.claim_types.specs.Order.{key_eq}
use Rattle.claim_types.specs.declared.key.ClaimKey.{ClaimKey}
use Rattle.claim_types.specs.declared.operations.Create.{Create}
use Rattle.entry_codec.specs.Reading.{are_distinct, are_creates_distinct}

none_any : {A : Type 0} (p : A → Bool) (xs : List A) → list_any p xs ≡ false → AllByRecursion (λ y. p y ≡ false) xs
none_any p [] h = tt
none_any p (x ∷ xs) h = let both = neither (p x) (list_any p xs) h in (both.0, none_any p xs both.1)

any_none : {A : Type 0} (p : A → Bool) (xs : List A) → AllByRecursion (λ y. p y ≡ false) xs → not (list_any p xs) ≡ true
any_none p [] h = refl
any_none p (x ∷ xs) h = ap (λ (b : Bool). not (b || list_any p xs)) h.0 ∙ any_none p xs h.1

to_distinct : (keys : List ClaimKey) → are_distinct keys ≡ true → IsDistinct key_eq keys
unfolding IsDistinct
to_distinct [] h = tt
to_distinct (key ∷ keys) h =
    let both = and_split (not (list_any (λ other. key_eq key other) keys)) (are_distinct keys) h in
    (none_any (λ other. key_eq key other) keys (false_of_not (list_any (λ other. key_eq key other) keys) both.0), to_distinct keys both.1)

from_distinct : (keys : List ClaimKey) → IsDistinct key_eq keys → are_distinct keys ≡ true
unfolding IsDistinct
from_distinct [] h = refl
from_distinct (key ∷ keys) h = both_true (any_none (λ other. key_eq key other) keys h.0) (from_distinct keys h.1)

-- it decides whether no key stands twice
pub Decides-distinct : (keys : List ClaimKey) → Decides (are_distinct keys) (AllPairs (λ a b. a ≢ b) keys)
Decides-distinct keys = (λ h. AllPairs-from_IsDistinct Decides-key keys (to_distinct keys h), λ h. from_distinct keys (IsDistinct-from_AllPairs Decides-key keys h))

any-map : {A B : Type 0} (p : B → Bool) (f : A → B) (xs : List A) → list_any p (map f xs) ≡ list_any (λ x. p (f x)) xs
any-map p f [] = refl
any-map p f (x ∷ xs) = ap (λ (b : Bool). p (f x) || b) (any-map p f xs)

regroup : (a b r d : Bool) → ((not a && not b && r) && d) ≡ (not (a || b) && (r && d))
regroup true b r d = refl
regroup false true r d = refl
regroup false false r d = refl

-- the creates first, and then the others
pub are_distinct-creates : (creates : List Create) (others : List ClaimKey) → (are_creates_distinct creates others && are_distinct others) ≡ are_distinct (map (λ create. create.key) creates ++ others)
are_distinct-creates [] others = refl
are_distinct-creates (create ∷ creates) others =
    let p : ClaimKey → Bool = λ other. key_eq create.key other in
    let among : list_any p (map (λ c. c.key) creates ++ others) ≡ (list_any (λ c. p c.key) creates || list_any p others) =
    list_any-append p (map (λ c. c.key) creates) others ∙ ap (λ (b : Bool). b || list_any p others) (any-map p (λ (c : Create). c.key) creates) in
    regroup (list_any (λ c. p c.key) creates) (list_any p others) (are_creates_distinct creates others) (are_distinct others)
    ∙ ap (λ (b : Bool). not b && (are_creates_distinct creates others && are_distinct others)) (sym among)
    ∙ ap (λ (b : Bool). not (list_any p (map (λ c. c.key) creates ++ others)) && b) (are_distinct-creates creates others)
