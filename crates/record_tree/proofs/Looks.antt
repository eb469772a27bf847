-- The routes of claims in order of their records, where claims grow at the end.
use Rattle.std.proofs.Common.{◌≡◌, ◌≢◌, ℕ, ◌<◌, Bool, true, false, ◌&&◌, cond, nat_eq, List, [], ◌∷◌, ◌++◌, Option, Some, None, option_map, refl, ◌∙◌, ap, arith}
use Rattle.std.specs.List.{find}
use Rattle.std.specs.Option.{option_or}
use Rattle.std.proofs.lemmas.Bool.Decides.{Decides-eqb}
use Rattle.std.proofs.lemmas.List.Folds.{find-append}
use Rattle.claim_types.specs.declared.operations.Create.{Create}
use Rattle.claim_map.specs.Claims.{route_of}
use Rattle.record_tree.specs.Fresh.{UpTo}
use Rattle.claim_map.specs.Classification.{is_route}
use Rattle.cells_base.proofs.Truth.{not_true}

value_of : Create → List ℕ
value_of c = c.key.value

-- the route of a claim, where it is one
abbrev pub own_route : Create → Option (List ℕ)
own_route c = cond (is_route c.key.bucket) (Some c.key.value) None

other_id : (m n : ℕ) → m ≢ n → nat_eq m n ≡ false
other_id m n apart = not_true (nat_eq m n) (λ h. apart ((Decides-eqb m n).0 h))

same_id : (n : ℕ) → nat_eq n n ≡ true
same_id n = (Decides-eqb n n).1 refl

-- no route of a later record
pub route_none : (last : ℕ) (cs : List Create) (id : ℕ) → UpTo last cs → last < id → route_of cs id ≡ None
route_none last [] id up lt = refl
route_none last (c ∷ cs) id up lt =
    let le = up.0 in
    let apart : c.origin.row ≢ id = λ e. omega (arith, le, lt, e) in
    ap (λ b. option_map (λ (x : Create). x.key.value) (cond (b && is_route c.key.bucket) (Some c) (find (λ (x : Create). nat_eq x.origin.row id && is_route x.key.bucket) cs)))
    (other_id c.origin.row id apart)
    ∙ route_none last cs id up.1 lt

mapped_or : (a b : Option Create) → option_map (λ (x : Create). x.key.value) (option_or a b) ≡ option_or (option_map (λ (x : Create). x.key.value) a) (option_map (λ (x : Create). x.key.value) b)
mapped_or None b = refl
mapped_or (Some a) b = refl

or_none : (a : Option (List ℕ)) → option_or a None ≡ a
or_none None = refl
or_none (Some a) = refl

pub route_append : (cs : List Create) (c : Create) (id : ℕ) → route_of (cs ++ c ∷ []) id ≡ option_or (route_of cs id) (route_of (c ∷ []) id)
route_append cs c id =
    ap (option_map (λ (x : Create). x.key.value)) (find-append (λ (x : Create). nat_eq x.origin.row id && is_route x.key.bucket) cs (c ∷ []))
    ∙ mapped_or (find (λ (x : Create). nat_eq x.origin.row id && is_route x.key.bucket) cs) _

-- a claim more, of another record
pub route_other : (cs : List Create) (c : Create) (id : ℕ) → c.origin.row ≢ id → route_of (cs ++ c ∷ []) id ≡ route_of cs id
route_other cs c id apart =
    route_append cs c id
    ∙ ap (λ b. option_or (route_of cs id) (option_map (λ (x : Create). x.key.value) (cond (b && is_route c.key.bucket) (Some c) None))) (other_id c.origin.row id apart)
    ∙ or_none (route_of cs id)

-- the route of the record of the claim more
pub route_own : (last : ℕ) (cs : List Create) (c : Create) → UpTo last cs → last < c.origin.row → route_of (cs ++ c ∷ []) c.origin.row ≡ own_route c
route_own last cs c up lt =
    route_append cs c c.origin.row
    ∙ ap (λ o. option_or o (route_of (c ∷ []) c.origin.row)) (route_none last cs c.origin.row up lt)
    ∙ ap (λ b. option_map (λ (x : Create). x.key.value) (cond (b && is_route c.key.bucket) (Some c) None)) (same_id c.origin.row)
    ∙ turned (is_route c.key.bucket)
  where
    turned : (b : Bool) → option_map (λ (x : Create). x.key.value) (cond (true && b) (Some c) None) ≡ cond b (Some c.key.value) None
    turned true = refl
    turned false = refl
