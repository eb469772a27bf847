-- Each claim hangs on the claims of the whole tree, so any one of them is computed from the records alone.
use Rattle.std.proofs.Common.{◌≡◌, ◌≢◌, ◌⊎◌, inl, inr, ℕ, ◌<◌, true, false, ◌||◌, cond, nat_eq, List, [], ◌∷◌, ◌++◌, Option, Some, None, refl, sym, ◌∙◌, ap, subst, arith}
use Rattle.std.specs.List.{find, list_any}
use Rattle.std.specs.Option.{option_or}
use Rattle.std.proofs.lemmas.Bool.Decides.{Decides-eqb}
use Rattle.claim_types.specs.declared.operations.Create.{Create}
use Rattle.claim_types.specs.declared.record.Record.{Record}
use Rattle.claim_map.specs.Trees.{AreAscending}
use Rattle.claim_map.specs.Claims.{continues_route, route_of, route_below, claim_of_record, claims_from}
use Rattle.record_tree.specs.Fresh.{UpTo}
use Rattle.record_tree.specs.Kept.{AreAbove}
use Rattle.record_tree.specs.Answer.{route_at, is_routed, text_at}
use Rattle.record_tree.proofs.Fresh.{up_to_push, up_to_more}
use Rattle.record_tree.proofs.Looks.{own_route, route_append, route_other, route_own}
use Rattle.record_tree.proofs.Moves.{lower}
use Rattle.record_tree.proofs.Renames.{last_of}
use Rattle.record_tree.proofs.Whole.{claims_append, ascending_split, claim_by_route, route_behind}
use Rattle.cells_base.proofs.Truth.{true_or_false}

id_or_other : (m n : ℕ) → ((nat_eq m n ≡ true) × (m ≡ n)) ⊎ ((nat_eq m n ≡ false) × (m ≢ n))
id_or_other m n = elim (true_or_false (nat_eq m n)) [
  | inl h ↦ inl (h, (Decides-eqb m n).0 h)
  | inr h ↦ inr (h, λ e. let both : true ≡ false = sym ((Decides-eqb m n).1 e) ∙ h in cc)
]

-- the route of the parent stays as it was when the record came
pub parent_route : (last : ℕ) (e : List Create) (r : Record) (rs : List Record) → AreAscending last (r ∷ rs) → r.parent < r.id → route_of (claims_from e (r ∷ rs)) r.parent ≡ route_of e r.parent
parent_route last e r rs up lt =
    route_behind r.id (e ++ claim_of_record e r ∷ []) rs r.parent up.1 (omega (arith, lt))
    ∙ route_other e (claim_of_record e r) r.parent (λ e. omega (arith, lt, e))

-- a route is that of the record, by the routes of all
pub route_by_record : (last : ℕ) (e : List Create) (rs : List Record) (id : ℕ) → UpTo last e → AreAscending last rs → AreAbove rs → route_of e id ≡ None →
    route_of (claims_from e rs) id ≡ route_at (claims_from e rs) (find (λ (r : Record). nat_eq r.id id) rs)
route_by_record last e [] id up ascending above none = none
route_by_record last e (r ∷ rs) id up ascending above none =
    let lt = ascending.0 in
    let up' = up_to_push r.id e (claim_of_record e r) (up_to_more last r.id e (omega (arith, lt)) up) (omega arith) in
    elim (id_or_other r.id id) [
      | inl own ↦ own_case own.0 own.1
      | inr other ↦ route_by_record r.id (e ++ claim_of_record e r ∷ []) rs id up' ascending.1 above.1 (route_other e (claim_of_record e r) id other.1 ∙ none)
          ∙ ap (λ b. route_at (claims_from e (r ∷ rs)) (cond b (Some r) (find (λ (r : Record). nat_eq r.id id) rs))) (sym other.0)
    ]
  where
    own_case : nat_eq r.id id ≡ true → r.id ≡ id → route_of (claims_from e (r ∷ rs)) id ≡ route_at (claims_from e (r ∷ rs)) (cond (nat_eq r.id id) (Some r) (find (λ (r : Record). nat_eq r.id id) rs))
    own_case is same =
        route_behind r.id (e ++ claim_of_record e r ∷ []) rs id ascending.1 (omega (arith, same))
        ∙ ap (route_of (e ++ claim_of_record e r ∷ [])) (sym same)
        ∙ route_own last e (claim_of_record e r) up ascending.0
        ∙ ap own_route (claim_by_route e (claims_from e (r ∷ rs)) r (sym (parent_route last e r rs ascending above.0)))
        ∙ ap (λ b. route_at (claims_from e (r ∷ rs)) (cond b (Some r) (find (λ (r : Record). nat_eq r.id id) rs))) (sym is)

pub route_in_tree : (rs : List Record) (id : ℕ) → AreAscending 0 rs → AreAbove rs → route_of (claims_from [] rs) id ≡ route_at (claims_from [] rs) (find (λ (r : Record). nat_eq r.id id) rs)
route_in_tree rs id ascending above = route_by_record 0 [] rs id tt ascending above refl

pub above_split : (rs qs : List Record) → AreAbove (rs ++ qs) → AreAbove qs
above_split [] qs above = above
above_split (r ∷ rs) qs above = above_split rs qs above.1

-- the claim of the record in the middle, by the routes of the whole tree
pub claim_in_tree : (front rest : List Record) (r : Record) → AreAscending 0 (front ++ (r ∷ rest)) → AreAbove (front ++ (r ∷ rest)) →
    claim_of_record (claims_from [] front) r ≡ claim_of_record (claims_from [] (front ++ (r ∷ rest))) r
claim_in_tree front rest r ascending above =
    claim_by_route (claims_from [] front) (claims_from [] (front ++ (r ∷ rest))) r
    (sym (parent_route (last_of 0 front) (claims_from [] front) r rest (ascending_split 0 front (r ∷ rest) ascending).1 (above_split front (r ∷ rest) above).0)
    ∙ ap (λ cs. route_of cs r.parent) (sym (claims_append [] front (r ∷ rest))))

-- a remove of a record that is no parent gives up its claim alone
abbrev pub tail : List Create → List Record → List Create
tail e [] = []
tail e (r ∷ rs) = claim_of_record e r ∷ tail (e ++ claim_of_record e r ∷ []) rs

pub push : (xs : List Create) (x : Create) (ys : List Create) → (xs ++ x ∷ []) ++ ys ≡ xs ++ (x ∷ ys)
push [] x ys = refl
push (y ∷ xs) x ys = ap (λ zs. y ∷ zs) (push xs x ys)

pub append_nil : (cs : List Create) → cs ++ [] ≡ cs
append_nil [] = refl
append_nil (c ∷ cs) = ap (λ xs. c ∷ xs) (append_nil cs)

pub with_tail : (e : List Create) (rs : List Record) → claims_from e rs ≡ e ++ tail e rs
with_tail e [] = sym (append_nil e)
with_tail e (r ∷ rs) = with_tail (e ++ claim_of_record e r ∷ []) rs ∙ push e (claim_of_record e r) (tail (e ++ claim_of_record e r ∷ []) rs)

-- where two lists of claims give all routes alike that these records ask for, so do they go on alike
pub same_tail : (x : ℕ) (a b : List Create) (rs : List Record) → list_any (λ (r : Record). nat_eq r.parent x) rs ≡ false → ((id : ℕ) → id ≢ x → route_of a id ≡ route_of b id) → tail a rs ≡ tail b rs
same_tail x a b [] childless same = refl
same_tail x a b (r ∷ rs) childless same =
    ap (λ c. c ∷ tail (a ++ claim_of_record a r ∷ []) rs) one
    ∙ ap (λ cs. claim_of_record b r ∷ cs) (same_tail x (a ++ claim_of_record a r ∷ []) (b ++ claim_of_record b r ∷ []) rs rest more)
  where
    first : nat_eq r.parent x ≡ false
    first = elim (true_or_false (nat_eq r.parent x)) [
      | inl h ↦ let both : true ≡ false = ap (λ b. b || list_any (λ (r : Record). nat_eq r.parent x) rs) (sym h) ∙ childless in cc
      | inr h ↦ h
    ]

    rest : list_any (λ (r : Record). nat_eq r.parent x) rs ≡ false
    rest = ap (λ b. b || list_any (λ (r : Record). nat_eq r.parent x) rs) (sym first) ∙ childless

    apart : r.parent ≢ x
    apart e = let both : true ≡ false = sym ((Decides-eqb r.parent x).1 e) ∙ first in cc

    one : claim_of_record a r ≡ claim_of_record b r
    one = claim_by_route a b r (same r.parent apart)

    more : (id : ℕ) → id ≢ x → route_of (a ++ claim_of_record a r ∷ []) id ≡ route_of (b ++ claim_of_record b r ∷ []) id
    more id other = subst (λ c. route_of (a ++ claim_of_record a r ∷ []) id ≡ route_of (b ++ c ∷ []) id) one (pushed (claim_of_record a r))
      where
        pushed : (c : Create) → route_of (a ++ c ∷ []) id ≡ route_of (b ++ c ∷ []) id
        pushed c = route_append a c id ∙ ap (λ o. option_or o (route_of (c ∷ []) id)) (same id other) ∙ sym (route_append b c id)

-- what a climb from a record finds
module _ (rs : List Record) (id : ℕ) (ascending : AreAscending 0 rs) (above : AreAbove rs) where
  abbrev claims : List Create
  claims = claims_from [] rs

  pub climb_none : find (λ (r : Record). nat_eq r.id id) rs ≡ None → None ≡ route_of (claims_from [] rs) id
  climb_none h = sym (route_in_tree rs id ascending above ∙ ap (route_at claims) h)

  pub climb_unrouted : (r : Record) → find (λ (r : Record). nat_eq r.id id) rs ≡ Some r → is_routed r.kind ≡ false → None ≡ route_of (claims_from [] rs) id
  climb_unrouted r h is = sym (route_in_tree rs id ascending above ∙ ap (route_at claims) h ∙ ap (λ b. cond b (Some (claim_of_record claims r).key.value) None) is)

  pub climb_top : (r : Record) (value : List ℕ) (o : Option (List ℕ)) → find (λ (r : Record). nat_eq r.id id) rs ≡ Some r → is_routed r.kind ≡ true → continues_route r.kind ≡ false → value ≡ lower (text_at o r.kind r.name) → Some value ≡ route_of (claims_from [] rs) id
  climb_top r value o h is top v =
      ap Some (v ∙ ap (λ b. lower (cond b (route_below o r.name) r.name)) top ∙ ap (λ b. lower (cond b (route_below (route_of claims r.parent) r.name) r.name)) (sym top))
      ∙ sym (route_in_tree rs id ascending above ∙ ap (route_at claims) h ∙ ap (λ b. cond b (Some (claim_of_record claims r).key.value) None) is)

  pub climb_on : (r : Record) (value : List ℕ) (o : Option (List ℕ)) → find (λ (r : Record). nat_eq r.id id) rs ≡ Some r → is_routed r.kind ≡ true → o ≡ route_of (claims_from [] rs) r.parent → value ≡ lower (text_at o r.kind r.name) → Some value ≡ route_of (claims_from [] rs) id
  climb_on r value o h is same v =
      ap Some (v ∙ ap (λ o. lower (text_at o r.kind r.name)) same)
      ∙ sym (route_in_tree rs id ascending above ∙ ap (route_at claims) h ∙ ap (λ b. cond b (Some (claim_of_record claims r).key.value) None) is)
