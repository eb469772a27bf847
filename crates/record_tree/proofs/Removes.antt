-- A remove of a record that is no parent gives up its claim alone.
use Rattle.std.proofs.Common.{◌≡◌, ◌≢◌, ℕ, ◌<◌, ◌≤◌, Bool, true, false, not, ◌||◌, cond, nat_eq, List, [], ◌∷◌, ◌++◌, map, refl, sym, ◌∙◌, ap, subst, arith}
use Rattle.std.specs.Prelude.{filter}
use Rattle.std.specs.List.{list_any}
use Rattle.std.proofs.lemmas.Bool.Decides.{Decides-eqb}
use Rattle.std.proofs.lemmas.List.Elements.{filter-append}
use Rattle.std.proofs.lemmas.List.Folds.{list_any-append}
use Rattle.claim_types.specs.declared.operations.Create.{Create}
use Rattle.claim_types.specs.declared.record.Record.{Record}
use Rattle.claim_map.specs.Trees.{AreAscending}
use Rattle.claim_map.specs.Claims.{claim_of_record, claims_from, is_among, operations_between}
use Rattle.record_tree.specs.Fresh.{fresh}
use Rattle.record_tree.specs.Kept.{NoRow}
use Rattle.record_tree.proofs.Fresh.{fresh_none, fresh_front}
use Rattle.record_tree.proofs.Looks.{route_other}
use Rattle.record_tree.proofs.Renames.{last_of}
use Rattle.record_tree.proofs.Whole.{claims_append, ascending_split}
use Rattle.record_tree.proofs.Creates.{not_among, no_row_before, no_row_behind, last_least}
use Rattle.record_tree.proofs.Positions.{tail, push, append_nil, with_tail, same_tail}
use Rattle.cells_base.proofs.Truth.{not_true}

other_id : (m n : ℕ) → m ≢ n → nat_eq m n ≡ false
other_id m n apart = not_true (nat_eq m n) (λ h. apart ((Decides-eqb m n).0 h))

abbrev left_over : ℕ → List Record → List Record
left_over x rs = filter (λ (q : Record). not (nat_eq q.id x)) rs

stays : (x : ℕ) (q : Record) (qs : List Record) → q.id ≢ x → left_over x (q ∷ qs) ≡ q ∷ left_over x qs
stays x q qs apart = ap (λ b. cond (not b) (q ∷ left_over x qs) (left_over x qs)) (other_id q.id x apart)

behind_stays : (x last : ℕ) (rs : List Record) → AreAscending last rs → x ≤ last → left_over x rs ≡ rs
behind_stays x last [] up le = refl
behind_stays x last (r ∷ rs) up le =
    let lt = up.0 in
    stays x r rs (λ e. omega (arith, lt, le, e)) ∙ ap (λ qs. r ∷ qs) (behind_stays x r.id rs up.1 (omega (arith, lt, le)))

before_stays : (x last : ℕ) (rs : List Record) → AreAscending last rs → last_of last rs < x → left_over x rs ≡ rs
before_stays x last [] up lt = refl
before_stays x last (r ∷ rs) up lt =
    let le = last_least r.id rs up.1 in
    stays x r rs (λ e. omega (arith, lt, le, e)) ∙ ap (λ qs. r ∷ qs) (before_stays x r.id rs up.1 lt)

module _ (front rest : List Record) (r : Record) (up : AreAscending 0 (front ++ (r ∷ rest))) (childless : list_any (λ (q : Record). nat_eq q.parent r.id) (front ++ (r ∷ rest)) ≡ false) where
  abbrev e : List Create
  e = claims_from [] front

  abbrev c : Create
  c = claim_of_record e r

  parts : AreAscending 0 front × AreAscending (last_of 0 front) (r ∷ rest)
  parts = ascending_split 0 front (r ∷ rest) up

  pub left_records : left_over r.id (front ++ (r ∷ rest)) ≡ front ++ rest
  left_records =
      filter-append (λ (q : Record). not (nat_eq q.id r.id)) front (r ∷ rest)
      ∙ ap (λ xs. xs ++ left_over r.id (r ∷ rest)) (before_stays r.id 0 front parts.0 parts.1.0)
      ∙ ap (λ b. front ++ cond (not b) (r ∷ left_over r.id rest) (left_over r.id rest)) ((Decides-eqb r.id r.id).1 refl)
      ∙ ap (λ xs. front ++ xs) (behind_stays r.id r.id rest parts.1.1 (omega arith))

  or_parts : (a b d : Bool) → (a || (b || d)) ≡ false → d ≡ false
  or_parts true b d h = absurd cc
  or_parts false true d h = absurd cc
  or_parts false false d h = h

  t : List Create
  t = tail e rest

  rest_childless : list_any (λ (q : Record). nat_eq q.parent r.id) rest ≡ false
  rest_childless = or_parts (list_any (λ (q : Record). nat_eq q.parent r.id) front) (nat_eq r.parent r.id) (list_any (λ (q : Record). nat_eq q.parent r.id) rest)
      (sym (list_any-append (λ (q : Record). nat_eq q.parent r.id) front (r ∷ rest)) ∙ childless)

  tails : tail (e ++ c ∷ []) rest ≡ t
  unfolding t
  tails = same_tail r.id (e ++ c ∷ []) e rest rest_childless (λ id other. route_other e c id (λ same. other (sym same)))

  before : claims_from [] (front ++ (r ∷ rest)) ≡ e ++ (c ∷ t)
  before = claims_append [] front (r ∷ rest) ∙ with_tail (e ++ c ∷ []) rest ∙ ap (λ xs. (e ++ c ∷ []) ++ xs) tails ∙ push e c t

  afterwards : claims_from [] (left_over r.id (front ++ (r ∷ rest))) ≡ e ++ t
  unfolding t
  afterwards = ap (claims_from []) left_records ∙ claims_append [] front rest ∙ with_tail e rest

  gone_only : NoRow r.id (e ++ t)
  unfolding t
  gone_only = subst (NoRow r.id) (with_tail e rest) (no_row_behind r.id e r.id rest parts.1.1 (omega arith) (no_row_before r.id [] 0 front parts.0 parts.1.0 tt))

  none_new : fresh (e ++ (c ∷ t)) (e ++ t) ≡ []
  none_new =
      filter-append (λ (x : Create). not (is_among (e ++ (c ∷ t)) x)) e t
      ∙ ap (λ xs. xs ++ fresh (e ++ (c ∷ t)) t) (fresh_front e (c ∷ t))
      ∙ ap (λ xs. fresh xs t) (sym (push e c t) ∙ ap (λ xs. (e ++ c ∷ []) ++ xs) (sym (append_nil t)))
      ∙ fresh_none (e ++ c ∷ []) t []

  one_gone : fresh (e ++ t) (e ++ (c ∷ t)) ≡ c ∷ []
  one_gone =
      filter-append (λ (x : Create). not (is_among (e ++ t) x)) e (c ∷ t)
      ∙ ap (λ xs. xs ++ fresh (e ++ t) (c ∷ t)) (fresh_front e t)
      ∙ ap (λ b. cond (not b) (c ∷ fresh (e ++ t) t) (fresh (e ++ t) t)) (not_among (e ++ t) c gone_only)
      ∙ ap (λ xs. c ∷ fresh xs t) (ap (λ xs. e ++ xs) (sym (append_nil t)))
      ∙ ap (λ xs. c ∷ xs) (fresh_none e t [])

  pub remove_operations : operations_between (claims_from [] (front ++ (r ∷ rest))) (claims_from [] (left_over r.id (front ++ (r ∷ rest)))) ≡ record { creates = []; destroys = (claim_of_record (claims_from [] front) r).key ∷ [] }
  unfolding operations_between
  remove_operations =
      ap (λ xs. operations_between xs (claims_from [] (left_over r.id (front ++ (r ∷ rest))))) before
      ∙ ap (operations_between (e ++ (c ∷ t))) afterwards
      ∙ (λ i. record { creates = none_new i; destroys = map (λ (x : Create). x.key) (one_gone i) })
