-- The operations of a create, of a remove without children, and of a rename to the same name.
use Rattle.std.proofs.Common.{◌≡◌, ◌≢◌, ℕ, ◌<◌, ◌≤◌, Bool, true, false, not, ◌||◌, cond, List, [], ◌∷◌, ◌++◌, map, Option, Some, None, refl, sym, ◌∙◌, ap, arith}
use Rattle.std.specs.Char.{to_ascii_lowercase}
use Rattle.std.proofs.lemmas.List.{map-append}
use Rattle.std.proofs.lemmas.List.Elements.{filter-append}
use Rattle.claim_types.specs.declared.operations.Create.{Create}
use Rattle.claim_types.specs.declared.record.Record.{Record}
use Rattle.claim_map.specs.Records.{renamed}
use Rattle.claim_map.specs.Trees.{AreAscending}
use Rattle.claim_map.specs.Claims.{continues_route, route_of, route_below, claim_of_record, claims_from, is_among, operations_between}
use Rattle.record_tree.specs.Fresh.{fresh}
use Rattle.record_tree.specs.Kept.{NoRow}
use Rattle.record_tree.proofs.Fresh.{fresh_same, fresh_front, other_row}
use Rattle.record_tree.proofs.Moves.{lower}
use Rattle.record_tree.proofs.Renames.{last_of}
use Rattle.record_tree.proofs.Whole.{claims_append, renamed_records}

-- a claim of another record is not among these
pub not_among : (cs : List Create) (c : Create) → NoRow c.origin.row cs → is_among cs c ≡ false
not_among [] c none = refl
not_among (d ∷ cs) c none = ap (λ b. b || is_among cs c) (other_row d c none.0) ∙ not_among cs c none.1

pub no_row_push : (id : ℕ) (cs : List Create) (c : Create) → NoRow id cs → c.origin.row ≢ id → NoRow id (cs ++ c ∷ [])
no_row_push id [] c none apart = (apart, tt)
no_row_push id (d ∷ cs) c none apart = (none.0, no_row_push id cs c none.1 apart)

pub no_row_behind : (id : ℕ) (e : List Create) (last : ℕ) (rs : List Record) → AreAscending last rs → id ≤ last → NoRow id e → NoRow id (claims_from e rs)
no_row_behind id e last [] up le none = none
no_row_behind id e last (r ∷ rs) up le none =
    let lt = up.0 in
    no_row_behind id (e ++ claim_of_record e r ∷ []) r.id rs up.1 (omega (arith, lt, le)) (no_row_push id e (claim_of_record e r) none (λ e. omega (arith, lt, le, e)))

pub last_least : (last : ℕ) (rs : List Record) → AreAscending last rs → last ≤ last_of last rs
last_least last [] up = omega arith
last_least last (r ∷ rs) up = let lt = up.0 in let le = last_least r.id rs up.1 in omega (arith, lt, le)

pub no_row_before : (id : ℕ) (e : List Create) (last : ℕ) (rs : List Record) → AreAscending last rs → last_of last rs < id → NoRow id e → NoRow id (claims_from e rs)
no_row_before id e last [] up lt none = none
no_row_before id e last (r ∷ rs) up lt none =
    let le = last_least r.id rs up.1 in
    no_row_before id (e ++ claim_of_record e r ∷ []) r.id rs up.1 lt (no_row_push id e (claim_of_record e r) none (λ e. omega (arith, lt, le, e)))

-- no record has the identifier 0
pub no_row_zero : (rs : List Record) → AreAscending 0 rs → NoRow 0 (claims_from [] rs)
no_row_zero rs up = no_row_behind 0 [] 0 rs up (omega arith) tt

-- nor one past the last record's
pub no_row_past : (id : ℕ) (rs : List Record) → AreAscending 0 rs → last_of 0 rs < id → NoRow id (claims_from [] rs)
no_row_past id rs up lt = no_row_before id [] 0 rs up lt tt

one_more : (cs : List Create) (c : Create) → NoRow c.origin.row cs → fresh cs (cs ++ c ∷ []) ≡ c ∷ []
one_more cs c none =
    filter-append (λ (x : Create). not (is_among cs x)) cs (c ∷ [])
    ∙ ap (λ xs. xs ++ cond (not (is_among cs c)) (c ∷ []) []) (fresh_same cs)
    ∙ ap (λ b. cond (not b) (c ∷ []) []) (not_among cs c none)

-- a record more creates its claim
pub create_operations : (rs : List Record) (r : Record) → NoRow r.id (claims_from [] rs) →
    operations_between (claims_from [] rs) (claims_from [] (rs ++ r ∷ [])) ≡ record { creates = claim_of_record (claims_from [] rs) r ∷ []; destroys = [] }
unfolding operations_between
create_operations rs r none =
    ap (operations_between (claims_from [] rs)) (claims_append [] rs (r ∷ []))
    ∙ (λ i. record { creates = one_more (claims_from [] rs) (claim_of_record (claims_from [] rs) r) none i; destroys = map (λ (c : Create). c.key) (fresh_front (claims_from [] rs) (claim_of_record (claims_from [] rs) r ∷ []) i) })

-- a rename that changes no small letter changes no claim
module _ (front rest : List Record) (r : Record) (up : AreAscending 0 (front ++ (r ∷ rest))) (name : List ℕ) (same : lower r.name ≡ lower name) where
  abbrev e : List Create
  e = claims_from [] front

  texts : (b : Bool) (o : Option (List ℕ)) → lower (cond b (route_below o name) name) ≡ lower (cond b (route_below o r.name) r.name)
  texts true None = sym same
  texts true (Some u) =
      map-append to_ascii_lowercase u (47 ∷ name) ∙ ap (λ xs. lower u ++ 47 ∷ xs) (sym same) ∙ sym (map-append to_ascii_lowercase u (47 ∷ r.name))
  texts false o = sym same

  one : claim_of_record e (record r { name = name }) ≡ claim_of_record e r
  one = ap (λ v. record (claim_of_record e r) { key = record { bucket = (claim_of_record e r).key.bucket; value = v } }) (texts (continues_route r.kind) (route_of e r.parent))

  pub same_operations : operations_between (claims_from [] (front ++ (r ∷ rest))) (claims_from [] (map (renamed r.id name) (front ++ (r ∷ rest)))) ≡ record { creates = []; destroys = [] }
  unfolding operations_between
  same_operations =
      ap (λ rs. operations_between (claims_from [] (front ++ (r ∷ rest))) (claims_from [] rs)) (renamed_records front rest r up name)
      ∙ ap (operations_between (claims_from [] (front ++ (r ∷ rest))))
      (claims_append [] front (record r { name = name } ∷ rest) ∙ ap (λ c. claims_from (e ++ c ∷ []) rest) one ∙ sym (claims_append [] front (r ∷ rest)))
      ∙ (λ i. record { creates = fresh_same (claims_from [] (front ++ (r ∷ rest))) i; destroys = map (λ (c : Create). c.key) (fresh_same (claims_from [] (front ++ (r ∷ rest))) i) })
