-- The claims of all records, one after the other.
use Rattle.std.proofs.Common.{◌≡◌, ℕ, ◌+◌, ◌<◌, ◌≤◌, List, [], ◌∷◌, ◌++◌, length, drop, get_or, Option, sym, ◌∙◌, ap, subst, arith}
use Rattle.std.proofs.lemmas.List.{at_drop_more, at_drop_all}
use Rattle.claim_types.specs.declared.operations.Create.{Create}
use Rattle.claim_types.specs.declared.record.Record.{Record}
use Rattle.claim_map.specs.Trees.{AreAscending}
use Rattle.claim_map.specs.Claims.{route_of, claim_of_record, claims_from}
use Rattle.record_tree.specs.Answer.{claim_at}
use Rattle.record_tree.specs.Walking.{Claimed}
use Rattle.record_tree.proofs.Fresh.{up_to_push, up_to_more}
use Rattle.record_tree.proofs.ByPlace.{rows_push}

pub claimed_first : (records : List Record) → AreAscending 0 records → Claimed [] records
claimed_first records up = record { last = 0; rows = tt; up = tt; ascending = up }

module _ (records : List Record) (i : ℕ) (claims next : List Create) (r : Record) (lt : i < length records) (is : r ≡ get_or records i r)
    (route : Option (List ℕ)) (name : List ℕ) (claim : Create) (route_is : route ≡ route_of claims r.parent) (name_is : name ≡ r.name) (claim_is : claim ≡ claim_at route r.id r.kind r.parent name) (next_is : next ≡ claims ++ claim ∷ []) where
  whole : next ≡ claims ++ claim_of_record claims r ∷ []
  whole = next_is ∙ ap (λ c. claims ++ c ∷ []) (claim_is ∙ ap (λ o. claim_at o r.id r.kind r.parent name) route_is ∙ ap (claim_at (route_of claims r.parent) r.id r.kind r.parent) name_is)

  here : drop i records ≡ r ∷ drop (i + 1) records
  here = at_drop_more (λ xs. xs) records i r lt ∙ ap (λ x. x ∷ drop (i + 1) records) (sym is)

  pub listed_on : (goal : List Create) → claims_from claims (drop i records) ≡ goal → claims_from next (drop (i + 1) records) ≡ goal
  listed_on goal told = ap (λ cs. claims_from cs (drop (i + 1) records)) whole ∙ ap (claims_from claims) (sym here) ∙ told

  pub claimed_on : Claimed claims (drop i records) → Claimed next (drop (i + 1) records)
  claimed_on k = subst (λ cs. Claimed cs (drop (i + 1) records)) (sym whole) (record {
    last = r.id;
    rows = rows_push 0 k.last claims (claim_of_record claims r) k.rows k.up (omega arith) ahead.0;
    up = up_to_push r.id claims (claim_of_record claims r) (up_to_more k.last r.id claims (let less = ahead.0 in omega (arith, less)) k.up) (omega arith);
    ascending = ahead.1;
  })
    where
      ahead : AreAscending k.last (r ∷ drop (i + 1) records)
      ahead = subst (AreAscending k.last) here k.ascending

pub listed_end : (records : List Record) (i : ℕ) (claims goal : List Create) → length records ≤ i → claims_from claims (drop i records) ≡ goal → claims ≡ goal
listed_end records i claims goal le told = sym (at_drop_all (claims_from claims) records i le) ∙ told
