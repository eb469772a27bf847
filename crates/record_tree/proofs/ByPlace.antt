-- The operations of a change of the record in a place.
use Rattle.std.proofs.Common.{◌≡◌, ◌≢◌, ℕ, ◌+◌, ◌<◌, ◌≤◌, Bool, true, false, cond, nat_eq, List, [], ◌∷◌, ◌++◌, length, take, drop, get_or, Option, sym, ◌∙◌, ap, subst, arith}
use Rattle.std.specs.List.{list_any}
use Rattle.std.proofs.lemmas.List.{take-append-drop, at_drop_more, at_drop_all}
use Rattle.claim_types.specs.declared.operations.Create.{Create}
use Rattle.claim_types.specs.declared.operations.Operations.{Operations}
use Rattle.claim_types.specs.declared.record.Record.{Record}
use Rattle.claim_map.specs.Trees.{AreRows, AreAscending}
use Rattle.claim_map.specs.Claims.{route_of, claim_of_record, claims_from}
use Rattle.record_tree.specs.Kept.{AreAbove}
use Rattle.record_tree.specs.Fresh.{UpTo}
use Rattle.record_tree.specs.Between.{between_renamed, between_removed}
use Rattle.record_tree.specs.Walking.{Fits}
use Rattle.record_tree.specs.Moved.{Moved, moves_on, with_claim, moved_on, moved_among, operations_of_moved}
use Rattle.record_tree.proofs.Fresh.{up_to_push, up_to_more}
use Rattle.record_tree.proofs.Moves.{lower}
use Rattle.record_tree.proofs.Whole.{rename_operations, claims_append, claim_by_route, ascending_split}
use Rattle.record_tree.proofs.Renames.{last_of}
use Rattle.record_tree.proofs.Creates.{same_operations}
use Rattle.record_tree.proofs.Removes.{remove_operations}
use Rattle.record_tree.specs.Answer.{claim_at}
use Rattle.record_tree.proofs.Rising.{same_at}
use Rattle.record_tree.proofs.Positions.{claim_in_tree, above_split, parent_route}

-- what a rename moves at first: its own record's claim, by the routes of the whole tree
abbrev pub first_moved : List Record → Record → List ℕ → Moved
first_moved records r name = record { before = claim_of_record (claims_from [] records) r ∷ []; afterwards = claim_of_record (claims_from [] records) (record r { name = name }) ∷ [] }

split_here : (front rest : List Record) (r : Record) (name : List ℕ) → AreAscending 0 (front ++ (r ∷ rest)) → AreAbove (front ++ (r ∷ rest)) → lower r.name ≢ lower name →
    between_renamed (front ++ (r ∷ rest)) r.id name ≡ operations_of_moved (moved_among (first_moved (front ++ (r ∷ rest)) r name) rest)
split_here front rest r name ascending above apart =
    rename_operations front rest r ascending name apart
    ∙ ap (λ m. operations_of_moved (moved_among m rest)) (λ i. record { before = one i ∷ []; afterwards = other i ∷ [] })
  where
    one : claim_of_record (claims_from [] front) r ≡ claim_of_record (claims_from [] (front ++ (r ∷ rest))) r
    one = claim_in_tree front rest r ascending above

    other : claim_of_record (claims_from [] front) (record r { name = name }) ≡ claim_of_record (claims_from [] (front ++ (r ∷ rest))) (record r { name = name })
    other = claim_by_route (claims_from [] front) (claims_from [] (front ++ (r ∷ rest))) (record r { name = name })
        (sym (parent_route (last_of 0 front) (claims_from [] front) r rest (ascending_split 0 front (r ∷ rest) ascending).1 (above_split front (r ∷ rest) above).0)
        ∙ ap (λ cs. route_of cs r.parent) (sym (claims_append [] front (r ∷ rest))))

module _ (records : List Record) (at : ℕ) (r : Record) (ascending : AreAscending 0 records) (above : AreAbove records) (within : at < length records) (is : r ≡ get_or records at r) where
  parted : records ≡ take at records ++ (r ∷ drop (at + 1) records)
  parted =
      sym (take-append-drop at records)
      ∙ ap (λ xs. take at records ++ xs) (at_drop_more (λ xs. xs) records at r within ∙ ap (λ x. x ∷ drop (at + 1) records) (sym is))

  pub rename_in_place : (name : List ℕ) → lower r.name ≢ lower name → between_renamed records r.id name ≡ operations_of_moved (moved_among (first_moved records r name) (drop (at + 1) records))
  rename_in_place name apart =
      subst (λ xs. between_renamed xs r.id name ≡ operations_of_moved (moved_among (first_moved xs r name) (drop (at + 1) records))) (sym parted)
      (split_here (take at records) (drop (at + 1) records) r name (subst (AreAscending 0) parted ascending) (subst AreAbove parted above) apart)

  pub same_in_place : (name : List ℕ) → lower r.name ≡ lower name → between_renamed records r.id name ≡ record { creates = []; destroys = [] }
  same_in_place name same =
      subst (λ xs. between_renamed xs r.id name ≡ record { creates = []; destroys = [] }) (sym parted)
      (same_operations (take at records) (drop (at + 1) records) r (subst (AreAscending 0) parted ascending) name same)

  pub remove_in_place : list_any (λ (q : Record). nat_eq q.parent r.id) records ≡ false → between_removed records r.id ≡ record { creates = []; destroys = (claim_of_record (claims_from [] records) r).key ∷ [] }
  remove_in_place childless =
      subst (λ xs. between_removed xs r.id ≡ record { creates = []; destroys = (claim_of_record (claims_from [] xs) r).key ∷ [] }) (sym parted)
      (remove_operations (take at records) (drop (at + 1) records) r (subst (AreAscending 0) parted ascending) (subst (λ xs. list_any (λ (q : Record). nat_eq q.parent r.id) xs ≡ false) parted childless)
      ∙ ap (λ (c : Create). record { creates = []; destroys = c.key ∷ [] }) (claim_in_tree (take at records) (drop (at + 1) records) r (subst (AreAscending 0) parted ascending) (subst AreAbove parted above)))

  -- the records behind stand in order, past it
  pub ascending_behind : AreAscending r.id (drop (at + 1) records)
  ascending_behind = (ascending_split 0 (take at records) (r ∷ drop (at + 1) records) (subst (AreAscending 0) parted ascending)).1.1

  pub own_above : r.parent < r.id
  own_above = (above_split (take at records) (r ∷ drop (at + 1) records) (subst AreAbove parted above)).0

  pub own_positive : 0 < r.id
  own_positive = let lt = own_above in omega (arith, lt)

pub rows_push : (low last : ℕ) (cs : List Create) (c : Create) → AreRows low cs → UpTo last cs → low ≤ last → last < c.origin.row → AreRows low (cs ++ c ∷ [])
rows_push low last [] c rows up le lt = (omega (arith, le, lt), tt)
rows_push low last (d ∷ cs) c rows up le lt = (rows.0, rows_push d.origin.row last cs c rows.1 up.1 up.0 lt)

pub fits_on : (m : Moved) (r : Record) (rs : List Record) → Fits m (r ∷ rs) → Fits (moved_on m r) rs
fits_on m r rs fits = at (moves_on m.afterwards r)
  where
    lt : fits.last < r.id
    lt = fits.ascending.0

    passed : Fits m rs
    passed = let lt' = lt in record {
      last = r.id;
      rows_before = fits.rows_before;
      rows_after = fits.rows_after;
      up_before = up_to_more fits.last r.id m.before (omega (arith, lt')) fits.up_before;
      up_after = up_to_more fits.last r.id m.afterwards (omega (arith, lt')) fits.up_after;
      ascending = fits.ascending.1;
    }

    pushed : Fits (with_claim m r) rs
    pushed = let lt' = lt in record {
      last = r.id;
      rows_before = rows_push 0 fits.last m.before (claim_of_record m.before r) fits.rows_before fits.up_before (omega arith) lt;
      rows_after = rows_push 0 fits.last m.afterwards (claim_of_record m.afterwards r) fits.rows_after fits.up_after (omega arith) lt;
      up_before = up_to_push r.id m.before (claim_of_record m.before r) (up_to_more fits.last r.id m.before (omega (arith, lt')) fits.up_before) (omega arith);
      up_after = up_to_push r.id m.afterwards (claim_of_record m.afterwards r) (up_to_more fits.last r.id m.afterwards (omega (arith, lt')) fits.up_after) (omega arith);
      ascending = fits.ascending.1;
    }

    at : (b : Bool) → Fits (cond b (with_claim m r) m) rs
    at true = pushed
    at false = passed

pub fits_at_first : (records : List Record) (r : Record) (name : List ℕ) (rest : List Record) → 0 < r.id → AreAscending r.id rest → Fits (first_moved records r name) rest
fits_at_first records r name rest lt ascending = record {
  last = r.id;
  rows_before = (lt, tt);
  rows_after = (lt, tt);
  up_before = (omega arith, tt);
  up_after = (omega arith, tt);
  ascending = ascending;
}

-- a step of the walk, and its end
module _ (rest : List Record) (i : ℕ) where
  here : (r : Record) → i < length rest → r ≡ get_or rest i r → drop i rest ≡ r ∷ drop (i + 1) rest
  here r lt is = at_drop_more (λ xs. xs) rest i r lt ∙ ap (λ x. x ∷ drop (i + 1) rest) (sym is)

  pub told_on : (m n goal : Moved) (r : Record) → i < length rest → r ≡ get_or rest i r → moved_on m r ≡ n → moved_among m (drop i rest) ≡ goal → moved_among n (drop (i + 1) rest) ≡ goal
  told_on m n goal r lt is e told = ap (λ x. moved_among x (drop (i + 1) rest)) (sym e) ∙ ap (moved_among m) (sym (here r lt is)) ∙ told

  pub kept_on : (m n : Moved) (r : Record) → i < length rest → r ≡ get_or rest i r → moved_on m r ≡ n → Fits m (drop i rest) → Fits n (drop (i + 1) rest)
  kept_on m n r lt is e fits = subst (λ x. Fits x (drop (i + 1) rest)) e (fits_on m r (drop (i + 1) rest) (subst (Fits m) (here r lt is) fits))

  pub told_end : (m goal : Moved) → length rest ≤ i → moved_among m (drop i rest) ≡ goal → goal ≡ m
  told_end m goal le told = sym told ∙ at_drop_all (moved_among m) rest i le

-- the operations of a rename, from the claims that were made
module _ (records : List Record) (at : ℕ) (r : Record) (ascending : AreAscending 0 records) (above : AreAbove records) (within : at < length records) (is : r ≡ get_or records at r)
    (name old_name : List ℕ) (old new : Create) (above_old above_new : Option (List ℕ)) (rest : List Record)
    (old_is : old ≡ claim_at above_old r.id r.kind r.parent old_name) (new_is : new ≡ claim_at above_new r.id r.kind r.parent name) (own : old_name ≡ r.name)
    (old_route : above_old ≡ route_of (claims_from [] records) r.parent) (new_route : above_new ≡ route_of (claims_from [] records) r.parent) (rest_is : rest ≡ drop (at + 1) records) where
  first : first_moved records r name ≡ record { before = old ∷ []; afterwards = new ∷ [] }
  first i = record { before = before i ∷ []; afterwards = afterwards i ∷ [] }
    where
      before : claim_of_record (claims_from [] records) r ≡ old
      before = sym (old_is ∙ ap (λ n. claim_at above_old r.id r.kind r.parent n) own ∙ ap (λ o. claim_at o r.id r.kind r.parent r.name) old_route)

      afterwards : claim_of_record (claims_from [] records) (record r { name = name }) ≡ new
      afterwards = sym (new_is ∙ ap (λ o. claim_at o r.id r.kind r.parent name) new_route)

  pub made_fits : Fits (record { before = old ∷ []; afterwards = new ∷ [] }) rest
  made_fits =
      subst (Fits (record { before = old ∷ []; afterwards = new ∷ [] })) (sym rest_is)
      (subst (λ m. Fits m (drop (at + 1) records)) first
      (fits_at_first records r name (drop (at + 1) records) (own_positive records at r ascending above within is) (ascending_behind records at r ascending above within is)))

  pub made_operations : (ops : Operations) (d : Record) → ((d : Record) → lower (get_or records at d).name ≢ lower name) → ops ≡ operations_of_moved (moved_among (record { before = old ∷ []; afterwards = new ∷ [] }) rest) →
      ops ≡ between_renamed records (get_or records at d).id name
  made_operations ops d other e =
      e ∙ ap (λ xs. operations_of_moved (moved_among (record { before = old ∷ []; afterwards = new ∷ [] }) xs)) rest_is
      ∙ ap (λ m. operations_of_moved (moved_among m (drop (at + 1) records))) (sym first)
      ∙ sym (rename_in_place records at r ascending above within is name (subst (λ (x : Record). lower x.name ≢ lower name) (sym is) (other r)))
      ∙ ap (λ (x : Record). between_renamed records x.id name) (is ∙ same_at records at r d within)
