-- A remove of a record that is no parent takes its claim away, and makes none.
use Rattle.std.proofs.Common.{◌≡◌, ◌≢◌, inl, inr, ℕ, ◌≤◌, Bool, true, false, not, ◌&&◌, cond, nat_eq, List, [], ◌∷◌, ◌++◌, length, map, Option, Some, option_map, refl, sym, ◌∙◌, ap, subst, arith}
use Rattle.std.specs.Prelude.{filter}
use Rattle.std.specs.List.{Contains, list_any, find}
use Rattle.std.specs.Char.{to_ascii_lowercase}
use Rattle.std.proofs.lemmas.Bool.Decides.{Decides-eqb}
use Rattle.std.proofs.lemmas.List.{length-map, append-nil}
use Rattle.claim_types.specs.Operations.{operation_count}
use Rattle.claim_types.specs.declared.cell.Range.{Range}
use Rattle.claim_types.specs.declared.operations.Create.{Create}
use Rattle.claim_types.specs.declared.record.Record.{Record}
use Rattle.claim_types.specs.declared.record.Change.TheVariants.{Remove}
use Rattle.claim_types.specs.declared.limits.TheConstants.{OPERATIONS}
use Rattle.claim_map.specs.State.{Tree}
use Rattle.claim_map.specs.Records.{changed_by}
use Rattle.claim_map.specs.Claims.{continues_route, route_of, route_below, claim_of_record, claims_from, claims_of, is_among, operations_between}
use Rattle.claim_map.specs.Classification.{is_route}
use Rattle.claim_map.specs.Trees.{AreRows, AreAscending}
use Rattle.cells_base.proofs.Truth.{false_of_not}
use Rattle.cells_base.proofs.Members.{here, later, of_filter, in_filter}
use Rattle.claim_map.proofs.Claims.{stands_or_not, is_destroyed, claim_there}
use Rattle.claim_map.proofs.Rising.{rising_filter, tree_rises}
use Rattle.claim_map.proofs.Made.{MadeApart, HasSome, old_is_among, some_destroy}
use Rattle.claim_map.proofs.Trees.{no_child}

-- nothing is left, or one claim at most
none_left : {X : Type 0} (xs : List X) → ((x : X) → Contains xs x → ⊥) → length xs ≤ 0
none_left [] h = omega arith
none_left (x ∷ xs) h = absurd (h x (here x xs))

one_left : (row last : ℕ) (cs : List Create) → AreRows last cs → ((c : Create) → Contains cs c → c.origin.row ≡ row) → length cs ≤ 1
one_left row last [] rising h = omega arith
one_left row last (c ∷ []) rising h = omega arith
one_left row last (c ∷ (d ∷ ds)) rising h =
    let lt = rising.1.0 in
    let first = h c (here c (d ∷ ds)) in
    let second = h d (later c (d ∷ ds) d (here d ds)) in
    absurd (omega (arith, lt, first, second))

-- a record is removed
pub filter_push : {X : Type 0} (p : X → Bool) (xs : List X) (y : X) → filter p (xs ++ y ∷ []) ≡ filter p xs ++ cond (p y) (y ∷ []) []
filter_push p [] y = refl
filter_push p (x ∷ xs) y = go (p x) (filter_push p xs y)
  where
    go : (b : Bool) → filter p (xs ++ y ∷ []) ≡ filter p xs ++ cond (p y) (y ∷ []) [] → cond b (x ∷ filter p (xs ++ y ∷ [])) (filter p (xs ++ y ∷ [])) ≡ cond b (x ∷ filter p xs) (filter p xs) ++ cond (p y) (y ∷ []) []
    go true rest = ap (λ ys. x ∷ ys) rest
    go false rest = rest

abbrev pub claim_with : Option (List ℕ) → Record → Create
claim_with route r = record (claim_of_record [] r) { key = record { bucket = (claim_of_record [] r).key.bucket; value = map to_ascii_lowercase (cond (continues_route r.kind) (route_below route r.name) r.name) } }

module _ (id : ℕ) where
  abbrev pub others : Create → Bool
  others c = not (nat_eq c.origin.row id)

  abbrev pub left : Record → Bool
  left r = not (nat_eq r.id id)

  abbrev pub routed : ℕ → Create → Bool
  routed parent c = nat_eq c.origin.row parent && is_route c.key.bucket

  -- a route of another record is found as before
  pub same_found : (parent : ℕ) → parent ≢ id → (e : List Create) → find (routed parent) (filter others e) ≡ find (routed parent) e
  same_found parent apart [] = refl
  same_found parent apart (c ∷ cs) = go (nat_eq c.origin.row id) refl (nat_eq c.origin.row parent) refl (same_found parent apart cs)
    where
      go : (b : Bool) → nat_eq c.origin.row id ≡ b → (d : Bool) → nat_eq c.origin.row parent ≡ d → find (routed parent) (filter others cs) ≡ find (routed parent) cs →
          find (routed parent) (cond (not b) (c ∷ filter others cs) (filter others cs)) ≡ cond (d && is_route c.key.bucket) (Some c) (find (routed parent) cs)
      go true isb true isd rest = absurd (apart (sym ((Decides-eqb c.origin.row parent).0 isd) ∙ (Decides-eqb c.origin.row id).0 isb))
      go true isb false isd rest = rest
      go false isb d isd rest = ap (λ x. cond (x && is_route c.key.bucket) (Some c) (find (routed parent) (filter others cs))) isd
          ∙ ap (λ o. cond (d && is_route c.key.bucket) (Some c) o) rest

  pub same_route : (parent : ℕ) → parent ≢ id → (e : List Create) → route_of (filter others e) parent ≡ route_of e parent
  same_route parent apart e = ap (option_map (λ (c : Create). c.key.value)) (same_found parent apart e)

  pub claims_left : (e : List Create) (rs : List Record) → ((r : Record) → Contains rs r → r.parent ≢ id) → claims_from (filter others e) (filter left rs) ≡ filter others (claims_from e rs)
  claims_left e [] childless = refl
  claims_left e (r ∷ rs) childless = go (nat_eq r.id id) refl (claims_left (e ++ claim_of_record e r ∷ []) rs (λ q is. childless q (later r rs q is)))
    where
      go : (b : Bool) → nat_eq r.id id ≡ b → claims_from (filter others (e ++ claim_of_record e r ∷ [])) (filter left rs) ≡ filter others (claims_from (e ++ claim_of_record e r ∷ []) rs) →
          claims_from (filter others e) (cond (not b) (r ∷ filter left rs) (filter left rs)) ≡ filter others (claims_from (e ++ claim_of_record e r ∷ []) rs)
      go true is rest = ap (λ x. claims_from x (filter left rs)) (sym (append-nil (filter others e)) ∙ ap (λ b. filter others e ++ cond (not b) (claim_of_record e r ∷ []) []) (sym is) ∙ sym (filter_push others e (claim_of_record e r))) ∙ rest
      go false is rest =
          ap (λ x. claims_from (filter others e ++ x ∷ []) (filter left rs)) (ap (λ o. claim_with o r) (same_route r.parent (childless r (here r rs)) e))
          ∙ ap (λ x. claims_from x (filter left rs)) (ap (λ b. filter others e ++ cond (not b) (claim_of_record e r ∷ []) []) (sym is) ∙ sym (filter_push others e (claim_of_record e r))) ∙ rest

module _ (tree : Tree) (known : List Range) (id : ℕ) (childless : list_any (λ (q : Record). nat_eq q.parent id) tree.records ≡ false) where
  abbrev pub fewer : Tree
  fewer = changed_by tree (Remove id) known

  pub claims_fewer : claims_of fewer ≡ filter (others id) (claims_of tree)
  unfolding claims_of
  claims_fewer = claims_left id [] tree.records (λ r is. no_child id tree.records r childless is)

  pub removed_apart : MadeApart tree fewer
  removed_apart c d ic gc idd gd same = old_is_among (claims_of tree) c (of_filter (others id) (claims_of tree) c (subst (λ cs. Contains cs c) claims_fewer ic)).0 gc

  pub there_is : (r : Record) → Contains tree.records r → (c : Create) × Contains (claims_of tree) c × (c.origin.row ≡ r.id)
  unfolding claims_of
  there_is r is = claim_there [] tree.records r is

  pub removed_some : (r : Record) → Contains tree.records r → r.id ≡ id → HasSome tree fewer
  removed_some r is own =
      let c = there_is r is in
      some_destroy (operations_between (claims_of tree) (claims_of fewer)) c.0.key (is_destroyed (claims_of tree) (claims_of fewer) c.0 c.1 (elim (stands_or_not (claims_of fewer) c.0) [
        | inl stands ↦ (let passes = (of_filter (others id) (claims_of tree) c.0 (subst (λ cs. Contains cs c.0) claims_fewer stands)).1 in
            let row : nat_eq c.0.origin.row id ≡ true = (Decides-eqb c.0.origin.row id).1 (c.2 ∙ own) in
            let both : false ≡ true = ap not (sym row) ∙ passes in absurd cc)
        | inr gone ↦ gone
      ]))

  -- each claim that is given up is of the removed record
  pub only_own : (c : Create) → Contains (claims_of tree) c → is_among (claims_of fewer) c ≡ false → c.origin.row ≡ id
  only_own c is gone = go (nat_eq c.origin.row id) refl
    where
      go : (b : Bool) → nat_eq c.origin.row id ≡ b → c.origin.row ≡ id
      go true own = (Decides-eqb c.origin.row id).0 own
      go false other = absurd (old_is_among (claims_of fewer) c (subst (λ cs. Contains cs c) (sym claims_fewer) (in_filter (others id) (claims_of tree) c is (ap not other))) gone)

  pub removed_free : (c d : Create) → Contains (operations_between (claims_of tree) (claims_of fewer)).creates c → Contains (claims_of tree) d → d.key ≢ c.key
  unfolding operations_between
  removed_free c d ic there same =
      let new = of_filter (λ (x : Create). not (is_among (claims_of tree) x)) (claims_of fewer) c ic in
      old_is_among (claims_of tree) c (of_filter (others id) (claims_of tree) c (subst (λ cs. Contains cs c) claims_fewer new.0)).0 (false_of_not (is_among (claims_of tree) c) new.1)

  pub removed_few : AreAscending 0 tree.records → operation_count (operations_between (claims_of tree) (claims_of fewer)) ≤ OPERATIONS
  unfolding operations_between
  removed_few ascending =
      let new : Create → Bool = λ x. not (is_among (claims_of tree) x) in
      let gone : Create → Bool = λ x. not (is_among (claims_of fewer) x) in
      let none : length (filter new (claims_of fewer)) ≤ 0 = none_left (filter new (claims_of fewer)) (λ c ic.
      let parts = of_filter new (claims_of fewer) c ic in
      old_is_among (claims_of tree) c (of_filter (others id) (claims_of tree) c (subst (λ cs. Contains cs c) claims_fewer parts.0)).0 (false_of_not (is_among (claims_of tree) c) parts.1)) in
      let one : length (filter gone (claims_of tree)) ≤ 1 = one_left id 0 (filter gone (claims_of tree)) (rising_filter gone 0 (claims_of tree) (tree_rises tree ascending)) (λ c ic.
      let parts = of_filter gone (claims_of tree) c ic in only_own c parts.0 (false_of_not (is_among (claims_of fewer) c) parts.1)) in
      let keys : length (map (λ (x : Create). x.key) (filter gone (claims_of tree))) ≡ length (filter gone (claims_of tree)) = length-map (filter gone (claims_of tree)) (λ (x : Create). x.key) in
      omega (arith, none, one, keys)
