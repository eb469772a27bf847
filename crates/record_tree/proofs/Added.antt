-- A record that may be added may follow.
use Rattle.std.specs.List.Sorted.{IsPartitionPoint}
use Rattle.std.proofs.lemmas.List.Elements.{Contains-get_or}
use Rattle.std.proofs.Common.{rules, ◌≡◌, ◌<◌, ◌≤◌, ℕ, suc, Bool, true, false, ◌||◌, nat_eq, nat_lt, length, get_or, inl, inr, List, [], ◌∷◌, ◌++◌, None, refl, sym, ◌∙◌, ap, subst, arith}
use Rattle.std.specs.List.{Contains, find}
use Rattle.std.specs.FinMap as map
use Rattle.std.proofs.lemmas.Bool.Decides.{Decides-eqb, nat_tests}
use Rattle.cells_base.proofs.Finds.{find_passes}
use Rattle.cells_base.proofs.Members.{here_or_later, nowhere}
use Rattle.claim_types.specs.Order.{key_cmp}
use Rattle.claim_types.specs.declared.cell.Range.{Range}
use Rattle.claim_types.specs.declared.record.Record.{Record}
use Rattle.claim_types.specs.declared.operations.Create.{Create}
use Rattle.claim_types.specs.declared.operations.Operations.{Operations}
use Rattle.claim_map.specs.Trees.{AreRising}
use Rattle.claim_map.specs.Claims.{claims_from}
use Rattle.claim_map.proofs.Found.{Contains-found}
use Rattle.claim_map.proofs.Trees.{id_above, Stands, alone, under, stands_where, ascending_push}
use Rattle.claim_types.specs.Keys.{key_of}
use Rattle.claim_map.specs.Rules.{place_rule, is_refused}
use Rattle.std.specs.Prelude.{is_some, Option, Some}
use Rattle.record_tree.specs.Adding.{IsUsed, MayBeAdded, TellsAdded, claim_behind}
use Rattle.record_tree.specs.Indexed.{IsWhole}
use Rattle.record_tree.specs.Follows.{MayFollow}
use Rattle.record_tree.specs.Refusals.{claimant}
use Rattle.record_tree.proofs.After.{above_push}
use Rattle.record_tree.proofs.Creates.{create_operations}
use Rattle.record_tree.proofs.Renamed.{one_own}
use Rattle.record_tree.proofs.Same.{no_row_each}

only_one : (x c : Create) → Contains (x ∷ []) c → x ≡ c
only_one x c h = elim (here_or_later x [] c h) [ inl e ↦ e | inr rest ↦ absurd (nowhere c rest) ]

or_false : (b : Bool) → b ≡ false → (b || false) ≡ false
or_false b h = ap (λ x. x || false) h

module _ (records : List Record) (index : map.FinMap key_cmp ℕ) (whole : IsWhole records index) (used : ℕ) (known : List Range) (rising : AreRising 0 known) (r : Record) (may : MayBeAdded records used known r) where
  positive : 0 < r.id
  positive = id_above 0 known may.known_id.0 r.id rising may.known_id.2

  parent_below : r.parent < r.id
  parent_below = go (stands_where r.kind r.parent (find (λ (q : Record). nat_eq q.id r.parent) records) may.placed)
    where
      go : Stands r.kind r.parent (find (λ (q : Record). nat_eq q.id r.parent) records) → r.parent < r.id
      go (alone zero_is same) = let p = positive in omega (arith, zero_is, p)
      go (under q is) =
          let same : q.id ≡ r.parent = (Decides-eqb q.id r.parent).0 (find_passes (λ (q : Record). nat_eq q.id r.parent) records q is) in
          let lt = may.above q (Contains-found (λ (q : Record). nat_eq q.id r.parent) records q is) in
          omega (arith, same, lt)

  pub may_add : (ops : Operations) → ops ≡ record { creates = claim_behind records r ∷ []; destroys = [] } → MayFollow records (records ++ r ∷ []) ops
  may_add ops is = subst (MayFollow records (records ++ r ∷ [])) (sym is) (record {
    is = sym (create_operations records r (no_row_each r.id [] records tt (λ q h same. let lt = may.above q h in omega (arith, lt, same))));
    ascending = ascending_push 0 records r whole.ascending positive may.above;
    above = above_push records r whole.above parent_below;
    free = λ c h. ap (λ (x : Create). claimant (claims_from [] records) x.key) (sym (only_one (claim_behind records r) c h)) ∙ may.free;
    own = one_own (claim_behind records r);
    read = or_false _ may.read;
  })

-- where each is below, those that it contains are
pub all_below : (id : ℕ) (rs : List Record) → ((k : ℕ) (d : Record) → k < length rs → (get_or rs k d).id < id) → (q : Record) → Contains rs q → q.id < id
all_below id [] each q h = absurd (nowhere q h)
all_below id (r ∷ rs) each q h = elim (here_or_later r rs q h) [
  | inl e ↦ subst (λ (x : Record). x.id < id) e (each 0 r (search rules))
  | inr rest ↦ all_below id rs (λ k d lt. each (suc k) d (search (rules, lt))) q rest
]

-- the search for the first that is not below an identifier ends behind all where all are below it
module _ (rs : List Record) (id at : ℕ) (point : IsPartitionPoint (λ (r : Record). nat_lt r.id id ≡ true) (λ (r : Record). nat_lt r.id id ≡ false) rs at) where
  pub ends_behind : at ≡ length rs → (q : Record) → Contains rs q → q.id < id
  ends_behind all = all_below id rs (λ k d lt. let h = point.0 k d (omega arith) (subst (λ n. k < n) (sym all) lt) in grind (arith, nat_tests, h))

  pub stops_before : (x : Record) → at < length rs → ((q : Record) → Contains rs q → q.id < id) → ⊥
  stops_before x lt below =
      let h = point.1 at x (omega arith) lt in
      let less = below (get_or rs at x) (Contains-get_or rs at x lt) in
      let least : id ≤ (get_or rs at x).id = grind (arith, nat_tests, h) in
      omega (arith, less, least)

pub none_of : {A : Type 0} (o : Option A) → false ≡ is_some o → o ≡ None
none_of None h = refl
none_of (Some x) h = absurd cc

-- what was found of a record and of its claim, as what is told
pub told_added : (records : List Record) (used : ℕ) (known : List Range) (r : Record) → IsUsed known used r.id → ((q : Record) → Contains records q → q.id < r.id)
    → place_rule r.kind r.parent (find (λ (q : Record). nat_eq q.id r.parent) records) ≡ None → (claim : Create) → claim ≡ claim_behind records r
    → is_refused (key_of claim.key.bucket claim.key.value) ≡ false → claimant (claims_from [] records) claim.key ≡ None
    → (ops : Operations) → ops ≡ record { creates = claim ∷ []; destroys = [] } → TellsAdded records used known r (Some ops)
told_added records used known r known_id above placed claim is read free ops are = (
  record {
    known_id = known_id;
    above = above;
    placed = placed;
    read = subst (λ (c : Create). is_refused (key_of c.key.bucket c.key.value) ≡ false) is read;
    free = subst (λ (c : Create). claimant (claims_from [] records) c.key ≡ None) is free;
  },
  are ∙ ap (λ (c : Create). record { creates = c ∷ []; destroys = [] }) is,
)
