-- A binary search in a list whose keys rise.
use Rattle.std.proofs.Common.{◌≡◌, ◌≢◌, ◌⊎◌, inl, inr, ℕ, zero, suc, ◌<◌, ◌≤◌, Bool, true, false, ◌&&◌, cond, option_map, nat_eq, nat_lt, List, [], ◌∷◌, length, get_or, Option, Some, None, refl, sym, ◌∙◌, ap, subst, arith}
use Rattle.std.specs.List.{find}
use Rattle.std.specs.List.Sorted.{IsPartitionedBy, IsPartitionPoint}
use Rattle.std.proofs.lemmas.Bool.Decides.{Decides-eqb, nat_tests}
use Rattle.std.proofs.lemmas.List.Sorted.{IsPartitionedBy-ltb}
use denote.Enum.Bare.{sameb}
use Rattle.claim_types.specs.contracts.key.Bucket.{the_type as bucket_type}
use Rattle.claim_types.specs.declared.key.Bucket.{Bucket}
use Rattle.claim_types.specs.declared.key.Bucket.TheVariants.{OrganizationPath, Route, Address, SshKey, PagesDomain}
use Rattle.claim_types.specs.declared.operations.Create.{Create}
use Rattle.claim_types.specs.declared.record.Record.{Record}
use Rattle.claim_map.specs.Trees.{AreRows, AreAscending}
use Rattle.claim_map.specs.Claims.{route_of}
use Rattle.std.proofs.lemmas.Option.{same_Some}
use Rattle.record_tree.specs.Kept.{AreAbove}
use Rattle.claim_map.specs.Classification.{is_route}
use Rattle.cells_base.proofs.Truth.{not_true}

pub same_at : {X : Type 0} (xs : List X) (at : ℕ) (d e : X) → at < length xs → get_or xs at d ≡ get_or xs at e
same_at [] at d e lt = absurd (omega (arith, lt))
same_at (x ∷ xs) zero d e lt = refl
same_at (x ∷ xs) (suc at) d e lt = same_at xs at d e (omega (arith, lt))

module _ {X : Type 0} (key : X → ℕ) where
  abbrev pub Rising : ℕ → List X → Type 0
  Rising last [] = Unit {0}
  Rising last (x ∷ xs) = (last < key x) × Rising (key x) xs

  past : (last : ℕ) (xs : List X) (j : ℕ) (d : X) → Rising last xs → j < length xs → last < key (get_or xs j d)
  past last [] j d up lt = omega (arith, lt)
  past last (x ∷ xs) zero d up lt = up.0
  past last (x ∷ xs) (suc j) d up lt = let first = up.0 in let rest = past (key x) xs j d up.1 (omega (arith, lt)) in omega (arith, first, rest)

  rises : (last : ℕ) (xs : List X) (i j : ℕ) (d : X) → Rising last xs → i < j → j < length xs → key (get_or xs i d) < key (get_or xs j d)
  rises last [] i j d up lt within = omega (arith, within)
  rises last (x ∷ xs) zero zero d up lt within = omega (arith, lt)
  rises last (x ∷ xs) zero (suc j) d up lt within = past (key x) xs j d up.1 (omega (arith, within))
  rises last (x ∷ xs) (suc i) zero d up lt within = omega (arith, lt)
  rises last (x ∷ xs) (suc i) (suc j) d up lt within = rises (key x) xs i j d up.1 (omega (arith, lt)) (omega (arith, within))

  pub partitioned : (last : ℕ) (xs : List X) (id : ℕ) → Rising last xs → IsPartitionedBy (λ x. nat_lt (key x) id) xs
  partitioned last xs id up = IsPartitionedBy-ltb key xs id (λ i j d le within. at i j d le within (same_or_less i j le))
    where
      same_or_less : (i j : ℕ) → i ≤ j → (i ≡ j) ⊎ (i < j)
      same_or_less i j le = grind (arith, nat_tests, le)

      at : (i j : ℕ) (d : X) → i ≤ j → j < length xs → (i ≡ j) ⊎ (i < j) → key (get_or xs i d) ≤ key (get_or xs j d)
      at i j d le within (inl e) = subst (λ k. key (get_or xs i d) ≤ key (get_or xs k d)) e (omega arith)
      at i j d le within (inr lt) = let less = rises last xs i j d up lt within in omega (arith, less)

  module _ (id : ℕ) (p : X → Bool) (only : (x : X) → key x ≢ id → p x ≡ false) where
    none_at : (xs : List X) → ((k : ℕ) (d : X) → k < length xs → key (get_or xs k d) ≢ id) → find p xs ≡ None
    none_at [] apart = refl
    none_at (x ∷ xs) apart = ap (λ b. cond b (Some x) (find p xs)) (only x (apart 0 x (omega arith))) ∙ none_at xs (λ k d lt. apart (suc k) d (omega (arith, lt)))

    pub found_at : (last : ℕ) (xs : List X) (at : ℕ) (d : X) → Rising last xs → at < length xs → key (get_or xs at d) ≡ id → find p xs ≡ cond (p (get_or xs at d)) (Some (get_or xs at d)) None
    found_at last [] at d up lt is = absurd (omega (arith, lt))
    found_at last (x ∷ xs) zero d up lt is =
        ap (λ o. cond (p x) (Some x) o) (none_at xs (λ k e within same. let beyond = past (key x) xs k e up.1 within in omega (arith, beyond, same, is)))
    found_at last (x ∷ xs) (suc at) d up lt is =
        let beyond = past (key x) xs at d up.1 (omega (arith, lt)) in
        ap (λ b. cond b (Some x) (find p xs)) (only x (λ same. omega (arith, beyond, same, is)))
        ∙ found_at (key x) xs at d up.1 (omega (arith, lt)) is

    -- the place where the keys are no longer below has another key, or is the end
    pub not_found : (last : ℕ) (xs : List X) (at : ℕ) → Rising last xs → IsPartitionPoint (λ x. nat_lt (key x) id ≡ true) (λ x. nat_lt (key x) id ≡ false) xs at →
        ((d : X) → at < length xs → key (get_or xs at d) ≢ id) → find p xs ≡ None
    not_found last xs at up point apart = none_at xs (λ k d within. each k d within (where_is k))
      where
        where_is : (k : ℕ) → (k < at) ⊎ ((k ≡ at) ⊎ (at < k))
        where_is k = grind (arith, nat_tests)

        each : (k : ℕ) (d : X) → k < length xs → (k < at) ⊎ ((k ≡ at) ⊎ (at < k)) → key (get_or xs k d) ≢ id
        each k d within (inl lt) same =
            let h = point.0 k d (omega arith) lt in
            let less : key (get_or xs k d) < id = grind (arith, nat_tests, h) in omega (arith, less, same)
        each k d within (inr (inl e)) same = apart d (omega (arith, e, within)) (subst (λ n. key (get_or xs n d) ≡ id) e same)
        each k d within (inr (inr gt)) same =
            let less = rises last xs at k d up gt within in
            let h = point.1 at d (omega arith) (omega (arith, gt, within)) in
            let least : id ≤ key (get_or xs at d) = grind (arith, nat_tests, h) in
            omega (arith, less, least, same)

pub rising_records : (last : ℕ) (rs : List Record) → AreAscending last rs → Rising (λ (r : Record). r.id) last rs
rising_records last [] up = tt
rising_records last (r ∷ rs) up = (up.0, rising_records r.id rs up.1)

pub rising_rows : (last : ℕ) (cs : List Create) → AreRows last cs → Rising (λ (c : Create). c.origin.row) last cs
rising_rows last [] up = tt
rising_rows last (c ∷ cs) up = (up.0, rising_rows c.origin.row cs up.1)

no_record : (id : ℕ) (r : Record) → r.id ≢ id → nat_eq r.id id ≡ false
no_record id r apart = not_true (nat_eq r.id id) (λ h. apart ((Decides-eqb r.id id).0 h))

no_claim : (id : ℕ) (c : Create) → c.origin.row ≢ id → (nat_eq c.origin.row id && is_route c.key.bucket) ≡ false
no_claim id c apart = ap (λ b. b && is_route c.key.bucket) (not_true (nat_eq c.origin.row id) (λ h. apart ((Decides-eqb c.origin.row id).0 h)))

-- what the search among records finds
module _ (rs : List Record) (id at : ℕ) (up : AreAscending 0 rs) where
  pub record_found : (x : Record) → at < length rs → (get_or rs at x).id ≡ id → (d : Record) → find (λ (r : Record). nat_eq r.id id) rs ≡ Some (get_or rs at d)
  record_found x lt is d =
      found_at (λ (r : Record). r.id) id (λ (r : Record). nat_eq r.id id) (no_record id) 0 rs at d (rising_records 0 rs up) lt (ap (λ (r : Record). r.id) (same_at rs at d x lt) ∙ is)
      ∙ ap (λ b. cond b (Some (get_or rs at d)) None) ((Decides-eqb (get_or rs at d).id id).1 (ap (λ (r : Record). r.id) (same_at rs at d x lt) ∙ is))

  pub record_missing : IsPartitionPoint (λ (r : Record). nat_lt r.id id ≡ true) (λ (r : Record). nat_lt r.id id ≡ false) rs at → ((d : Record) → at < length rs → (get_or rs at d).id ≢ id) →
      find (λ (r : Record). nat_eq r.id id) rs ≡ None
  record_missing point apart = not_found (λ (r : Record). r.id) id (λ (r : Record). nat_eq r.id id) (no_record id) 0 rs at (rising_records 0 rs up) point apart

-- what the search among claims finds
module _ (cs : List Create) (id at : ℕ) (up : AreRows 0 cs) where
  route_there : (x : Create) → at < length cs → (get_or cs at x).origin.row ≡ id → (b : Bool) → is_route (get_or cs at x).key.bucket ≡ b →
      route_of cs id ≡ cond b (Some (get_or cs at x).key.value) None
  route_there x lt is b bucket =
      ap (option_map (λ (c : Create). c.key.value))
      (found_at (λ (c : Create). c.origin.row) id (λ (c : Create). nat_eq c.origin.row id && is_route c.key.bucket) (no_claim id) 0 cs at x (rising_rows 0 cs up) lt is
      ∙ ap (λ e. cond (e && is_route (get_or cs at x).key.bucket) (Some (get_or cs at x)) None) ((Decides-eqb (get_or cs at x).origin.row id).1 is)
      ∙ ap (λ e. cond e (Some (get_or cs at x)) None) bucket)
      ∙ turned b
    where
      turned : (b : Bool) → option_map (λ (c : Create). c.key.value) (cond b (Some (get_or cs at x)) None) ≡ cond b (Some (get_or cs at x).key.value) None
      turned true = refl
      turned false = refl

  pub route_found : (x : Create) → at < length cs → (get_or cs at x).origin.row ≡ id → is_route (get_or cs at x).key.bucket ≡ true → (d : Create) → route_of cs id ≡ Some (get_or cs at d).key.value
  route_found x lt is bucket d = route_there x lt is true bucket ∙ ap (λ (c : Create). Some c.key.value) (same_at cs at x d lt)

  pub route_elsewhere : (x : Create) → at < length cs → (get_or cs at x).origin.row ≡ id → is_route (get_or cs at x).key.bucket ≡ false → route_of cs id ≡ None
  route_elsewhere x lt is bucket = route_there x lt is false bucket

  pub route_missing : IsPartitionPoint (λ (c : Create). nat_lt c.origin.row id ≡ true) (λ (c : Create). nat_lt c.origin.row id ≡ false) cs at → ((d : Create) → at < length cs → (get_or cs at d).origin.row ≢ id) →
      route_of cs id ≡ None
  route_missing point apart =
      ap (option_map (λ (c : Create). c.key.value))
      (not_found (λ (c : Create). c.origin.row) id (λ (c : Create). nat_eq c.origin.row id && is_route c.key.bucket) (no_claim id) 0 cs at (rising_rows 0 cs up) point apart)

-- `==` on buckets goes by their numbers
pub same_bucket : (b : Bucket) → sameb bucket_type b Route ≡ is_route b
same_bucket OrganizationPath = refl
same_bucket Route = refl
same_bucket Address = refl
same_bucket SshKey = refl
same_bucket PagesDomain = refl

picked : (b : Bool) (x y : Record) (rest : Option Record) → cond b (Some x) rest ≡ Some y → ((b ≡ true) × (x ≡ y)) ⊎ (rest ≡ Some y)
picked true x y rest h = inl (refl, same_Some x y h)
picked false x y rest h = inr h

-- what a look-up by identifier finds has it
pub found_id : (id : ℕ) (rs : List Record) (q : Record) → find (λ (r : Record). nat_eq r.id id) rs ≡ Some q → q.id ≡ id
found_id id [] q h = absurd cc
found_id id (r ∷ rs) q h = elim (picked (nat_eq r.id id) r q (find (λ (r : Record). nat_eq r.id id) rs) h) [
  | inl own ↦ ap (λ (x : Record). x.id) (sym own.1) ∙ (Decides-eqb r.id id).0 own.0
  | inr rest ↦ found_id id rs q rest
]

pub found_above : (id : ℕ) (rs : List Record) (q : Record) → AreAbove rs → find (λ (r : Record). nat_eq r.id id) rs ≡ Some q → q.parent < q.id
found_above id [] q above h = absurd cc
found_above id (r ∷ rs) q above h = elim (picked (nat_eq r.id id) r q (find (λ (r : Record). nat_eq r.id id) rs) h) [
  | inl own ↦ subst (λ (x : Record). x.parent < x.id) own.1 above.0
  | inr rest ↦ found_above id rs q above.1 rest
]
