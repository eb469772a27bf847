-- A begin that comes to be fresh is of a new lease with well-formed operations whose claims are free.
use Rattle.std.proofs.Common.{◌≡◌, ◌≢◌, ℕ, zero, suc, ◌+◌, ◌<◌, ◌≤◌, Bool, true, false, not, ◌||◌, ◌&&◌, ◌==◌, nat_eq, nat_le, nat_lt, cond, List, [], ◌∷◌, ◌++◌, map, length, get_or, Option, Some, None, option_map, inl, inr, refl, sym, ◌∙◌, ap, subst, arith}
use Rattle.std.specs.List.{list_any, list_all, find, Contains, AllPairs}
use Rattle.std.specs.FinMap.{FinMap, get, entries}
use Rattle.std.proofs.lemmas.Bool.Decides.{Decides-eqb, nat_tests}
use Rattle.std.proofs.lemmas.List.Elements.{Contains-get_or, Contains-append_left, Contains-push, Contains-append_cases}
use Rattle.cells_base.proofs.Truth.{neither, not_picked, true_of_not, false_of_not}
use Rattle.cells_base.proofs.Members.{here_or_later, nowhere, of_map}
use Rattle.cells_base.proofs.Maps.{each_passes}
use Rattle.claim_types.specs.Order.{key_eq, lease_cmp}
use Rattle.claim_types.specs.Operations.{keys_of, operation_count}
use Rattle.claim_types.specs.declared.key.ClaimKey.{ClaimKey}
use Rattle.claim_types.specs.declared.lease.LeaseId.{LeaseId}
use Rattle.claim_types.specs.declared.lease.Holding.{Holding}
use Rattle.claim_types.specs.declared.operations.Create.{Create}
use Rattle.claim_types.specs.declared.operations.Operations.{Operations}
use Rattle.claim_types.specs.declared.cell.Range.{Range}
use Rattle.claim_types.specs.declared.verdict.Refusal.TheVariants.{NoneOrTooMany, Twice, ForeignId, TooManyOpen, NotOwned}
use Rattle.claim_types.specs.declared.limits.TheConstants.{OPERATIONS, OPEN_LEASES}
use Rattle.claim_types.specs.declared.verdict.Verdict.TheVariants.{Fresh}
use Rattle.claim_types.proofs.Equal.{Decides-key}
use Rattle.claim_map.specs.State.{LeaseState, covers}
use Rattle.cells_base.proofs.Finds.{none_found, none_any}
use Rattle.claim_map.proofs.Fresh.{says_fresh}
use Rattle.claim_map.specs.Verdict.{MayBegin, names, lease_naming, open_count, wrong_number, first_repeated, foreign, too_many_open, blocked_by, create_refusal, destroy_refusal, creates_refusal, destroys_refusal, verdict_of}
use Rattle.cells_base.proofs.Options.{both_none, no_value}

all_others : {X : Type 0} (p : X → Bool) (xs : List X) → find p xs ≡ None → list_all (λ x. not (p x)) xs ≡ true
all_others p [] h = refl
all_others p (x ∷ xs) h =
    let parts = not_picked (p x) x (find p xs) h in
    ap (λ b. not b && list_all (λ y. not (p y)) xs) parts.0 ∙ all_others p xs parts.1

-- no key stood earlier
module _ where
  new_key : (earlier : List ClaimKey) (x : ClaimKey) (xs : List ClaimKey) → first_repeated earlier (x ∷ xs) ≡ None → (list_any (λ k. key_eq k x) earlier ≡ false) × (first_repeated (earlier ++ x ∷ []) xs ≡ None)
  new_key earlier x xs h = not_picked (list_any (λ k. key_eq k x) earlier) (length earlier) (first_repeated (earlier ++ x ∷ []) xs) h

  apart : (e x : ClaimKey) → key_eq e x ≡ false → e ≢ x
  apart e x h same = let both : true ≡ false = sym ((Decides-key e x).1 same) ∙ h in cc

  all_new : (earlier keys : List ClaimKey) → first_repeated earlier keys ≡ None → (e : ClaimKey) → Contains earlier e → (k : ClaimKey) → Contains keys k → e ≢ k
  all_new earlier [] h e before k c = absurd (nowhere k c)
  all_new earlier (x ∷ xs) h e before k c =
      let parts = new_key earlier x xs h in
      elim (here_or_later x xs k c) [
        | inl is ↦ subst (λ z. e ≢ z) is (apart e x (none_any (λ k. key_eq k x) earlier e parts.0 before))
        | inr later ↦ all_new (earlier ++ x ∷ []) xs parts.1 e (Contains-append_left earlier (x ∷ []) e before) k later
      ]

  distinct : (earlier keys : List ClaimKey) → first_repeated earlier keys ≡ None → AllPairs (λ a b. a ≢ b) keys
  distinct earlier [] h i j d lt within = absurd (omega (arith, within))
  distinct earlier (x ∷ xs) h zero zero d lt within = absurd (omega (arith, lt))
  distinct earlier (x ∷ xs) h zero (suc j) d lt within =
      all_new (earlier ++ x ∷ []) xs (new_key earlier x xs h).1 x (Contains-push earlier x) (get_or xs j d) (Contains-get_or xs j d (omega (arith, within)))
  distinct earlier (x ∷ xs) h (suc i) zero d lt within = absurd (omega (arith, lt))
  distinct earlier (x ∷ xs) h (suc i) (suc j) d lt within = distinct (earlier ++ x ∷ []) xs (new_key earlier x xs h).1 i j d (omega (arith, lt)) (omega (arith, within))

right_number : (n : ℕ) → wrong_number n ≡ None → (1 ≤ n) × (n ≤ OPERATIONS)
right_number n h = go ((n == 0) || nat_lt OPERATIONS n) refl h
  where
    go : (b : Bool) → ((n == 0) || nat_lt OPERATIONS n) ≡ b → cond b (Some (NoneOrTooMany n)) None ≡ None → (1 ≤ n) × (n ≤ OPERATIONS)
    go true is h = cc
    go false is h = let parts = neither (n == 0) (nat_lt OPERATIONS n) is in (grind (arith, nat_tests, parts.0), grind (arith, nat_tests, parts.1))

-- no open lease has a key that none names
unnamed : (open_leases : FinMap lease_cmp Operations) (key : ClaimKey) → lease_naming open_leases key ≡ None → (other : LeaseId) (theirs : Operations) → get open_leases other ≡ Some theirs → Contains (keys_of theirs) key → ⊥
unnamed open_leases key none other theirs is c =
    let nobody = no_value (λ (e : LeaseId × Operations). e.0) (find (λ (e : LeaseId × Operations). names e.1 key) (entries open_leases)) none in
    let passes = each_passes (λ (o : Operations). not (names o key)) open_leases other theirs (all_others (λ (e : LeaseId × Operations). names e.1 key) (entries open_leases) nobody) is in
    let other_key = none_any (λ k. key_eq k key) (keys_of theirs) key (false_of_not (names theirs key) passes) c in
    apart key key other_key refl

module _ (s : LeaseState) (cell : ℕ) where
  unheld : (o : Option Holding) (by : Option LeaseId) (at : ℕ) → create_refusal o by at ≡ None → (o ≡ None) × (by ≡ None)
  unheld None None at h = (refl, refl)
  unheld None (Some lease) at h = cc
  unheld (Some holding) by at h = cc

  each_create : (at : ℕ) (cs : List Create) (c : Create) → creates_refusal s at cs ≡ None → Contains cs c → (get s.holder c.key ≡ None) × (lease_naming s.open_leases c.key ≡ None)
  each_create at [] c h is = absurd (nowhere c is)
  each_create at (x ∷ xs) c h is =
      let parts = both_none (create_refusal (get s.holder x.key) (lease_naming s.open_leases x.key) at) (creates_refusal s (at + 1) xs) h in
      elim (here_or_later x xs c is) [
        | inl e ↦ subst (λ (z : Create). (get s.holder z.key ≡ None) × (lease_naming s.open_leases z.key ≡ None)) e (unheld (get s.holder x.key) (lease_naming s.open_leases x.key) at parts.0)
        | inr later ↦ each_create (at + 1) xs c parts.1 later
      ]

  unblocked : (by : Option LeaseId) (at : ℕ) → blocked_by by at ≡ None → by ≡ None
  unblocked None at h = refl
  unblocked (Some lease) at h = cc

  held_here : (o : Option Holding) (by : Option LeaseId) (at : ℕ) → destroy_refusal cell o by at ≡ None → ((h : Holding) × (o ≡ Some h) × (h.cell ≡ cell)) × (by ≡ None)
  held_here None by at h = cc
  held_here (Some holding) by at h = go (nat_eq holding.cell cell) refl h
    where
      go : (b : Bool) → nat_eq holding.cell cell ≡ b → cond b (blocked_by by at) (Some (NotOwned at)) ≡ None → ((h : Holding) × (Some holding ≡ Some h) × (h.cell ≡ cell)) × (by ≡ None)
      go true is free = ((holding, refl, (Decides-eqb holding.cell cell).0 is), unblocked by at free)
      go false is free = cc

  each_destroy : (at : ℕ) (ks : List ClaimKey) (k : ClaimKey) → destroys_refusal s cell at ks ≡ None → Contains ks k → ((h : Holding) × (get s.holder k ≡ Some h) × (h.cell ≡ cell)) × (lease_naming s.open_leases k ≡ None)
  each_destroy at [] k h is = absurd (nowhere k is)
  each_destroy at (x ∷ xs) k h is =
      let parts = both_none (destroy_refusal cell (get s.holder x) (lease_naming s.open_leases x) at) (destroys_refusal s cell (at + 1) xs) h in
      elim (here_or_later x xs k is) [
        | inl e ↦ subst (λ (z : ClaimKey). ((h : Holding) × (get s.holder z ≡ Some h) × (h.cell ≡ cell)) × (lease_naming s.open_leases z ≡ None)) e (held_here (get s.holder x) (lease_naming s.open_leases x) at parts.0)
        | inr later ↦ each_destroy (at + 1) xs k parts.1 later
      ]

pub fresh_may_begin : (s : LeaseState) (ranges : List Range) (lease : LeaseId) (ops : Operations) → verdict_of s ranges lease ops ≡ Fresh → MayBegin s ranges lease ops
fresh_may_begin s ranges lease ops fresh =
    let said = says_fresh s ranges lease ops fresh in
    let number = both_none (wrong_number (operation_count ops)) _ said.reason in
    let once = both_none (option_map Twice (first_repeated [] (keys_of ops))) _ number.1 in
    let own = both_none (foreign ranges lease.cell ops.creates) _ once.1 in
    let few = both_none (too_many_open (open_count s.open_leases lease.cell)) _ own.1 in
    let free = both_none (creates_refusal s 0 ops.creates) (destroys_refusal s lease.cell (length ops.creates) ops.destroys) few.1 in
    let right = right_number (operation_count ops) number.0 in
    let unleased : (key : ClaimKey) → Contains (keys_of ops) key → lease_naming s.open_leases key ≡ None = λ key c.
    elim (Contains-append_cases (map (λ (c : Create). c.key) ops.creates) ops.destroys key c) [
      | inl created ↦ let found = of_map (λ (c : Create). c.key) ops.creates key created in subst (λ k. lease_naming s.open_leases k ≡ None) found.2 (each_create s lease.cell 0 ops.creates found.0 free.0 found.1).1
      | inr destroyed ↦ (each_destroy s lease.cell (length ops.creates) ops.destroys key free.1 destroyed).1
    ] in
    record {
      unsettled = said.settled;
      closed = said.closed;
      well_formed = record { some = right.0; not_too_many = right.1; distinct = distinct [] (keys_of ops) (no_value Twice (first_repeated [] (keys_of ops)) once.0) };
      free = record {
        unheld = λ c is. (each_create s lease.cell 0 ops.creates c free.0 is).0;
        held_here = λ key is. (each_destroy s lease.cell (length ops.creates) ops.destroys key free.1 is).0;
        unleased = λ key is. unnamed s.open_leases key (unleased key is);
        own_rows = λ c is. true_of_not _ (none_found (λ (x : Create). not (covers ranges lease.cell x.origin.row)) ops.creates c (no_value (λ (x : Create). ForeignId x.origin.row) _ own.0) is);
      };
    }

-- and its cell has room for one more open lease
pub fresh_has_room : (s : LeaseState) (ranges : List Range) (lease : LeaseId) (ops : Operations) → verdict_of s ranges lease ops ≡ Fresh → open_count s.open_leases lease.cell < OPEN_LEASES
fresh_has_room s ranges lease ops fresh =
    let said = says_fresh s ranges lease ops fresh in
    let number = both_none (wrong_number (operation_count ops)) _ said.reason in
    let once = both_none (option_map Twice (first_repeated [] (keys_of ops))) _ number.1 in
    let own = both_none (foreign ranges lease.cell ops.creates) _ once.1 in
    few (open_count s.open_leases lease.cell) (both_none (too_many_open (open_count s.open_leases lease.cell)) _ own.1).0
  where
    few : (n : ℕ) → too_many_open n ≡ None → n < OPEN_LEASES
    few n h = go (nat_le OPEN_LEASES n) refl h
      where
        go : (b : Bool) → nat_le OPEN_LEASES n ≡ b → cond b (Some TooManyOpen) None ≡ None → n < OPEN_LEASES
        go true is h = absurd cc
        go false is h = grind (arith, nat_tests, is)
