-- Well-formed operations with rows of their own are refused for the lease, the number of open leases, or a key alone.
use Rattle.std.proofs.Common.{◌≡◌, ◌≢◌, ◌⊎◌, inl, inr, ℕ, suc, ◌+◌, ◌≤◌, Bool, true, false, not, ◌||◌, ◌==◌, cond, nat_eq, nat_lt, nat_le, List, [], ◌∷◌, ◌++◌, length, Option, Some, None, option_map, refl, sym, ◌∙◌, ap, subst, arith}
use Rattle.std.specs.List.{Contains, AllPairs, list_any}
use Rattle.std.specs.FinMap as map
use Rattle.std.proofs.lemmas.Bool.Decides.{nat_tests}
use Rattle.std.proofs.lemmas.List.Elements.{Contains-push_cases}
use Rattle.cells_base.specs.Options.{◌or_else◌}
use Rattle.cells_base.proofs.Truth.{not_true}
use Rattle.cells_base.proofs.Members.{here, later}
use Rattle.claim_types.specs.Order.{key_eq, operations_eq}
use Rattle.claim_types.specs.Operations.{keys_of, operation_count, AreWellFormed}
use Rattle.claim_types.proofs.Equal.{Decides-key, Decides-operations}
use Rattle.claim_types.specs.declared.key.ClaimKey.{ClaimKey}
use Rattle.claim_types.specs.declared.lease.LeaseId.{LeaseId}
use Rattle.claim_types.specs.declared.lease.Holding.{Holding}
use Rattle.claim_types.specs.declared.lease.How.{How}
use Rattle.claim_types.specs.declared.operations.Create.{Create}
use Rattle.claim_types.specs.declared.operations.Operations.{Operations}
use Rattle.claim_types.specs.declared.cell.Range.{Range}
use Rattle.claim_types.specs.declared.limits.TheConstants.{OPERATIONS, OPEN_LEASES}
use Rattle.claim_types.specs.declared.verdict.Refusal.{Refusal}
use Rattle.claim_types.specs.declared.verdict.Refusal.TheVariants.{Settled, OtherOperations, NoneOrTooMany, Twice, ForeignId, TooManyOpen, Owned, Leased, NotOwned}
use Rattle.claim_types.specs.declared.verdict.Verdict.TheVariants.{Again, Refused}
use Rattle.claim_map.specs.State.{LeaseState, covers}
use Rattle.claim_map.specs.Due.{denial_of}
use Rattle.claim_map.specs.Verdict.{lease_naming, open_count, wrong_number, first_repeated, foreign, too_many_open, blocked_by, create_refusal, destroy_refusal, creates_refusal, destroys_refusal, refusal_of, fresh_unless, begun_before, settled_before}
use Rattle.cells_base.proofs.Finds.{any_none, find_none}
use Rattle.claim_laws.specs.Lives.{RowsAreOwn}
use Rattle.claim_laws.specs.Facts.{MayDeny}

-- the first of two, or the second
either_refuses : (a b : Option Refusal) (reason : Refusal) → (a or_else b) ≡ Some reason → (a ≡ Some reason) ⊎ (b ≡ Some reason)
either_refuses None b reason h = inr h
either_refuses (Some r) b reason h = inl h

behind_none : (a b : Option Refusal) → a ≡ None → (a or_else b) ≡ b
behind_none a b none = ap (λ o. o or_else b) none

-- the number is right
right_number : (n : ℕ) → 1 ≤ n → n ≤ OPERATIONS → wrong_number n ≡ None
right_number n some few =
    let right : (n == 0 || nat_lt OPERATIONS n) ≡ false = grind (arith, nat_tests, some, few) in
    ap (λ b. cond b (Some (NoneOrTooMany n)) None) right

-- no key stood earlier
none_repeated : (earlier keys : List ClaimKey) → ((e k : ClaimKey) → Contains earlier e → Contains keys k → e ≢ k) → AllPairs (λ a b. a ≢ b) keys → first_repeated earlier keys ≡ None
none_repeated earlier [] apart distinct = refl
none_repeated earlier (key ∷ keys) apart distinct =
    let fails : list_any (λ k. key_eq k key) earlier ≡ false = any_none (λ k. key_eq k key) earlier (λ e is. not_true (key_eq e key) (λ same. apart e key is (here key keys) ((Decides-key e key).0 same))) in
    ap (λ b. cond b (Some (length earlier)) (first_repeated (earlier ++ key ∷ []) keys)) fails ∙ none_repeated (earlier ++ key ∷ []) keys apart_more rest
  where
    apart_more : (e k : ClaimKey) → Contains (earlier ++ key ∷ []) e → Contains keys k → e ≢ k
    apart_more e k is there = elim (Contains-push_cases earlier key e is) [
      | inl old ↦ apart e k old (later key keys k there)
      | inr new ↦ λ same. distinct 0 (suc there.0) k (omega arith) (let lt = there.1 in omega (arith, lt)) (new ∙ same ∙ sym there.2)
    ]

    rest : AllPairs (λ a b. a ≢ b) keys
    rest i j d lt within = distinct (suc i) (suc j) d (omega (arith, lt)) (omega (arith, within))

-- each row is in a range of the cell
none_foreign : (ranges : List Range) (cell : ℕ) (ops : Operations) → RowsAreOwn ranges cell ops → foreign ranges cell ops.creates ≡ None
none_foreign ranges cell ops own = ap (option_map (λ (c : Create). ForeignId c.origin.row)) (find_none (λ (c : Create). not (covers ranges cell c.origin.row)) ops.creates (λ c is. ap not (own c is)))

module _ (s : LeaseState) (ranges : List Range) (lease : LeaseId) (ops : Operations) where
  abbrev Allowed : Refusal → Type 0
  Allowed reason = MayDeny (denial_of ops reason)

  too_many : (n : ℕ) (reason : Refusal) → too_many_open n ≡ Some reason → Allowed reason
  too_many n reason h = go (nat_le OPEN_LEASES n) h
    where
      go : (b : Bool) → cond b (Some TooManyOpen) None ≡ Some reason → Allowed reason
      go true is = let same : TooManyOpen ≡ reason = cc in subst Allowed same tt
      go false is = absurd cc

  blocked : (by : Option LeaseId) (at : ℕ) (reason : Refusal) → blocked_by by at ≡ Some reason → Allowed reason
  blocked None at reason h = absurd cc
  blocked (Some other) at reason h = let same : Leased at other ≡ reason = cc in subst Allowed same tt

  of_create : (h : Option Holding) (by : Option LeaseId) (at : ℕ) (reason : Refusal) → create_refusal h by at ≡ Some reason → Allowed reason
  of_create (Some held) by at reason h = let same : Owned at held.cell ≡ reason = cc in subst Allowed same tt
  of_create None by at reason h = blocked by at reason h

  of_destroy : (cell : ℕ) (h : Option Holding) (by : Option LeaseId) (at : ℕ) (reason : Refusal) → destroy_refusal cell h by at ≡ Some reason → Allowed reason
  of_destroy cell None by at reason h = let same : NotOwned at ≡ reason = cc in subst Allowed same tt
  of_destroy cell (Some held) by at reason h = go (nat_eq held.cell cell) h
    where
      go : (b : Bool) → cond b (blocked_by by at) (Some (NotOwned at)) ≡ Some reason → Allowed reason
      go true is = blocked by at reason is
      go false is = let same : NotOwned at ≡ reason = cc in subst Allowed same tt

  of_creates : (at : ℕ) (cs : List Create) (reason : Refusal) → creates_refusal s at cs ≡ Some reason → Allowed reason
  of_creates at [] reason h = absurd cc
  of_creates at (c ∷ cs) reason h = elim (either_refuses (create_refusal (map.get s.holder c.key) (lease_naming s.open_leases c.key) at) (creates_refusal s (at + 1) cs) reason h) [
    | inl first ↦ of_create (map.get s.holder c.key) (lease_naming s.open_leases c.key) at reason first
    | inr rest ↦ of_creates (at + 1) cs reason rest
  ]

  of_destroys : (cell at : ℕ) (ks : List ClaimKey) (reason : Refusal) → destroys_refusal s cell at ks ≡ Some reason → Allowed reason
  of_destroys cell at [] reason h = absurd cc
  of_destroys cell at (k ∷ ks) reason h = elim (either_refuses (destroy_refusal cell (map.get s.holder k) (lease_naming s.open_leases k) at) (destroys_refusal s cell (at + 1) ks) reason h) [
    | inl first ↦ of_destroy cell (map.get s.holder k) (lease_naming s.open_leases k) at reason first
    | inr rest ↦ of_destroys cell (at + 1) ks reason rest
  ]

  module _ (formed : AreWellFormed ops) (own : RowsAreOwn ranges lease.cell ops) where
    abbrev behind : Option Refusal
    behind = too_many_open (open_count s.open_leases lease.cell) or_else creates_refusal s 0 ops.creates or_else destroys_refusal s lease.cell (length ops.creates) ops.destroys

    rest_only : refusal_of s ranges lease ops ≡ behind
    rest_only =
        behind_none (wrong_number (operation_count ops)) _ (right_number (operation_count ops) formed.some formed.not_too_many)
        ∙ behind_none (option_map Twice (first_repeated [] (keys_of ops))) _ (ap (option_map Twice) (none_repeated [] (keys_of ops) (λ e k none is. absurd (let lt = none.1 in omega (arith, lt))) formed.distinct))
        ∙ behind_none (foreign ranges lease.cell ops.creates) _ (none_foreign ranges lease.cell ops own)

    of_refusal : (reason : Refusal) → refusal_of s ranges lease ops ≡ Some reason → Allowed reason
    of_refusal reason h = elim (either_refuses (too_many_open (open_count s.open_leases lease.cell)) _ reason (sym rest_only ∙ h)) [
      | inl many ↦ too_many (open_count s.open_leases lease.cell) reason many
      | inr keys ↦ elim (either_refuses (creates_refusal s 0 ops.creates) (destroys_refusal s lease.cell (length ops.creates) ops.destroys) reason keys) [
        | inl creates ↦ of_creates 0 ops.creates reason creates
        | inr destroys ↦ of_destroys lease.cell (length ops.creates) ops.destroys reason destroys
      ]
    ]

    of_fresh : (o : Option Refusal) (reason : Refusal) → fresh_unless o ≡ Refused reason → o ≡ Some reason
    of_fresh None reason h = absurd cc
    of_fresh (Some r) reason h = cc

    of_begun : (mine : Option Operations) → ((theirs : Operations) → mine ≡ Some theirs → theirs ≡ ops) → (reason : Refusal) → begun_before mine ops (fresh_unless (refusal_of s ranges lease ops)) ≡ Refused reason → Allowed reason
    of_begun None same reason h = of_refusal reason (of_fresh (refusal_of s ranges lease ops) reason h)
    of_begun (Some mine) same reason h =
        let equal : operations_eq mine ops ≡ true = (Decides-operations mine ops).1 (same mine refl) in
        let both : Again ≡ Refused reason = sym (ap (λ b. cond b Again (Refused OtherOperations)) equal) ∙ h in
        absurd cc

    -- what a begin of these operations is refused for, where its lease is open with no others
    pub may_deny : (how : Option How) (mine : Option Operations) → ((theirs : Operations) → mine ≡ Some theirs → theirs ≡ ops) → (reason : Refusal) →
        settled_before how (begun_before mine ops (fresh_unless (refusal_of s ranges lease ops))) ≡ Refused reason → MayDeny (denial_of ops reason)
    may_deny None mine same reason h = of_begun mine same reason h
    may_deny (Some how) mine same reason h = let is : Settled how ≡ reason = cc in subst Allowed is tt
