-- A refusal is within bounds: it names places that the operations have, leases that are open and cells that hold.
use Rattle.std.proofs.Common.{◌≡◌, ℕ, ◌+◌, ◌<◌, ◌≤◌, Bool, true, false, not, ◌||◌, ◌==◌, nat_lt, nat_le, nat_eq, cond, List, [], ◌∷◌, ◌++◌, length, map as maps, Option, Some, None, option_map, refl, ◌∙◌, ap, arith}
use Rattle.std.specs.List.{All, find, list_any}
use Rattle.std.specs.FinMap as map
use Rattle.std.proofs.lemmas.List.{length-append, length-map}
use Rattle.cells_base.specs.Options.{◌or_else◌}
use Rattle.claim_types.specs.Bounds.{IsNumber, IsCell, IsCreate, AreOperations}
use Rattle.claim_types.specs.Leases.{IsLease}
use Rattle.claim_types.specs.Order.{lease_cmp, key_eq, operations_eq}
use Rattle.claim_types.specs.Operations.{keys_of, operation_count}
use Rattle.claim_types.specs.declared.limits.TheConstants.{OPERATIONS, OPEN_LEASES}
use Rattle.claim_types.proofs.Ordered.{leases_total}
use Rattle.claim_types.specs.declared.key.ClaimKey.{ClaimKey}
use Rattle.claim_types.specs.declared.lease.LeaseId.{LeaseId}
use Rattle.claim_types.specs.declared.lease.Holding.{Holding}
use Rattle.claim_types.specs.declared.lease.How.{How}
use Rattle.claim_types.specs.declared.operations.Create.{Create}
use Rattle.claim_types.specs.declared.operations.Operations.{Operations}
use Rattle.claim_types.specs.declared.cell.Range.{Range}
use Rattle.claim_types.specs.declared.verdict.Refusal.{Refusal}
use Rattle.claim_types.specs.declared.verdict.Refusal.TheVariants.{Settled, OtherOperations, NoneOrTooMany, Twice, ForeignId, TooManyOpen, Owned, Leased, NotOwned}
use Rattle.claim_types.specs.declared.verdict.Verdict.{Verdict}
use Rattle.claim_types.specs.declared.verdict.Verdict.TheVariants.{Fresh, Again, Refused}
use Rattle.cells_base.proofs.Entries.{get-found}
use Rattle.claim_map.specs.State.{LeaseState, covers}
use Rattle.claim_map.specs.Verdict.{names, lease_naming, open_count, wrong_number, first_repeated, foreign, too_many_open, blocked_by, create_refusal, destroy_refusal, creates_refusal, destroys_refusal, refusal_of, fresh_unless, begun_before, settled_before, verdict_of}
use Rattle.claim_map.proofs.Found.{All-found}

-- among so many operations
abbrev pub IsRefusal : ℕ → Refusal → Type 0
IsRefusal total (Settled how) = Unit {0}
IsRefusal total OtherOperations = Unit {0}
IsRefusal total (NoneOrTooMany n) = IsNumber n
IsRefusal total (Twice at) = at < total
IsRefusal total (ForeignId id) = IsNumber id
IsRefusal total TooManyOpen = Unit {0}
IsRefusal total (Owned at cell) = (at < total) × IsCell cell
IsRefusal total (Leased at by) = (at < total) × IsLease by
IsRefusal total (NotOwned at) = at < total

abbrev pub IsAnyRefusal : ℕ → Option Refusal → Type 0
IsAnyRefusal total None = Unit {0}
IsAnyRefusal total (Some reason) = IsRefusal total reason

abbrev pub IsVerdict : ℕ → Verdict → Type 0
IsVerdict total Fresh = Unit {0}
IsVerdict total Again = Unit {0}
IsVerdict total (Refused reason) = IsRefusal total reason

abbrev IsAnyLease : Option LeaseId → Type 0
IsAnyLease None = Unit {0}
IsAnyLease (Some lease) = IsLease lease

module _ (total : ℕ) where
  either : (a b : Option Refusal) → IsAnyRefusal total a → IsAnyRefusal total b → IsAnyRefusal total (a or_else b)
  either None b p q = q
  either (Some reason) b p q = p

  chosen : (b : Bool) (x y : Option Refusal) → IsAnyRefusal total x → IsAnyRefusal total y → IsAnyRefusal total (cond b x y)
  chosen true x y p q = p
  chosen false x y p q = q

  by_number : (n : ℕ) → IsNumber n → IsAnyRefusal total (wrong_number n)
  by_number n is = chosen (n == 0 || nat_lt OPERATIONS n) (Some (NoneOrTooMany n)) None is tt

  by_count : (n : ℕ) → IsAnyRefusal total (too_many_open n)
  by_count n = chosen (nat_le OPEN_LEASES n) (Some TooManyOpen) None tt tt

  -- a key that stood earlier
  one_twice : (b : Bool) (at : ℕ) (rest : Option ℕ) → at < total → IsAnyRefusal total (option_map Twice rest) → IsAnyRefusal total (option_map Twice (cond b (Some at) rest))
  one_twice true at rest lt p = lt
  one_twice false at rest lt p = p

  by_twice : (earlier keys : List ClaimKey) → length earlier + length keys ≤ total → IsAnyRefusal total (option_map Twice (first_repeated earlier keys))
  by_twice earlier [] le = tt
  by_twice earlier (key ∷ keys) le =
      let longer : length (earlier ++ key ∷ []) ≡ length earlier + 1 = length-append {A = ClaimKey} earlier (key ∷ []) in
      one_twice (list_any (λ k. key_eq k key) earlier) (length earlier) (first_repeated (earlier ++ key ∷ []) keys) (omega (arith, le)) (by_twice (earlier ++ key ∷ []) keys (omega (arith, le, longer)))

  -- a row that the cell was not given
  one_foreign : (found : Option Create) → ((c : Create) → found ≡ Some c → IsCreate c) → IsAnyRefusal total (option_map (λ (c : Create). ForeignId c.origin.row) found)
  one_foreign None is = tt
  one_foreign (Some c) is = omega (arith, (is c refl).origin.row.1)

  by_foreign : (ranges : List Range) (cell : ℕ) (creates : List Create) → All IsCreate creates → IsAnyRefusal total (foreign ranges cell creates)
  by_foreign ranges cell creates all = one_foreign (find (λ (c : Create). not (covers ranges cell c.origin.row)) creates) (λ c is. All-found IsCreate (λ (c : Create). not (covers ranges cell c.origin.row)) creates c all is)

  by_block : (by : Option LeaseId) (at : ℕ) → at < total → IsAnyLease by → IsAnyRefusal total (blocked_by by at)
  by_block None at lt p = tt
  by_block (Some lease) at lt p = (lt, p)

  by_create : (h : Option Holding) (by : Option LeaseId) (at : ℕ) → at < total → ((x : Holding) → h ≡ Some x → IsCell x.cell) → IsAnyLease by → IsAnyRefusal total (create_refusal h by at)
  by_create None by at lt held p = by_block by at lt p
  by_create (Some h) by at lt held p = (lt, held h refl)

  by_destroy : (cell : ℕ) (h : Option Holding) (by : Option LeaseId) (at : ℕ) → at < total → IsAnyLease by → IsAnyRefusal total (destroy_refusal cell h by at)
  by_destroy cell None by at lt p = lt
  by_destroy cell (Some h) by at lt p = chosen (nat_eq h.cell cell) (blocked_by by at) (Some (NotOwned at)) (by_block by at lt p) lt

-- the lease that names a key is open
named : (open_leases : map.FinMap lease_cmp Operations) → ((lease : LeaseId) (ops : Operations) → map.get open_leases lease ≡ Some ops → IsLease lease) → (test : LeaseId × Operations → Bool) (found : Option (LeaseId × Operations)) → find test (map.entries open_leases) ≡ found → IsAnyLease (option_map (λ (e : LeaseId × Operations). e.0) found)
named open_leases each test None is = tt
named open_leases each test (Some e) is = each e.0 e.1 (get-found leases_total open_leases test e is)

pub length-keys_of : (ops : Operations) → length (keys_of ops) ≡ operation_count ops
length-keys_of ops = length-append {A = ClaimKey} (maps (λ (c : Create). c.key) ops.creates) ops.destroys ∙ ap (λ n. n + length ops.destroys) (length-map ops.creates (λ (c : Create). c.key))

module _ (s : LeaseState) (opened : (lease : LeaseId) (ops : Operations) → map.get s.open_leases lease ≡ Some ops → IsLease lease) (held : (key : ClaimKey) (h : Holding) → map.get s.holder key ≡ Some h → IsCell h.cell) where
  by_name : (key : ClaimKey) → IsAnyLease (lease_naming s.open_leases key)
  by_name key = named s.open_leases opened (λ (e : LeaseId × Operations). names e.1 key) (find (λ (e : LeaseId × Operations). names e.1 key) (map.entries s.open_leases)) refl

  by_creates : (total at : ℕ) (creates : List Create) → at + length creates ≤ total → IsAnyRefusal total (creates_refusal s at creates)
  by_creates total at [] le = tt
  by_creates total at (c ∷ cs) le =
      either total (create_refusal (map.get s.holder c.key) (lease_naming s.open_leases c.key) at) (creates_refusal s (at + 1) cs)
      (by_create total (map.get s.holder c.key) (lease_naming s.open_leases c.key) at (omega (arith, le)) (held c.key) (by_name c.key))
      (by_creates total (at + 1) cs (omega (arith, le)))

  by_destroys : (total cell at : ℕ) (keys : List ClaimKey) → at + length keys ≤ total → IsAnyRefusal total (destroys_refusal s cell at keys)
  by_destroys total cell at [] le = tt
  by_destroys total cell at (k ∷ ks) le =
      either total (destroy_refusal cell (map.get s.holder k) (lease_naming s.open_leases k) at) (destroys_refusal s cell (at + 1) ks)
      (by_destroy total cell (map.get s.holder k) (lease_naming s.open_leases k) at (omega (arith, le)) (by_name k))
      (by_destroys total cell (at + 1) ks (omega (arith, le)))

  by_refusal : (ranges : List Range) (lease : LeaseId) (ops : Operations) → AreOperations ops → IsAnyRefusal (operation_count ops) (refusal_of s ranges lease ops)
  by_refusal ranges lease ops are =
      let n = operation_count ops in
      let twice = option_map Twice (first_repeated [] (keys_of ops)) in
      let rows = foreign ranges lease.cell ops.creates in
      let count = too_many_open (open_count s.open_leases lease.cell) in
      let creates = creates_refusal s 0 ops.creates in
      let destroys = destroys_refusal s lease.cell (length ops.creates) ops.destroys in
      let places : 0 + length (keys_of ops) ≤ n = omega (arith, length-keys_of ops) in
      either n (wrong_number n) (twice or_else rows or_else count or_else creates or_else destroys) (by_number n n are.number)
      (either n twice (rows or_else count or_else creates or_else destroys) (by_twice n [] (keys_of ops) places)
      (either n rows (count or_else creates or_else destroys) (by_foreign n ranges lease.cell ops.creates are.creates)
      (either n count (creates or_else destroys) (by_count n (open_count s.open_leases lease.cell))
      (either n creates destroys (by_creates n 0 ops.creates (omega arith)) (by_destroys n lease.cell (length ops.creates) ops.destroys (omega arith))))))

  unless : (total : ℕ) (reason : Option Refusal) → IsAnyRefusal total reason → IsVerdict total (fresh_unless reason)
  unless total None p = tt
  unless total (Some reason) p = p

  same_or_other : (total : ℕ) (b : Bool) → IsVerdict total (cond b Again (Refused OtherOperations))
  same_or_other total true = tt
  same_or_other total false = tt

  before : (total : ℕ) (mine : Option Operations) (ops : Operations) (otherwise : Verdict) → IsVerdict total otherwise → IsVerdict total (begun_before mine ops otherwise)
  before total None ops otherwise p = p
  before total (Some mine) ops otherwise p = same_or_other total (operations_eq mine ops)

  ended : (total : ℕ) (how : Option How) (otherwise : Verdict) → IsVerdict total otherwise → IsVerdict total (settled_before how otherwise)
  ended total None otherwise p = p
  ended total (Some how) otherwise p = tt

  pub verdict_bounds : (ranges : List Range) (lease : LeaseId) (ops : Operations) → AreOperations ops → IsVerdict (operation_count ops) (verdict_of s ranges lease ops)
  verdict_bounds ranges lease ops are =
      let n = operation_count ops in
      ended n (map.get s.settled lease) _ (before n (map.get s.open_leases lease) ops _ (unless n (refusal_of s ranges lease ops) (by_refusal ranges lease ops are)))
