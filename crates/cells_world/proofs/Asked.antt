-- What a cell sends is within its bounds.
use Rattle.std.proofs.Common.{◌≡◌, inl, inr, ℕ, ◌-◌, Bool, true, false, ◌&&◌, nat_eq, cond, List, [], ◌∷◌, length, Option, Some, None, refl, subst}
use Rattle.std.specs.List.{Contains, slice_get, flat_map}
use Rattle.std.specs.FinMap as map
use Rattle.std.proofs.lemmas.List.Elements.{Contains-append_cases}
use Rattle.cells_base.proofs.Members.{nowhere, only, here, later, at_place}
use Rattle.claim_types.specs.Bounds.{IsCell}
use Rattle.claim_types.specs.Leases.{IsLease}
use Rattle.claim_types.specs.MessageBounds.{IsRequest, IsReply}
use Rattle.claim_types.specs.declared.cell.Range.{Range}
use Rattle.claim_types.specs.declared.entry.CellEntry.TheVariants.{Got}
use Rattle.claim_types.specs.declared.lease.LeaseId.{LeaseId}
use Rattle.claim_types.specs.declared.operations.Operations.{Operations}
use Rattle.claim_types.specs.declared.page.LeasePage.{LeasePage}
use Rattle.claim_types.specs.declared.rule.Attempt.{Attempt}
use Rattle.claim_types.specs.declared.verdict.Denial.{Denial}
use Rattle.claim_types.specs.declared.message.Request.TheVariants.{Commit, Rollback, List as ListRequest}
use Rattle.claim_types.specs.declared.message.Reply.{Reply}
use Rattle.claim_types.specs.declared.message.Reply.TheVariants.{Begun, Committed, RolledBack, Leases, Ranged, Claims, Classified, Page, NoCell}
use Rattle.claim_types.specs.declared.message.BegunResult.TheVariants.{Good, Denied}
use Rattle.claim_types.specs.declared.message.CommittedResult.TheVariants.{Good as CommittedGood, Unknown, WasRolledBack}
use Rattle.claim_types.specs.declared.message.RangedResult.TheVariants.{Good as RangedGood, UnknownCell, TooFar, Exhausted}
use Rattle.claim_map.specs.State.{Tree}
use Rattle.claim_map.proofs.Found.{All-contained}
use Rattle.claim_laws.specs.Nodes.{Agent, with_range, hears, hears_good, hears_denied, hears_committed, hears_page, passes_over, makes_change, gives_up, still_fits, requests_for, requests_for_listed, next_page, is_next}
use Rattle.cells_world.specs.Post.{AreRequests}

module _ (cell : ℕ) (tree : Tree) (a : Agent) where
  good_if : (lease : LeaseId) (attempt : Attempt) → IsLease lease → (b : Bool) → AreRequests (cond b (makes_change tree a lease attempt) (gives_up tree a lease attempt)).sends
  good_if lease attempt is true = λ r there. subst IsRequest (only (Commit lease) r there) is
  good_if lease attempt is false = λ r there. subst IsRequest (only (Rollback lease) r there) is

  good : (lease : LeaseId) → IsLease lease → (o : Option Attempt) → AreRequests (hears_good tree a lease o).sends
  good lease is None = λ r there. absurd (nowhere r there)
  good lease is (Some attempt) = good_if lease attempt is (still_fits tree a.known attempt.change attempt.ops)

  denied : (lease : LeaseId) (denial : Denial) (o : Option Attempt) → AreRequests (hears_denied tree a lease denial o).sends
  denied lease denial None = λ r there. absurd (nowhere r there)
  denied lease denial (Some attempt) = λ r there. absurd (nowhere r there)

  settles : (lease : LeaseId) (o : Option Operations) → AreRequests (hears_committed tree a lease o).sends
  settles lease None = λ r there. absurd (nowhere r there)
  settles lease (Some ops) = λ r there. absurd (nowhere r there)

  ranged : (range : Range) (b : Bool) → AreRequests (cond b (record (passes_over tree a) { entry = Some (Got range.number range.low range.high); agent = with_range a range }) (passes_over tree a)).sends
  ranged range true = λ r there. absurd (nowhere r there)
  ranged range false = λ r there. absurd (nowhere r there)

  for_lease : (l : LeaseId) → IsLease l → (row : Option Operations) (waits : Option Attempt) → AreRequests (requests_for l row waits)
  for_lease l is (Some ops) waits = λ r there. subst IsRequest (only (Commit l) r there) is
  for_lease l is None (Some attempt) = λ r there. absurd (nowhere r there)
  for_lease l is None None = λ r there. subst IsRequest (only (Rollback l) r there) is

  for_listed : (l : LeaseId) → IsLease l → (b : Bool) → AreRequests (cond b (requests_for l (map.get a.rows l) (map.get a.pending l)) [])
  for_listed l is true = for_lease l is (map.get a.rows l) (map.get a.pending l)
  for_listed l is false = λ r there. absurd (nowhere r there)

  for_all : (ls : List LeaseId) → ((l : LeaseId) → Contains ls l → IsLease l) → AreRequests (flat_map (requests_for_listed cell a) ls)
  for_all [] each r there = absurd (nowhere r there)
  for_all (l ∷ ls) each r there = elim (Contains-append_cases (requests_for_listed cell a l) (flat_map (requests_for_listed cell a) ls) r there) [
    | inl first ↦ for_listed l (each l (here l ls)) (nat_eq l.cell cell) r first
    | inr rest ↦ for_all ls (λ q is. each q (later l ls q is)) r rest
  ]

  for_next : IsCell cell → (more : Bool) (last : Option LeaseId) → ((l : LeaseId) → last ≡ Some l → IsLease l) → AreRequests (next_page cell more last)
  for_next is_cell true (Some last) is = λ r there. subst IsRequest (only (ListRequest cell (Some last)) r there) (is_cell, is last refl)
  for_next is_cell true None is = λ r there. absurd (nowhere r there)
  for_next is_cell false last is = λ r there. absurd (nowhere r there)

  listed : IsCell cell → (page : LeasePage) → ((l : LeaseId) → Contains page.leases l → IsLease l) → AreRequests (hears_page cell tree a page).sends
  listed is_cell page each r there = elim (Contains-append_cases (flat_map (requests_for_listed cell a) page.leases) (next_page cell page.more (slice_get page.leases (length page.leases - 1))) r there) [
    | inl first ↦ for_all page.leases each r first
    | inr next ↦ for_next is_cell page.more (slice_get page.leases (length page.leases - 1)) (λ l is. each l (at_place page.leases (length page.leases - 1) l is)) r next
  ]

  pub sends_bounds : IsCell cell → (reply : Reply) → IsReply reply → AreRequests (hears cell tree a reply).sends
  sends_bounds is_cell (Begun lease Good) is = good lease is.0 (map.get a.pending lease)
  sends_bounds is_cell (Begun lease (Denied denial)) is = denied lease denial (map.get a.pending lease)
  sends_bounds is_cell (Committed lease CommittedGood) is = settles lease (map.get a.rows lease)
  sends_bounds is_cell (Committed lease Unknown) is = λ r there. absurd (nowhere r there)
  sends_bounds is_cell (Committed lease WasRolledBack) is = λ r there. absurd (nowhere r there)
  sends_bounds is_cell (RolledBack lease result) is = λ r there. absurd (nowhere r there)
  sends_bounds is_cell (Leases of page) is = listed is_cell page (λ l there. All-contained IsLease page.leases l is.1 there)
  sends_bounds is_cell (Ranged of number (RangedGood low high)) is = ranged (record { cell = of; number = number; low = low; high = high }) (nat_eq of cell && is_next a.known (record { cell = of; number = number; low = low; high = high }))
  sends_bounds is_cell (Ranged of number UnknownCell) is = λ r there. absurd (nowhere r there)
  sends_bounds is_cell (Ranged of number (TooFar next)) is = λ r there. absurd (nowhere r there)
  sends_bounds is_cell (Ranged of number (Exhausted last)) is = λ r there. absurd (nowhere r there)
  sends_bounds is_cell (Claims of bucket first last behind page) is = λ r there. absurd (nowhere r there)
  sends_bounds is_cell (Classified question class) is = λ r there. absurd (nowhere r there)
  sends_bounds is_cell (Page of path named found) is = λ r there. absurd (nowhere r there)
  sends_bounds is_cell (NoCell of) is = λ r there. absurd (nowhere r there)
