-- What a cell hears is a step of its own tree or none.
use Rattle.std.proofs.Common.{◌≡◌, ◌⊎◌, inl, inr, ℕ, Bool, true, false, ◌&&◌, nat_eq, cond, Option, Some, None, is_none, refl}
use Rattle.std.specs.FinMap as map
use Rattle.cells_base.proofs.Truth.{and_split}
use Rattle.claim_types.specs.Order.{operations_eq}
use Rattle.claim_types.specs.declared.lease.LeaseId.{LeaseId}
use Rattle.claim_types.specs.declared.operations.Operations.{Operations}
use Rattle.claim_types.specs.declared.cell.Range.{Range}
use Rattle.claim_types.specs.declared.record.Change.{Change}
use Rattle.claim_types.specs.declared.rule.Attempt.{Attempt}
use Rattle.claim_types.specs.declared.step.Step.TheVariants.{Recorded}
use Rattle.claim_types.specs.declared.verdict.Denial.{Denial}
use Rattle.claim_types.specs.declared.message.Reply.{Reply}
use Rattle.claim_types.specs.declared.message.Reply.TheVariants.{Begun, Committed, RolledBack, Leases, Ranged, Claims, NoCell, Classified, Page as PageReply}
use Rattle.claim_types.specs.declared.message.BegunResult.TheVariants.{Good, Denied}
use Rattle.claim_types.specs.declared.message.CommittedResult.TheVariants.{Good as CommittedGood, Unknown, WasRolledBack}
use Rattle.claim_types.specs.declared.message.RangedResult.TheVariants.{Good as RangedGood, UnknownCell, TooFar, Exhausted}
use Rattle.claim_map.specs.State.{Tree}
use Rattle.claim_map.specs.Records.{changed_by}
use Rattle.claim_map.specs.Rules.{rule_of}
use Rattle.claim_map.specs.Claims.{operations_of}
use Rattle.claim_laws.specs.Nodes.{Agent, Heard, KeepsInOrder, hears, hears_good, hears_denied, hears_committed, passes_over, makes_change, gives_up, still_fits, is_next, with_range}
use Rattle.cells_base.proofs.Options.{nothing_of}

module _ (cell : ℕ) (tree : Tree) (a : Agent) where
  -- nothing is recorded, or a change that no rule refuses, under a lease of the cell
  pub record Records (h : Heard) : Type 0 where
    pub lease : LeaseId
    pub change : Change
    pub step : h.step ≡ Some (Recorded lease change)
    pub here : lease.cell ≡ cell
    pub changed : h.tree ≡ changed_by tree change a.known
    pub no_rule : rule_of tree change a.known ≡ None

  pub record Leaves (h : Heard) : Type 0 where
    pub step : h.step ≡ None
    pub same : h.tree ≡ tree

  abbrev pub IsStepOf : Heard → Type 0
  IsStepOf h = Leaves h ⊎ Records h

  leaves : (h : Heard) → h.step ≡ None → h.tree ≡ tree → IsStepOf h
  leaves h none same = inl (record { step = none; same = same })

  good_if : (lease : LeaseId) (attempt : Attempt) → lease.cell ≡ cell → (b : Bool) → still_fits tree a.known attempt.change attempt.ops ≡ b → IsStepOf (cond b (makes_change tree a lease attempt) (gives_up tree a lease attempt))
  good_if lease attempt here true fits =
      let parts = and_split (is_none (rule_of tree attempt.change a.known)) (operations_eq (operations_of tree attempt.change a.known) attempt.ops) fits in
      inr (record { lease = lease; change = attempt.change; step = refl; here = here; changed = refl; no_rule = nothing_of (rule_of tree attempt.change a.known) parts.0 })
  good_if lease attempt here false fits = leaves (gives_up tree a lease attempt) refl refl

  good : (lease : LeaseId) (o : Option Attempt) → ((attempt : Attempt) → o ≡ Some attempt → lease.cell ≡ cell) → IsStepOf (hears_good tree a lease o)
  good lease None here = leaves (passes_over tree a) refl refl
  good lease (Some attempt) here = good_if lease attempt (here attempt refl) (still_fits tree a.known attempt.change attempt.ops) refl

  refused : (lease : LeaseId) (denial : Denial) (o : Option Attempt) → IsStepOf (hears_denied tree a lease denial o)
  refused lease denial None = leaves (passes_over tree a) refl refl
  refused lease denial (Some attempt) = leaves (hears_denied tree a lease denial (Some attempt)) refl refl

  settles : (lease : LeaseId) (o : Option Operations) → IsStepOf (hears_committed tree a lease o)
  settles lease None = leaves (passes_over tree a) refl refl
  settles lease (Some ops) = leaves (hears_committed tree a lease (Some ops)) refl refl

  numbered : (range : Range) (b : Bool) → IsStepOf (cond b (record (passes_over tree a) { entry = Some (Rattle.claim_types.specs.declared.entry.CellEntry.TheVariants.Got range.number range.low range.high); agent = with_range a range }) (passes_over tree a))
  numbered range true = leaves _ refl refl
  numbered range false = leaves (passes_over tree a) refl refl

  pub heard_step : KeepsInOrder cell a → (reply : Reply) → IsStepOf (hears cell tree a reply)
  heard_step order (Begun lease Good) = good lease (map.get a.pending lease) (λ attempt is. order.attempt_here lease attempt is)
  heard_step order (Begun lease (Denied denial)) = refused lease denial (map.get a.pending lease)
  heard_step order (Committed lease CommittedGood) = settles lease (map.get a.rows lease)
  heard_step order (Committed lease Unknown) = leaves (passes_over tree a) refl refl
  heard_step order (Committed lease WasRolledBack) = leaves (passes_over tree a) refl refl
  heard_step order (RolledBack lease result) = leaves (passes_over tree a) refl refl
  heard_step order (Leases of page) = leaves (hears cell tree a (Leases of page)) refl refl
  heard_step order (Ranged of number (RangedGood low high)) = numbered (record { cell = of; number = number; low = low; high = high }) (nat_eq of cell && is_next a.known (record { cell = of; number = number; low = low; high = high }))
  heard_step order (Ranged of number UnknownCell) = leaves (passes_over tree a) refl refl
  heard_step order (Ranged of number (TooFar next)) = leaves (passes_over tree a) refl refl
  heard_step order (Ranged of number (Exhausted last)) = leaves (passes_over tree a) refl refl
  heard_step order (Claims of bucket first last behind page) = leaves (passes_over tree a) refl refl
  heard_step order (Classified question class) = leaves (passes_over tree a) refl refl
  heard_step order (PageReply of path named found) = leaves (passes_over tree a) refl refl
  heard_step order (NoCell of) = leaves (passes_over tree a) refl refl
