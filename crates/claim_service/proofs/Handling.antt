-- What is due to a request is an entry within bounds and legal in its turn, or none, and leaves the service within bounds.
use Rattle.std.proofs.Common.{◌≡◌, ℕ, ◌≤◌, List, [], ◌∷◌, ◌++◌, Option, Some, None, option_map, refl, sym, subst}
use Rattle.std.specs.Prelude.{IfSome, IsSome}
use Rattle.claim_types.specs.EntryBounds.{IsServiceEntry}
use Rattle.claim_types.specs.MessageBounds.{IsRequest}
use Rattle.claim_types.specs.declared.cell.Cell.{Cell}
use Rattle.claim_types.specs.declared.entry.ServiceEntry.{ServiceEntry}
use Rattle.claim_types.specs.declared.message.Request.{Request}
use Rattle.claim_types.specs.declared.step.Step.{Step}
use Rattle.claim_types.specs.declared.step.Step.TheVariants.{Leased, Denied, Recorded, Committed, RolledBack, Ranged, Answered, Served}
use Rattle.claim_map.specs.Bounds.{AreCells, IsWithinBounds}
use Rattle.claim_map.specs.Entries.{entry_of}
use Rattle.claim_map.specs.Registry.{Registry, cell_of}
use Rattle.claim_map.proofs.Bounded.{due_bounds}
use Rattle.claim_map.proofs.Entered.{due_enters}
use Rattle.claim_map.proofs.Found.{Contains-found}
use Rattle.claim_laws.specs.Files.{Service, map_of, service_in}
use Rattle.claim_laws.proofs.Moved.{fresh_follows}
use Rattle.claim_laws.proofs.Turns.{service_goes_on}
use Rattle.entry_codec.specs.Spelling.{service_entry_bytes}
use Rattle.claim_service.specs.State.{owed, kept_after}
use Rattle.claim_service.proofs.Unrecorded.{due_unrecorded}

-- a body is that of an entry, and where there is none there is no entry
pub entered : (o : Option ServiceEntry) (body : List ℕ) → Some body ≡ option_map service_entry_bytes o → (e : ServiceEntry) × (o ≡ Some e) × (body ≡ service_entry_bytes e)
entered None body h = absurd cc
entered (Some e) body h = (e, refl, cc)

pub unentered : (o : Option ServiceEntry) → None ≡ option_map service_entry_bytes o → o ≡ None
unentered None h = refl
unentered (Some e) h = absurd cc

pub some_of : (o : Option ServiceEntry) (e : ServiceEntry) → o ≡ Some e → IsSome o
some_of None e h = absurd cc
some_of (Some x) e h = refl

module _ (registry : Registry) (s : Service) (request : Request) (cells : AreCells registry) (bounds : IsWithinBounds (map_of s)) (is : IsRequest request) where
  wide : (c : Cell) (id : ℕ) → cell_of registry id ≡ Some c → 1 ≤ c.width
  wide c id found = cells.widths c (Contains-found _ registry.cells c found)

  pub entry_is : (e : ServiceEntry) → entry_of (owed registry s request).step ≡ Some e → IsServiceEntry e
  entry_is e due = subst (λ o. IfSome o IsServiceEntry) due (due_enters registry (map_of s) request cells bounds is)

  pub goes_on : (e : ServiceEntry) → entry_of (owed registry s request).step ≡ Some e → (es : List ServiceEntry) → service_in es ≡ Some s → service_in (es ++ e ∷ []) ≡ Some (kept_after s (owed registry s request))
  goes_on e due es folds = service_goes_on registry (map_of s) request es (fresh_follows registry s.ranges bounds.in_order wide) folds e due

  pub bounds_after : IsWithinBounds (map_of (kept_after s (owed registry s request)))
  bounds_after = subst IsWithinBounds (sym (due_unrecorded registry s request)) (due_bounds registry (map_of s) request cells bounds is).1

  -- where nothing is written down the service keeps what it kept
  pub quiet_after : entry_of (owed registry s request).step ≡ None → kept_after s (owed registry s request) ≡ s
  quiet_after none = quiet (owed registry s request).step none
    where
      quiet : (step : Option Step) → entry_of step ≡ None → kept_after s (record { step = step; reply = (owed registry s request).reply }) ≡ s
      quiet None h = refl
      quiet (Some (Leased lease ops)) h = absurd cc
      quiet (Some (Denied lease denial)) h = refl
      quiet (Some (Recorded lease change)) h = refl
      quiet (Some (Committed lease)) h = absurd cc
      quiet (Some (RolledBack lease)) h = absurd cc
      quiet (Some (Ranged range)) h = absurd cc
      quiet (Some (Answered question class)) h = refl
      quiet (Some (Served question cell)) h = refl
