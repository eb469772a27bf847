-- What the service keeps in memory, and what it makes of what is due to a request.
use Rattle.std.specs.Prelude.{◌≡◌, ℕ, Bool, List, Option, Some, None, IsTrue, is_some, option_map, unwrap_or, Result, Ok, Err}
use Rattle.std.specs.FinMap as map
use Rattle.cells_base.specs.declared.memory.NoMemory.{NoMemory}
use Rattle.claim_types.specs.declared.entry.ServiceEntry.{ServiceEntry}
use Rattle.claim_types.specs.declared.entry.ServiceEntry.TheVariants.{Begun, Settled, Given}
use Rattle.claim_types.specs.declared.lease.How.TheVariants.{Committed, RolledBack}
use Rattle.claim_types.specs.declared.verdict.Verdict.TheVariants.{Fresh}
use Rattle.claim_types.specs.declared.message.Request.{Request}
use Rattle.claim_types.specs.declared.message.Request.TheVariants.{Begin, Commit, Rollback, List as ListRequest, Range as RangeRequest, Claims, Classify, Page}
use Rattle.claim_map.specs.Due.{Due, due}
use Rattle.claim_map.specs.Entries.{entry_of}
use Rattle.claim_map.specs.Ranges.{given_as}
use Rattle.claim_map.specs.Registry.{Registry, cell_of}
use Rattle.claim_map.specs.Step.{after_any}
use Rattle.claim_map.specs.Verdict.{verdict_of}
use Rattle.claim_laws.specs.Files.{Service, map_of, service_of, service_turn}
use Rattle.entry_codec.specs.Spelling.{service_entry_bytes}
use Rattle.claim_service.specs.declared.state.ServiceState.{ServiceState}
use Rattle.claim_service.specs.declared.state.Answered.{Answered}

-- its leases and the ranges that it gave
abbrev pub kept : ServiceState → Service
kept state = record { leases = state.leases; ranges = state.ranges }

-- what it owes to a request
abbrev pub owed : Registry → Service → Request → Due
owed registry s request = due registry (map_of s) request

-- what it keeps once what is due is done
abbrev pub kept_after : Service → Due → Service
kept_after s due = service_of (after_any (map_of s) due.step)

-- the body of the entry that what is due is written down as, if it is
abbrev pub body_of : Due → Option (List ℕ)
body_of due = option_map service_entry_bytes (entry_of due.step)

-- the reply and the body are those of what is due, and it is done; where memory was wanted nothing is
abbrev pub Answers : Due → Service → Result Answered NoMemory → Service → Type 0
Answers due before (Ok answered) now = (answered.reply ≡ due.reply) × (answered.body ≡ body_of due) × (now ≡ kept_after before due)
Answers due before (Err error) now = now ≡ before

-- the cell that a request is about; a request for a range, a question and a request for a page are answered without it
abbrev pub cell_asked : Request → Option ℕ
cell_asked (Begin lease ops) = Some lease.cell
cell_asked (Commit lease) = Some lease.cell
cell_asked (Rollback lease) = Some lease.cell
cell_asked (ListRequest cell after) = Some cell
cell_asked (RangeRequest cell n) = None
cell_asked (Claims cell bucket first last after) = Some cell
cell_asked (Classify question) = None
cell_asked (Page cell path named) = None

-- the configuration has this cell, if it is one
abbrev pub Knows : Registry → Option ℕ → Type 0
Knows registry None = Unit {0}
Knows registry (Some cell) = IsTrue (is_some (cell_of registry cell))

-- an entry that opens a lease is of one that was judged fresh
abbrev pub IsJudged : Service → ServiceEntry → Type 0
IsJudged s (Begun lease ops) = verdict_of s.leases s.ranges lease ops ≡ Fresh
IsJudged s (Settled lease how) = Unit {0}
IsJudged s (Given range) = Unit {0}

-- what it keeps after an entry, which changes nothing where it is not legal in its turn
abbrev pub turned : Service → ServiceEntry → Service
turned s entry = unwrap_or (service_turn s entry) s

-- the answer says whether the entry is legal in its turn
abbrev pub IsTurn : Service → ServiceEntry → Result Bool NoMemory → Service → Type 0
IsTurn before entry (Ok legal) now = (legal ≡ is_some (service_turn before entry)) × (now ≡ turned before entry)
IsTurn before entry (Err error) now = now ≡ before

-- What a request asks for stands: the lease is open with these operations, it ended so, or the range was given. The other requests ask for nothing that could stand.
abbrev pub HasEffect : Service → Request → Type 0
HasEffect s (Begin lease ops) = map.get s.leases.open_leases lease ≡ Some ops
HasEffect s (Commit lease) = map.get s.leases.settled lease ≡ Some Committed
HasEffect s (Rollback lease) = map.get s.leases.settled lease ≡ Some RolledBack
HasEffect s (RangeRequest cell number) = IsTrue (is_some (given_as s.ranges cell number))
HasEffect s (ListRequest cell after) = ⊥
HasEffect s (Claims cell bucket first last after) = ⊥
HasEffect s (Classify question) = ⊥
HasEffect s (Page cell path named) = ⊥
