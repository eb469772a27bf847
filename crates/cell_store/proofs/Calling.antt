-- What the calls that write leave of a store, from what an append of the journal promises.
use Rattle.std.proofs.Common.{◌≡◌, ℕ, true, List, Option, Some, None, is_some, refl, sym, ◌∙◌, ap, subst}
use Rattle.std.specs.Prelude.{Result, Ok, Err, OnErr}
use Rattle.std.specs.FinMap as map
use Rattle.claim_types.specs.EntryBounds.{IsEpoch, IsCellEntry}
use Rattle.claim_types.specs.Leases.{IsLease}
use Rattle.claim_types.specs.declared.cell.Range.{Range}
use Rattle.claim_types.specs.declared.entry.CellEntry.{CellEntry}
use Rattle.claim_types.specs.declared.entry.CellEntry.TheVariants.{Recorded, RowGone, Got}
use Rattle.claim_types.specs.declared.lease.LeaseId.{LeaseId}
use Rattle.claim_types.specs.declared.operations.Operations.{Operations}
use Rattle.claim_types.specs.declared.record.Change.{Change}
use Rattle.claim_laws.specs.Files.{Store, store_turn}
use Rattle.disk_journal.specs.declared.disk.Disk.{Ghosts}
use Rattle.disk_journal.specs.Journal.{JournalState}
use Rattle.disk_journal.specs.Effects.{StaysElsewhere, CountsOwn, Adds, AddsAtMost, LeavesBodyInDoubt}
use Rattle.cells_base.specs.Lists.{with_entry}
use Rattle.disk_journal.specs.Entries.{TouchesOnly, Rests as RestsWith}
use Rattle.disk_journal.proofs.Entries.{nothing_at_most}
use Rattle.disk_journal.proofs.Moments.{OnlyNow}
use Rattle.entry_codec.specs.Spelling.{cell_entry_bytes}
use Rattle.cell_store.specs.declared.state.CellState.{CellState}
use Rattle.cell_store.specs.declared.store.CellStore.{CellStore}
use Rattle.cell_store.specs.Store.{store, kept, stored, keeper, IsKept, IsStore, Rests}
use Rattle.cell_store.specs.Calls.{Writes, WritesAtMost, LeavesInDoubt, MayGetRow, MayBeKept, with_record, without_row, with_range, fits_now}
use Rattle.cell_store.proofs.Keeping.{Rowless, Fits, fits_says, record_kept, row_gone_kept, range_kept}
use Rattle.cell_store.proofs.Replaying.{is_within}
use Rattle.cell_store.proofs.Turning.{record_turns, row_turns, range_turns, record_entry, range_entry, appended_entry, appends_entry, entry_in_doubt}

-- what is there
some_value : {X : Type 0} (o : Option X) → is_some o ≡ true → (x : X) × (o ≡ Some x)
some_value None h = absurd cc
some_value (Some x) h = (x, refl)

module _ (before : CellStore) (is : IsStore before) where
  pub still_store : (journal : JournalState) (state : CellState) (t : Store) → journal.file ≡ before.journal.file → kept state ≡ t → t.epoch ≡ (stored before).epoch → IsKept before.cell t →
      IsStore (record { journal = journal; cell = before.cell; state = state })
  still_store journal state t file same epoch holds =
      let now = subst (IsKept before.cell) (sym same) holds in
      record {
        cell = is.cell;
        file = file ∙ is.file;
        epoch = subst IsEpoch (sym (ap (λ (x : Store). x.epoch) same ∙ epoch)) is.epoch;
        within = is_within before.cell (kept state) now;
        holds = now;
      }

  pub touches : {D : Type 0} (g : Ghosts D) (old new : D) → StaysElsewhere g before.journal.file old new → CountsOwn g before.journal.file old new → TouchesOnly g before.cell old new
  touches g old new elsewhere counts = subst (λ file. TouchesOnly g file old new) is.file (record { elsewhere = elsewhere; counts = counts })

  -- at rest again with the entry
  pub still_rests : {D : Type 0} (g : Ghosts D) (old new : D) (now : CellStore) (e : CellEntry) → Rests g old before → Writes g old new before now e → now.cell ≡ before.cell → Rests g new now
  still_rests g old new now e rests wrote same = λ tells.
      let it = rests tells in
      (with_entry it.0 (Some e), subst (λ cell. RestsWith g (store cell) new (keeper now) (with_entry it.0 (Some e))) (sym same) (wrote tells it.0 it.1))

  -- no call of the disk was made
  pub writes_nothing : {D : Type 0} (g : Ghosts D) (d : D) (e : CellEntry) → OnlyNow g → WritesAtMost g d d before e
  writes_nothing g d e only_now = nothing_at_most g (store before.cell) d (keeper before) (Some e) only_now

  -- this entry was appended, and it leaves this
  module _ {D : Type 0} (g : Ghosts D) (old new : D) (e : CellEntry) (t : Store) (entry : IsCellEntry e) (turns : store_turn before.cell (stored before) e ≡ Some t) (body : List ℕ) (spelled : body ≡ cell_entry_bytes e) where
    pub writes : (journal : JournalState) (state : CellState) → kept state ≡ t → journal.live ≡ true → Adds g old new before.journal journal body → Writes g old new before (record { journal = journal; cell = before.cell; state = state }) e
    writes journal state same live adds = appended_entry g before.cell old new (stored before) t e before.journal entry turns body spelled journal (kept state) same live adds

    pub writes_at_most : AddsAtMost g old new before.journal body → WritesAtMost g old new before e
    writes_at_most any_moment = appends_entry g before.cell old new (stored before) t e before.journal entry turns body spelled any_moment

    pub left_in_doubt : LeavesBodyInDoubt g old new before.journal body → LeavesInDoubt g old new before e
    left_in_doubt in_doubt = entry_in_doubt g before.cell old new (stored before) t e before.journal entry turns body spelled in_doubt

  -- a row that is outstanding
  module _ (lease : LeaseId) (there : is_some (map.get (stored before).rows lease) ≡ true) where
    pub gone_entry : IsCellEntry (RowGone lease)
    gone_entry = let row = some_value (map.get (stored before).rows lease) there in is.holds.leases lease row.0 row.1

    pub gone_turns : store_turn before.cell (stored before) (RowGone lease) ≡ Some (without_row (stored before) lease)
    gone_turns = row_turns before.cell (stored before) lease there

    pub gone_kept : IsKept before.cell (without_row (stored before) lease)
    gone_kept = row_gone_kept before.cell (stored before) is.holds lease

  -- a range that may be kept
  module _ (range : Range) (may : MayBeKept before range) where
    pub got_entry : IsCellEntry (Got range.number range.low range.high)
    got_entry = range_entry before.cell (stored before) range may.is

    pub got_turns : store_turn before.cell (stored before) (Got range.number range.low range.high) ≡ Some (with_range (stored before) range)
    got_turns = range_turns before.cell (stored before) range may.here may.next

    pub got_kept : IsKept before.cell (with_range (stored before) range)
    got_kept = range_kept before.cell (stored before) is.holds range may.is may.here may.next

  -- a change that fits, and a lease that may get a row
  module _ (lease : LeaseId) (may : MayGetRow before lease) (change : Change) (ops : Operations) (fits : fits_now before change ops ≡ true) where
    rowless : Rowless before.cell (stored before) lease
    rowless = record { here = may.here; drawn = may.drawn; rowless = may.rowless; room = may.room }

    pub it_fits : Fits (stored before).tree (stored before).known change ops
    it_fits = fits_says (stored before).tree (stored before).known change ops fits

    pub made_entry : IsCellEntry (Recorded lease change ops)
    made_entry = record_entry before.cell (stored before) lease change ops may.is is.holds it_fits

    pub made_turns : store_turn before.cell (stored before) (Recorded lease change ops) ≡ Some (with_record (stored before) lease change ops)
    made_turns = record_turns before.cell (stored before) lease change ops rowless fits

    pub made_kept : IsKept before.cell (with_record (stored before) lease change ops)
    made_kept = record_kept before.cell (stored before) is.holds lease change ops may.is rowless it_fits

-- what holds whatever was answered
pub on_err : {T E P : Type 0} (r : Result T E) → P → OnErr r P
on_err (Ok x) p = tt
on_err (Err e) p = p
