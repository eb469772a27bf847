-- What a store owes is an entry within bounds that is legal in its turn, and its file then stands for what the store keeps.
use Rattle.std.proofs.Common.{◌≡◌, ℕ, ◌+◌, ◌<◌, ◌≤◌, Bool, true, false, ◌&&◌, nat_eq, nat_le, nat_lt, List, [], ◌∷◌, ◌++◌, Option, Some, None, is_some, is_none, refl, sym, ◌∙◌, ap, subst, arith}
use Rattle.std.specs.FinMap as map
use Rattle.std.proofs.lemmas.Bool.Decides.{Decides-eqb, nat_tests}
use Rattle.claim_types.specs.Bounds.{IsCell, IsRange}
use Rattle.claim_types.specs.EntryBounds.{IsCellEntry, AreEntryOperations}
use Rattle.claim_types.specs.Leases.{IsLease}
use Rattle.claim_types.specs.Order.{operations_eq}
use Rattle.claim_types.specs.declared.cell.Range.{Range}
use Rattle.claim_types.specs.declared.entry.CellEntry.{CellEntry}
use Rattle.claim_types.specs.declared.entry.CellEntry.TheVariants.{Epoch, Recorded, RowGone, Got}
use Rattle.claim_types.specs.declared.lease.LeaseId.{LeaseId}
use Rattle.claim_types.specs.declared.operations.Operations.{Operations}
use Rattle.claim_types.specs.declared.record.Change.{Change}
use Rattle.claim_types.specs.declared.limits.TheConstants.{ATTEMPTS_AND_ROWS, GREATEST_EPOCH}
use Rattle.claim_types.proofs.Equal.{Decides-operations}
use Rattle.claim_map.specs.Claims.{operations_of}
use Rattle.claim_map.specs.Rules.{rule_of}
use Rattle.claim_map.proofs.Within.{operation_bounds}
use Rattle.claim_laws.specs.Nodes.{still_fits, is_next}
use Rattle.claim_laws.specs.Files.{Store, where_legal, may_keep_row, store_turn, store_in, empty_store, and_then}
use Rattle.claim_laws.proofs.Turns.{folded_push}
use Rattle.disk_journal.specs.declared.disk.Disk.{Ghosts}
use Rattle.disk_journal.specs.Journal.{JournalState, IsBody}
use Rattle.disk_journal.specs.Effects.{Adds, AddsAtMost, LeavesBodyInDoubt}
use Rattle.disk_journal.specs.Entries.{Keeper, Appended, AppendsAtMost, LeavesEntryInDoubt}
use Rattle.disk_journal.proofs.Entries.{appended, appends_at_most, leaves_in_doubt}
use Rattle.entry_codec.specs.Spelling.{cell_entry_bytes}
use Rattle.cell_store.specs.Store.{store, IsKept}
use Rattle.cell_store.specs.Calls.{with_record, without_row, with_range}
use Rattle.cell_store.specs.Opening.{next_epoch}
use Rattle.cell_store.proofs.Bounds.{change_bounds}
use Rattle.cell_store.proofs.Keeping.{Rowless, Fits}

-- one entry more
pub goes_on : (cell : ℕ) (s t : Store) (e : CellEntry) → store_turn cell s e ≡ Some t → (es : List CellEntry) → store_in cell es ≡ Some s → store_in cell (es ++ e ∷ []) ≡ Some t
unfolding store_in
goes_on cell s t e turns es folds = folded_push (store_turn cell) (Some empty_store) es e ∙ ap (and_then (λ x. store_turn cell x e)) folds ∙ turns

legal_is : (b : Bool) (s : Store) → b ≡ true → where_legal b s ≡ Some s
legal_is b s h = ap (λ c. where_legal c s) h

both_true : (x y : Bool) → x ≡ true → y ≡ true → (x && y) ≡ true
both_true true y h k = k
both_true false y h k = cc

at_most : (n m : ℕ) → n ≤ m → nat_le n m ≡ true
at_most n m h = grind (arith, nat_tests, h)

less : (n m : ℕ) → n < m → nat_lt n m ≡ true
less n m h = grind (arith, nat_tests, h)

module _ (cell : ℕ) (s : Store) where
  pub row_may : (lease : LeaseId) → Rowless cell s lease → may_keep_row cell s lease ≡ true
  row_may lease row =
      both_true _ _ ((Decides-eqb lease.cell cell).1 row.here)
      (both_true _ _ (at_most lease.epoch s.epoch row.drawn)
      (both_true _ _ (ap is_none row.rowless)
      (less (map.len s.rows) ATTEMPTS_AND_ROWS row.room)))

  pub record_turns : (lease : LeaseId) (change : Change) (ops : Operations) → Rowless cell s lease → still_fits s.tree s.known change ops ≡ true → store_turn cell s (Recorded lease change ops) ≡ Some (with_record s lease change ops)
  record_turns lease change ops row fits = legal_is (may_keep_row cell s lease && still_fits s.tree s.known change ops) (with_record s lease change ops) (both_true _ _ (row_may lease row) fits)

  pub row_turns : (lease : LeaseId) → is_some (map.get s.rows lease) ≡ true → store_turn cell s (RowGone lease) ≡ Some (without_row s lease)
  row_turns lease there = legal_is (is_some (map.get s.rows lease)) (without_row s lease) there

  pub range_turns : (range : Range) → range.cell ≡ cell → is_next s.known range ≡ true → store_turn cell s (Got range.number range.low range.high) ≡ Some (with_range s range)
  range_turns range here next =
      let same : record { cell = cell; number = range.number; low = range.low; high = range.high } ≡ range = ap (λ c. record { cell = c; number = range.number; low = range.low; high = range.high }) (sym here) in
      subst (λ (r : Range). where_legal (is_next s.known r) (record s { known = s.known ++ r ∷ [] }) ≡ Some (with_range s range)) (sym same) (legal_is (is_next s.known range) (with_range s range) next)

  pub epoch_turns : store_turn cell s (Epoch (s.epoch + 1)) ≡ Some (next_epoch s)
  epoch_turns = legal_is (nat_lt s.epoch (s.epoch + 1)) (next_epoch s) (less s.epoch (s.epoch + 1) (omega arith))

  -- each is an entry within bounds
  pub record_entry : (lease : LeaseId) (change : Change) (ops : Operations) → IsLease lease → IsKept cell s → Fits s.tree s.known change ops → IsCellEntry (Recorded lease change ops)
  record_entry lease change ops is kept fits = (
    is,
    change_bounds s.tree change s.known kept.fits kept.ranges fits.ruled,
    subst AreEntryOperations fits.same (operation_bounds s.tree change s.known kept.fits kept.ranges kept.apart fits.ruled),
  )

  pub range_entry : (range : Range) → IsRange range → IsCellEntry (Got range.number range.low range.high)
  range_entry range is = (is.number, is.ends)

  pub epoch_entry : s.epoch + 1 ≤ GREATEST_EPOCH → IsCellEntry (Epoch (s.epoch + 1))
  epoch_entry within = (omega arith, within)

-- from what an append of the journal promises to what a call of the store promises
module _ {D : Type 0} (g : Ghosts D) (cell : ℕ) (old new : D) (s t : Store) (e : CellEntry) (journal : JournalState) (entry : IsCellEntry e) (turns : store_turn cell s e ≡ Some t) where
  abbrev before : Keeper Store
  before = record { journal = journal; state = s }

  module _ (body : List ℕ) (is : body ≡ cell_entry_bytes e) where
    pub appended_entry : (now : JournalState) (u : Store) → u ≡ t → now.live ≡ true → Adds g old new journal now body → Appended g (store cell) old new before (record { journal = now; state = u }) (Some e)
    appended_entry now u same live adds =
        subst (λ (x : Store). Appended g (store cell) old new before (record { journal = now; state = x }) (Some e)) (sym same)
        (appended g (store cell) old new before t e now entry (goes_on cell s t e turns) live (subst (λ (b : List ℕ). Adds g old new journal now b) is adds))

    pub appends_entry : AddsAtMost g old new journal body → AppendsAtMost g (store cell) old new before (Some e)
    appends_entry any_moment =
        appends_at_most g (store cell) old new before t e journal entry (goes_on cell s t e turns) (subst (λ (b : List ℕ). AddsAtMost g old new journal b) is any_moment)

    pub entry_in_doubt : LeavesBodyInDoubt g old new journal body → LeavesEntryInDoubt g (store cell) old new before (Some e)
    entry_in_doubt in_doubt =
        leaves_in_doubt g (store cell) old new before t e journal entry (goes_on cell s t e turns) (subst (λ (b : List ℕ). LeavesBodyInDoubt g old new journal b) is in_doubt)
