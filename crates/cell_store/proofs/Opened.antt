-- What an opening comes to, by what its file's bodies stand for, and what it leaves at each moment.
use Rattle.std.proofs.Common.{◌≡◌, ◌⊎◌, inl, inr, ⊎_elim, ℕ, ◌+◌, ◌≤◌, true, IsTrue, List, [], ◌∷◌, ◌++◌, map, Some, refl, sym, ◌∙◌, ap, subst, arith}
use Rattle.std.specs.Prelude.{Result, Ok, Err, min}
use Rattle.std.specs.List.{AllByRecursion}
use Rattle.claim_types.specs.Bounds.{IsCell}
use Rattle.claim_types.specs.EntryBounds.{IsCellEntry}
use Rattle.claim_types.specs.declared.entry.CellEntry.{CellEntry}
use Rattle.claim_types.specs.declared.entry.CellEntry.TheVariants.{Epoch}
use Rattle.claim_types.specs.declared.limits.TheConstants.{GREATEST_EPOCH}
use Rattle.claim_laws.specs.Files.{Store, store_in}
use Rattle.cells_base.specs.Causes.{Rose}
use Rattle.disk_journal.specs.declared.disk.Disk.{Ghosts}
use Rattle.disk_journal.specs.Disk.{Image}
use Rattle.disk_journal.specs.Journal.{HasBodies, IsOwn, JournalState}
use Rattle.disk_journal.specs.Moments.{LeavesOnly}
use Rattle.disk_journal.specs.Effects.{StaysElsewhere, CountsOwn, FailedAt, HasBodiesOr, IsSettled, IsOpening, IsAppending, IsTrimmed, Adds, AddsAtMost, LeavesBodyInDoubt}
use Rattle.disk_journal.specs.Entries.{HasEntries, Stands, Rests as RestsWith, TouchesOnly}
use Rattle.disk_journal.proofs.Entries.{has_either}
use Rattle.disk_journal.proofs.Reading.{one_list}
use Rattle.disk_journal.proofs.Settled.{settled_seen}
use Rattle.disk_journal.proofs.Moments.{SeenMayStay, weaker, joins}
use Rattle.entry_codec.specs.Spelling.{cell_entry_bytes}
use Rattle.cell_store.specs.declared.fault.CellOpenFault.{CellOpenFault}
use Rattle.cell_store.specs.declared.fault.CellOpenFault.TheVariants.{NotAJournal, BadEntry, EpochsSpent, Failed, Memory}
use Rattle.cell_store.specs.declared.state.CellState.{CellState}
use Rattle.cell_store.specs.declared.store.CellStore.{CellStore}
use Rattle.cell_store.specs.Store.{store, kept, stored, keeper, IsKept, IsStore, Rests}
use Rattle.cell_store.specs.Opening.{GoesOn, IfRefused, IsOpenFault, IsOpened, IsOpeningOrNext, KeepsBodies, OpensAtNext, OpensUnwritten, next_epoch}
use Rattle.cell_store.specs.Turns.{IsReplay, IsReplayed}
use Rattle.cell_store.proofs.Keeping.{epoch_kept}
use Rattle.cell_store.proofs.Replaying.{is_within}
use Rattle.cell_store.proofs.Turning.{epoch_turns, epoch_entry, appended_entry}

-- what holds whatever was answered
pub if_refused : {P : Type 0} (r : Result CellStore CellOpenFault) → P → IfRefused r P
if_refused (Ok opened) p = tt
if_refused (Err Failed) p = tt
if_refused (Err Memory) p = p
if_refused (Err EpochsSpent) p = p
if_refused (Err (BadEntry index)) p = p
if_refused (Err (NotAJournal at)) p = p

-- by what the bodies stand for
module _ (cell : ℕ) (img : Image) (bodies : List (List ℕ)) (has : HasBodies img cell bodies) where
  pub replay_fault : (fault : CellOpenFault) → IsReplayed cell bodies (Err fault) → IsOpenFault cell img fault
  replay_fault (NotAJournal at) is = absurd is
  replay_fault (BadEntry index) is = (bodies, has, is)
  replay_fault EpochsSpent is = absurd is
  replay_fault Failed is = absurd is
  replay_fault Memory is = tt

  module _ (s : Store) (is : IsReplay cell bodies s) where
    has_entries : HasEntries (store cell) img cell is.es
    has_entries = record { bodies = subst (HasBodies img cell) (sym is.stand.spelled) has; entries = is.stand.entries }

    pub stands_for : Stands (store cell) img cell s
    stands_for = record { es = is.es; has = has_entries; folds = is.stand.folds }

    pub spent : s.epoch ≡ GREATEST_EPOCH → IsOpenFault cell img EpochsSpent
    spent last = (s, stands_for, last)

    pub opened_is : (journal : JournalState) (state : CellState) → kept state ≡ next_epoch s → IsOpened cell img (record { journal = journal; cell = cell; state = state })
    opened_is journal state now = record { before = s; stands = stands_for; now = now }

-- the store that was opened
pub is_opened : (cell : ℕ) → IsCell cell → (bodies : List (List ℕ)) (s : Store) → IsReplay cell bodies s → s.epoch + 1 ≤ GREATEST_EPOCH → (journal : JournalState) (state : CellState) → journal.file ≡ cell → kept state ≡ next_epoch s →
    IsStore (record { journal = journal; cell = cell; state = state })
is_opened cell is_cell bodies s is within journal state file now =
    let keeps : IsKept cell (kept state) = subst (IsKept cell) (sym now) (epoch_kept cell s is.keeps (s.epoch + 1) (omega arith)) in
    record {
      cell = is_cell;
      file = file;
      epoch = subst (λ (t : Store). (1 ≤ t.epoch) × (t.epoch ≤ GREATEST_EPOCH)) (sym now) (omega arith, within);
      within = is_within cell (kept state) keeps;
      holds = keeps;
    }

-- what one call and then another leave of other files and of the count of faults
module _ {D : Type 0} (g : Ghosts D) (file : ℕ) (old mid new : D) where
  pub elsewhere_on : StaysElsewhere g file old mid → StaysElsewhere g file mid new → StaysElsewhere g file old new
  elsewhere_on first second tells q other = record {
    reads = (second tells q other).reads ∙ (first tells q other).reads;
    leaves = λ c is. (first tells q other).leaves c ((second tells q other).leaves c is);
  }

  pub counts_on : CountsOwn g file old mid → CountsOwn g file mid new → CountsOwn g file old new
  counts_on first second = record {
    later = (let a = first.later in let b = second.later in omega (arith, a, b));
    of_own = elim second.of_own [
      | inl same ↦ elim first.of_own [
        | inl before ↦ inl (same.0 ∙ before.0, same.1 ∙ before.1)
        | inr failed ↦ inr (subst (λ n. Rose (g.faults old) n) (sym same.0) failed.0, subst (λ n. IsOwn file n) (sym same.1) failed.1)
      ]
      | inr failed ↦ inr (let a = first.later in let b = failed.0 in omega (arith, a, b), failed.1)
    ];
  }

  pub touches_on : TouchesOnly g file old mid → TouchesOnly g file mid new → TouchesOnly g file old new
  touches_on first second = record { elsewhere = elsewhere_on first.elsewhere second.elsewhere; counts = counts_on first.counts second.counts }

keeps_trimmed : (cell : ℕ) (from img : Image) → IsTrimmed cell from img → KeepsBodies cell from img
keeps_trimmed cell from img is = record { bodies = is.bodies; no_journal = λ none. is.no_journal none cell refl }

-- at each moment, and to a read at the end
module _ {D : Type 0} (g : Ghosts D) (cell : ℕ) (old mid : D) (opening : LeavesOnly g old mid (IsOpening g old cell)) (keeps : IsTrue g.tells → IsTrimmed cell (g.seen old) (g.seen mid)) where
  begins : (img : Image) → IsOpening g old cell img → IsOpeningOrNext g cell old img
  begins img is = record { this = inl (is.from, is.might, keeps_trimmed cell is.from img is.own); others = is.others }

  pub opens_to_before : OpensAtNext g cell old mid
  opens_to_before = weaker g old mid (IsOpening g old cell) (IsOpeningOrNext g cell old) opening begins

  pub opens_unwritten : OpensUnwritten g cell old mid
  opens_unwritten = record { moments = opening; reads = keeps }

  pub reads_before : IsTrue g.tells → GoesOn cell (g.seen old) (g.seen mid)
  reads_before tells = inl (keeps_trimmed cell (g.seen old) (g.seen mid) (keeps tells))

  module _ (new : D) (journal : JournalState) (here : journal.file ≡ cell) (bodies : List (List ℕ)) (s : Store) (is : IsReplay cell bodies s) (within : s.epoch + 1 ≤ GREATEST_EPOCH) (body : List ℕ) (spelled : body ≡ cell_entry_bytes (Epoch (s.epoch + 1)))
      (seen_may_stay : SeenMayStay g) (read : IsTrue g.tells → HasBodies (g.seen old) cell bodies) (stays : StaysElsewhere g cell old mid) (settled : IsTrue g.tells → IsSettled g mid journal bodies) where
    abbrev next : CellEntry
    next = Epoch (s.epoch + 1)

    had : IsTrue g.tells → HasEntries (store cell) (g.seen old) cell is.es
    had tells = record { bodies = subst (HasBodies (g.seen old) cell) (sym is.stand.spelled) (read tells); entries = is.stand.entries }

    -- the file has the entries, or these and the next epoch
    goes_on : IsTrue g.tells → (img : Image) → HasBodiesOr img journal.file bodies body → GoesOn cell (g.seen old) img
    goes_on tells img either =
        let at_file : HasBodiesOr img cell bodies body = subst (λ q. HasBodiesOr img q bodies body) here either in
        let of_next : HasBodiesOr img cell bodies (cell_entry_bytes next) = subst (HasBodiesOr img cell bodies) spelled at_file in
        let of_entries : HasBodiesOr img cell (map cell_entry_bytes is.es) (cell_entry_bytes next) = subst (λ (bs : List (List ℕ)). HasBodiesOr img cell bs (cell_entry_bytes next)) (sym is.stand.spelled) of_next in
        ⊎_elim
        (λ (has : HasEntries (store cell) img cell is.es). inl (record {
          bodies = λ bs before. subst (HasBodies img cell) (one_list (g.seen old) cell (map cell_entry_bytes is.es) bs (had tells).bodies before) has.bodies;
          no_journal = λ none. absurd (none bodies (read tells));
        }))
        (λ (has : HasEntries (store cell) img cell (is.es ++ next ∷ [])). inr (record { es = is.es; state = s; had = had tells; folds = is.stand.folds; has = has }))
        (has_either (store cell) next img cell is.es is.stand.entries (epoch_entry cell s within) of_entries)

    added : IsTrue g.tells → (img : Image) → IsAppending g mid journal.file bodies body img → IsOpeningOrNext g cell old img
    added tells img at = record {
      this = ⊎_elim (λ keeps. inl (g.seen old, (λ q. seen_may_stay old q), keeps)) (λ more. inr more) (goes_on tells img at.own);
      others = λ q other. (stays tells q other).leaves (img q) (at.others q (λ own. other (own ∙ here)));
    }

    pub opens_to_next : AddsAtMost g mid new journal body → OpensAtNext g cell old new
    opens_to_next append = λ tells.
        joins g old mid new (IsOpening g old cell) (IsAppending g mid journal.file bodies body) (IsOpeningOrNext g cell old)
        opening (append bodies (settled tells)) begins (added tells) tells

    -- what an append that failed leaves to a read, and one that passed
    pub reads_in_doubt : LeavesBodyInDoubt g mid new journal body → IsTrue g.tells → GoesOn cell (g.seen old) (g.seen new)
    reads_in_doubt doubt tells = goes_on tells (g.seen new) (doubt tells bodies (settled tells)).read

    pub reads_next : (now : JournalState) → now.file ≡ journal.file → Adds g mid new journal now body → IsTrue g.tells → GoesOn cell (g.seen old) (g.seen new)
    reads_next now same adds tells =
        goes_on tells (g.seen new) (inr (subst (λ q. HasBodies (g.seen new) q (bodies ++ body ∷ [])) same (settled_seen g new now (bodies ++ body ∷ []) (adds tells bodies (settled tells)))))

    pub at_rest : (now : JournalState) (state : CellState) → journal.live ≡ true → now.live ≡ true → kept state ≡ next_epoch s → Adds g mid new journal now body → Rests g new (record { journal = now; cell = cell; state = state })
    at_rest now state live live_now same adds = λ tells.
        let first : RestsWith g (store cell) mid (record { journal = journal; state = s }) is.es = record {
          live = live;
          settled = subst (IsSettled g mid journal) (sym is.stand.spelled) (settled tells);
          entries = is.stand.entries;
          folds = is.stand.folds;
        } in
        (is.es ++ next ∷ [], appended_entry g cell mid new s (next_epoch s) next journal (epoch_entry cell s within) (epoch_turns cell s) body spelled now (kept state) same live_now adds tells is.es first)
