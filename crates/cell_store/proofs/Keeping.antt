-- What holds of all that a cell keeps holds of it still after each entry that is legal in its turn.
use Rattle.std.proofs.Common.{◌≡◌, inl, inr, ℕ, ◌+◌, ◌<◌, ◌≤◌, Bool, true, false, ◌&&◌, nat_eq, nat_le, nat_lt, List, [], ◌∷◌, ◌++◌, length, Option, Some, None, is_some, is_none, refl, sym, ◌∙◌, ap, subst, arith}
use Rattle.std.specs.List.{All, Contains}
use Rattle.std.specs.FinMap as map
use Rattle.std.specs.FinMap.{get-empty, len-empty}
use Rattle.std.proofs.lemmas.Bool.Decides.{Decides-eqb, nat_tests}
use Rattle.std.proofs.lemmas.List.Elements.{All-nil, All-push, Contains-push_cases}
use Rattle.cells_base.proofs.Counts.{len_more, len_less}
use Rattle.cells_base.proofs.Maps.{inserted, removed}
use Rattle.cells_base.proofs.Members.{nowhere}
use Rattle.cells_base.proofs.Options.{nothing_of}
use Rattle.cells_base.proofs.Truth.{and_split}
use Rattle.claim_types.specs.Bounds.{IsCell, IsRange}
use Rattle.claim_types.specs.EntryBounds.{IsCellEntry, AreEntryOperations}
use Rattle.claim_types.specs.Leases.{IsLease}
use Rattle.claim_types.specs.Order.{lease_cmp, operations_eq}
use Rattle.claim_types.specs.declared.cell.Range.{Range}
use Rattle.claim_types.specs.declared.entry.CellEntry.{CellEntry}
use Rattle.claim_types.specs.declared.entry.CellEntry.TheVariants.{Epoch, Recorded, RowGone, Got}
use Rattle.claim_types.specs.declared.lease.LeaseId.{LeaseId}
use Rattle.claim_types.specs.declared.operations.Operations.{Operations}
use Rattle.claim_types.specs.declared.record.Change.{Change}
use Rattle.claim_types.specs.declared.limits.TheConstants.{ATTEMPTS_AND_ROWS}
use Rattle.claim_types.proofs.Equal.{Decides-operations}
use Rattle.claim_types.proofs.Ordered.{leases_total, leases_exact}
use Rattle.claim_map.specs.State.{Tree}
use Rattle.claim_map.specs.Claims.{claims_of, operations_of}
use Rattle.claim_map.specs.Ranges.{last_end}
use Rattle.claim_map.specs.Rules.{rule_of}
use Rattle.claim_map.specs.Trees.{AreApart}
use Rattle.claim_map.proofs.Changed.{changed_fits}
use Rattle.claim_map.proofs.Trees.{fits_more, empty_fits}
use Rattle.claim_laws.specs.Nodes.{still_fits, is_next}
use Rattle.claim_laws.specs.Files.{Store, where_legal, may_keep_row, store_turn, empty_store}
use Rattle.cell_store.specs.Store.{IsKept}
use Rattle.cell_store.specs.Calls.{with_record, without_row, with_range}
use Rattle.cell_store.proofs.Apart.{apart_after}

-- a state that is there only where a condition holds
pub legal_says : {S : Type 0} (b : Bool) (s t : S) → where_legal b s ≡ Some t → (b ≡ true) × (s ≡ t)
legal_says true s t h = (refl, cc)
legal_says false s t h = absurd cc

pub less_of : (n m : ℕ) → nat_lt n m ≡ true → n < m
less_of n m h = grind (arith, nat_tests, h)

pub most_of : (n m : ℕ) → nat_le n m ≡ true → n ≤ m
most_of n m h = grind (arith, nat_tests, h)

-- what lets a change be made on a tree
pub record Fits (tree : Tree) (known : List Range) (change : Change) (ops : Operations) : Type 0 where
  pub ruled : rule_of tree change known ≡ None
  pub same : operations_of tree change known ≡ ops

pub fits_says : (tree : Tree) (known : List Range) (change : Change) (ops : Operations) → still_fits tree known change ops ≡ true → Fits tree known change ops
fits_says tree known change ops h =
    let both = and_split (is_none (rule_of tree change known)) (operations_eq (operations_of tree change known) ops) h in
    record { ruled = nothing_of (rule_of tree change known) both.0; same = (Decides-operations (operations_of tree change known) ops).0 both.1 }

-- what lets a lease have a row
pub record Rowless (cell : ℕ) (s : Store) (lease : LeaseId) : Type 0 where
  pub here : lease.cell ≡ cell
  pub drawn : lease.epoch ≤ s.epoch
  pub rowless : map.get s.rows lease ≡ None
  pub room : map.len s.rows < ATTEMPTS_AND_ROWS

pub row_says : (cell : ℕ) (s : Store) (lease : LeaseId) → may_keep_row cell s lease ≡ true → Rowless cell s lease
row_says cell s lease h =
    let here = and_split (nat_eq lease.cell cell) (nat_le lease.epoch s.epoch && (is_none (map.get s.rows lease) && nat_lt (map.len s.rows) ATTEMPTS_AND_ROWS)) h in
    let now = and_split (nat_le lease.epoch s.epoch) (is_none (map.get s.rows lease) && nat_lt (map.len s.rows) ATTEMPTS_AND_ROWS) here.1 in
    let room = and_split (is_none (map.get s.rows lease)) (nat_lt (map.len s.rows) ATTEMPTS_AND_ROWS) now.1 in
    record {
      here = (Decides-eqb lease.cell cell).0 here.0;
      drawn = most_of lease.epoch s.epoch now.0;
      rowless = nothing_of (map.get s.rows lease) room.0;
      room = less_of (map.len s.rows) ATTEMPTS_AND_ROWS room.1;
    }

none_apart : AreApart (claims_of empty_store.tree)
unfolding claims_of
none_apart c d ic id same = absurd (nowhere c ic)

module _ (cell : ℕ) where
  pub nothing_kept : IsKept cell empty_store
  nothing_kept = record {
    ranges = All-nil IsRange;
    ranges_here = λ r is. absurd (nowhere r is);
    fits = empty_fits;
    apart = none_apart;
    leases = λ l o is. none l o is;
    rows_here = λ l o is. none l o is;
    drawn = λ l o is. none l o is;
    few = (let none = len-empty lease_cmp Operations in omega (arith, none));
  }
    where
      none : {G : Type 0} (lease : LeaseId) (ops : Operations) → map.get (map.empty {X = Operations} {R = lease_cmp}) lease ≡ Some ops → G
      none lease ops is = let both : None ≡ Some ops = sym (get-empty lease_cmp lease) ∙ is in absurd cc

  module _ (s : Store) (kept : IsKept cell s) where
    -- the epoch never falls
    pub epoch_kept : (epoch : ℕ) → s.epoch ≤ epoch → IsKept cell (record s { epoch = epoch })
    epoch_kept epoch rises = record {
      ranges = kept.ranges;
      ranges_here = kept.ranges_here;
      fits = kept.fits;
      apart = kept.apart;
      leases = kept.leases;
      rows_here = kept.rows_here;
      drawn = λ l o is. (let before = kept.drawn l o is in omega (arith, before, rises));
      few = kept.few;
    }

    pub record_kept : (lease : LeaseId) (change : Change) (ops : Operations) → IsLease lease → Rowless cell s lease → Fits s.tree s.known change ops → IsKept cell (with_record s lease change ops)
    record_kept lease change ops is row fits = record {
      ranges = kept.ranges;
      ranges_here = kept.ranges_here;
      fits = changed_fits s.tree change s.known kept.fits fits.ruled;
      apart = apart_after s.tree change s.known kept.fits kept.apart fits.ruled;
      leases = λ l o at. elim (inserted leases_total leases_exact s.rows lease ops l o at) [ inl new ↦ subst IsLease (sym new.0) is | inr old ↦ kept.leases l o old.1 ];
      rows_here = λ l o at. elim (inserted leases_total leases_exact s.rows lease ops l o at) [ inl new ↦ ap (λ (x : LeaseId). x.cell) new.0 ∙ row.here | inr old ↦ kept.rows_here l o old.1 ];
      drawn = λ l o at. elim (inserted leases_total leases_exact s.rows lease ops l o at) [ inl new ↦ subst (λ (x : LeaseId). x.epoch ≤ s.epoch) (sym new.0) row.drawn | inr old ↦ kept.drawn l o old.1 ];
      few = (let more = len_more leases_total s.rows lease ops in let room = row.room in omega (arith, more, room));
    }

    pub row_gone_kept : (lease : LeaseId) → IsKept cell (without_row s lease)
    row_gone_kept lease = record {
      ranges = kept.ranges;
      ranges_here = kept.ranges_here;
      fits = kept.fits;
      apart = kept.apart;
      leases = λ l o at. kept.leases l o (removed leases_total leases_exact s.rows lease l o at).1;
      rows_here = λ l o at. kept.rows_here l o (removed leases_total leases_exact s.rows lease l o at).1;
      drawn = λ l o at. kept.drawn l o (removed leases_total leases_exact s.rows lease l o at).1;
      few = (let less = len_less leases_total s.rows lease in let few = kept.few in omega (arith, less, few));
    }

    pub range_kept : (range : Range) → IsRange range → range.cell ≡ cell → is_next s.known range ≡ true → IsKept cell (with_range s range)
    range_kept range is here next =
        let both = and_split (nat_eq range.number (length s.known + 1)) (nat_lt (last_end s.known) range.low) next in
        record {
          ranges = All-push IsRange s.known range kept.ranges is;
          ranges_here = λ r among. elim (Contains-push_cases s.known range r among) [ inl old ↦ kept.ranges_here r old | inr new ↦ subst (λ (x : Range). x.cell ≡ cell) new here ];
          fits = fits_more s.tree s.known range kept.fits (less_of (last_end s.known) range.low both.1) is.ends.1;
          apart = kept.apart;
          leases = kept.leases;
          rows_here = kept.rows_here;
          drawn = kept.drawn;
          few = kept.few;
        }

  module _ (is_cell : IsCell cell) where
    range_is : (number low high : ℕ) → IsCellEntry (Got number low high) → IsRange (record { cell = cell; number = number; low = low; high = high })
    range_is number low high is = record { cell = is_cell; number = is.0; ends = is.1 }

    -- whatever the entry is
    pub turn_kept : (s t : Store) (e : CellEntry) → IsCellEntry e → store_turn cell s e ≡ Some t → IsKept cell s → IsKept cell t
    turn_kept s t (Epoch epoch) is h kept =
        let said = legal_says (nat_lt s.epoch epoch) _ t h in
        let rises = less_of s.epoch epoch said.0 in
        subst (IsKept cell) said.1 (epoch_kept s kept epoch (omega (arith, rises)))
    turn_kept s t (Recorded lease change ops) is h kept =
        let said = legal_says (may_keep_row cell s lease && still_fits s.tree s.known change ops) _ t h in
        let parts = and_split (may_keep_row cell s lease) (still_fits s.tree s.known change ops) said.0 in
        subst (IsKept cell) said.1 (record_kept s kept lease change ops is.0 (row_says cell s lease parts.0) (fits_says s.tree s.known change ops parts.1))
    turn_kept s t (RowGone lease) is h kept =
        let said = legal_says (is_some (map.get s.rows lease)) _ t h in
        subst (IsKept cell) said.1 (row_gone_kept s kept lease)
    turn_kept s t (Got number low high) is h kept =
        let said = legal_says (is_next s.known (record { cell = cell; number = number; low = low; high = high })) _ t h in
        subst (IsKept cell) said.1 (range_kept s kept (record { cell = cell; number = number; low = low; high = high }) (range_is number low high is) refl said.0)
