-- What comes of a reply, by what the agent keeps of its lease, and what is written down of it.
use Rattle.std.proofs.Common.{◌≡◌, ℕ, Bool, true, false, ◌&&◌, nat_eq, Option, Some, None, is_some, cond, refl, sym, ap, subst}
use Rattle.claim_types.specs.declared.cell.Range.{Range}
use Rattle.claim_types.specs.declared.entry.CellEntry.{CellEntry}
use Rattle.claim_types.specs.declared.entry.CellEntry.TheVariants.{RowGone, Got}
use Rattle.claim_types.specs.declared.lease.LeaseId.{LeaseId}
use Rattle.claim_types.specs.declared.operations.Operations.{Operations}
use Rattle.claim_map.specs.State.{Tree}
use Rattle.claim_laws.specs.Nodes.{Agent, passes_over, with_range, hears_committed, hears_range, is_next}
use Rattle.disk_journal.specs.declared.disk.Disk.{Ghosts}
use Rattle.disk_journal.specs.Entries.{Format, Keeper, Appended}
use Rattle.disk_journal.proofs.Entries.{nothing_appended}

module _ (tree : Tree) (a : Agent) (lease : LeaseId) where
  -- a commit of a lease with a row is written down
  pub row_entry : (row : Option Operations) → is_some row ≡ true → (hears_committed tree a lease row).entry ≡ Some (RowGone lease)
  row_entry (Some ops) has = refl
  row_entry None has = cc

  pub rowless_entry : (row : Option Operations) → is_some row ≡ false → (hears_committed tree a lease row).entry ≡ None
  rowless_entry None has = refl
  rowless_entry (Some ops) has = cc

module _ (cell : ℕ) (tree : Tree) (a : Agent) (range : Range) where
  entry_if : Bool → Option CellEntry
  entry_if b = (cond b (record (passes_over tree a) { entry = Some (Got range.number range.low range.high); agent = with_range a range }) (passes_over tree a)).entry

  -- the next range of the cell is written down
  pub next_entry : (nat_eq range.cell cell && is_next a.known range) ≡ true → (hears_range cell tree a range).entry ≡ Some (Got range.number range.low range.high)
  unfolding entry_if
  next_entry next = ap entry_if next

  -- another is not
  pub other_entry : (nat_eq range.cell cell && is_next a.known range) ≡ false → (hears_range cell tree a range).entry ≡ None
  unfolding entry_if
  other_entry other = ap entry_if other

-- where nothing is written down, and no call of the disk was made
pub quiet : {D E S : Type 0} (g : Ghosts D) (f : Format E S) (d : D) (k : Keeper S) (entry : Option E) → entry ≡ None → Appended g f d d k k entry
quiet g f d k entry none = subst (Appended g f d d k k) (sym none) (nothing_appended g f d k)
