-- One body more is one entry more, and what the bodies stand for is kept in order.
use Rattle.std.proofs.Common.{◌≡◌, ℕ, ◌+◌, ◌<◌, Bool, true, false, List, [], ◌∷◌, ◌++◌, length, take, get_or, map, Option, Some, None, Ok, refl, sym, ◌∙◌, ap, subst}
use Rattle.std.specs.Prelude.{IfSome, IfNone}
use Rattle.std.specs.List.{AllByRecursion}
use Rattle.std.proofs.lemmas.List.{take_more}
use Rattle.claim_types.specs.Bounds.{IsCell}
use Rattle.claim_types.specs.EntryBounds.{IsCellEntry}
use Rattle.claim_types.specs.declared.entry.CellEntry.{CellEntry}
use Rattle.claim_laws.specs.Files.{Store, store_turn, store_in, empty_store}
use Rattle.disk_journal.proofs.Entries.{map_push, all_push}
use Rattle.entry_codec.specs.Spelling.{cell_entry_bytes}
use Rattle.record_tree.specs.Known.{IsWithin}
use Rattle.cell_store.specs.Store.{store, IsKept}
use Rattle.cell_store.specs.Opening.{StandFor, IsNoTurn}
use Rattle.cell_store.specs.Turns.{IsEntered, IsReplay}
use Rattle.cell_store.proofs.Keeping.{nothing_kept, turn_kept}
use Rattle.cell_store.proofs.Turning.{goes_on}

-- the records of what is kept have identifiers of its ranges
pub is_within : (cell : ℕ) (s : Store) → IsKept cell s → IsWithin s.tree s.known
is_within cell s kept = record { rising = kept.fits.rising; ids = kept.fits.ids }

pub replay_start : (cell : ℕ) (s : Store) → s ≡ empty_store → IsReplay cell [] s
unfolding store_in
replay_start cell s same = record {
  es = [];
  stand = record { entries = tt; spelled = refl; folds = ap Some (sym same) };
  keeps = subst (IsKept cell) (sym same) (nothing_kept cell);
}

pub replay_push : (cell : ℕ) → IsCell cell → (bodies : List (List ℕ)) (n : ℕ) (s t : Store) → IsReplay cell (take n bodies) s → (body d : List ℕ) → n < length bodies → body ≡ get_or bodies n d → IsEntered cell s body t → IsReplay cell (take (n + 1) bodies) t
replay_push cell is_cell bodies n s t so_far body d lt here entered = record {
  es = so_far.es ++ entered.entry ∷ [];
  stand = record {
    entries = all_push (store cell) entered.entry so_far.es so_far.stand.entries entered.is;
    spelled =
        map_push (store cell) entered.entry so_far.es
        ∙ (λ i. so_far.stand.spelled i ++ entered.spelled i ∷ [])
        ∙ ap (λ (b : List ℕ). take n bodies ++ b ∷ []) here
        ∙ sym (take_more bodies n d lt);
    folds = goes_on cell s t entered.entry entered.turns so_far.es so_far.stand.folds;
  };
  keeps = turn_kept cell is_cell s t entered.entry entered.is entered.turns so_far.keeps;
}
