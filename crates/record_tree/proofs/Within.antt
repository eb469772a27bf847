-- The records of a tree stay among the identifiers that it has used.
use Rattle.std.proofs.Common.{◌≡◌, ℕ, not, nat_eq, List, Option, Some, None, inl, inr, refl, sym, ◌∙◌, ap, arith}
use Rattle.std.proofs.lemmas.List.Elements.{Contains-push_cases}
use Rattle.claim_types.specs.declared.cell.Range.{Range}
use Rattle.claim_types.specs.declared.record.Record.{Record}
use Rattle.claim_types.specs.declared.record.Change.{Change}
use Rattle.claim_types.specs.declared.record.Change.TheVariants.{Create, Rename, Remove}
use Rattle.cells_base.proofs.Members.{of_filter, of_map}
use Rattle.claim_map.specs.State.{Tree}
use Rattle.claim_map.specs.Records.{next_id, with_record, renamed, changed_by}
use Rattle.claim_map.proofs.Trees.{same_id}
use Rattle.record_tree.specs.Known.{IsWithin}

pub stays_within : (tree : Tree) (change : Change) (known : List Range) → IsWithin tree known → IsWithin (changed_by tree change known) known
stays_within tree (Create kind parent name) known within = go (next_id tree known) refl
  where
    go : (next : Option ℕ) → next_id tree known ≡ next → IsWithin (with_record tree next kind parent name) known
    go None is = within
    go (Some id) is = record {
      rising = within.rising;
      ids = λ q among. elim (Contains-push_cases tree.records (record { id = id; kind = kind; parent = parent; name = name }) q among) [
        | inl old ↦ let found = within.ids q old in let lt = found.1 in (found.0, omega (arith, lt), found.2)
        | inr e ↦ (tree.used, omega arith, is ∙ ap (λ (r : Record). Some r.id) e)
      ];
    }
stays_within tree (Rename id name) known within = record {
  rising = within.rising;
  ids = λ q among.
      let found = of_map (renamed id name) tree.records q among in
      let old = within.ids found.0 found.1 in
      (old.0, old.1, old.2 ∙ ap Some (sym (same_id id name found.0) ∙ ap (λ (r : Record). r.id) found.2));
}
stays_within tree (Remove id) known within = record {
  rising = within.rising;
  ids = λ q among. within.ids q (of_filter (λ (r : Record). not (nat_eq r.id id)) tree.records q among).0;
}
