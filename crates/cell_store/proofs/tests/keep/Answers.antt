use Rattle.std.proofs.Common.{◌≡◌, ℕ, ◌==◌, true, List, [], ◌∷◌, length, None, is_some, refl, sym, ◌∙◌, ap, subst, arith}
use Rattle.std.specs.FinMap as map
use Rattle.std.proofs.lemmas.Bool.Decides.{Decides-eqb}
use Rattle.std.proofs.lemmas.List.{length-map}
use Rattle.cells_base.proofs.Maps.{insert_same}
use Rattle.claim_types.specs.Order.{lease_cmp}
use Rattle.claim_types.specs.declared.cell.Range.{Range}
use Rattle.claim_types.specs.declared.entry.CellEntry.TheVariants.{Got}
use Rattle.claim_types.specs.declared.lease.LeaseId.{LeaseId}
use Rattle.claim_types.specs.declared.operations.Operations.{Operations}
use Rattle.claim_types.proofs.Ordered.{leases_total, leases_exact}
use Rattle.claim_laws.specs.Files.{Store}
use Rattle.claim_laws.specs.Nodes.{is_next}
use Rattle.cell_store.proofs.Calling.{still_rests}
use Rattle.cell_store.proofs.tests.keep.Goals as goal

nothing_in : {X : Type 0} (xs : List X) → (length xs == 0) ≡ true → xs ≡ []
nothing_in [] h = refl
nothing_in (x ∷ xs) h = let none : length (x ∷ xs) ≡ 0 = (Decides-eqb (length (x ∷ xs)) 0).0 h in absurd (omega (arith, none))

no_rows : (m : map.FinMap lease_cmp Operations) → map.keys m ≡ [] → m ≡ map.empty
no_rows m none = map.empty_of_len m (map.len-entries m ∙ sym (length-map (map.entries m) (λ e. e.0)) ∙ ap length none)

pub range_got-requires-clause-range : goal.range_got-requires-clause-range
range_got-requires-clause-range g c =
    let range : Range = record { cell = 1; number = 1; low = 1; high = 1000 } in
    let none = sym c.known.ensures ∙ nothing_in c.known.result.now (sym c.is_empty.ensures ∙ c.if-not-is_empty.false) in
    record {
      is = record { cell = (omega arith, omega arith); number = (omega arith, omega arith); ends = (omega arith, omega arith, omega arith) };
      here = sym c.in-Ok.ensures.cell;
      next = subst (λ (ks : List Range). is_next ks range ≡ true) (sym none) refl;
    }

pub record-requires-clause-lease : goal.record-requires-clause-lease
record-requires-clause-lease g c =
    let store = c.range_got.ensures.store in
    let lease : LeaseId = record { cell = 1; epoch = c.epoch.result; attempt = 1 } in
    let epoch = c.epoch.ensures in
    let least = store.epoch.0 in
    let most = store.epoch.1 in
    let none = no_rows c.in-Ok.store.state.rows (sym c.rows.ensures ∙ nothing_in c.rows.result.now (sym c.is_empty-2.ensures ∙ c.if-not-is_empty-2.false)) in
    let rows = ap (λ (s : Store). s.rows) c.in-Ok-range_got.ensures.ok ∙ none in
    let len = ap map.len rows ∙ map.len-empty lease_cmp Operations in
    record {
      is = record {
        cell_least = omega arith;
        cell_most = omega arith;
        epoch_least = omega (arith, epoch, least);
        epoch_most = omega (arith, epoch, most);
        attempt_least = omega arith;
        attempt_most = omega arith;
      };
      here = sym (c.range_got.ensures.same.cell ∙ c.in-Ok.ensures.cell);
      drawn = omega (arith, epoch);
      rowless = ap (λ m. map.get m lease) rows ∙ map.get-empty lease_cmp lease;
      room = omega (arith, len);
    }

pub record-requires-clause-at_rest : goal.record-requires-clause-at_rest
record-requires-clause-at_rest g c =
    still_rests c.in-Ok.store c.in-Ok.ensures.store g.D.Disk c.open.new.disk c.range_got.new.disk c.range_got.new.self (Got 1 1 1000) c.in-Ok.ensures.at_rest c.in-Ok-range_got.ensures.written c.range_got.ensures.same.cell

pub row_gone-requires-clause-row : goal.row_gone-requires-clause-row
row_gone-requires-clause-row g c =
    let lease : LeaseId = record { cell = 1; epoch = c.epoch.result; attempt = 1 } in
    ap (λ (s : Store). is_some (map.get s.rows lease)) c.in-Ok-record.ensures.ok ∙ ap is_some (insert_same leases_total leases_exact c.range_got.new.self.state.rows lease c.in-Ok-operations_of.ops)

pub row_gone-requires-clause-at_rest : goal.row_gone-requires-clause-at_rest
row_gone-requires-clause-at_rest g c =
    let rests = still_rests c.in-Ok.store c.in-Ok.ensures.store g.D.Disk c.open.new.disk c.range_got.new.disk c.range_got.new.self (Got 1 1 1000) c.in-Ok.ensures.at_rest c.in-Ok-range_got.ensures.written c.range_got.ensures.same.cell in
    still_rests c.range_got.new.self c.range_got.ensures.store g.D.Disk c.range_got.new.disk c.record.new.disk c.record.new.self _ rests c.in-Ok-record.ensures.written c.record.ensures.same.cell
