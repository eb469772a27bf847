use Rattle.std.proofs.Common.{refl, sym, ap, ◌∙◌, ◌≡◌, ◌≢◌, ◌<◌, ◌≤◌, Some, length, below_more, arith}
use Rattle.std.specs.List.{slice_get}
use Rattle.std.proofs.lemmas.Option.{slice_get_read, slice_get_within}
use Rattle.cell_store.specs.declared.store.CellStore.{CellStore}
use Rattle.reconciler.specs.declared.agent.CellAgent.{CellAgent}
use Rattle.cells_world.proofs.Places.{somewhere, same_some}
use Rattle.cells_world.proofs.cluster.place_of.Goals as goal

pub returns-then-cell-clause-found : goal.returns-then-cell-clause-found
returns-then-cell-clause-found c =
    let within : c.loop-place.place < length c.args.cells.now = omega arith in (
      c.index-cells-place.result,
      slice_get_read c.args.cells.now (length c.args.cells.now) c.loop-place.place c.index-cells-place.result refl within c.index-cells-place.is,
      ap (λ (s : CellStore). s.cell) (sym c.store.ensures) ∙ sym c.cell.ensures ∙ c.if-cell.true,
    )

pub loop-place-preserved : goal.loop-place-preserved
loop-place-preserved c = below_more (λ k. (a : CellAgent) → slice_get c.args.cells.now k ≡ Some a → a.store.cell ≢ c.args.cell) c.loop-place.place c.loop-place.invariant
    (λ a there same. (
    let within : c.loop-place.place < length c.args.cells.now = omega arith in
    let is : c.index-cells-place.result ≡ a = same_some c.index-cells-place.result a (sym (slice_get_read c.args.cells.now (length c.args.cells.now) c.loop-place.place c.index-cells-place.result refl within c.index-cells-place.is) ∙ there) in
    c.if-cell.false (c.cell.ensures ∙ ap (λ (s : CellStore). s.cell) c.store.ensures ∙ ap (λ (x : CellAgent). x.store.cell) is ∙ same)))

pub returns-clause-missing : goal.returns-clause-missing
returns-clause-missing c = λ a there same. (
    let at = somewhere c.args.cells.now a there in
    let within : at.0 < length c.args.cells.now = slice_get_within c.args.cells.now at.0 a at.1 in
    let past : length c.args.cells.now ≤ c.loop-place.place = omega arith in
    c.loop-place.invariant at.0 (omega (arith, within, past)) a at.1 same)
