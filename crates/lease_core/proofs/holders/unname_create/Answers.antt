use Rattle.std.proofs.Common.{◌∷◌, [], List, ℕ, sym, ap, subst, ◌∙◌}
use Rattle.std.specs.FinMap as fin
use Rattle.key_table.specs.Parts.{KeyParts}
use Rattle.lease_core.specs.Kept.{KeepsRows, KeepsHeld}
use Rattle.lease_core.proofs.Noted.{other_rows, held_rows, no_some}
use Rattle.lease_core.proofs.holders.unname_create.Goals as goal

pub returns-then-is_none-clause-rows : goal.returns-then-is_none-clause-rows
returns-then-is_none-clause-rows c = subst (λ s. KeepsRows (c.args.create.key ∷ []) c.args.rows.now s) (sym c.remove.ensures) (other_rows c.args.rows.now _)

pub returns-then-is_none-clause-held : goal.returns-then-is_none-clause-held
returns-then-is_none-clause-held c =
    let key = c.args.create.key in
    let unheld = ap (λ (k : KeyParts). fin.get k.holder key) (sym c.unname.ensures) ∙ ap (λ (v : List ℕ). fin.get c.unname.new.self.holder (record { bucket = key.bucket; value = v })) (sym c.as_slice.ensures)
    ∙ sym c.state.ensures.holder ∙ no_some c.state.result.holder c.if-is_none.ensures in
    subst (λ s. KeepsHeld c.args.keys.now.holder c.args.rows.now s) (sym c.remove.ensures) (held_rows c.args.rows.now _ c.args.keys.now.holder unheld)
