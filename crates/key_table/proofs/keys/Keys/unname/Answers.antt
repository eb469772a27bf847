use Rattle.std.specs.Prelude.{IsSome}
use Rattle.std.proofs.Common.{subst, rules}
use Rattle.std.proofs.Common.{sym, ◌∙◌, ap, Some, List, ℕ}
use Rattle.key_table.proofs.Parts.{has_held, then_unnamed, then_dropped}
use Rattle.std.specs.FinMap as map
use Rattle.key_table.proofs.keys.Keys.unname.Goals as goal

pub change-requires : goal.change-requires
change-requires c = has_held c.self.inside.states _ c.self.view_is c.args.key.now c.as_slice-in-Some.result.now c.as_slice-in-Some.ensures
    (subst IsSome (sym c.in-Some.is ∙ c.state.ensures.holder ∙ ap (λ (v : List ℕ). map.get c.args.self.now.holder (record { bucket = c.args.key.now.bucket; value = v })) c.as_slice.ensures) (search rules))

pub returns-in-Some : goal.returns-in-Some
returns-in-Some c = then_unnamed c.self.inside.states _ c.self.view_is c.args.key.now c.as_slice-in-Some.result.now c.as_slice-in-Some.ensures _ (Some c.in-Some.holding)
    (sym c.in-Some.is ∙ c.state.ensures.holder ∙ ap (λ (v : List ℕ). map.get c.args.self.now.holder (record { bucket = c.args.key.now.bucket; value = v })) c.as_slice.ensures) c.change.ensures

pub returns-in-None : goal.returns-in-None
returns-in-None c = then_dropped c.self.inside.states _ c.self.view_is c.args.key.now c.as_slice-in-None.result.now c.as_slice-in-None.ensures _
    (sym c.in-None.is ∙ c.state.ensures.holder ∙ ap (λ (v : List ℕ). map.get c.args.self.now.holder (record { bucket = c.args.key.now.bucket; value = v })) c.as_slice.ensures) c.remove.ensures
