use Rattle.std.proofs.Common.{inl, inr}
use Rattle.key_table.proofs.Parts.{has_entry, has_held, then_claimed}
use Rattle.key_table.proofs.keys.Keys.claim.Goals as goal

pub change-requires : goal.change-requires
change-requires c = elim c.requires [
  | inl named ↦ has_entry c.self.inside.states _ c.self.view_is c.args.key.now c.as_slice.result.now c.as_slice.ensures named
  | inr held ↦ has_held c.self.inside.states _ c.self.view_is c.args.key.now c.as_slice.result.now c.as_slice.ensures held
]

pub returns : goal.returns
returns c = then_claimed c.self.inside.states _ c.self.view_is c.args.key.now c.as_slice.result.now c.as_slice.ensures _ c.args.holding c.change.ensures
