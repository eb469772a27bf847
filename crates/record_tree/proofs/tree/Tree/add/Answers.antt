use Rattle.std.proofs.Common.{◌∷◌, [], ◌++◌, Some, subst}
use Rattle.claim_map.specs.State.{Tree}
use Rattle.record_tree.specs.Follows.{MayFollow}
use Rattle.record_tree.specs.Adding.{TellsAdded}
use Rattle.record_tree.proofs.Added.{may_add}
use Rattle.record_tree.proofs.tree.Tree.add.Goals as goal

pub put_behind-requires : goal.put_behind-requires
put_behind-requires c =
    let rs = c.self.inside.records.items in
    let told : TellsAdded rs c.self.inside.used c.args.known.now c.args.item (Some c.in-Some.operations) =
    subst (λ o. TellsAdded rs c.self.inside.used c.args.known.now c.args.item o) c.in-Some.is (rw c.as_slice-records.ensures.value at (c.in_ok-operations.ensures {u = tt})) in
    subst (λ (t : Tree). MayFollow t.records (t.records ++ c.args.item ∷ []) c.in-Some.operations) c.self.view_is
    (may_add rs c.self.inside.index c.self.invariant c.self.inside.used c.args.known.now c.requires c.args.item told.0 c.in-Some.operations told.1)
