use Rattle.std.proofs.Common.{◌∙◌, ◌++◌, ◌∷◌, [], ap}
use Rattle.claim_map.specs.State.{Tree}
use Rattle.record_tree.proofs.After.{whole_then, whole_still}
use Rattle.record_tree.proofs.tree.Tree.put_behind.Goals as goal

pub invariant_of-self : goal.invariant_of-self
invariant_of-self c =
    whole_still c.args.self.now.records c.self.inside.records.items c.self.inside.index c.put_record.new.index c.self.invariant (ap (λ (t : Tree). t.records) c.self.view_is) c.put_record.new.records.items [] c.args.ops.now
    c.in_err-put_record.ensures.stays c.in_err-put_record.ensures.same

pub invariant_of-self-2 : goal.invariant_of-self-2
invariant_of-self-2 c =
    whole_then c.args.self.now.records c.self.inside.records.items c.self.inside.index c.put_record.new.index c.self.invariant (ap (λ (t : Tree). t.records) c.self.view_is) c.put_record.new.records.items
    (c.args.self.now.records ++ c.args.item ∷ []) c.args.ops.now
    (c.in_ok-put_record.ensures.ok ∙ ap (λ (t : Tree). t.records ++ c.args.item ∷ []) c.self.view_is) c.in_ok-put_record.ensures.index c.requires
