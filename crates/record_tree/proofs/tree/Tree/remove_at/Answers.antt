use Rattle.std.proofs.Common.{◌∙◌, [], ap}
use Rattle.std.specs.List.{remove}
use Rattle.claim_map.specs.State.{Tree}
use Rattle.record_tree.proofs.After.{whole_then, whole_still}
use Rattle.record_tree.proofs.tree.Tree.remove_at.Goals as goal

pub invariant_of-self : goal.invariant_of-self
invariant_of-self c =
    whole_still c.args.self.now.records c.self.inside.records.items c.self.inside.index c.remove_record.new.index c.self.invariant (ap (λ (t : Tree). t.records) c.self.view_is) c.remove_record.new.records.items [] c.args.ops.now
    c.in_err-remove_record.ensures.stays c.in_err-remove_record.ensures.same

pub invariant_of-self-2 : goal.invariant_of-self-2
invariant_of-self-2 c =
    whole_then c.args.self.now.records c.self.inside.records.items c.self.inside.index c.remove_record.new.index c.self.invariant (ap (λ (t : Tree). t.records) c.self.view_is) c.remove_record.new.records.items
    (remove c.args.self.now.records c.args.at) c.args.ops.now
    (c.in_ok-remove_record.ensures.ok ∙ ap (λ (t : Tree). remove t.records c.args.at) c.self.view_is) c.in_ok-remove_record.ensures.index c.requires.may
