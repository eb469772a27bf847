use Rattle.std.proofs.Common.{◌∙◌, [], ap, slice_set, slice_index_or}
use Rattle.claim_types.specs.declared.record.Kind.TheVariants.{Organization}
use Rattle.claim_types.specs.declared.record.Record.{Record}
use Rattle.claim_map.specs.State.{Tree}
use Rattle.record_tree.proofs.After.{whole_then, free_then}
use Rattle.record_tree.proofs.tree.Tree.rename_at.Goals as goal

pub rename_record-requires-clause-free : goal.rename_record-requires-clause-free
rename_record-requires-clause-free c =
    let d : Record = record { id = 0; kind = Organization; parent = 0; name = [] } in
    free_then c.args.self.now.records c.self.inside.records.items c.self.inside.index c.self.inside.index c.self.invariant (ap (λ (t : Tree). t.records) c.self.view_is) []
    (slice_set c.args.self.now.records c.args.at (record (slice_index_or c.args.self.now.records c.args.at d) { name = c.args.name })) c.args.ops.now (c.requires.may d)

pub invariant_of-self-2 : goal.invariant_of-self-2
invariant_of-self-2 c =
    let d : Record = record { id = 0; kind = Organization; parent = 0; name = [] } in
    whole_then c.args.self.now.records c.self.inside.records.items c.self.inside.index c.rename_record.new.index c.self.invariant (ap (λ (t : Tree). t.records) c.self.view_is) c.rename_record.new.records.items
    (slice_set c.args.self.now.records c.args.at (record (slice_index_or c.args.self.now.records c.args.at d) { name = c.args.name })) c.args.ops.now
    (c.in_ok-rename_record.ensures.ok d ∙ ap (λ (t : Tree). slice_set t.records c.args.at (record (slice_index_or t.records c.args.at d) { name = c.args.name })) c.self.view_is) c.in_ok-rename_record.ensures.index (c.requires.may d)
