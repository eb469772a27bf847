use Rattle.claim_map.specs.State.{Tree}
use Rattle.record_tree.proofs.Same.{create_given, rename_given, remove_given, free_given}
use Rattle.record_tree.proofs.tree.Tree.operations_of.Goals as goal

pub create-requires-clause-free : goal.create-requires-clause-free
create-requires-clause-free c =
    let tree : Tree = record { records = c.self.inside.records.items; used = c.self.inside.used; version = c.self.inside.version } in
    free_given c.args.self.now tree c.args.known.now c.as_slice-records.result.now c.self.view_is c.as_slice-records.ensures.value
    c.id_at-next.result c.self.invariant.ascending c.requires c.id_at-next.ensures.id

pub returns-in-Create : goal.returns-in-Create
returns-in-Create c =
    let tree : Tree = record { records = c.self.inside.records.items; used = c.self.inside.used; version = c.self.inside.version } in
    create_given c.args.self.now tree c.self.inside.index c.self.invariant.indexed c.args.known.now c.as_slice-records.result.now c.create.result c.args.change.now c.self.view_is c.as_slice-records.ensures.value
    c.in-Create.kind c.in-Create.parent c.in-Create.name c.as_slice.result.now c.id_at-next.result c.in-Create.is c.as_slice.ensures c.id_at-next.ensures.id c.create.ensures

pub returns-in-Rename : goal.returns-in-Rename
returns-in-Rename c =
    let tree : Tree = record { records = c.self.inside.records.items; used = c.self.inside.used; version = c.self.inside.version } in
    rename_given c.args.self.now tree c.self.inside.index c.self.invariant.indexed c.args.known.now c.as_slice-records.result.now c.rename.result c.args.change.now c.self.view_is c.as_slice-records.ensures.value
    c.in-Rename.id c.in-Rename.name c.as_slice-in-Rename.result.now c.in-Rename.is c.as_slice-in-Rename.ensures c.rename.ensures

pub returns-in-Remove : goal.returns-in-Remove
returns-in-Remove c =
    let tree : Tree = record { records = c.self.inside.records.items; used = c.self.inside.used; version = c.self.inside.version } in
    remove_given c.args.self.now tree c.self.inside.index c.self.invariant.indexed c.args.known.now c.as_slice-records.result.now c.remove.result c.args.change.now c.self.view_is c.as_slice-records.ensures.value
    c.in-Remove.id c.in-Remove.is c.remove.ensures
