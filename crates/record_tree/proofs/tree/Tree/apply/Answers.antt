use Rattle.std.proofs.Common.{◌∙◌, ◌<◌, ◌^◌, arith, ap, sym, subst, []}
use Rattle.claim_types.specs.declared.record.Kind.TheVariants.{Organization}
use Rattle.claim_types.specs.declared.record.Record.{Record}
use Rattle.claim_map.specs.State.{Tree}
use Rattle.record_tree.proofs.Applied.{create_may, rename_may, rename_is, remove_may, remove_is, next_version, on_same}
use Rattle.record_tree.proofs.May.{id_at_least}
use Rattle.record_tree.proofs.tree.Tree.apply.Goals as goal

pub push-requires-clause-may : goal.push-requires-clause-may
push-requires-clause-may c =
    let tree : Tree = record { records = c.self.inside.records.items; used = c.self.inside.used; version = c.self.inside.version } in
    create_may c.args.self.now tree c.self.inside.index c.self.invariant c.self.view_is c.args.known.now c.requires.within c.args.change.now c.requires.allowed c.in-Ok.ops c.in-Ok.ensures
    c.in-Create.kind c.in-Create.parent c.in-Create.name c.in_ok-name-in-Create.name c.in-Some.id c.id_at.result c.in-Create.is c.in_ok-name-in-Create.ensures c.id_at.ensures.id c.in-Some.is

pub push-requires-clause-used : goal.push-requires-clause-used
push-requires-clause-used c =
    let least = id_at_least 0 c.args.known.now c.self.inside.used c.in-Some.id c.requires.within.rising (sym c.id_at.ensures.id ∙ c.in-Some.is) in
    let same = ap (λ (t : Tree). t.used) c.self.view_is in let small = c.in-Some.ensures.small in omega (arith, least, same, small)

pub rename_at-requires-clause-may : goal.rename_at-requires-clause-may
rename_at-requires-clause-may c d =
    let tree : Tree = record { records = c.self.inside.records.items; used = c.self.inside.used; version = c.self.inside.version } in
    let place = rw c.as_slice.ensures.value at c.in-Some-place_of.ensures in
    rename_may c.args.self.now tree c.self.inside.index c.self.invariant c.self.view_is c.args.known.now c.requires.within c.args.change.now c.requires.allowed c.in-Ok.ops c.in-Ok.ensures
    c.in-Rename.id c.in-Some-place_of.at place.1 place.0 d c.in-Rename.name c.in_ok-name-in-Rename.name c.in-Rename.is c.in_ok-name-in-Rename.ensures

pub returns-in-Rename-clause-ok : goal.returns-in-Rename-clause-ok
returns-in-Rename-clause-ok c =
    let d : Record = record { id = 0; kind = Organization; parent = 0; name = [] } in
    let tree : Tree = record { records = c.self.inside.records.items; used = c.self.inside.used; version = c.self.inside.version } in
    let place = rw c.as_slice.ensures.value at c.in-Some-place_of.ensures in
    on_same c.rename_at.result c.rename_at.new.self _ _
    (rename_is c.args.self.now tree c.self.inside.index c.self.invariant c.self.view_is c.args.known.now c.requires.within c.args.change.now c.requires.allowed c.in-Ok.ops c.in-Ok.ensures
    c.in-Rename.id c.in-Some-place_of.at place.1 place.0 d c.in-Rename.name c.in_ok-name-in-Rename.name c.in-Rename.is c.in_ok-name-in-Rename.ensures)
    (c.rename_at.ensures.ok d)

pub remove_at-requires-clause-may : goal.remove_at-requires-clause-may
remove_at-requires-clause-may c =
    let d : Record = record { id = 0; kind = Organization; parent = 0; name = [] } in
    let tree : Tree = record { records = c.self.inside.records.items; used = c.self.inside.used; version = c.self.inside.version } in
    let place = rw c.as_slice-in-Remove.ensures.value at c.in-Some-place_of-2.ensures in
    remove_may c.args.self.now tree c.self.inside.index c.self.invariant c.self.view_is c.args.known.now c.requires.within c.args.change.now c.requires.allowed c.in-Ok.ops c.in-Ok.ensures
    c.in-Remove.id c.in-Some-place_of-2.at place.1 place.0 d c.in-Remove.is

pub returns-clause-ok : goal.returns-clause-ok
returns-clause-ok c =
    let d : Record = record { id = 0; kind = Organization; parent = 0; name = [] } in
    let tree : Tree = record { records = c.self.inside.records.items; used = c.self.inside.used; version = c.self.inside.version } in
    let place = rw c.as_slice-in-Remove.ensures.value at c.in-Some-place_of-2.ensures in
    on_same c.remove_at.result c.remove_at.new.self _ _
    (remove_is c.args.self.now tree c.self.inside.index c.self.invariant c.self.view_is c.args.known.now c.requires.within c.args.change.now c.requires.allowed c.in-Ok.ops c.in-Ok.ensures
    c.in-Remove.id c.in-Some-place_of-2.at place.1 place.0 d c.in-Remove.is)
    c.remove_at.ensures.ok

pub overflow_add-version : goal.overflow_add-version
overflow_add-version c =
    let less = next_version c.args.self.now c.args.change.now c.args.known.now c.requires.allowed (subst (λ n. n < 2 ^ 64) c.version-version.ensures c.version-version.type_inv) in
    let same = c.version-version.ensures in
    omega (arith, less, same)
