use Rattle.claim_map.specs.State.{Tree}
use Rattle.record_tree.proofs.Same.{no_long_route, longest_told}
use Rattle.record_tree.proofs.tree.Tree.find_path.Goals as goal

pub holder_of-requires : goal.holder_of-requires
holder_of-requires c = no_long_route c.self.inside.records.items c.self.inside.index c.self.invariant

pub returns : goal.returns
returns c =
    let tree : Tree = record { records = c.self.inside.records.items; used = c.self.inside.used; version = c.self.inside.version } in
    longest_told c.args.self.now tree c.self.inside.index c.self.invariant.indexed c.self.view_is c.args.path.now c.holder_of.result c.holder_of.ensures
