use Rattle.std.specs.FinMap as map
use Rattle.record_tree.specs.Paths.{IsLongest, route_key}
use Rattle.record_tree.proofs.paths.holder_of.Given as goal

abbrev pub invariant-loop-end : goal.invariant-loop-end
invariant-loop-end l = record {
  longest : IsLongest (λ value. map.get l.index (route_key value)) l.path l.end l.found;
}
