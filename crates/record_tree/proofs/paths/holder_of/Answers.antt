use Rattle.std.proofs.Common.{arith}
use Rattle.std.specs.FinMap as map
use Rattle.record_tree.specs.Paths.{route_key}
use Rattle.record_tree.proofs.Longest.{longest_step, longest_whole}
use Rattle.record_tree.proofs.paths.holder_of.Goals as goal

pub loop-end-preserved : goal.loop-end-preserved
loop-end-preserved c = record {
  longest = longest_step (λ value. map.get c.args.index.now (route_key value)) c.args.path.now c.loop-end.end c.loop-end.found c.at_front-here.result c.or-found.result c.or-found.ensures c.at_front-here.ensures.some c.at_front-here.ensures.none c.loop-end.invariant.longest;
}

pub returns : goal.returns
returns c =
    let t = c.loop-end-test.false in let q = c.loop-end.auto.end-end in
    longest_whole (λ value. map.get c.args.index.now (route_key value)) c.args.path.now 255 c.min-most.result c.loop-end.end c.loop-end.found c.min-most.ensures (omega (arith, t, q)) c.requires c.loop-end.invariant.longest
