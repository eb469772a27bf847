use Rattle.std.proofs.Common.{◌≡◌, ◌+◌, ◌≤◌}
use Rattle.std.specs.Prelude.{vec_capacity, vec_len}
use Rattle.std.specs.FinMap as map
use Rattle.reconciler.specs.Agent.{kept_by, IsAgent, IsSameAgent}
use Rattle.cells_world.proofs.Reconcile.{EndsSome}
use Rattle.cells_world.proofs.cluster.end_due.Given as goal

abbrev pub invariant-loop : goal.invariant-loop
invariant-loop l = record {
  agent : IsAgent l.agent;
  store : l.agent.store ≡ l.fn.agent.store;
  same : IsSameAgent l.fn.agent l.agent;
  room : vec_len l.notes + map.len (kept_by l.fn.agent).pending ≤ vec_capacity l.notes + l.counter;
  ends : EndsSome l.fn.agent.threshold l.now l.counter (kept_by l.fn.agent) (kept_by l.agent) l.fn.notes.items l.notes.items;
}
