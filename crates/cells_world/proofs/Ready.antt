-- Every node stays ready, whichever node's call was made.
use Rattle.std.proofs.Common.{◌≡◌, ◌≢◌, ⊎_elim, ℕ, ◌≤◌, sym, ◌∙◌, ap, subst, arith}
use Rattle.std.specs.List.{Contains}
use Rattle.disk_journal.specs.declared.disk.Disk.{Ghosts}
use Rattle.disk_journal.specs.Entries.{TouchesOnly}
use Rattle.disk_journal.proofs.Entries.{rests_on}
use Rattle.claim_map.specs.Registry.{Registry}
use Rattle.claim_service.specs.Node.{service, keeper}
use Rattle.claim_service.specs.declared.limits.TheConstants.{SERVICE_FILE}
use Rattle.cell_store.specs.Store.{store, keeper as store_keeper}
use Rattle.reconciler.specs.Agent.{IsReady as IsAgentReady}
use Rattle.reconciler.specs.declared.agent.CellAgent.{CellAgent}
use Rattle.cells_world.specs.Cluster.{IsReady, AreAgentsOf, PutsOne}
use Rattle.cells_world.specs.Post.{ArePackets}
use Rattle.cells_world.specs.Serving.{IsServing}
use Rattle.cells_world.specs.declared.cluster.Cluster.{Cluster}

module _ {D : Type 0} (g : Ghosts D) (d e : D) where
  -- a call on other files leaves an agent ready
  pub agent_on : (file : ℕ) (a : CellAgent) → file ≢ a.store.cell → TouchesOnly g file d e → IsAgentReady g d a → IsAgentReady g e a
  agent_on file a apart touches ready = record {
    agent = ready.agent;
    live = ready.live;
    at_rest = rests_on g (store a.store.cell) d e file (store_keeper a.store) (λ q own mine. apart (sym own ∙ mine ∙ ready.agent.store.file)) touches.elsewhere ready.at_rest;
  }

  service_on : (file : ℕ) (old : Cluster) → 1 ≤ file → TouchesOnly g file d e → IsServing g d old.service → IsServing g e old.service
  service_on file old positive touches ready = record {
    is = ready.is;
    live = ready.live;
    at_rest = rests_on g service d e file (keeper old.service) (λ q own mine. (let zero_is = ready.is.file in omega (arith, own, mine, zero_is, positive))) touches.elsewhere ready.at_rest;
  }

  module _ (old new : Cluster) (ready : IsReady g d old) (registry : new.registry ≡ old.registry) (packets : ArePackets new.post) where
    -- the service's call was made
    pub ready_served : new.cells.items ≡ old.cells.items → IsServing g e new.service → TouchesOnly g SERVICE_FILE d e → IsReady g e new
    ready_served cells serving touches = record {
      configured = subst Rattle.claim_map.specs.Bounds.AreCells (sym registry) ready.configured;
      agents = subst (λ r. AreAgentsOf r new.cells.items) (sym registry) (subst (AreAgentsOf old.registry) (sym cells) ready.agents);
      thresholds = λ a there. ready.thresholds a (subst (λ as_all. Contains as_all a) cells there) ∙ ap (λ (r : Registry). r.threshold) (sym registry);
      service = serving;
      cells = λ a there. (
          let was = ready.cells a (subst (λ as_all. Contains as_all a) cells there) in
          let positive = was.agent.store.cell.0 in
          agent_on SERVICE_FILE a (λ same. omega (arith, same, positive)) touches was);
      packets = packets;
    }

    -- an agent's call was made
    pub ready_heard : (k now : CellAgent) → Contains old.cells.items k → now.store.cell ≡ k.store.cell → now.threshold ≡ k.threshold → new.service ≡ old.service → PutsOne old.cells.items now new.cells.items → AreAgentsOf old.registry new.cells.items → IsAgentReady g e now → TouchesOnly g k.store.cell d e → IsReady g e new
    ready_heard k now inside same threshold service_same puts agents is_ready touches = record {
      configured = subst Rattle.claim_map.specs.Bounds.AreCells (sym registry) ready.configured;
      agents = subst (λ r. AreAgentsOf r new.cells.items) (sym registry) agents;
      thresholds = λ a there. ⊎_elim
          (λ (is : a ≡ now). ap (λ (x : CellAgent). x.threshold) is ∙ threshold ∙ ready.thresholds k inside)
          (λ other. ready.thresholds a other.0)
          (puts.each a there) ∙ ap (λ (r : Registry). r.threshold) (sym registry);
      service = subst (IsServing g e) (sym service_same) (service_on k.store.cell old (ready.cells k inside).agent.store.cell.0 touches ready.service);
      cells = λ a there. ⊎_elim
          (λ (is : a ≡ now). subst (IsAgentReady g e) (sym is) is_ready)
          (λ other. agent_on k.store.cell a (λ clash. other.1 (sym clash ∙ sym same)) touches (ready.cells a other.0))
          (puts.each a there);
      packets = packets;
    }

-- packets were sent, and the nodes are as they were
pub ready_sent : {D : Type 0} (g : Ghosts D) (d : D) (old new : Cluster) → IsReady g d old → new.registry ≡ old.registry → ArePackets new.post → new.service ≡ old.service → new.cells.items ≡ old.cells.items → IsReady g d new
ready_sent g d old new ready registry packets service cells = record {
  configured = subst Rattle.claim_map.specs.Bounds.AreCells (sym registry) ready.configured;
  agents = subst (λ r. AreAgentsOf r new.cells.items) (sym registry) (subst (AreAgentsOf old.registry) (sym cells) ready.agents);
  thresholds = λ a there. ready.thresholds a (subst (λ as_all. Contains as_all a) cells there) ∙ ap (λ (r : Registry). r.threshold) (sym registry);
  service = subst (IsServing g d) (sym service) ready.service;
  cells = λ a there. ready.cells a (subst (λ as_all. Contains as_all a) cells there);
  packets = packets;
}
