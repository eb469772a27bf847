-- What a line does of itself: from the clauses of its calls to the world after its event.
use Rattle.std.proofs.Common.{◌≡◌, ◌≢◌, ◌⊎◌, inl, inr, ⊎_elim, ℕ, List, ◌++◌, Option, Some, None, refl, sym, ◌∙◌, ap, subst}
use Rattle.std.specs.List.{Contains}
use Rattle.std.specs.FinMap as map
use Rattle.std.specs.FinMap.{nat_cmp-IsAntisymmetric}
use Rattle.std.specs.Cmp.{nat_cmp_total}
use Rattle.cells_base.proofs.Maps.{same_or_other, insert_same, insert_other}
use Rattle.claim_types.specs.declared.rule.Note.{Note}
use Rattle.claim_laws.specs.Acts.{with_agent}
use Rattle.claim_laws.specs.Nodes.{Agent}
use Rattle.claim_laws.specs.World.{Packet, World}
use Rattle.claim_service.specs.State.{kept}
use Rattle.claim_service.specs.declared.node.TopologyNode.{TopologyNode}
use Rattle.cell_store.specs.Store.{stored}
use Rattle.cell_store.specs.declared.store.CellStore.{CellStore}
use Rattle.reconciler.specs.Agent.{kept_by}
use Rattle.reconciler.specs.declared.agent.CellAgent.{CellAgent}
use Rattle.cells_world.specs.Cluster.{Lacks, PutsOne}
use Rattle.cells_world.specs.Post.{packets_of}
use Rattle.cells_world.specs.World.{IsIn, IsCellIn}
use Rattle.cells_world.specs.declared.cluster.Cluster.{Cluster}

-- a world with these packets and notes more
abbrev pub grown : List Packet → List Note → World → World
grown ps ns w = record w { sent = w.sent ++ ps; notes = w.notes ++ ns }

-- no agent has the cell: nor has the world
pub unknown : (c : Cluster) (w : World) (cell : ℕ) → IsIn c w → Lacks c.cells.items cell → map.get w.agents cell ≡ None
unknown c w cell is_in lacks = go (map.get w.agents cell) refl
  where
    go : (o : Option Agent) → map.get w.agents cell ≡ o → o ≡ None
    go None is = refl
    go (Some x) is = let found = is_in.only cell x is in absurd (lacks found.0 found.1 found.2)

-- packets were sent, and nothing else has changed
pub sent_in : (old new : Cluster) (w : World) (ps : List Packet) → IsIn old w → new.service ≡ old.service → new.cells.items ≡ old.cells.items → packets_of new.post ≡ packets_of old.post ++ ps → new.trace.items ≡ old.trace.items → new.notes.items ≡ old.notes.items → new.takes ≡ old.takes → IsIn new (record w { sent = w.sent ++ ps })
sent_in old new w ps is_in service cells sent trace notes takes = record {
  service = is_in.service ∙ ap (λ (s : TopologyNode). kept s.state) (sym service);
  cells = λ a there. (let was = is_in.cells a (subst (λ as_all. Contains as_all a) cells there) in record { tree = was.tree; agent = was.agent });
  only = λ cell x there. (let was = is_in.only cell x there in (was.0, subst (λ as_all. Contains as_all was.0) (sym cells) was.1, was.2));
  sent = ap (λ all. all ++ ps) is_in.sent ∙ sym sent;
  trace = is_in.trace ∙ sym trace;
  notes = is_in.notes ∙ sym notes;
  takes = is_in.takes ∙ sym takes;
}

-- nothing has changed that a world tells of
pub same_in : (old new : Cluster) (w : World) → IsIn old w → new.service ≡ old.service → new.cells.items ≡ old.cells.items → packets_of new.post ≡ packets_of old.post → new.trace.items ≡ old.trace.items → new.notes.items ≡ old.notes.items → new.takes ≡ old.takes → IsIn new w
same_in old new w is_in service cells sent trace notes takes = record {
  service = is_in.service ∙ ap (λ (s : TopologyNode). kept s.state) (sym service);
  cells = λ a there. is_in.cells a (subst (λ as_all. Contains as_all a) cells there);
  only = λ cell x there. (let was = is_in.only cell x there in (was.0, subst (λ as_all. Contains as_all was.0) (sym cells) was.1, was.2));
  sent = is_in.sent ∙ sym sent;
  trace = is_in.trace ∙ sym trace;
  notes = is_in.notes ∙ sym notes;
  takes = is_in.takes ∙ sym takes;
}

-- an agent was put in the place of its cell's: each that a world knows of stands in the cluster still
pub agents_put : (old new : Cluster) (w v : World) (now : CellAgent) (cell : ℕ) → now.store.cell ≡ cell → PutsOne old.cells.items now new.cells.items → ((q : ℕ) → q ≢ cell → map.get v.agents q ≡ map.get w.agents q) → IsIn old w → (q : ℕ) (x : Agent) → map.get v.agents q ≡ Some x → (a : CellAgent) × Contains new.cells.items a × (a.store.cell ≡ q)
agents_put old new w v now cell cell_now puts beside is_in q x there = go (same_or_other nat_cmp_total nat_cmp-IsAntisymmetric q cell)
  where
    go : ((q ≡ cell) ⊎ (q ≢ cell)) → (a : CellAgent) × Contains new.cells.items a × (a.store.cell ≡ q)
    go (inl same) = (now, puts.put, cell_now ∙ sym same)
    go (inr apart) = (let was = is_in.only q x (sym (beside q apart) ∙ there) in (was.0, puts.others was.0 was.1 (λ e. apart (sym was.2 ∙ e ∙ cell_now)), was.2))

-- One agent acted on its own: it keeps something else, on the same records; packets were sent and notes taken.
module _ (old new : Cluster) (k now : CellAgent) (inside : Contains old.cells.items k) (store : now.store ≡ k.store) (puts : PutsOne old.cells.items now new.cells.items)
    (service : new.service ≡ old.service) (trace : new.trace.items ≡ old.trace.items) (takes : new.takes ≡ old.takes)
    (ps : List Packet) (ns : List Note) (sent : packets_of new.post ≡ packets_of old.post ++ ps) (notes : new.notes.items ≡ old.notes.items ++ ns)
    (w : World) (is_in : IsIn old w) (kept_now : Agent) (is_kept : kept_by now ≡ kept_now) where
  abbrev cell : ℕ
  cell = k.store.cell

  abbrev then_at : World
  then_at = record (with_agent cell kept_now w) { sent = w.sent ++ ps; notes = w.notes ++ ns }

  cell_now : now.store.cell ≡ cell
  cell_now = ap (λ (s : CellStore). s.cell) store

  agent_here : map.get then_at.agents cell ≡ Some kept_now
  agent_here = insert_same nat_cmp_total nat_cmp-IsAntisymmetric w.agents cell kept_now

  agent_there : (q : ℕ) → q ≢ cell → map.get then_at.agents q ≡ map.get w.agents q
  agent_there q apart = insert_other nat_cmp_total nat_cmp-IsAntisymmetric w.agents cell kept_now q apart

  is_now : IsCellIn then_at now
  is_now = record {
    tree = ap (λ (s : CellStore). Rattle.claim_map.specs.State.tree_of w.claims s.cell) store ∙ (is_in.cells k inside).tree ∙ ap (λ s. (stored s).tree) (sym store);
    agent = ap (λ q. map.get then_at.agents q) cell_now ∙ agent_here ∙ ap Some (sym is_kept);
  }

  is_other : (a : CellAgent) → Contains old.cells.items a → a.store.cell ≢ now.store.cell → IsCellIn then_at a
  is_other a there apart =
      let was = is_in.cells a there in
      record { tree = was.tree; agent = agent_there a.store.cell (λ same. apart (same ∙ sym cell_now)) ∙ was.agent }

  pub acted_in : IsIn new then_at
  acted_in = record {
    service = is_in.service ∙ ap (λ (s : TopologyNode). kept s.state) (sym service);
    cells = λ a there. ⊎_elim (λ same. subst (IsCellIn then_at) (sym same) is_now) (λ other. is_other a other.0 other.1) (puts.each a there);
    only = agents_put old new w then_at now cell cell_now puts agent_there is_in;
    sent = ap (λ all. all ++ ps) is_in.sent ∙ sym sent;
    trace = is_in.trace ∙ sym trace;
    notes = ap (λ all. all ++ ns) is_in.notes ∙ sym notes;
    takes = is_in.takes ∙ sym takes;
  }
