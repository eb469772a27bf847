-- A cluster that was just opened is in the world for which its files stood, with every node opened again.
use Rattle.std.proofs.Common.{◌≡◌, ◌⊎◌, inl, inr, ⊎_elim, ℕ, ◌<◌, IsTrue, List, [], ◌∷◌, Option, Some, None, refl, sym, ◌∙◌, ap, subst, arith}
use Rattle.std.specs.Prelude.{IsSome, unwrap_or}
use Rattle.std.specs.List.{Contains, slice_get}
use Rattle.std.specs.Ordering.{nat_cmp}
use Rattle.std.specs.FinMap as map
use Rattle.std.specs.FinMap.{nat_cmp-IsAntisymmetric}
use Rattle.std.specs.Cmp.{nat_cmp_total}
use Rattle.cells_base.proofs.Maps.{insert_other, insert_same, inserted, same_or_other}
use Rattle.cells_base.proofs.Members.{here, here_or_later, later, nowhere}
use Rattle.disk_journal.specs.declared.disk.Disk.{Ghosts}
use Rattle.claim_types.specs.declared.lease.LeaseId.{LeaseId}
use Rattle.claim_map.specs.Registry.{Registry, cell_of}
use Rattle.claim_laws.specs.Facts.{IsInstalled}
use Rattle.claim_laws.specs.Files.{Store, service_of, store_at}
use Rattle.claim_laws.specs.Nodes.{Agent}
use Rattle.claim_laws.specs.Proper.{AreConfigured}
use Rattle.claim_laws.specs.Reopened.{IsReopened}
use Rattle.claim_laws.specs.World.{World, IsDrawn, IsDrawnBy, agent_of, idle_agent}
use Rattle.cell_store.specs.Store.{IsStore, stored}
use Rattle.reconciler.specs.Agent.{kept_by}
use Rattle.reconciler.specs.Kept.{kept_with}
use Rattle.reconciler.specs.declared.agent.CellAgent.{CellAgent}
use Rattle.cells_world.specs.Cluster.{AreAgentsOf}
use Rattle.cells_world.specs.Opening.{AreInNextEpoch, AreOpenedFrom, IsIdle, IsNew, IsNextEpoch, IsServiceFrom, in_epoch}
use Rattle.cells_world.specs.World.{IsIn, IsOf}
use Rattle.cells_world.specs.declared.cluster.Cluster.{Cluster}
use Rattle.cells_world.proofs.Configured.{known_of}
use Rattle.cells_world.proofs.Places.{same_some, somewhere}

-- what agents keep, by their cells
abbrev kept_in : List CellAgent → map.FinMap nat_cmp Agent
kept_in [] = map.empty
kept_in (a ∷ rest) = map.insert (kept_in rest) a.store.cell (kept_by a)

-- what is kept for a cell is what an agent of it keeps
kept_of : (agents : List CellAgent) (cell : ℕ) (x : Agent) → map.get (kept_in agents) cell ≡ Some x → (a : CellAgent) × Contains agents a × (a.store.cell ≡ cell) × (kept_by a ≡ x)
kept_of [] cell x is = let none : None ≡ Some x = sym (map.get-empty nat_cmp cell) ∙ is in absurd cc
kept_of (a ∷ rest) cell x is = elim (inserted nat_cmp_total nat_cmp-IsAntisymmetric (kept_in rest) a.store.cell (kept_by a) cell x is) [
  | inl own ↦ (a, here a rest, sym own.0, own.1)
  | inr other ↦ let it = kept_of rest cell x other.1 in (it.0, later a rest it.0 it.1, it.2, it.3)
]

-- for an agent's cell what one of that cell keeps is kept
kept_for : (agents : List CellAgent) (a : CellAgent) → Contains agents a → (b : CellAgent) × Contains agents b × (b.store.cell ≡ a.store.cell) × (map.get (kept_in agents) a.store.cell ≡ Some (kept_by b))
kept_for [] a there = absurd (nowhere a there)
kept_for (b ∷ rest) a there = elim (same_or_other nat_cmp_total nat_cmp-IsAntisymmetric a.store.cell b.store.cell) [
  | inl same ↦ (b, here b rest, sym same, ap (λ q. map.get (kept_in (b ∷ rest)) q) same ∙ insert_same nat_cmp_total nat_cmp-IsAntisymmetric (kept_in rest) b.store.cell (kept_by b))
  | inr apart ↦ elim (here_or_later b rest a there) [
    | inl is ↦ absurd (apart (ap (λ (x : CellAgent). x.store.cell) (sym is)))
    | inr behind ↦ let it = kept_for rest a behind in (it.0, later b rest it.0 it.1, it.2, insert_other nat_cmp_total nat_cmp-IsAntisymmetric (kept_in rest) b.store.cell (kept_by b) a.store.cell apart ∙ it.3)
  ]
]

module _ {D : Type 0} (g : Ghosts D) (registry : Registry) (old new : D) (tells : IsTrue g.tells) (c : Cluster)
    (agents : AreAgentsOf registry c.cells.items)
    (stores : (a : CellAgent) → Contains c.cells.items a → IsStore a.store)
    (idle : (a : CellAgent) → Contains c.cells.items a → IsIdle a)
    (is_new : IsNew c)
    (stands : IsServiceFrom g old c.service)
    (opened : AreOpenedFrom g old new c.cells.items)
    (w : World) (configured : AreConfigured registry w) (is_of : IsOf registry (g.seen old) w) where
  -- each node as it was opened again
  abbrev again : World
  again = record { claims = w.claims; agents = kept_in c.cells.items; sent = []; handed = []; trace = []; notes = [] }

  epoch_of : (a : CellAgent) → Contains c.cells.items a → (epoch : ℕ) × IsNextEpoch g old new (agent_of w.agents a.store.cell).epoch epoch × (stored a.store ≡ in_epoch epoch (store_at w a.store.cell))
  epoch_of a there = opened a there tells (store_at w a.store.cell) (is_of.stores a.store.cell (agents.known a there))

  agent_is : (a : CellAgent) (there : Contains c.cells.items a) → kept_by a ≡ kept_with (in_epoch (epoch_of a there).0 (store_at w a.store.cell)) map.empty 0
  agent_is a there = idle a there ∙ ap (λ s. kept_with s map.empty 0) (epoch_of a there).2

  get_is : (a : CellAgent) → Contains c.cells.items a → map.get (kept_in c.cells.items) a.store.cell ≡ Some (kept_by a)
  get_is a there =
      let it = kept_for c.cells.items a there in
      let at = somewhere c.cells.items a there in
      let other = somewhere c.cells.items it.0 it.1 in
      let place = agents.apart other.0 at.0 it.0 a other.1 at.1 it.2 in
      let is : it.0 ≡ a = same_some it.0 a (sym other.1 ∙ ap (slice_get c.cells.items) place ∙ at.1) in
      it.3 ∙ ap (λ (x : CellAgent). Some (kept_by x)) is

  -- a cell that has no agent keeps nothing in the world
  absent : (cell : ℕ) → map.get (kept_in c.cells.items) cell ≡ None → agent_of w.agents cell ≡ idle_agent
  absent cell none = go (map.get w.agents cell) refl
    where
      go : (o : Option Agent) → map.get w.agents cell ≡ o → agent_of w.agents cell ≡ idle_agent
      go None is = ap (λ o. unwrap_or o idle_agent) is
      go (Some x) is =
          let of = configured cell x is in
          let a = agents.there cell (subst (λ id. IsSome (cell_of registry id)) of.2 (known_of registry of.0 of.1)) in
          let both : None ≡ Some (kept_by a.0) = sym none ∙ ap (map.get (kept_in c.cells.items)) (sym a.2) ∙ get_is a.0 a.1 in
          absurd cc

  -- what a cell keeps in a later epoch, with nothing drawn
  abbrev IsOn : ℕ → Agent → Type 0
  IsOn cell a = (epoch : ℕ) × IsNextEpoch g old new (agent_of w.agents cell).epoch epoch × (a ≡ kept_with (in_epoch epoch (store_at w cell)) map.empty 0)

  on_for : (a : CellAgent) → Contains c.cells.items a → IsOn a.store.cell (kept_by a)
  on_for a there = let it = epoch_of a there in (it.0, it.1, agent_is a there)

  -- a cell keeps what it kept, in a later epoch, or nothing as before
  each_is : (cell : ℕ) → IsOn cell (agent_of again.agents cell) ⊎ ((agent_of again.agents cell ≡ idle_agent) × (agent_of w.agents cell ≡ idle_agent))
  each_is cell = go (map.get (kept_in c.cells.items) cell) refl
    where
      go : (o : Option Agent) → map.get (kept_in c.cells.items) cell ≡ o → IsOn cell (agent_of again.agents cell) ⊎ ((agent_of again.agents cell ≡ idle_agent) × (agent_of w.agents cell ≡ idle_agent))
      go None is = inr (ap (λ o. unwrap_or o idle_agent) is, absent cell is)
      go (Some x) is =
          let it = kept_of c.cells.items cell x is in
          let now : kept_by it.0 ≡ agent_of again.agents cell = it.3 ∙ sym (ap (λ o. unwrap_or o idle_agent) is) in
          inl (subst (IsOn cell) now (subst (λ q. IsOn q (kept_by it.0)) it.2 (on_for it.0 it.1)))

  drawn_on : (lease : LeaseId) → IsDrawn w.agents lease → IsDrawn again.agents lease
  drawn_on lease drawn = elim (each_is lease.cell) [
    | inl is ↦ let less = is.1.0 in subst (λ a. IsDrawnBy a lease) (sym is.2) (drawn.0, inl (⊎_elim (λ (before : lease.epoch < (agent_of w.agents lease.cell).epoch). omega (arith, before, less)) (λ now. let same = now.0 in omega (arith, same, less)) drawn.1))
    | inr both ↦ subst (λ a. IsDrawnBy a lease) (both.1 ∙ sym both.0) drawn
  ]

  is_reopened : IsReopened w again
  is_reopened = record {
    claims = refl;
    rows = λ cell. elim (each_is cell) [ inl is ↦ ap (λ (a : Agent). a.rows) is.2 | inr both ↦ ap (λ (a : Agent). a.rows) (both.0 ∙ sym both.1) ];
    known = λ cell. elim (each_is cell) [ inl is ↦ ap (λ (a : Agent). a.known) is.2 | inr both ↦ ap (λ (a : Agent). a.known) (both.0 ∙ sym both.1) ];
    none_waits = λ cell. elim (each_is cell) [ inl is ↦ ap (λ (a : Agent). a.pending) is.2 | inr both ↦ ap (λ (a : Agent). a.pending) both.0 ];
    grows = drawn_on;
    installed = λ cell x is. (
        let it = kept_of c.cells.items cell x is in
        let its = stores it.0 it.1 in
        let own : IsInstalled it.0.store.cell (kept_by it.0) = record { number = its.cell; epoch_least = its.epoch.0; epoch_most = its.epoch.1 } in
        subst (IsInstalled cell) it.3 (subst (λ q. IsInstalled q (kept_by it.0)) it.2 own));
    nothing_sent = refl;
    nothing_handed = refl;
    no_trace = refl;
    no_notes = refl;
  }

  is_in : IsIn c again
  is_in = record {
    service = sym (stands tells (service_of w.claims) is_of.service);
    cells = λ a there. record { tree = sym (ap (λ (s : Store). s.tree) (epoch_of a there).2); agent = get_is a there };
    only = λ cell x is. (let it = kept_of c.cells.items cell x is in (it.0, it.1, it.2));
    sent = sym is_new.sent;
    trace = sym is_new.trace;
    notes = sym is_new.notes;
    takes = sym is_new.takes;
  }

  in_next_epoch : AreInNextEpoch g old new registry w again
  in_next_epoch cell known =
      let a = agents.there cell known in
      let on = on_for a.0 a.1 in
      let epoch : (agent_of again.agents a.0.store.cell).epoch ≡ on.0 = ap (λ o. (unwrap_or o idle_agent).epoch) (get_is a.0 a.1) ∙ ap (λ (x : Agent). x.epoch) on.2 in
      subst (λ q. IsNextEpoch g old new (agent_of w.agents q).epoch (agent_of again.agents q).epoch) a.2
      (subst (IsNextEpoch g old new (agent_of w.agents a.0.store.cell).epoch) (sym epoch) on.1)

  pub opens_to : (v : World) × IsReopened w v × AreInNextEpoch g old new registry w v × IsIn c v
  opens_to = (again, is_reopened, in_next_epoch, is_in)
