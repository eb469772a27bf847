-- The files of cells are opened one after another.
use Rattle.std.proofs.Common.{◌≡◌, ◌≢◌, ⊎_elim, ℕ, ◌+◌, ◌<◌, ◌≤◌, IsTrue, List, [], ◌∷◌, ◌++◌, length, map, take, get_or, Some, option_map, refl, sym, ◌∙◌, ap, subst, arith}
use Rattle.std.specs.Prelude.{Err}
use Rattle.std.specs.List.{Contains, slice_get}
use Rattle.std.proofs.lemmas.List.{map-append, map_more}
use Rattle.std.proofs.lemmas.List.Elements.{Contains-append_left, Contains-push, Contains-push_cases}
use Rattle.std.proofs.lemmas.Option.{slice_get-map, slice_get_read}
use Rattle.cells_base.proofs.Members.{at_place, nowhere, of_map}
use Rattle.claim_types.specs.declared.cell.Cell.{Cell}
use Rattle.disk_journal.specs.declared.disk.Disk.{Ghosts}
use Rattle.disk_journal.specs.Disk.{Image}
use Rattle.disk_journal.specs.Entries.{Format, IsAtRest, Keeper, Stands, TouchesOnly}
use Rattle.disk_journal.specs.Journal.{EndsAt, IsJournal, IsRefused}
use Rattle.disk_journal.specs.Moments.{Stays}
use Rattle.disk_journal.proofs.Settled.{stays_on}
use Rattle.claim_service.specs.Node.{service, keeper}
use Rattle.claim_service.specs.declared.node.TopologyNode.{TopologyNode}
use Rattle.cell_store.specs.Store.{store}
use Rattle.cell_store.specs.declared.store.CellStore.{CellStore}
use Rattle.reconciler.specs.Agent.{IsReady as IsAgentReady}
use Rattle.reconciler.specs.declared.agent.CellAgent.{CellAgent}
use Rattle.cells_world.specs.Opening.{AreApart, AreNew, AreOpenedFrom, IsCellEnd, IsIdOf, IsIdle, IsOneEnd, IsOpenedFrom, IsStoreAsBefore, Moves, ShowsOfCell, StandsStill, StaysBeside}
use Rattle.cells_world.specs.Serving.{IsServing}
use Rattle.cells_world.specs.declared.fault.ClusterError.{ClusterError}
use Rattle.cells_world.specs.declared.fault.ClusterError.TheVariants.{DiskFailed, Memory, Damaged}
use Rattle.cells_world.specs.declared.fault.Damage.{Damage}
use Rattle.cells_world.specs.declared.fault.Damage.TheVariants.{NotAJournal, BadEntry, ConfigLacks, EpochsSpent}
use Rattle.cells_world.proofs.Keeping.{before_same, moves_apart, moves_so, moves_still, stands_same}
use Rattle.disk_journal.proofs.Moments.{CountsNow, OnlyNow}
use Rattle.cells_world.proofs.Ready.{agent_on}

pub shows_same : (cell : ℕ) (from img : Image) (fault : Damage) → img cell ≡ from cell → ShowsOfCell cell img fault → ShowsOfCell cell from fault
shows_same cell from img (NotAJournal at) same is = subst (λ c. IsRefused c at) same is
shows_same cell from img (BadEntry index) same is = (is.0, subst (λ c. IsJournal c is.0) same is.1, is.2)
shows_same cell from img (ConfigLacks other) same is = is
shows_same cell from img EpochsSpent same is = (is.0, stands_same (store cell) from img cell is.0 same is.1, is.2)

module _ {D : Type 0} (g : Ghosts D) where
  -- a node whose file stays is at rest still
  rests_there : {E S : Type 0} (f : Format E S) (old new : D) (k : Keeper S) → (IsTrue g.tells → Stays g k.journal.file old new) → IsAtRest g f old k → IsAtRest g f new k
  rests_there f old new k stays rest = λ tells. (
      let it = rest tells in
      let there = stays tells in (
        it.0,
        record {
          live = it.1.live;
          settled = record {
            ends = subst (λ c. EndsAt c k.journal.gate (map f.bytes it.0)) (sym there.reads) it.1.settled.ends;
            durable = λ img own. it.1.settled.durable img (λ q is. (subst (λ x. Stays g x old new) (sym is) there).leaves (img q) (own q is));
          };
          entries = it.1.entries;
          folds = it.1.folds;
        },
      ))

  -- the service is still served where the file of none but these cells was touched
  pub serves_there : (cells : List Cell) (old new : D) (node : TopologyNode) → ((c : Cell) → Contains cells c → 1 ≤ c.id) → StaysBeside g cells old new → IsServing g old node → IsServing g new node
  serves_there cells old new node numbered stays serving = record {
    is = serving.is;
    live = serving.live;
    at_rest = rests_there service old new (keeper node) (λ tells. stays tells node.journal.file (λ c there same. (let one = numbered c there in let zero_is = serving.is.file in omega (arith, one, same, zero_is)))) serving.at_rest;
  }

-- what stands once the files of the first i cells are opened
pub record AreSoFar {D : Type 0} (g : Ghosts D) (cells : List Cell) (old d : D) (i : ℕ) (agents : List CellAgent) : Type 0 where
  pub order : map (λ (a : CellAgent). a.store.cell) agents ≡ map (λ (c : Cell). c.id) (take i cells)
  pub placed : (a : CellAgent) → Contains agents a → (k : ℕ) × (k < i) × (slice_get (map (λ (c : Cell). c.id) cells) k ≡ Some a.store.cell)
  pub are_new : AreNew g d agents
  pub opened : AreOpenedFrom g old d agents
  pub others : IsTrue g.tells → (q : ℕ) → ((a : CellAgent) → Contains agents a → a.store.cell ≢ q) → Stays g q old d
  pub later : g.faults old ≤ g.faults d

pub none_so_far : {D : Type 0} (g : Ghosts D) (cells : List Cell) (d : D) → AreSoFar g cells d d 0 []
none_so_far g cells d = record {
  order = refl;
  placed = λ a there. absurd (nowhere a there);
  are_new = record { ready = λ a there. absurd (nowhere a there); idle = λ a there. absurd (nowhere a there) };
  opened = λ a there. absurd (nowhere a there);
  others = λ tells q beside. record { reads = refl; leaves = λ x is. is };
  later = omega arith;
}

module _ {D : Type 0} (g : Ghosts D) (cells : List Cell) (old d : D) (i : ℕ) (agents : List CellAgent) (so_far : AreSoFar g cells old d i agents) where
  -- only the files of these cells were touched
  pub beside_so_far : StaysBeside g cells old d
  beside_so_far tells q none = so_far.others tells q (λ a there clash. (
      let at = so_far.placed a there in
      let of = of_map (λ (c : Cell). c.id) cells a.store.cell (at_place (map (λ (c : Cell). c.id) cells) at.0 a.store.cell at.2) in
      none of.0 of.1 (of.2 ∙ clash)))

  -- one file more
  module _ (apart : AreApart cells) (c : Cell) (within : i < length cells) (is : c ≡ get_or cells i c) (e : D) (touches : TouchesOnly g c.id d e) where
    here : slice_get cells i ≡ Some c
    here = slice_get_read cells (length cells) i c refl within is

    here_id : slice_get (map (λ (x : Cell). x.id) cells) i ≡ Some c.id
    here_id = slice_get-map (λ (x : Cell). x.id) cells i ∙ ap (option_map (λ (x : Cell). x.id)) here

    pub among : Contains cells c
    among = at_place cells i c here

    -- it is of none of the agents
    other : (b : CellAgent) → Contains agents b → b.store.cell ≢ c.id
    other b there same = let at = so_far.placed b there in let one = apart at.0 i c.id (at.2 ∙ ap Some same) here_id in let less = at.1 in omega (arith, less, one)

    unread : IsTrue g.tells → g.seen d c.id ≡ g.seen old c.id
    unread tells = (so_far.others tells c.id other).reads

    still_before : StandsStill g old e → StandsStill g old d
    still_before still rose = let on = touches.counts.later in still (omega (arith, rose, on))

    still_after : StandsStill g old e → StandsStill g d e
    still_after still rose = let on = so_far.later in still (omega (arith, rose, on))

    pub beside_then : StaysBeside g cells old e
    beside_then tells q none = stays_on g q old d e (beside_so_far tells q none) (touches.elsewhere tells q (λ own. none c among (sym own)))

    pub later_then : g.faults old ≤ g.faults e
    later_then = let a = so_far.later in let b = touches.counts.later in omega (arith, a, b)

    ends_here : (error : ClusterError) → IsCellEnd {T = CellAgent} g c.id d e (Err error) → IsCellEnd {T = CellStore} g c.id old e (Err error)
    ends_here (DiskFailed file) ends = (ends.0, ((let rose = ends.1.0 in let on = so_far.later in omega (arith, rose, on)), ends.1.1))
    ends_here Memory ends = tt
    ends_here (Damaged file fault) ends = (ends.0, λ tells. (let shows = ends.1 tells in (shows.0, λ still. shows_same c.id (g.seen old) (g.seen d) fault (unread tells) (shows.1 (still_after still)))))

    pub ends_then : (error : ClusterError) → IsCellEnd {T = CellAgent} g c.id d e (Err error) → IsOneEnd g cells old e error
    ends_then error ends = (c, among, ends_here error ends)

    module _ (a : CellAgent) (same : a.store.cell ≡ c.id) (ready : IsAgentReady g e a) (idle : IsIdle a) (opened : IsOpenedFrom g c.id d e a.store) where
      opened_here : IsOpenedFrom g a.store.cell old e a.store
      opened_here tells before stands =
          let it = opened tells before (stands_same (store c.id) (g.seen d) (g.seen old) c.id before (sym (unread tells)) (subst (λ q. Stands (store q) (g.seen old) q before) same stands)) in
          (it.0, (it.1.0, it.1.1, λ still. it.1.2 (still_after still)), it.2)

      pub one_more : AreSoFar g cells old e (i + 1) (agents ++ a ∷ [])
      one_more = record {
        order = map-append (λ (x : CellAgent). x.store.cell) agents (a ∷ [])
            ∙ ap (λ xs. xs ++ a.store.cell ∷ []) so_far.order
            ∙ ap (λ x. map (λ (y : Cell). y.id) (take i cells) ++ x ∷ []) (same ∙ ap (λ (y : Cell). y.id) is)
            ∙ sym (map_more (λ (y : Cell). y.id) cells i c within);
        placed = λ b there. ⊎_elim
            (λ (old_one : Contains agents b). let at = so_far.placed b old_one in (at.0, (let less = at.1 in omega (arith, less)), at.2))
            (λ (new_one : a ≡ b). (i, omega arith, here_id ∙ ap Some (sym same ∙ ap (λ (x : CellAgent). x.store.cell) new_one)))
            (Contains-push_cases agents a b there);
        are_new = record {
          ready = λ b there. ⊎_elim
              (λ (old_one : Contains agents b). agent_on g d e c.id b (λ clash. other b old_one (sym clash)) touches (so_far.are_new.ready b old_one))
              (λ (new_one : a ≡ b). subst (IsAgentReady g e) new_one ready)
              (Contains-push_cases agents a b there);
          idle = λ b there. ⊎_elim
              (λ (old_one : Contains agents b). so_far.are_new.idle b old_one)
              (λ (new_one : a ≡ b). subst (λ (x : CellAgent). IsIdle x) new_one idle)
              (Contains-push_cases agents a b there);
        };
        opened = λ b there. ⊎_elim
            (λ (old_one : Contains agents b). λ tells before stands. (let it = so_far.opened b old_one tells before stands in (it.0, (it.1.0, it.1.1, λ still. it.1.2 (still_before still)), it.2)))
            (λ (new_one : a ≡ b). subst (λ (x : CellAgent). IsOpenedFrom g x.store.cell old e x.store) new_one opened_here)
            (Contains-push_cases agents a b there);
        others = λ tells q beside. stays_on g q old d e
            (so_far.others tells q (λ b there. beside b (Contains-append_left agents (a ∷ []) b there)))
            (touches.elsewhere tells q (λ own. beside a (Contains-push agents a) (same ∙ sym own)));
        later = later_then;
      }

-- the ids of the first i cells
abbrev pub IsIdBefore : List Cell → ℕ → ℕ → Type 0
IsIdBefore cells i q = (k : ℕ) × (k < i) × (slice_get (map (λ (c : Cell). c.id) cells) k ≡ Some q)

-- the files of cells went on one after another
module _ {D : Type 0} (g : Ghosts D) (cells : List Cell) (old d : D) (i : ℕ) where
  pub moved_none : OnlyNow g → Moves g (IsIdBefore cells 0) (IsStoreAsBefore 2) d d
  moved_none only_now = moves_still g d (IsIdBefore cells 0) (IsStoreAsBefore 2) only_now

  pub moved_more : CountsNow g → AreApart cells → (c : Cell) → i < length cells → c ≡ get_or cells i c → (e : D) → Moves g (IsIdBefore cells i) (IsStoreAsBefore 2) old d → Moves g (λ q. q ≡ c.id) (IsStoreAsBefore 2) d e → Moves g (IsIdBefore cells (i + 1)) (IsStoreAsBefore 2) old e
  moved_more counts_now apart c within is e =
      let here : slice_get (map (λ (x : Cell). x.id) cells) i ≡ Some c.id = slice_get-map (λ (x : Cell). x.id) cells i ∙ ap (option_map (λ (x : Cell). x.id)) (slice_get_read cells (length cells) i c refl within is) in
      moves_apart g counts_now old d e (IsIdBefore cells i) (λ q. q ≡ c.id) (IsIdBefore cells (i + 1)) (IsStoreAsBefore 2) (λ q from mid img now was same before. before_same q from mid now img was same 2 before)
      (λ q before own. (let one = apart before.0 i q before.2 (here ∙ ap Some (sym own)) in let less = before.1 in omega (arith, less, one)))
      (λ q before. (before.0, (let less = before.1 in omega (arith, less)), before.2))
      (λ q own. (i, omega arith, here ∙ ap Some (sym own)))

  pub moved_all : Moves g (IsIdBefore cells i) (IsStoreAsBefore 2) old d → Moves g (IsIdOf cells) (IsStoreAsBefore 2) old d
  moved_all = moves_so g old d (IsIdBefore cells i) (IsIdOf cells) (IsStoreAsBefore 2) (IsStoreAsBefore 2)
      (λ q from img went. (of_map (λ (c : Cell). c.id) cells q (at_place (map (λ (c : Cell). c.id) cells) went.0.0 q went.0.2), went.1))
