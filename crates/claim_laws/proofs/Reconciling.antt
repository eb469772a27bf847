-- A cell reconciles: it ends attempts that are due, asks for the commits of its rows, and answers pages of open leases.
use Rattle.std.proofs.Common.{◌≡◌, ◌⊎◌, inl, inr, ℕ, ◌-◌, Bool, true, false, nat_eq, cond, List, [], ◌∷◌, ◌++◌, length, map, Option, Some, None, refl, sym, ◌∙◌, ap, subst}
use Rattle.std.specs.List.{Contains, slice_get, flat_map}
use Rattle.std.specs.Ordering.{nat_cmp, eq_by_cmp}
use Rattle.std.specs.Cmp.{nat_cmp_total}
use Rattle.std.specs.Option.{unwrap_or}
use Rattle.std.specs.FinMap as finmap
use Rattle.std.specs.FinMap.{FinMap, nat_cmp-IsAntisymmetric, get-insert, same_map}
use Rattle.std.proofs.lemmas.Bool.Decides.{Decides-eqb}
use Rattle.std.proofs.lemmas.List.Elements.{Contains-append_cases}
use Rattle.cells_base.proofs.Maps.{insert_same}
use Rattle.claim_types.specs.declared.lease.LeaseId.{LeaseId}
use Rattle.claim_types.specs.declared.operations.Operations.{Operations}
use Rattle.claim_types.specs.declared.page.LeasePage.{LeasePage}
use Rattle.claim_types.specs.declared.rule.Attempt.{Attempt}
use Rattle.claim_types.specs.declared.rule.Note.TheVariants.{Ended as EndedNote}
use Rattle.claim_types.specs.declared.message.Request.{Request}
use Rattle.claim_types.specs.declared.message.Request.TheVariants.{Commit, Rollback, List as ListRequest}
use Rattle.claim_map.specs.Registry.{Registry}
use Rattle.claim_map.specs.State.{ClaimMap, tree_of, ranges_of}
use Rattle.claim_map.specs.Legal.{ask}
use Rattle.claim_laws.specs.Nodes.{Agent, without_attempt, without_attempts, requests_for, requests_for_listed, next_page, hears_page, has_aged, due_attempts, ask_reconcile}
use Rattle.claim_laws.specs.World.{Packet, World, idle_agent, agent_of}
use Rattle.claim_laws.specs.Lives.{life_of, IsKnown, IsCommitted, CommitFact}
use Rattle.claim_laws.specs.Acts.{with_sent, packet_of, with_agent, after_heard, after_reconcile}
use Rattle.claim_laws.specs.Facts.{IsCellInOrder, IsInOrder}
use Rattle.cells_base.proofs.Members.{nowhere, here, later, only, of_map, of_filter}
use Rattle.claim_laws.proofs.Looks.{agent_is}
use Rattle.claim_laws.proofs.Pages.{of_keys}
use Rattle.claim_laws.proofs.Service.{MaySend, sends_all, notes}
use Rattle.claim_laws.proofs.Cells.{ended-in_order}
use Rattle.claim_laws.proofs.Passing.{put_back, same_agent}

-- what a cell keeps is what the world says of its leases
module _ (registry : Registry) (beginning : ClaimMap) (w : World) (order : IsInOrder registry beginning w) (cell : ℕ) (a : Agent) (at : agent_of w.agents cell ≡ a) where
  agent_at : (l : LeaseId) → l.cell ≡ cell → agent_of w.agents l.cell ≡ a
  agent_at l e = ap (agent_of w.agents) e ∙ at

  -- a commit of a lease whose row is kept is true
  pub may_commit : (l : LeaseId) → l.cell ≡ cell → (ops : Operations) → finmap.get a.rows l ≡ Some ops → MaySend w (ask (Commit l))
  may_commit l e ops is =
      let row : (life_of w.claims w.agents l).row ≡ Some ops = ap (λ (x : Agent). finmap.get x.rows l) (agent_at l e) ∙ is in
      record { no_begin = λ lease o same. cc; said = go row ((order.lives l).row_known ops row) }
    where
      go : (life_of w.claims w.agents l).row ≡ Some ops → ((theirs : Operations) × ((life_of w.claims w.agents l).open_with ≡ Some theirs)) ⊎ IsCommitted (life_of w.claims w.agents l) → CommitFact (life_of w.claims w.agents l)
      go row (inl opened) = inr (opened, (ops, row))
      go row (inr committed) = inl committed

  module _ (l : LeaseId) (known : IsKnown (life_of w.claims w.agents l)) where
    owed-true : l.cell ≡ cell → (row : Option Operations) (waits : Option Attempt) → finmap.get a.rows l ≡ row → finmap.get a.pending l ≡ waits → (r : Request) → Contains (requests_for l row waits) r → MaySend w (ask r)
    owed-true e (Some ops) waits is_row is_waiting r h = subst (λ q. MaySend w (ask q)) (only (Commit l) r h) (may_commit l e ops is_row)
    owed-true e None (Some attempt) is_row is_waiting r h = absurd (nowhere r h)
    owed-true e None None is_row is_waiting r h = subst (λ q. MaySend w (ask q)) (only (Rollback l) r h) (record {
      no_begin = λ lease o same. cc;
      said = record {
        known = known;
        not_pending = ap (λ (x : Agent). finmap.get x.pending l) (agent_at l e) ∙ is_waiting;
        no_row = ap (λ (x : Agent). finmap.get x.rows l) (agent_at l e) ∙ is_row;
      };
    })

    listed-true : (b : Bool) → nat_eq l.cell cell ≡ b → (r : Request) → Contains (cond b (requests_for l (finmap.get a.rows l) (finmap.get a.pending l)) []) r → MaySend w (ask r)
    listed-true true is r h = owed-true ((Decides-eqb l.cell cell).0 is) (finmap.get a.rows l) (finmap.get a.pending l) refl refl r h
    listed-true false is r h = absurd (nowhere r h)

  all-true : (leases : List LeaseId) → ((l : LeaseId) → Contains leases l → IsKnown (life_of w.claims w.agents l)) → (r : Request) → Contains (flat_map (requests_for_listed cell a) leases) r → MaySend w (ask r)
  all-true [] known r h = absurd (nowhere r h)
  all-true (l ∷ ls) known r h = elim (Contains-append_cases (requests_for_listed cell a l) (flat_map (requests_for_listed cell a) ls) r h) [
    | inl first ↦ listed-true l (known l (here l ls)) (nat_eq l.cell cell) refl r first
    | inr rest ↦ all-true ls (λ q there. known q (later l ls q there)) r rest
  ]

  next-true : (more : Bool) (last : Option LeaseId) (r : Request) → Contains (next_page cell more last) r → MaySend w (ask r)
  next-true true (Some last) r h = subst (λ q. MaySend w (ask q)) (only (ListRequest cell (Some last)) r h) (record { no_begin = λ lease o same. cc; said = tt })
  next-true true None r h = absurd (nowhere r h)
  next-true false last r h = absurd (nowhere r h)

-- requests are sent as packets that answer none
pub sends_requests : (registry : Registry) (beginning : ClaimMap) (w : World) (rs : List Request) → ((r : Request) → Contains rs r → MaySend w (ask r)) → IsInOrder registry beginning w → IsInOrder registry beginning (with_sent (map packet_of rs) w)
sends_requests registry beginning w rs may order = sends_all registry beginning w (map packet_of rs) (λ m sent.
    let found = of_map packet_of rs sent.0 sent.1 in
    subst (MaySend w) (ap (λ (p : Packet). p.message) found.2 ∙ sent.2) (may found.0 found.1)) order

-- a page of leases that were opened or settled is answered
pub listed-in_order : (registry : Registry) (beginning : ClaimMap) (w : World) → IsInOrder registry beginning w → (cell : ℕ) (a : Agent) → finmap.get w.agents cell ≡ Some a → (page : LeasePage) →
    ((l : LeaseId) → Contains page.leases l → (l.cell ≡ cell) × IsKnown (life_of w.claims w.agents l)) → IsInOrder registry beginning (after_heard cell (hears_page cell (tree_of w.claims cell) a page) w)
listed-in_order registry beginning w order cell a at page said =
    let same = same_agent registry beginning w order cell a at in
    let here : agent_of (finmap.insert w.agents cell a) cell ≡ a = ap (λ o. unwrap_or o idle_agent) (insert_same nat_cmp_total nat_cmp-IsAntisymmetric w.agents cell a) in
    let still : (l : LeaseId) → life_of w.claims (finmap.insert w.agents cell a) l ≡ life_of w.claims w.agents l = λ l. ap (λ as_all. life_of w.claims as_all l) (put_back w.agents cell a at) in
    let last = slice_get page.leases (length page.leases - 1) in
    sends_requests registry beginning (with_agent cell a w) (flat_map (requests_for_listed cell a) page.leases ++ next_page cell page.more last)
    (λ r h. elim (Contains-append_cases (flat_map (requests_for_listed cell a) page.leases) (next_page cell page.more last) r h) [
      | inl first ↦ all-true registry beginning (with_agent cell a w) same cell a here page.leases (λ l there. subst IsKnown (sym (still l)) (said l there).1) r first
      | inr rest ↦ next-true registry beginning (with_agent cell a w) same cell a here page.more last r rest
    ]) same

-- an agent that is put in its place twice, or as it is
module _ {V : Type 0} (m : FinMap nat_cmp V) (k : ℕ) where
  twice : (b : Bool) (u v : V) (o : Option V) → cond b (Some v) (cond b (Some u) o) ≡ cond b (Some v) o
  twice true u v o = refl
  twice false u v o = refl

  insert_insert : (u v : V) → finmap.insert (finmap.insert m k u) k v ≡ finmap.insert m k v
  insert_insert u v = same_map nat_cmp_total nat_cmp-IsAntisymmetric (finmap.insert (finmap.insert m k u) k v) (finmap.insert m k v) (λ q.
      get-insert nat_cmp_total (finmap.insert m k u) k v q ∙ ap (λ o. cond (eq_by_cmp nat_cmp q k) (Some v) o) (get-insert nat_cmp_total m k u q)
      ∙ twice (eq_by_cmp nat_cmp q k) u v (finmap.get m q) ∙ sym (get-insert nat_cmp_total m k v q))

-- attempts that are due end
module _ (registry : Registry) (beginning : ClaimMap) (w : World) (cell : ℕ) where
  agent_is_here : (b : Agent) → agent_of (finmap.insert w.agents cell b) cell ≡ b
  agent_is_here b = ap (λ o. unwrap_or o idle_agent) (insert_same nat_cmp_total nat_cmp-IsAntisymmetric w.agents cell b)

  ends : (b : Agent) → IsInOrder registry beginning (with_agent cell b w) → (l : LeaseId) → l.cell ≡ cell → IsInOrder registry beginning (with_agent cell (without_attempt b l) w)
  ends b order l e =
      subst (λ agents. IsInOrder registry beginning (record w { agents = agents })) (insert_insert w.agents cell b (without_attempt b l))
      (subst (λ c. IsInOrder registry beginning (with_agent c (without_attempt b l) (with_agent cell b w))) e
      (ended-in_order registry beginning (with_agent cell b w) order l b (ap (finmap.get (finmap.insert w.agents cell b)) e ∙ insert_same nat_cmp_total nat_cmp-IsAntisymmetric w.agents cell b)))

  ends_all : (ls : List LeaseId) → ((l : LeaseId) → Contains ls l → l.cell ≡ cell) → (b : Agent) → IsInOrder registry beginning (with_agent cell b w) → IsInOrder registry beginning (with_agent cell (without_attempts ls b) w)
  ends_all [] mine b order = order
  ends_all (l ∷ ls) mine b order = ends_all ls (λ q there. mine q (later l ls q there)) (without_attempt b l) (ends b order l (mine l (here l ls)))

  rows_stay : (ls : List LeaseId) (b : Agent) → (without_attempts ls b).rows ≡ b.rows
  rows_stay [] b = refl
  rows_stay (l ∷ ls) b = rows_stay ls (without_attempt b l)

pub reconciled-in_order : (registry : Registry) (beginning : ClaimMap) (w : World) → IsInOrder registry beginning w → (cell now : ℕ) (o : Option Agent) → finmap.get w.agents cell ≡ o → IsInOrder registry beginning (after_reconcile registry.threshold cell o now w)
reconciled-in_order registry beginning w order cell now None at = order
reconciled-in_order registry beginning w order cell now (Some a) at =
    let same = same_agent registry beginning w order cell a at in
    let ending : List LeaseId = due_attempts registry.threshold now a in
    let mine : (l : LeaseId) → Contains ending l → l.cell ≡ cell = λ l there.
    (let key = of_filter (λ (q : LeaseId). has_aged registry.threshold now (finmap.get a.pending q)) (finmap.keys a.pending) l there in
    let waits = of_keys a.pending l key.0 in
    (subst (IsCellInOrder (ranges_of w.claims.ranges cell) cell (tree_of w.claims cell)) (agent_is w.claims w.agents a a (record { cell = cell; epoch = 0; attempt = 0 }) at) (order.cells cell)).own_attempts l waits.0 waits.1) in
    let left : Agent = without_attempts ending a in
    let expired = ends_all registry beginning w cell ending mine a same in
    let noted = notes registry beginning (with_agent cell left w) (w.notes ++ map EndedNote ending) expired in
    let rows : left.rows ≡ a.rows = rows_stay registry beginning w cell ending a in
    let here : agent_of (finmap.insert w.agents cell left) cell ≡ left = agent_is_here registry beginning w cell left in
    sends_requests registry beginning (record (with_agent cell left w) { notes = w.notes ++ map EndedNote ending }) (ask_reconcile cell a)
    (λ r h. elim (Contains-append_cases (map (λ (l : LeaseId). Commit l) (finmap.keys a.rows)) (ListRequest cell None ∷ []) r h) [
      | inl first ↦
          let found = of_map (λ (l : LeaseId). Commit l) (finmap.keys a.rows) r first in
          let row = of_keys a.rows found.0 found.1 in
          let is_row : finmap.get left.rows found.0 ≡ Some row.0 = ap (λ rs. finmap.get rs found.0) rows ∙ row.1 in
          let own : found.0.cell ≡ cell = (subst (IsCellInOrder (ranges_of w.claims.ranges cell) cell (tree_of w.claims cell)) here (expired.cells cell)).own_rows found.0 row.0 is_row in
          subst (λ q. MaySend (record (with_agent cell left w) { notes = w.notes ++ map EndedNote ending }) (ask q)) found.2
          (may_commit registry beginning (record (with_agent cell left w) { notes = w.notes ++ map EndedNote ending }) noted cell left here found.0 own row.0 is_row)
      | inr last ↦ subst (λ q. MaySend (record (with_agent cell left w) { notes = w.notes ++ map EndedNote ending }) (ask q)) (only (ListRequest cell None) r last) (record { no_begin = λ lease o is. cc; said = tt })
    ]) noted
