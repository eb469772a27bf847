-- A cell asks for a range, or for a change: from the clauses of the calls to the world after the event of the line.
use Rattle.std.proofs.Common.{◌≡◌, ◌≢◌, ⊎_elim, ℕ, ◌+◌, ◌<◌, ◌≤◌, true, cond, List, [], ◌∷◌, ◌++◌, length, Option, Some, None, refl, sym, ◌∙◌, ap, subst, arith}
use Rattle.std.specs.Prelude.{IfSome, Result, Ok, Err}
use Rattle.std.specs.List.{Contains, slice_get}
use Rattle.std.specs.FinMap as map
use Rattle.std.proofs.lemmas.Bool.{lt-ltb, le-ltb}
use Rattle.cells_base.proofs.Members.{here, later}
use Rattle.cells_base.specs.Options.{◌or_else◌}
use Rattle.cells_base.proofs.Options.{both_none}
use Rattle.claim_types.specs.Bounds.{IsRange, IsRangeNumber}
use Rattle.claim_types.specs.MessageBounds.{IsRequest}
use Rattle.claim_types.specs.declared.cell.Range.{Range}
use Rattle.claim_types.specs.declared.limits.TheConstants.{GREATEST_ATTEMPT, GREATEST_IDENTIFIER}
use Rattle.claim_types.specs.declared.message.Request.{Request}
use Rattle.claim_types.specs.declared.message.Request.TheVariants.{Begin}
use Rattle.claim_types.specs.declared.record.Change.{Change}
use Rattle.claim_types.specs.declared.rule.Rule.{Rule}
use Rattle.claim_types.specs.declared.rule.Rule.TheVariants.{NoSuchRecord, WrongKind, BadName, Same, TakenHere, HasChildren, TooMany, NoIds, VersionSpent, TooManyRows, Memory as RuleMemory}
use Rattle.claim_map.specs.Claims.{operations_of}
use Rattle.claim_map.specs.Registry.{Registry}
use Rattle.claim_map.specs.Rules.{rule_of}
use Rattle.claim_map.specs.State.{Tree, tree_of}
use Rattle.claim_map.specs.Trees.{AreRising}
use Rattle.claim_map.proofs.Found.{All-contained}
use Rattle.claim_map.proofs.Within.{operation_bounds}
use Rattle.claim_laws.specs.Acts.{packet_of, anybody_may_send, with_agent, with_asked, with_sent, after_ask}
use Rattle.claim_laws.specs.Events.{asks, requests, happens, run}
use Rattle.claim_laws.specs.Nodes.{Agent, Asked, ask_range, ask_change, asked_unless, attempt_of, next_lease, too_many_rows, with_attempt}
use Rattle.claim_laws.specs.World.{World}
use Rattle.claim_laws.proofs.Cells.{next_bounds}
use Rattle.cell_store.specs.Store.{stored, IsStore}
use Rattle.reconciler.specs.Agent.{kept_by, IsAgent, Answers, begin_of, agent_after}
use Rattle.reconciler.specs.declared.agent.CellAgent.{CellAgent}
use Rattle.cells_script.specs.declared.line.Line.{Line}
use Rattle.cells_script.specs.declared.line.Line.TheVariants.{CreateOrganization, CreateUser, CreateTopGroup, CreateGroup, CreateProject, CreateKey, CreateAddress, CreateDomain, Rename, Remove, Range as RangeLine, Reconcile, Verify, ClassifyFirst, ClassifyCell, ClassifySession, ClassifyClaim, ClassifyPath, Route, Lose, Repeat, Wait, RestartService, Restart}
use Rattle.cells_world.specs.Cluster.{PutsOne, SendsOnly}
use Rattle.cells_world.specs.Lines.{asks_range, asks_for, cell_of_change, own_events}
use Rattle.cells_world.specs.Post.{packets_of}
use Rattle.cells_world.specs.Wanted.{change_wanted}
use Rattle.cells_world.specs.OnWay.{AreGiven}
use Rattle.cells_world.specs.World.{IsIn, IsCellIn}
use Rattle.cells_world.specs.declared.cluster.Cluster.{Cluster}
use Rattle.cells_world.proofs.Acting.{acted_in, sent_in}
use Rattle.std.proofs.lemmas.List.{append-nil}

-- ranges that rise are no more than the identifiers
rising_few : (last : ℕ) (rs : List Range) → AreRising last rs → ((r : Range) → Contains rs r → IsRange r) → last ≤ GREATEST_IDENTIFIER → last + length rs ≤ GREATEST_IDENTIFIER
rising_few last [] rising each most = omega (arith, most)
rising_few last (r ∷ rs) rising each most =
    let ends = (each r (here r rs)).ends in
    let top = ends.2 in
    let above = rising.0 in
    let up = rising.1 in
    let rest = rising_few r.high rs rising.2 (λ q there. each q (later r rs q there)) top in
    omega (arith, above, up, rest)

-- the request for a range is within its bounds
pub range_bounds : (k : CellAgent) → IsStore k.store → (number : Option ℕ) → IfSome number IsRangeNumber → IsRequest (ask_range k.store.cell (kept_by k) number)
range_bounds k store (Some number) is = (store.cell, is)
range_bounds k store None is =
    let known = (kept_by k).known in
    let few = rising_few 0 known store.within.rising (λ r there. All-contained IsRange known r store.holds.ranges there) (omega arith) in
    (store.cell, (omega arith, omega (arith, few)))

may_send : (cell : ℕ) (a : Agent) (number : Option ℕ) → IfSome number IsRangeNumber → anybody_may_send (ask_range cell a number) ≡ true
may_send cell a (Some number) is = lt-ltb 0 number is.0
may_send cell a None is = lt-ltb 0 (length a.known + 1) (omega arith)

range_sent : (registry : Registry) (w : World) (cell : ℕ) (a : Agent) (number : Option ℕ) → IfSome number IsRangeNumber → happens registry w (requests (ask_range cell a number)) ≡ with_sent (packet_of (ask_range cell a number) ∷ []) w
unfolding happens
range_sent registry w cell a number is = ap (λ b. cond b (with_sent (packet_of (ask_range cell a number) ∷ []) w) w) (may_send cell a number is)

-- a range was asked for
pub range_in : (old new : Cluster) (w : World) (registry : Registry) (k : CellAgent) (cell : ℕ) (number : Option ℕ) → IsIn old w → Contains old.cells.items k → k.store.cell ≡ cell → IfSome number IsRangeNumber → SendsOnly old new →
    packets_of new.post ≡ packets_of old.post ++ packet_of (ask_range k.store.cell (kept_by k) number) ∷ [] → IsIn new (run registry (asks_range cell number (map.get w.agents cell)) w)
range_in old new w registry k cell number is_in inside of_cell is same sent =
    let a = kept_by k in
    let at : map.get w.agents cell ≡ Some a = ap (map.get w.agents) (sym of_cell) ∙ (is_in.cells k inside).agent in
    let grown = sent_in old new w (packet_of (ask_range cell a number) ∷ []) is_in same.service same.cells
    (sent ∙ ap (λ q. packets_of old.post ++ packet_of (ask_range q a number) ∷ []) of_cell) (ap (λ t. t.items) same.trace) (ap (λ t. t.items) same.notes) same.takes in
    subst (λ o. IsIn new (run registry (asks_range cell number o) w)) (sym at)
    (subst (IsIn new) (sym (range_sent registry w cell a number is)) grown)

-- nobody is asked for number 0
pub range_zero : (c : Cluster) (w : World) (registry : Registry) (cell : ℕ) (o : Option Agent) → IsIn c w → IsIn c (run registry (asks_range cell (Some 0) o) w)
unfolding happens
range_zero c w registry cell None is_in = is_in
range_zero c w registry cell (Some a) is_in = is_in

-- the event of a line that asks for a change
pub own_of_change : (w : World) (now : ℕ) (line : Line) (cell : ℕ) → cell_of_change line ≡ Some cell → own_events w now line ≡ asks_for cell now (change_wanted line (tree_of w.claims cell))
own_of_change w now (CreateOrganization of name) cell is = let same : of ≡ cell = cc in ap (λ q. asks_for q now (change_wanted (CreateOrganization of name) (tree_of w.claims q))) same
own_of_change w now (CreateUser of name organization) cell is = let same : of ≡ cell = cc in ap (λ q. asks_for q now (change_wanted (CreateUser of name organization) (tree_of w.claims q))) same
own_of_change w now (CreateTopGroup of name organization) cell is = let same : of ≡ cell = cc in ap (λ q. asks_for q now (change_wanted (CreateTopGroup of name organization) (tree_of w.claims q))) same
own_of_change w now (CreateGroup of route) cell is = let same : of ≡ cell = cc in ap (λ q. asks_for q now (change_wanted (CreateGroup of route) (tree_of w.claims q))) same
own_of_change w now (CreateProject of route) cell is = let same : of ≡ cell = cc in ap (λ q. asks_for q now (change_wanted (CreateProject of route) (tree_of w.claims q))) same
own_of_change w now (CreateKey of user value) cell is = let same : of ≡ cell = cc in ap (λ q. asks_for q now (change_wanted (CreateKey of user value) (tree_of w.claims q))) same
own_of_change w now (CreateAddress of user value) cell is = let same : of ≡ cell = cc in ap (λ q. asks_for q now (change_wanted (CreateAddress of user value) (tree_of w.claims q))) same
own_of_change w now (CreateDomain of route value) cell is = let same : of ≡ cell = cc in ap (λ q. asks_for q now (change_wanted (CreateDomain of route value) (tree_of w.claims q))) same
own_of_change w now (Rename of bucket value name) cell is = let same : of ≡ cell = cc in ap (λ q. asks_for q now (change_wanted (Rename of bucket value name) (tree_of w.claims q))) same
own_of_change w now (Remove of bucket value) cell is = let same : of ≡ cell = cc in ap (λ q. asks_for q now (change_wanted (Remove of bucket value) (tree_of w.claims q))) same
own_of_change w now (RangeLine of number) cell is = absurd cc
own_of_change w now (Reconcile of) cell is = absurd cc
own_of_change w now (Verify of span) cell is = absurd cc
own_of_change w now ClassifyFirst cell is = absurd cc
own_of_change w now (ClassifyCell of) cell is = absurd cc
own_of_change w now (ClassifySession text) cell is = absurd cc
own_of_change w now (ClassifyClaim bucket value) cell is = absurd cc
own_of_change w now (ClassifyPath text) cell is = absurd cc
own_of_change w now (Route method target cookie) cell is = absurd cc
own_of_change w now (Lose number) cell is = absurd cc
own_of_change w now (Repeat tag) cell is = absurd cc
own_of_change w now (Wait seconds) cell is = absurd cc
own_of_change w now RestartService cell is = absurd cc
own_of_change w now (Restart of) cell is = absurd cc

-- the begin that was asked for
pub asked_ok : (asked : Result Asked Rule) (request : Request) → Ok request ≡ begin_of asked → (x : Asked) × (asked ≡ Ok x) × (request ≡ Begin x.lease x.ops)
asked_ok (Ok x) request is = (x, refl, cc)
asked_ok (Err rule) request is = absurd cc

pub asked_err : (asked : Result Asked Rule) (rule : Rule) → Err rule ≡ begin_of asked → (theirs : Rule) × (asked ≡ Err theirs)
asked_err (Ok x) rule is = absurd cc
asked_err (Err theirs) rule is = (theirs, refl)

same_answer : (y z : Asked) → (r : Result Asked Rule) → r ≡ Ok y → r ≡ Ok z → y ≡ z
same_answer y z r one other = let both = sym one ∙ other in cc

-- The begin of a change: it is within its bounds, and one more attempt was drawn.
module _ (k : CellAgent) (is : IsAgent k) (left : (kept_by k).drawn < GREATEST_ATTEMPT) (change : Change) (now : ℕ) where
  abbrev tree : Tree
  tree = (stored k.store).tree

  abbrev a : Agent
  a = kept_by k

  abbrev pub IsBegun : Asked → Type 0
  IsBegun x = IsRequest (Begin x.lease x.ops) × (x.agent.drawn ≡ a.drawn + 1)

  begun_unless : (o : Option Rule) → (rule_of tree change a.known or_else too_many_rows a) ≡ o → (x : Asked) → asked_unless o k.store.cell tree a change now ≡ Ok x → IsBegun x
  begun_unless (Some rule) none x at = absurd cc
  begun_unless None none x at =
      let store = is.store in
      let fine = operation_bounds tree change a.known store.holds.fits store.holds.ranges store.holds.apart (both_none (rule_of tree change a.known) (too_many_rows a) none).0 in
      let lease = next_bounds k.store.cell a (record { number = store.cell; epoch_least = store.epoch.0; epoch_most = store.epoch.1 }) left in
      let drawn : Asked = record { agent = with_attempt a (next_lease k.store.cell a) (attempt_of tree a change now); lease = next_lease k.store.cell a; ops = operations_of tree change a.known } in
      subst IsBegun (same_answer drawn x (asked_unless None k.store.cell tree a change now) refl at) ((lease, fine.bounds), refl)

  pub begun : (x : Asked) → ask_change k.store.cell tree a change now ≡ Ok x → IsBegun x
  begun x at = begun_unless (rule_of tree change a.known or_else too_many_rows a) refl x at

-- a change was asked for, of this agent
module _ (old : Cluster) (w : World) (registry : Registry) (k : CellAgent) (change : Change) (now : ℕ) (is_in : IsIn old w) (inside : Contains old.cells.items k) (left : (kept_by k).drawn < GREATEST_ATTEMPT) where
  abbrev answered : Result Asked Rule
  answered = ask_change k.store.cell (stored k.store).tree (kept_by k) change now

  ask_comes : happens registry w (asks k.store.cell change now) ≡ with_asked k.store.cell answered w
  unfolding happens
  ask_comes =
      let was = is_in.cells k inside in
      ap (λ o. after_ask k.store.cell o change now w) was.agent
      ∙ ap (λ b. cond b (with_asked k.store.cell (ask_change k.store.cell (tree_of w.claims k.store.cell) (kept_by k) change now) w) w) (lt-ltb (kept_by k).drawn GREATEST_ATTEMPT left)
      ∙ ap (λ t. with_asked k.store.cell (ask_change k.store.cell t (kept_by k) change now) w) was.tree

  -- no rule refuses it
  pub asked_in : (new : Cluster) (after : CellAgent) (x : Asked) → answered ≡ Ok x → after.store ≡ k.store → kept_by after ≡ x.agent → PutsOne old.cells.items after new.cells.items →
      new.service ≡ old.service → new.trace.items ≡ old.trace.items → new.takes ≡ old.takes → packets_of new.post ≡ packets_of old.post ++ packet_of (Begin x.lease x.ops) ∷ [] → new.notes.items ≡ old.notes.items →
      IsIn new (happens registry w (asks k.store.cell change now))
  asked_in new after x ok store kept puts service trace takes sent notes =
      let ps = packet_of (Begin x.lease x.ops) ∷ [] in
      let acted = acted_in old new k after inside store puts service trace takes ps [] sent (notes ∙ sym (append-nil old.notes.items)) w is_in x.agent kept in
      subst (IsIn new) (ap (λ all. record (with_agent k.store.cell x.agent w) { sent = w.sent ++ ps; notes = all }) (sym (sym (append-nil w.notes))) ∙ ap (λ r. with_asked k.store.cell r w) (sym ok) ∙ sym ask_comes) acted

  -- one does: the agent keeps what it kept
  pub refused_in : (new : Cluster) (after : CellAgent) (rule : Rule) → answered ≡ Err rule → after.store ≡ k.store → kept_by after ≡ kept_by k → PutsOne old.cells.items after new.cells.items →
      new.service ≡ old.service → new.trace.items ≡ old.trace.items → new.takes ≡ old.takes → packets_of new.post ≡ packets_of old.post → new.notes.items ≡ old.notes.items →
      IsIn new (happens registry w (asks k.store.cell change now))
  refused_in new after rule err store kept puts service trace takes sent notes = subst (IsIn new) (ap (λ r. with_asked k.store.cell r w) (sym err) ∙ sym ask_comes) (record {
    service = is_in.service ∙ ap (λ (s : Rattle.claim_service.specs.declared.node.TopologyNode.TopologyNode). Rattle.claim_service.specs.State.kept s.state) (sym service);
    cells = λ b there. ⊎_elim
        (λ (is : b ≡ after). (let was = is_in.cells k inside in
        subst (IsCellIn w) (sym is) (record {
          tree = ap (λ (s : Rattle.cell_store.specs.declared.store.CellStore.CellStore). tree_of w.claims s.cell) store ∙ was.tree ∙ ap (λ s. (stored s).tree) (sym store);
          agent = ap (λ (s : Rattle.cell_store.specs.declared.store.CellStore.CellStore). map.get w.agents s.cell) store ∙ was.agent ∙ ap Some (sym kept);
        })))
        (λ other. is_in.cells b other.0)
        (puts.each b there);
    only = λ q x there. (let was = is_in.only q x there in
        ⊎_elim
        (λ (same : was.0.store.cell ≡ after.store.cell). (after, puts.put, sym same ∙ was.2))
        (λ apart. (was.0, puts.others was.0 was.1 apart, was.2))
        (Rattle.cells_base.proofs.Maps.same_or_other Rattle.std.specs.Cmp.nat_cmp_total Rattle.std.specs.FinMap.nat_cmp-IsAntisymmetric was.0.store.cell after.store.cell));
    sent = is_in.sent ∙ sym sent;
    trace = is_in.trace ∙ sym trace;
    notes = is_in.notes ∙ sym notes;
    takes = is_in.takes ∙ sym takes;
  })

-- no such cell asks
pub asks_nobody : (c : Cluster) (w : World) (registry : Registry) (cell now : ℕ) (line : Line) → cell_of_change line ≡ Some cell → map.get w.agents cell ≡ None → IsIn c w → IsIn c (run registry (own_events w now line) w)
unfolding happens
asks_nobody c w registry cell now line of nobody is_in = subst (λ es. IsIn c (run registry es w)) (sym (own_of_change w now line cell of)) (go (change_wanted line (tree_of w.claims cell)))
  where
    go : (o : Option Change) → IsIn c (run registry (asks_for cell now o) w)
    go None = is_in
    go (Some change) = subst (λ o. IsIn c (after_ask cell o change now w)) (sym nobody) is_in

-- a change that no record is wanted by
pub wants_nothing : (c : Cluster) (w : World) (registry : Registry) (cell now : ℕ) (line : Line) → cell_of_change line ≡ Some cell → change_wanted line (tree_of w.claims cell) ≡ None → IsIn c w → IsIn c (run registry (own_events w now line) w)
wants_nothing c w registry cell now line of none is_in = subst (λ es. IsIn c (run registry es w)) (sym (own_of_change w now line cell of ∙ ap (asks_for cell now) none)) is_in

-- the event of a line that asks for this change of a cell
pub change_in : (new : Cluster) (w : World) (registry : Registry) (line : Line) (cell now here : ℕ) (change : Change) → cell_of_change line ≡ Some cell → here ≡ cell → change_wanted line (tree_of w.claims here) ≡ Some change →
    IsIn new (happens registry w (asks here change now)) → IsIn new (run registry (own_events w now line) w)
change_in new w registry line cell now here change of same wanted is =
    subst (λ es. IsIn new (run registry es w)) (sym (own_of_change w now line cell of ∙ ap (asks_for cell now) (ap (λ q. change_wanted line (tree_of w.claims q)) (sym same) ∙ wanted)))
    (subst (λ q. IsIn new (happens registry w (asks q change now))) same is)

-- an answer that names a rule, unless memory ran out, is that of the asking
pub answers_rule : (asked : Result Asked Rule) (before : Agent) (rule : Rule) (now : Agent) → Answers asked before (Err rule) now → rule ≢ RuleMemory → (Err rule ≡ begin_of asked) × (now ≡ agent_after asked before)
answers_rule asked before NoSuchRecord now is apart = is
answers_rule asked before WrongKind now is apart = is
answers_rule asked before BadName now is apart = is
answers_rule asked before Same now is apart = is
answers_rule asked before (TakenHere key) now is apart = is
answers_rule asked before HasChildren now is apart = is
answers_rule asked before (TooMany n) now is apart = is
answers_rule asked before NoIds now is apart = is
answers_rule asked before VersionSpent now is apart = is
answers_rule asked before (TooManyRows n) now is apart = is
answers_rule asked before RuleMemory now is apart = absurd (apart refl)

-- the last attempt was drawn already: nothing is asked
pub spent_in : (c : Cluster) (w : World) (registry : Registry) (k : CellAgent) (line : Line) (cell now : ℕ) → cell_of_change line ≡ Some cell → k.store.cell ≡ cell → IsIn c w → Contains c.cells.items k → GREATEST_ATTEMPT ≤ (kept_by k).drawn → IsIn c (run registry (own_events w now line) w)
unfolding happens
spent_in c w registry k line cell now of same is_in inside spent =
    subst (λ es. IsIn c (run registry es w)) (sym (own_of_change w now line cell of)) (go (change_wanted line (tree_of w.claims cell)))
  where
    at : map.get w.agents cell ≡ Some (kept_by k)
    at = ap (map.get w.agents) (sym same) ∙ (is_in.cells k inside).agent

    go : (o : Option Change) → IsIn c (run registry (asks_for cell now o) w)
    go None = is_in
    go (Some change) = subst (λ o. IsIn c (after_ask cell o change now w)) (sym at)
        (subst (λ b. IsIn c (cond b (with_asked cell (ask_change cell (tree_of w.claims cell) (kept_by k) change now) w) w)) (sym (le-ltb (kept_by k).drawn GREATEST_ATTEMPT spent)) is_in)

-- a line that neither changes records, nor asks for a range, nor reconciles has no event of its own
pub own_nothing : (w : World) (now : ℕ) (line : Line) → cell_of_change line ≡ None → ((cell : ℕ) (number : Option ℕ) → line ≡ RangeLine cell number → ⊥) → ((cell : ℕ) → line ≡ Reconcile cell → ⊥) → own_events w now line ≡ []
own_nothing w now (CreateOrganization of name) none range reconcile = absurd cc
own_nothing w now (CreateUser of name organization) none range reconcile = absurd cc
own_nothing w now (CreateTopGroup of name organization) none range reconcile = absurd cc
own_nothing w now (CreateGroup of route) none range reconcile = absurd cc
own_nothing w now (CreateProject of route) none range reconcile = absurd cc
own_nothing w now (CreateKey of user value) none range reconcile = absurd cc
own_nothing w now (CreateAddress of user value) none range reconcile = absurd cc
own_nothing w now (CreateDomain of route value) none range reconcile = absurd cc
own_nothing w now (Rename of bucket value name) none range reconcile = absurd cc
own_nothing w now (Remove of bucket value) none range reconcile = absurd cc
own_nothing w now (RangeLine of number) none range reconcile = absurd (range of number refl)
own_nothing w now (Reconcile of) none range reconcile = absurd (reconcile of refl)
own_nothing w now (Verify of span) none range reconcile = refl
own_nothing w now ClassifyFirst none range reconcile = refl
own_nothing w now (ClassifyCell of) none range reconcile = refl
own_nothing w now (ClassifySession text) none range reconcile = refl
own_nothing w now (ClassifyClaim bucket value) none range reconcile = refl
own_nothing w now (ClassifyPath text) none range reconcile = refl
own_nothing w now (Route method target cookie) none range reconcile = refl
own_nothing w now (Lose number) none range reconcile = refl
own_nothing w now (Repeat tag) none range reconcile = refl
own_nothing w now (Wait seconds) none range reconcile = refl
own_nothing w now RestartService none range reconcile = refl
own_nothing w now (Restart of) none range reconcile = refl

-- what nodes do of themselves was given by no wire
module _ (registry : Registry) (w : World) where
  asks_given : (cell now : ℕ) (o : Option Change) → AreGiven registry w [] (asks_for cell now o)
  asks_given cell now None = refl
  asks_given cell now (Some change) = ([], [], refl, refl, refl)

  range_given : (cell : ℕ) (number : Option ℕ) (o : Option Agent) → AreGiven registry w [] (asks_range cell number o)
  range_given cell number None = refl
  range_given cell number (Some a) = ([], [], refl, refl, refl)

  pub own_given : (now : ℕ) (line : Line) → AreGiven registry w [] (own_events w now line)
  own_given now (CreateOrganization of name) = asks_given of now (change_wanted (CreateOrganization of name) (tree_of w.claims of))
  own_given now (CreateUser of name organization) = asks_given of now (change_wanted (CreateUser of name organization) (tree_of w.claims of))
  own_given now (CreateTopGroup of name organization) = asks_given of now (change_wanted (CreateTopGroup of name organization) (tree_of w.claims of))
  own_given now (CreateGroup of route) = asks_given of now (change_wanted (CreateGroup of route) (tree_of w.claims of))
  own_given now (CreateProject of route) = asks_given of now (change_wanted (CreateProject of route) (tree_of w.claims of))
  own_given now (CreateKey of user value) = asks_given of now (change_wanted (CreateKey of user value) (tree_of w.claims of))
  own_given now (CreateAddress of user value) = asks_given of now (change_wanted (CreateAddress of user value) (tree_of w.claims of))
  own_given now (CreateDomain of route value) = asks_given of now (change_wanted (CreateDomain of route value) (tree_of w.claims of))
  own_given now (Rename of bucket value name) = asks_given of now (change_wanted (Rename of bucket value name) (tree_of w.claims of))
  own_given now (Remove of bucket value) = asks_given of now (change_wanted (Remove of bucket value) (tree_of w.claims of))
  own_given now (RangeLine of number) = range_given of number (map.get w.agents of)
  own_given now (Reconcile of) = ([], [], refl, refl, refl)
  own_given now (Verify of span) = refl
  own_given now ClassifyFirst = refl
  own_given now (ClassifyCell of) = refl
  own_given now (ClassifySession text) = refl
  own_given now (ClassifyClaim bucket value) = refl
  own_given now (ClassifyPath text) = refl
  own_given now (Route method target cookie) = refl
  own_given now (Lose number) = refl
  own_given now (Repeat tag) = refl
  own_given now (Wait seconds) = refl
  own_given now RestartService = refl
  own_given now (Restart of) = refl
