-- What the event of a line began: from the clauses of the calls to the world at the line's start.
use Rattle.std.proofs.Common.{◌≡◌, ℕ, ◌<◌, ◌≤◌, Bool, cond, Option, Some, None, length, refl, sym, ◌∙◌, ap}
use Rattle.std.specs.Prelude.{Result, Ok, Err}
use Rattle.std.specs.List.{Contains}
use Rattle.std.specs.FinMap as map
use Rattle.std.proofs.lemmas.Bool.{lt-ltb, le-ltb}
use Rattle.claim_types.specs.declared.limits.TheConstants.{GREATEST_ATTEMPT}
use Rattle.claim_types.specs.declared.message.Request.{Request}
use Rattle.claim_types.specs.declared.message.Request.TheVariants.{Begin}
use Rattle.claim_types.specs.declared.record.Change.{Change}
use Rattle.claim_types.specs.declared.rule.Rule.{Rule}
use Rattle.claim_map.specs.State.{Tree, tree_of}
use Rattle.claim_laws.specs.Nodes.{Agent, Asked}
use Rattle.claim_laws.specs.World.{World}
use Rattle.cell_store.specs.Store.{stored}
use Rattle.reconciler.specs.Agent.{kept_by, begin_of}
use Rattle.reconciler.specs.declared.agent.CellAgent.{CellAgent}
use Rattle.cells_script.specs.declared.answer.Answer.TheVariants.{NoCell, Refused, Waiting}
use Rattle.cells_script.specs.declared.line.Line.{Line}
use Rattle.cells_script.specs.declared.line.Line.TheVariants.{CreateOrganization, CreateUser, CreateTopGroup, CreateGroup, CreateProject, CreateKey, CreateAddress, CreateDomain, Rename, Remove, Range as RangeLine, Reconcile, Verify, ClassifyFirst, ClassifyCell, ClassifySession, ClassifyClaim, ClassifyPath, Route, Lose, Repeat, Wait, RestartService, Restart}
use Rattle.cells_world.specs.Answers.{begun_by, begun_by_cell, begun_by_request, begun_change, begun_of, begun_on_wire, begun_range, begun_reconcile, begun_wanted, is_zero}
use Rattle.cells_world.specs.Lines.{cell_of_change}
use Rattle.cells_world.specs.Wanted.{change_wanted}
use Rattle.cells_world.specs.World.{IsIn}
use Rattle.cells_world.specs.declared.answer.Begun.{Begun}
use Rattle.cells_world.specs.declared.answer.Begun.TheVariants.{Told, RangeAsked}
use Rattle.cells_world.specs.declared.cluster.Cluster.{Cluster}

-- the agent of a cell, as the world has it
pub agent_at : (c : Cluster) (w : World) (k : CellAgent) (cell : ℕ) → IsIn c w → Contains c.cells.items k → k.store.cell ≡ cell → map.get w.agents cell ≡ Some (kept_by k)
agent_at c w k cell is_in inside of_cell = ap (map.get w.agents) (sym of_cell) ∙ (is_in.cells k inside).agent

-- A line that asks for a change.
module _ (w : World) (now : ℕ) (line : Line) (cell : ℕ) (of : cell_of_change line ≡ Some cell) where
  of_cell_begun : begun_of w now line ≡ begun_change cell (tree_of w.claims cell) (map.get w.agents cell) now (change_wanted line (tree_of w.claims cell))
  of_cell_begun = ap (begun_by_cell w now line) of

  -- the configuration has no such cell
  pub nobody_begun : map.get w.agents cell ≡ None → Told NoCell ≡ begun_of w now line
  nobody_begun nobody = sym (of_cell_begun ∙ ap (λ o. begun_change cell (tree_of w.claims cell) o now (change_wanted line (tree_of w.claims cell))) nobody)

  module _ (c : Cluster) (k : CellAgent) (is_in : IsIn c w) (inside : Contains c.cells.items k) (same : k.store.cell ≡ cell) where
    abbrev tree : Tree
    tree = (stored k.store).tree

    at_agent : begun_of w now line ≡ begun_change cell (tree_of w.claims cell) (Some (kept_by k)) now (change_wanted line (tree_of w.claims cell))
    at_agent = of_cell_begun ∙ ap (λ o. begun_change cell (tree_of w.claims cell) o now (change_wanted line (tree_of w.claims cell))) (agent_at c w k cell is_in inside same)

    at_tree : tree_of w.claims cell ≡ tree
    at_tree = ap (tree_of w.claims) (sym same) ∙ (is_in.cells k inside).tree

    -- the last attempt of its epoch was drawn
    pub spent_begun : GREATEST_ATTEMPT ≤ (kept_by k).drawn → Told (Waiting None) ≡ begun_of w now line
    spent_begun spent = sym (at_agent ∙ ap (λ b. cond b (begun_wanted cell (tree_of w.claims cell) (kept_by k) now (change_wanted line (tree_of w.claims cell))) (Told (Waiting None))) (le-ltb (kept_by k).drawn GREATEST_ATTEMPT spent))

    module _ (left : (kept_by k).drawn < GREATEST_ATTEMPT) (wanted : Option Change) (wants : change_wanted line tree ≡ wanted) where
      pub asked_begun : begun_of w now line ≡ begun_wanted k.store.cell tree (kept_by k) now wanted
      asked_begun =
          at_agent
          ∙ ap (λ b. cond b (begun_wanted cell (tree_of w.claims cell) (kept_by k) now (change_wanted line (tree_of w.claims cell))) (Told (Waiting None))) (lt-ltb (kept_by k).drawn GREATEST_ATTEMPT left)
          ∙ ap (λ t. begun_wanted cell t (kept_by k) now (change_wanted line t)) at_tree
          ∙ ap (λ q. begun_wanted q tree (kept_by k) now (change_wanted line tree)) (sym same)
          ∙ ap (begun_wanted k.store.cell tree (kept_by k) now) wants

-- the begin that was sent, and the rule that refuses the change
pub request_begun : (asked : Result Asked Rule) (request : Request) → Ok request ≡ begin_of asked → begun_by_request request ≡ begun_by asked
request_begun (Ok x) request is = let same : request ≡ Begin x.lease x.ops = cc in ap begun_by_request same
request_begun (Err rule) request is = absurd cc

pub rule_begun : (asked : Result Asked Rule) (rule : Rule) → Err rule ≡ begin_of asked → Told (Refused rule) ≡ begun_by asked
rule_begun (Ok x) rule is = absurd cc
rule_begun (Err theirs) rule is = let same : rule ≡ theirs = cc in ap (λ r. Told (Refused r)) same

-- what asking for a range begins, of such an agent, where its number is 0 or not
abbrev pub range_by : Option Agent → Bool → Begun
range_by None b = Told NoCell
range_by (Some a) b = cond b (Told (Waiting None)) RangeAsked

-- a line that asks for a range, or reconciles
module _ (w : World) (now cell : ℕ) where
  pub range_begun : (number : Option ℕ) (o : Option Agent) (b : Bool) → map.get w.agents cell ≡ o → is_zero number ≡ b → begun_of w now (RangeLine cell number) ≡ range_by o b
  range_begun number None b at is = ap (begun_range number) at
  range_begun number (Some a) b at is = ap (begun_range number) at ∙ ap (λ x. cond x (Told (Waiting None)) RangeAsked) is

  pub reconcile_begun : (o : Option Agent) → map.get w.agents cell ≡ o → begun_of w now (Reconcile cell) ≡ begun_reconcile o
  reconcile_begun o at = ap begun_reconcile at

-- a line that is for the wire or the clock
pub wire_begun : (w : World) (now : ℕ) (line : Line) → cell_of_change line ≡ None → ((cell : ℕ) (number : Option ℕ) → line ≡ RangeLine cell number → ⊥) → ((cell : ℕ) → line ≡ Reconcile cell → ⊥) → begun_of w now line ≡ begun_on_wire (length w.sent) line
wire_begun w now (CreateOrganization of name) none range reconcile = absurd cc
wire_begun w now (CreateUser of name organization) none range reconcile = absurd cc
wire_begun w now (CreateTopGroup of name organization) none range reconcile = absurd cc
wire_begun w now (CreateGroup of route) none range reconcile = absurd cc
wire_begun w now (CreateProject of route) none range reconcile = absurd cc
wire_begun w now (CreateKey of user value) none range reconcile = absurd cc
wire_begun w now (CreateAddress of user value) none range reconcile = absurd cc
wire_begun w now (CreateDomain of route value) none range reconcile = absurd cc
wire_begun w now (Rename of bucket value name) none range reconcile = absurd cc
wire_begun w now (Remove of bucket value) none range reconcile = absurd cc
wire_begun w now (RangeLine of number) none range reconcile = absurd (range of number refl)
wire_begun w now (Reconcile of) none range reconcile = absurd (reconcile of refl)
wire_begun w now (Verify of span) none range reconcile = refl
wire_begun w now ClassifyFirst none range reconcile = refl
wire_begun w now (ClassifyCell of) none range reconcile = refl
wire_begun w now (ClassifySession text) none range reconcile = refl
wire_begun w now (ClassifyClaim bucket value) none range reconcile = refl
wire_begun w now (ClassifyPath text) none range reconcile = refl
wire_begun w now (Route method target cookie) none range reconcile = refl
wire_begun w now (Lose number) none range reconcile = refl
wire_begun w now (Repeat tag) none range reconcile = refl
wire_begun w now (Wait seconds) none range reconcile = refl
wire_begun w now RestartService none range reconcile = refl
wire_begun w now (Restart of) none range reconcile = refl
