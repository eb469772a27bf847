use Rattle.std.proofs.Common.{◌≡◌, ◌+◌, ◌<◌, ◌≤◌, Ok, Err, sym, ◌∙◌, ap, subst}
use Rattle.std.specs.FinMap as map
use Rattle.claim_types.specs.Order.{lease_cmp}
use Rattle.claim_types.specs.declared.lease.LeaseId.{LeaseId}
use Rattle.claim_types.specs.declared.limits.TheConstants.{ATTEMPTS_AND_ROWS}
use Rattle.claim_types.specs.declared.message.Request.TheVariants.{Begin}
use Rattle.claim_types.specs.declared.operations.Operations.{Operations}
use Rattle.claim_types.specs.declared.rule.Attempt.{Attempt}
use Rattle.claim_types.specs.declared.rule.Rule.TheVariants.{TooManyRows}
use Rattle.claim_map.specs.Claims.{operations_of}
use Rattle.claim_map.specs.Rules.{rule_of}
use Rattle.claim_map.specs.State.{Tree}
use Rattle.claim_laws.specs.Nodes.{attempt_of, next_lease}
use Rattle.cell_store.specs.Store.{stored}
use Rattle.reconciler.specs.Agent.{kept_by, begin_of, agent_after}
use Rattle.reconciler.specs.Kept.{IsAgentInOrder}
use Rattle.reconciler.proofs.Asking.{no_rule, refused_when_full, asked_with_room, drawn_is}
use Rattle.reconciler.proofs.Keeping.{drawn_kept}
use Rattle.reconciler.proofs.agent.CellAgent.ask_change.Goals as goal

pub returns-then-n-ge-ATTEMPTS_AND_ROWS-clause-asked :
    goal.returns-then-n-ge-ATTEMPTS_AND_ROWS-clause-asked
returns-then-n-ge-ATTEMPTS_AND_ROWS-clause-asked c =
    let self = c.args.self.now in
    let s = stored self.store in
    let a = kept_by self in
    let found = no_rule (rule_of s.tree c.args.change s.known) (operations_of s.tree c.args.change s.known) c.in_ok-ops.ops c.in_ok-ops.ensures in
    let counts = c.attempts_and_rows-n.ensures in
    let refused = refused_when_full self.store.cell s.tree a c.args.change c.args.now found.0 (subst (λ n. ATTEMPTS_AND_ROWS ≤ n) counts c.if-n-ge-ATTEMPTS_AND_ROWS.true) in
    (ap (λ n. Err (TooManyRows n)) counts ∙ sym (ap begin_of refused), sym (ap (λ asked. agent_after asked a) refused))

pub returns-clause-asked : goal.returns-clause-asked
returns-clause-asked c =
    let self = c.args.self.now in
    let s = stored self.store in
    let a = kept_by self in
    let found = no_rule (rule_of s.tree c.args.change s.known) (operations_of s.tree c.args.change s.known) c.in_ok-ops.ops c.in_ok-ops.ensures in
    let asked = asked_with_room self.store.cell s.tree a c.args.change c.args.now found.0 (subst (λ n. n < ATTEMPTS_AND_ROWS) c.attempts_and_rows-n.ensures c.if-n-ge-ATTEMPTS_AND_ROWS.false) in
    let named = c.next_lease-lease.ensures in
    let attempt : Attempt = record { change = c.args.change; ops = c.in_ok-copy.field-0; version = c.version.result; since = c.args.now } in
    let made : attempt ≡ attempt_of s.tree a c.args.change c.args.now =
    ap (λ (o : Operations). record { change = c.args.change; ops = o; version = c.version.result; since = c.args.now }) (c.in_ok-copy.ensures ∙ sym found.1)
    ∙ ap (λ n. record { change = c.args.change; ops = operations_of s.tree c.args.change s.known; version = n; since = c.args.now }) (c.version.ensures ∙ ap (λ (t : Tree). t.version) c.tree.ensures) in
    let kept = drawn_is self.store.cell s.tree a c.args.change c.args.now found.0 c.next_lease-lease.result attempt c.put.new.self named made c.in_ok-put.ensures.ok in (
      ap (λ (l : LeaseId). Ok (Begin l c.in_ok-ops.ops)) named ∙ ap (λ (o : Operations). Ok (Begin (next_lease self.store.cell a) o)) (sym found.1) ∙ sym (ap begin_of asked),
      kept ∙ sym (ap (λ x. agent_after x a) asked),
    )

pub returns-clause-agent : goal.returns-clause-agent
returns-clause-agent c =
    let self = c.args.self.now in
    let a = kept_by self in
    let attempt : Attempt = record { change = c.args.change; ops = c.in_ok-copy.field-0; version = c.version.result; since = c.args.now } in
    record {
      store = c.requires.agent.store;
      in_order = subst (λ (p : map.FinMap lease_cmp Attempt). IsAgentInOrder self.store.cell (record a { drawn = a.drawn + 1; pending = p }))
          (sym (c.in_ok-put.ensures.ok ∙ ap (λ (l : LeaseId). map.insert a.pending l attempt) c.next_lease-lease.ensures))
          (drawn_kept self.store.cell a c.requires.agent.in_order attempt (subst (λ n. n < ATTEMPTS_AND_ROWS) c.attempts_and_rows-n.ensures c.if-n-ge-ATTEMPTS_AND_ROWS.false));
    }
