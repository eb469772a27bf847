-- Begins and what answers them; of the lease that a cell draws next neither was sent.
use Rattle.std.proofs.Common.{◌≡◌, ◌⊎◌, inl, inr, ℕ, ◌-◌, ◌<◌, ◌≤◌, Bool, true, false, cond, List, [], ◌∷◌, ◌++◌, Option, Some, None, is_some, ◌∙◌, ap, subst, arith}
use Rattle.std.specs.List.{Contains}
use Rattle.std.specs.FinMap as map
use Rattle.cells_base.proofs.Members.{at_place, here_or_later, nowhere}
use Rattle.claim_types.specs.declared.lease.LeaseId.{LeaseId}
use Rattle.claim_types.specs.declared.lease.How.{How}
use Rattle.claim_types.specs.declared.lease.How.TheVariants.{Committed as AsCommitted, RolledBack as AsRolledBack}
use Rattle.claim_types.specs.declared.operations.Operations.{Operations}
use Rattle.claim_types.specs.declared.message.BegunResult.{BegunResult}
use Rattle.claim_types.specs.declared.message.BegunResult.TheVariants.{Good, Denied}
use Rattle.claim_types.specs.declared.message.Request.{Request}
use Rattle.claim_types.specs.declared.message.Request.TheVariants.{Begin, Commit, Rollback, List as ListRequest, Range as RangeRequest, Claims as ClaimsRequest, Classify, Page as PageRequest}
use Rattle.claim_types.specs.declared.message.Reply.TheVariants.{Begun, Claims, Leases, NoCell}
use Rattle.claim_types.specs.declared.step.Step.TheVariants.{Denied as DeniedStep}
use Rattle.claim_types.specs.declared.step.Transition.{Transition}
use Rattle.claim_types.specs.declared.verdict.Denial.{Denial}
use Rattle.claim_types.specs.declared.verdict.Verdict.{Verdict}
use Rattle.claim_types.specs.declared.verdict.Verdict.TheVariants.{Fresh, Again, Refused}
use Rattle.claim_map.specs.Due.{Due, due, begin_due, commit_due, rollback_due, range_due, told}
use Rattle.claim_map.specs.Legal.{ask, answer, IsLegal, IsRun}
use Rattle.claim_map.specs.Pages.{lease_page, claim_page}
use Rattle.claim_map.specs.Ranges.{RangeVerdict, unknown_cell, kept, too_far, exhausted, fresh, range_verdict}
use Rattle.claim_map.specs.Registry.{Registry, cell_of}
use Rattle.claim_map.specs.State.{ClaimMap, leases_of}
use Rattle.claim_map.specs.Step.{after}
use Rattle.claim_map.specs.Verdict.{verdict_of}
use Rattle.claim_laws.specs.Facts.{IsInOrder, WasSent, WasDenied, MayDeny, MessageFact, grounds_of}
use Rattle.claim_laws.specs.Nodes.{Agent, next_lease}
use Rattle.claim_laws.specs.World.{World, IsDrawn, IsDrawnBy}
use Rattle.claim_laws.proofs.Looks.{agent_is}

-- that the begin of this lease was denied, or an answer to it, is due to that begin alone
module _ (registry : Registry) (s : ClaimMap) (lease : LeaseId) where
  abbrev pub Speaks : Due → Type 0
  Speaks d = ((denial : Denial) × (d.step ≡ Some (DeniedStep lease denial))) ⊎ ((result : BegunResult) × (d.reply ≡ Begun lease result))

  in_cell : (b : Bool) (d : Due) (cell : ℕ) → Speaks (cond b d (told (NoCell cell))) → Speaks d
  in_cell true d cell speaks = speaks
  in_cell false d cell speaks = elim speaks [ inl one ↦ let is = one.1 in absurd cc | inr one ↦ let is = one.1 in absurd cc ]

  by_verdict : (of : LeaseId) (ops : Operations) (v : Verdict) → Speaks (begin_due of ops v) → of ≡ lease
  by_verdict of ops Fresh speaks = elim speaks [ inl one ↦ let is = one.1 in absurd cc | inr one ↦ let is = one.1 in cc ]
  by_verdict of ops Again speaks = elim speaks [ inl one ↦ let is = one.1 in absurd cc | inr one ↦ let is = one.1 in cc ]
  by_verdict of ops (Refused reason) speaks = elim speaks [ inl one ↦ let is = one.1 in cc | inr one ↦ let is = one.1 in cc ]

  by_commit : (of : LeaseId) (o : Option Operations) (how : Option How) → Speaks (commit_due of o how) → ⊥
  by_commit of (Some ops) how speaks = elim speaks [ inl one ↦ let is = one.1 in cc | inr one ↦ let is = one.1 in cc ]
  by_commit of None (Some AsCommitted) speaks = elim speaks [ inl one ↦ let is = one.1 in cc | inr one ↦ let is = one.1 in cc ]
  by_commit of None (Some AsRolledBack) speaks = elim speaks [ inl one ↦ let is = one.1 in cc | inr one ↦ let is = one.1 in cc ]
  by_commit of None None speaks = elim speaks [ inl one ↦ let is = one.1 in cc | inr one ↦ let is = one.1 in cc ]

  by_rollback : (of : LeaseId) (how : Option How) → Speaks (rollback_due of how) → ⊥
  by_rollback of None speaks = elim speaks [ inl one ↦ let is = one.1 in cc | inr one ↦ let is = one.1 in cc ]
  by_rollback of (Some AsCommitted) speaks = elim speaks [ inl one ↦ let is = one.1 in cc | inr one ↦ let is = one.1 in cc ]
  by_rollback of (Some AsRolledBack) speaks = elim speaks [ inl one ↦ let is = one.1 in cc | inr one ↦ let is = one.1 in cc ]

  by_range : (cell number : ℕ) (v : RangeVerdict) → Speaks (range_due cell number v) → ⊥
  by_range cell number unknown_cell speaks = elim speaks [ inl one ↦ let is = one.1 in cc | inr one ↦ let is = one.1 in cc ]
  by_range cell number (kept range) speaks = elim speaks [ inl one ↦ let is = one.1 in cc | inr one ↦ let is = one.1 in cc ]
  by_range cell number (too_far next) speaks = elim speaks [ inl one ↦ let is = one.1 in cc | inr one ↦ let is = one.1 in cc ]
  by_range cell number (exhausted last) speaks = elim speaks [ inl one ↦ let is = one.1 in cc | inr one ↦ let is = one.1 in cc ]
  by_range cell number (fresh range) speaks = elim speaks [ inl one ↦ let is = one.1 in cc | inr one ↦ let is = one.1 in cc ]

  pub speaks_of_begin : (request : Request) → Speaks (due registry s request) → (ops : Operations) × (request ≡ Begin lease ops)
  speaks_of_begin (Begin of ops) speaks =
      let v = verdict_of (leases_of s) s.ranges of ops in
      (ops, ap (λ (l : LeaseId). Begin l ops) (by_verdict of ops v (in_cell (is_some (cell_of registry of.cell)) (begin_due of ops v) of.cell speaks)))
  speaks_of_begin (Commit of) speaks =
      let d = commit_due of (map.get s.open_leases of) (map.get s.settled of) in
      absurd (by_commit of (map.get s.open_leases of) (map.get s.settled of) (in_cell (is_some (cell_of registry of.cell)) d of.cell speaks))
  speaks_of_begin (Rollback of) speaks = absurd (by_rollback of (map.get s.settled of) (in_cell (is_some (cell_of registry of.cell)) (rollback_due of (map.get s.settled of)) of.cell speaks))
  speaks_of_begin (ListRequest cell last) speaks =
      let told_page = in_cell (is_some (cell_of registry cell)) (told (Leases cell (lease_page (leases_of s) cell last))) cell speaks in
      elim told_page [ inl one ↦ let is = one.1 in absurd cc | inr one ↦ let is = one.1 in absurd cc ]
  speaks_of_begin (RangeRequest cell number) speaks = absurd (by_range cell number (range_verdict registry s.ranges cell number) speaks)
  speaks_of_begin (ClaimsRequest cell bucket first last behind) speaks =
      let told_page = in_cell (is_some (cell_of registry cell)) (told (Claims cell bucket first last behind (claim_page (leases_of s) cell bucket first last behind))) cell speaks in
      elim told_page [ inl one ↦ let is = one.1 in absurd cc | inr one ↦ let is = one.1 in absurd cc ]
  speaks_of_begin (Classify question) speaks = elim speaks [ inl one ↦ let is = one.1 in absurd cc | inr one ↦ let is = one.1 in absurd cc ]
  speaks_of_begin (PageRequest cell path named) speaks = elim speaks [ inl one ↦ let is = one.1 in absurd cc | inr one ↦ let is = one.1 in absurd cc ]

module _ (registry : Registry) (beginning : ClaimMap) (w : World) (order : IsInOrder registry beginning w) (cell : ℕ) (a : Agent) (at : map.get w.agents cell ≡ Some a) where
  abbrev next : LeaseId
  next = next_lease cell a

  undrawn : IsDrawn w.agents next → ⊥
  undrawn drawn = go by_agent.1
    where
      by_agent : IsDrawnBy a next
      by_agent = subst (λ (x : Agent). IsDrawnBy x next) (agent_is w.claims w.agents a a next at) drawn

      go : ((next.epoch < a.epoch) ⊎ ((next.epoch ≡ a.epoch) × (next.attempt ≤ a.drawn))) → ⊥
      go (inl less) = omega (arith, less)
      go (inr both) = let few = both.1 in omega (arith, few)

  pub no_begin : (ops : Operations) → WasSent w.sent (ask (Begin next ops)) → ⊥
  no_begin ops sent =
      let said : MessageFact (grounds_of w.claims w.agents w.trace) (ask (Begin next ops)) = order.messages (ask (Begin next ops)) sent in
      undrawn said.0.drawn_for

  taken : (ts : List Transition) (s : ClaimMap) (earlier : List Transition) (last : ℕ) → IsRun registry s earlier last w.handed ts → (t : Transition) (denial : Denial) → Contains ts t → t.step ≡ DeniedStep next denial → ⊥
  taken [] s earlier last run t denial there is = nowhere t there
  taken (x ∷ ts) s earlier last run t denial there is = elim (here_or_later x ts t there) [
    | inl same ↦
        let step : x.step ≡ DeniedStep next denial = ap (λ (y : Transition). y.step) same ∙ is in
        let legal : IsLegal registry s earlier run.0.message (DeniedStep next denial) = subst (IsLegal registry s earlier run.0.message) step run.0.legal in
        let begin = speaks_of_begin registry s next legal.request (inl (denial, legal.owed)) in
        let message : run.0.message ≡ ask (Begin next begin.0) = legal.asked ∙ ap ask begin.1 in
        no_begin begin.0 (subst (WasSent w.sent) message (order.handed run.0.message (at_place w.handed (x.take - 1) (Some run.0.message) run.0.handed_over)))
    | inr more ↦ taken ts (after s x.step) (earlier ++ x ∷ []) x.take run.1 t denial more is
  ]

  pub no_begun : (result : BegunResult) → WasSent w.sent (answer (Begun next result)) → ⊥
  no_begun Good sent = undrawn ((order.lives next).known_drawn (order.messages (answer (Begun next Good)) sent))
  no_begun (Denied denial) sent =
      let said : WasDenied w.trace next denial × MayDeny denial = order.messages (answer (Begun next (Denied denial))) sent in
      taken w.trace beginning [] 0 order.legal said.0.0 denial said.0.1 said.0.2
