-- Short laws that follow: from the legality of each step in its turn, and from what is true of the installation.
use Rattle.std.proofs.Common.{◌≡◌, ◌≢◌, ◌⊎◌, inl, inr, ⊎_elim, ℕ, zero, suc, ◌-◌, ◌<◌, Bool, true, false, cond, List, [], ◌∷◌, ◌++◌, Option, Some, None, is_some, refl, sym, ◌∙◌, ap, subst, arith}
use Rattle.std.specs.List.{Contains, slice_get}
use Rattle.std.specs.FinMap as map
use Rattle.std.specs.FinSet as set
use Rattle.cells_base.proofs.Maps.{same_or_other, insert_same, insert_other, remove_same, remove_other}
use Rattle.claim_types.proofs.Ordered.{leases_total, leases_exact}
use Rattle.claim_types.specs.Leases.{IsLease}
use Rattle.claim_types.specs.declared.key.ClaimKey.{ClaimKey}
use Rattle.claim_types.specs.declared.lease.LeaseId.{LeaseId}
use Rattle.claim_types.specs.declared.lease.Holding.{Holding}
use Rattle.claim_types.specs.declared.lease.How.{How}
use Rattle.claim_types.specs.declared.lease.How.TheVariants.{Committed as AsCommitted, RolledBack as AsRolledBack}
use Rattle.claim_types.specs.declared.operations.Operations.{Operations}
use Rattle.claim_types.specs.declared.record.Change.{Change}
use Rattle.claim_types.specs.declared.step.Step.{Step}
use Rattle.claim_types.specs.declared.step.Step.TheVariants.{Leased, Denied, Recorded, Committed, RolledBack, Ranged, Answered, Served}
use Rattle.claim_types.specs.declared.step.Transition.{Transition}
use Rattle.claim_types.specs.declared.verdict.Verdict.{Verdict}
use Rattle.claim_types.specs.declared.verdict.Verdict.TheVariants.{Fresh, Again, Refused}
use Rattle.claim_types.specs.declared.message.Request.{Request}
use Rattle.claim_types.specs.declared.message.Request.TheVariants.{Begin, Commit, Rollback, List as ListRequest, Range as RangeRequest, Claims as ClaimsRequest, Classify, Page as PageRequest}
use Rattle.claim_map.specs.Registry.{Registry, cell_of}
use Rattle.claim_map.specs.State.{ClaimMap, leases_of}
use Rattle.claim_map.specs.Step.{after}
use Rattle.claim_map.specs.Verdict.{verdict_of}
use Rattle.claim_map.specs.Ranges.{RangeVerdict, unknown_cell, kept, too_far, exhausted, fresh, range_verdict}
use Rattle.claim_map.specs.Due.{Due, due, begin_due, commit_due, rollback_due, range_due}
use Rattle.claim_map.specs.Sound.{IsToBeHeld, IsViewed, IsSound}
use Rattle.claim_map.specs.Legal.{IsRecorded, Message, ask, IsLegal, IsRun, answer}
use Rattle.claim_map.proofs.Free.{fresh_may_begin}
use Rattle.claim_laws.specs.World.{World, IsDrawn}
use Rattle.claim_types.specs.declared.message.CommittedResult.{CommittedResult}
use Rattle.claim_types.specs.declared.message.CommittedResult.TheVariants.{Good as CommittedGood, Unknown, WasRolledBack}
use Rattle.claim_types.specs.declared.message.BegunResult.TheVariants.{Denied}
use Rattle.claim_types.specs.declared.message.Reply.TheVariants.{Begun, Committed as CommittedReply}
use Rattle.claim_laws.specs.Facts.{ReplyFact, grounds_of, WasSent, IsInOrder}
use Rattle.claim_laws.specs.Lives.{life_of, IsKnown, BeginFact, CommitFact, RollbackFact}
use Rattle.claim_laws.specs.Derived.{TakesEffectOnce, WasRecordedBefore, CommittedWereRecorded, RolledBackNeverRecorded, KeysHaveOneOwner, lease_in, LeasesAreWithinBounds, RefusalsAreFew, TransitionsWereSent}
use Rattle.cells_base.proofs.Members.{here_or_later, nowhere, at_place}
use Rattle.claim_laws.proofs.Lists.{created_key}
use Rattle.claim_laws.proofs.Looks.{after_commit, member_put, member_put_other, member_taken, member_taken_other}
use Rattle.std.proofs.lemmas.Option.{same_Some}
use Rattle.claim_map.specs.Classification.{class_of}

-- what is so where a step is due
abbrev Owes : ClaimMap → Step → Type 0
Owes s (Leased lease ops) = (map.get s.settled lease ≡ None) × (map.get s.open_leases lease ≡ None)
Owes s (Committed lease) = (ops : Operations) × (map.get s.open_leases lease ≡ Some ops)
Owes s (RolledBack lease) = map.get s.settled lease ≡ None
Owes s other = Unit {0}

abbrev OwesAll : ClaimMap → Due → Type 0
OwesAll s d = (step : Step) → d.step ≡ Some step → Owes s step

module _ (registry : Registry) (s : ClaimMap) where
  none : (d : Due) → d.step ≡ None → OwesAll s d
  none d is step owed = let both : None ≡ Some step = sym is ∙ owed in absurd cc

  in_cell : (b : Bool) (d other : Due) → other.step ≡ None → OwesAll s d → OwesAll s (cond b d other)
  in_cell true d other is owes = owes
  in_cell false d other is owes = none other is

  begin_owes : (lease : LeaseId) (ops : Operations) (v : Verdict) → verdict_of (leases_of s) s.ranges lease ops ≡ v → OwesAll s (begin_due lease ops v)
  begin_owes lease ops Fresh is step owed =
      let may = fresh_may_begin (leases_of s) s.ranges lease ops is in
      subst (Owes s) (same_Some (Leased lease ops) step owed) (may.unsettled, may.closed)
  begin_owes lease ops Again is step owed = absurd cc
  begin_owes lease ops (Refused reason) is step owed = subst (Owes s) (same_Some _ step owed) tt

  commit_owes : (lease : LeaseId) (o : Option Operations) (how : Option How) → map.get s.open_leases lease ≡ o → OwesAll s (commit_due lease o how)
  commit_owes lease (Some ops) how is step owed = subst (Owes s) (same_Some (Committed lease) step owed) (ops, is)
  commit_owes lease None (Some AsCommitted) is step owed = absurd cc
  commit_owes lease None (Some AsRolledBack) is step owed = absurd cc
  commit_owes lease None None is step owed = absurd cc

  rollback_owes : (lease : LeaseId) (how : Option How) → map.get s.settled lease ≡ how → OwesAll s (rollback_due lease how)
  rollback_owes lease None is step owed = subst (Owes s) (same_Some (RolledBack lease) step owed) is
  rollback_owes lease (Some AsCommitted) is step owed = absurd cc
  rollback_owes lease (Some AsRolledBack) is step owed = absurd cc

  range_owes : (cell number : ℕ) (v : RangeVerdict) → OwesAll s (range_due cell number v)
  range_owes cell number unknown_cell step owed = absurd cc
  range_owes cell number (kept range) step owed = absurd cc
  range_owes cell number (too_far next) step owed = absurd cc
  range_owes cell number (exhausted last) step owed = absurd cc
  range_owes cell number (fresh range) step owed = subst (Owes s) (same_Some (Ranged range) step owed) tt

  due_owes : (request : Request) → OwesAll s (due registry s request)
  due_owes (Begin lease ops) = in_cell (is_some (cell_of registry lease.cell)) _ _ refl (begin_owes lease ops (verdict_of (leases_of s) s.ranges lease ops) refl)
  due_owes (Commit lease) = in_cell (is_some (cell_of registry lease.cell)) _ _ refl (commit_owes lease (map.get s.open_leases lease) (map.get s.settled lease) refl)
  due_owes (Rollback lease) = in_cell (is_some (cell_of registry lease.cell)) _ _ refl (rollback_owes lease (map.get s.settled lease) refl)
  due_owes (ListRequest cell last) = in_cell (is_some (cell_of registry cell)) _ _ refl (λ step owed. absurd cc)
  due_owes (RangeRequest cell number) = range_owes cell number (range_verdict registry s.ranges cell number)
  due_owes (ClaimsRequest cell bucket first last behind) = in_cell (is_some (cell_of registry cell)) _ _ refl (λ step owed. absurd cc)
  due_owes (Classify question) = λ step owed. subst (Owes s) (same_Some (Answered question (class_of registry s.holder question)) step owed) tt
  due_owes (PageRequest cell path named) = λ step owed. absurd cc

-- a lease that is settled is open no more, and nothing speaks of it again
record Closed (s : ClaimMap) (k : LeaseId) : Type 0 where
  closed : map.get s.open_leases k ≡ None
  how : How
  settled : map.get s.settled k ≡ Some how

clash : {X : Type 0} (o : Option X) (x : X) → o ≡ None → o ≡ Some x → ⊥
clash o x n s = cc

abbrev SpeaksOf : Step → LeaseId → Type 0
SpeaksOf (Leased lease ops) k = lease ≡ k
SpeaksOf (Recorded lease change) k = lease ≡ k
SpeaksOf (Committed lease) k = lease ≡ k
SpeaksOf (RolledBack lease) k = lease ≡ k
SpeaksOf other k = ⊥

module _ (registry : Registry) (s : ClaimMap) (earlier : List Transition) (m : Message) (k : LeaseId) where
  says_nothing : (step : Step) → IsLegal registry s earlier m step → Closed s k → SpeaksOf step k → ⊥
  says_nothing (Leased lease ops) legal closed same = clash _ closed.how (ap (map.get s.settled) (sym same) ∙ (due_owes registry s legal.request (Leased lease ops) legal.owed).0) closed.settled
  says_nothing (Recorded lease change) legal closed same = clash _ _ closed.closed (ap (map.get s.open_leases) (sym same) ∙ legal.open_with)
  says_nothing (Committed lease) legal closed same = let found = due_owes registry s legal.0.request (Committed lease) legal.0.owed in clash _ found.0 closed.closed (ap (map.get s.open_leases) (sym same) ∙ found.1)
  says_nothing (RolledBack lease) legal closed same = clash _ closed.how (ap (map.get s.settled) (sym same) ∙ due_owes registry s legal.0.request (RolledBack lease) legal.0.owed) closed.settled
  says_nothing (Denied lease denial) legal closed same = same
  says_nothing (Ranged range) legal closed same = same
  says_nothing (Answered question class) legal closed same = same
  says_nothing (Served question cell) legal closed same = same

  apart : (lease : LeaseId) → (lease ≡ k → ⊥) → k ≢ lease
  apart lease none e = none (sym e)

  stays_closed : (step : Step) → IsLegal registry s earlier m step → Closed s k → Closed (after s step) k
  stays_closed (Leased lease ops) legal closed =
      let other = apart lease (says_nothing (Leased lease ops) legal closed) in
      record { closed = insert_other leases_total leases_exact s.open_leases lease ops k other ∙ closed.closed; how = closed.how; settled = closed.settled }
  stays_closed (Recorded lease change) legal closed = record { closed = closed.closed; how = closed.how; settled = closed.settled }
  stays_closed (Committed lease) legal closed =
      let found = due_owes registry s legal.0.request (Committed lease) legal.0.owed in
      let other = apart lease (says_nothing (Committed lease) legal closed) in
      subst (λ x. Closed x k) (sym (Rattle.claim_laws.proofs.Looks.after_committed s map.empty lease found.0 found.1))
      (record { closed = remove_other leases_total leases_exact s.open_leases lease k other ∙ closed.closed; how = closed.how; settled = insert_other leases_total leases_exact s.settled lease AsCommitted k other ∙ closed.settled })
  stays_closed (RolledBack lease) legal closed =
      let other = apart lease (says_nothing (RolledBack lease) legal closed) in
      record { closed = remove_other leases_total leases_exact s.open_leases lease k other ∙ closed.closed; how = closed.how; settled = insert_other leases_total leases_exact s.settled lease AsRolledBack k other ∙ closed.settled }
  stays_closed (Denied lease denial) legal closed = closed
  stays_closed (Ranged range) legal closed = record { closed = closed.closed; how = closed.how; settled = closed.settled }
  stays_closed (Answered question class) legal closed = closed
  stays_closed (Served question cell) legal closed = absurd legal

  commit_closes : IsLegal registry s earlier m (Committed k) → Closed (after s (Committed k)) k
  commit_closes legal =
      let found = due_owes registry s legal.0.request (Committed k) legal.0.owed in
      subst (λ x. Closed x k) (sym (Rattle.claim_laws.proofs.Looks.after_committed s map.empty k found.0 found.1))
      (record { closed = remove_same leases_total leases_exact s.open_leases k; how = AsCommitted; settled = insert_same leases_total leases_exact s.settled k AsCommitted })

  rollback_closes : Closed (after s (RolledBack k)) k
  rollback_closes = record { closed = remove_same leases_total leases_exact s.open_leases k; how = AsRolledBack; settled = insert_same leases_total leases_exact s.settled k AsRolledBack }

  -- a lease that is recorded, or was committed since, is not rolled back
  abbrev RecordedOnce : ClaimMap → Type 0
  RecordedOnce x = IsRecorded x k ⊎ Closed x k

  not_rolled_back : (lease : LeaseId) → IsLegal registry s earlier m (RolledBack lease) → RecordedOnce s → lease ≡ k → ⊥
  not_rolled_back lease legal (inl recorded) same = let both : false ≡ true = sym legal.1 ∙ ap (set.contains s.recorded) same ∙ recorded in cc
  not_rolled_back lease legal (inr closed) same = says_nothing (RolledBack lease) legal closed same

  stays_once : (step : Step) → IsLegal registry s earlier m step → RecordedOnce s → RecordedOnce (after s step)
  stays_once step legal (inr closed) = inr (stays_closed step legal closed)
  stays_once (Leased lease ops) legal (inl recorded) = inl recorded
  stays_once (Recorded lease change) legal (inl recorded) = elim (same_or_other leases_total leases_exact k lease) [
    | inl same ↦ inl (subst (λ q. set.contains (set.insert s.recorded q) k ≡ true) same (member_put s.recorded k))
    | inr other ↦ inl (member_put_other s.recorded lease k other ∙ recorded)
  ]
  stays_once (Committed lease) legal (inl recorded) = elim (same_or_other leases_total leases_exact k lease) [
    | inl same ↦ inr (subst (λ q. Closed (after s (Committed q)) k) same (commit_closes (subst (λ q. IsLegal registry s earlier m (Committed q)) (sym same) legal)))
    | inr other ↦ inl (member_taken_other s.recorded lease k other ∙ recorded)
  ]
  stays_once (RolledBack lease) legal (inl recorded) = inl recorded
  stays_once (Denied lease denial) legal (inl recorded) = inl recorded
  stays_once (Ranged range) legal (inl recorded) = inl recorded
  stays_once (Answered question class) legal (inl recorded) = inl recorded
  stays_once (Served question cell) legal (inl recorded) = absurd legal

  -- a lease that is recorded after a step was so before, or this step records it
  was_recorded : (step : Step) → IsRecorded (after s step) k → IsRecorded s k ⊎ ((change : Change) × (step ≡ Recorded k change))
  was_recorded (Leased lease ops) is = inl is
  was_recorded (Recorded lease change) is = elim (same_or_other leases_total leases_exact k lease) [
    | inl same ↦ inr (change, ap (λ q. Recorded q change) (sym same))
    | inr other ↦ inl (sym (member_put_other s.recorded lease k other) ∙ is)
  ]
  was_recorded (Committed lease) is = elim (same_or_other leases_total leases_exact k lease) [
    | inl same ↦ let both : false ≡ true = sym (member_taken s.recorded k) ∙ ap (λ q. set.contains (set.remove s.recorded q) k) same ∙ is in absurd cc
    | inr other ↦ inl (sym (member_taken_other s.recorded lease k other) ∙ is)
  ]
  was_recorded (RolledBack lease) is = inl is
  was_recorded (Denied lease denial) is = inl is
  was_recorded (Ranged range) is = inl is
  was_recorded (Answered question class) is = inl is
  was_recorded (Served question cell) is = inl is

-- over a run of legal steps
module _ (registry : Registry) (k : LeaseId) where
  speaks : (a b : Step) → a ≡ b → SpeaksOf b k → SpeaksOf a k
  speaks a b e is = subst (λ x. SpeaksOf x k) (sym e) is

  silent : (ts : List Transition) (s : ClaimMap) (earlier : List Transition) (last : ℕ) (handed : List (Option Message)) → IsRun registry s earlier last handed ts → Closed s k → (t : Transition) → Contains ts t → SpeaksOf t.step k → ⊥
  silent [] s earlier last handed run closed t is says = nowhere t is
  silent (x ∷ ts) s earlier last handed run closed t is says = elim (here_or_later x ts t is) [
    | inl same ↦ says_nothing registry s earlier run.0.message k x.step run.0.legal closed (subst (λ (y : Transition). SpeaksOf y.step k) (sym same) says)
    | inr later ↦ silent ts (after s x.step) (earlier ++ x ∷ []) x.take handed run.1 (stays_closed registry s earlier run.0.message k x.step run.0.legal closed) t later says
  ]

  never_rolled_back : (ts : List Transition) (s : ClaimMap) (earlier : List Transition) (last : ℕ) (handed : List (Option Message)) → IsRun registry s earlier last handed ts → IsRecorded s k ⊎ Closed s k →
      (t : Transition) → Contains ts t → t.step ≡ RolledBack k → ⊥
  never_rolled_back [] s earlier last handed run once t is says = nowhere t is
  never_rolled_back (x ∷ ts) s earlier last handed run once t is says = elim (here_or_later x ts t is) [
    | inl same ↦ not_rolled_back registry s earlier run.0.message k k (subst (IsLegal registry s earlier run.0.message) (ap (λ (y : Transition). y.step) same ∙ says) run.0.legal) once refl
    | inr later ↦ never_rolled_back ts (after s x.step) (earlier ++ x ∷ []) x.take handed run.1 (stays_once registry s earlier run.0.message k x.step run.0.legal once) t later says
  ]

  -- behind a commit there is no other
  behind_commit : (x : Transition) (ts : List Transition) (s : ClaimMap) (earlier : List Transition) (last : ℕ) (handed : List (Option Message)) → IsRun registry s earlier last handed (x ∷ ts) → (t : Transition) → x ≡ t → t.step ≡ Committed k →
      (u : Transition) → Contains ts u → u.step ≡ Committed k → ⊥
  behind_commit x ts s earlier last handed run t same is u later says =
      let step : x.step ≡ Committed k = ap (λ (y : Transition). y.step) same ∙ is in
      silent ts (after s x.step) (earlier ++ x ∷ []) x.take handed run.1
      (subst (λ y. Closed (after s y) k) (sym step) (commit_closes registry s earlier run.0.message k (subst (IsLegal registry s earlier run.0.message) step run.0.legal))) u later (speaks u.step (Committed k) says refl)

  once : (ts : List Transition) (s : ClaimMap) (earlier : List Transition) (last : ℕ) (handed : List (Option Message)) → IsRun registry s earlier last handed ts → (i j : ℕ) (t u : Transition) → slice_get ts i ≡ Some t → slice_get ts j ≡ Some u →
      t.step ≡ Committed k → u.step ≡ Committed k → i ≡ j
  once [] s earlier last handed run i j t u at there is says = absurd cc
  once (x ∷ ts) s earlier last handed run zero zero t u at there is says = refl
  once (x ∷ ts) s earlier last handed run zero (suc j) t u at there is says = absurd (behind_commit x ts s earlier last handed run t (same_Some x t at) is u (at_place ts j u there) says)
  once (x ∷ ts) s earlier last handed run (suc i) zero t u at there is says = absurd (behind_commit x ts s earlier last handed run u (same_Some x u there) says t (at_place ts i t at) is)
  once (x ∷ ts) s earlier last handed run (suc i) (suc j) t u at there is says = ap suc (once ts (after s x.step) (earlier ++ x ∷ []) x.take handed run.1 i j t u at there is says)

  recorded_before : (ts : List Transition) (s : ClaimMap) (earlier : List Transition) (last : ℕ) (handed : List (Option Message)) → IsRun registry s earlier last handed ts → (i : ℕ) (t : Transition) → slice_get ts i ≡ Some t → t.step ≡ Committed k → WasRecordedBefore s ts i k
  recorded_before [] s earlier last handed run i t at is = absurd cc
  recorded_before (x ∷ ts) s earlier last handed run zero t at is = inl (subst (IsLegal registry s earlier run.0.message) (ap (λ (y : Transition). y.step) (same_Some x t at) ∙ is) run.0.legal).1
  recorded_before (x ∷ ts) s earlier last handed run (suc i) t at is = ⊎_elim at_once earlier_on (recorded_before ts (after s x.step) (earlier ++ x ∷ []) x.take handed run.1 i t at is)
    where
      at_once : IsRecorded (after s x.step) k → WasRecordedBefore s (x ∷ ts) (suc i) k
      at_once recorded = elim (was_recorded registry s earlier run.0.message k x.step recorded) [
        | inl before ↦ inl before
        | inr now ↦ inr (zero, x, now.0, omega arith, refl, now.1)
      ]

      earlier_on : ((j : ℕ) × (u : Transition) × (change : Change) × (j < i) × (slice_get ts j ≡ Some u) × (u.step ≡ Recorded k change)) → WasRecordedBefore s (x ∷ ts) (suc i) k
      earlier_on was = let lt = was.3 in inr (suc was.0, was.1, was.2, omega (arith, lt), was.4, was.5)

  -- a lease that is recorded somewhere is rolled back nowhere
  not_both : (ts : List Transition) (s : ClaimMap) (earlier : List Transition) (last : ℕ) (handed : List (Option Message)) → IsRun registry s earlier last handed ts → (t u : Transition) (change : Change) → Contains ts t → Contains ts u →
      t.step ≡ RolledBack k → u.step ≡ Recorded k change → ⊥
  not_both [] s earlier last handed run t u change it iu is says = nowhere t it
  not_both (x ∷ ts) s earlier last handed run t u change it iu is says = elim (here_or_later x ts t it) [
    | inl first ↦
        let step : x.step ≡ RolledBack k = ap (λ (y : Transition). y.step) first ∙ is in
        elim (here_or_later x ts u iu) [
          | inl too ↦ (let both : RolledBack k ≡ Recorded k change = sym step ∙ ap (λ (y : Transition). y.step) too ∙ says in cc)
          | inr later ↦ silent ts (after s x.step) (earlier ++ x ∷ []) x.take handed run.1 (subst (λ y. Closed (after s y) k) (sym step) (rollback_closes registry s earlier run.0.message k)) u later (speaks u.step (Recorded k change) says refl)
        ]
    | inr later ↦ elim (here_or_later x ts u iu) [
      | inl first ↦
          let step : x.step ≡ Recorded k change = ap (λ (y : Transition). y.step) first ∙ says in
          never_rolled_back ts (after s x.step) (earlier ++ x ∷ []) x.take handed run.1 (subst (λ y. IsRecorded (after s y) k ⊎ Closed (after s y) k) (sym step) (inl (member_put s.recorded k))) t later is
      | inr too ↦ not_both ts (after s x.step) (earlier ++ x ∷ []) x.take handed run.1 t u change later too is says
    ]
  ]

module _ (registry : Registry) (beginning : ClaimMap) (w : World) (order : IsInOrder registry beginning w) where
  pub takes_effect_once : TakesEffectOnce w.trace
  takes_effect_once lease i j t u at there is says = once registry lease w.trace beginning [] 0 w.handed order.legal i j t u at there is says

  pub committed_were_recorded : CommittedWereRecorded beginning w.trace
  committed_were_recorded lease i t at is = recorded_before registry lease w.trace beginning [] 0 w.handed order.legal i t at is

  pub rolled_back_never_recorded : RolledBackNeverRecorded beginning w.trace
  rolled_back_never_recorded = record {
    not_before = λ lease t there is recorded. never_rolled_back registry lease w.trace beginning [] 0 w.handed order.legal (inl recorded) t there is;
    nowhere = λ lease t u change it iu is says. not_both registry lease w.trace beginning [] 0 w.handed order.legal t u change it iu is says;
  }

  within : (lease : LeaseId) → IsKnown (life_of w.claims w.agents lease) → IsLease lease
  within lease known = ((order.lives lease).known_drawn known).0

  pub leases_within_bounds : LeasesAreWithinBounds w
  leases_within_bounds = record {
    known = within;
    recorded = λ lease is. let found = (order.lives lease).recorded_open is in within lease (inl (found.0, found.1));
    waiting = λ lease attempt is. ((order.lives lease).pending_drawn attempt is).0;
    rows = λ lease ops is. elim ((order.lives lease).row_known ops is) [ inl opened ↦ within lease (inl opened) | inr committed ↦ within lease (inr (AsCommitted, committed)) ];
    sent = λ request lease was is. in_request request lease was is;
  }
    where
      same_lease : (a b : LeaseId) → Some a ≡ Some b → a ≡ b
      same_lease a b e = cc

      of_commit : (lease : LeaseId) → CommitFact (life_of w.claims w.agents lease) → IsLease lease
      of_commit lease (inl committed) = within lease (inr (AsCommitted, committed))
      of_commit lease (inr both) = within lease (inl both.0)

      in_request : (request : Request) (lease : LeaseId) → WasSent w.sent (ask request) → lease_in request ≡ Some lease → IsLease lease
      in_request (Begin named ops) lease was is = subst IsLease (same_lease named lease is) (drawn_in named ops (order.messages (ask (Begin named ops)) was).0)
        where
          drawn_in : (named : LeaseId) (ops : Operations) → BeginFact (IsDrawn w.agents named) (life_of w.claims w.agents named) ops → IsLease named
          drawn_in named ops said = said.drawn_for.0
      in_request (Commit named) lease was is = subst IsLease (same_lease named lease is) (of_commit named (order.messages (ask (Commit named)) was))
      in_request (Rollback named) lease was is = subst IsLease (same_lease named lease is) (known_in named (order.messages (ask (Rollback named)) was))
        where
          known_in : (named : LeaseId) → RollbackFact (life_of w.claims w.agents named) → IsLease named
          known_in named said = within named said.known
      in_request (ListRequest cell behind) lease was is = absurd cc
      in_request (RangeRequest cell number) lease was is = absurd cc
      in_request (ClaimsRequest cell bucket first behind after_it) lease was is = absurd cc
      in_request (Classify question) lease was is = absurd cc
      in_request (PageRequest cell path by_name) lease was is = absurd cc

  pub refusals_are_few : RefusalsAreFew w
  refusals_are_few = record { commits = λ lease result was. good lease result (order.messages (answer (CommittedReply lease result)) was); begins = λ lease denial was. (order.messages (answer (Begun lease (Denied denial))) was).1 }
    where
      good : (lease : LeaseId) (result : CommittedResult) → ReplyFact (grounds_of w.claims w.agents w.trace) (CommittedReply lease result) → result ≡ CommittedGood
      good lease CommittedGood said = refl
      good lease Unknown said = absurd said
      good lease WasRolledBack said = absurd said

  taken_in : (ts : List Transition) (s : ClaimMap) (earlier : List Transition) (last : ℕ) → IsRun registry s earlier last w.handed ts → (t : Transition) → Contains ts t → (m : Message) × (slice_get w.handed (t.take - 1) ≡ Some (Some m))
  taken_in [] s earlier last run t is = absurd (nowhere t is)
  taken_in (x ∷ ts) s earlier last run t is = elim (here_or_later x ts t is) [
    | inl same ↦ subst (λ (y : Transition). (m : Message) × (slice_get w.handed (y.take - 1) ≡ Some (Some m))) same (run.0.message, run.0.handed_over)
    | inr later ↦ taken_in ts (after s x.step) (earlier ++ x ∷ []) x.take run.1 t later
  ]

  pub transitions_were_sent : TransitionsWereSent w
  transitions_were_sent t is =
      let found = taken_in w.trace beginning [] 0 order.legal t is in
      (found.0, found.1, order.handed found.0 (at_place w.handed (t.take - 1) (Some found.0) found.1))

-- records of two cells claim no key in common
pub one_owner : (s : ClaimMap) → IsSound s → KeysHaveOneOwner s
one_owner s sound = record {
  apart = λ cell other key h k mine theirs. go cell other key h k (sound.claims.viewed cell key h mine) (sound.claims.viewed other key k theirs);
  held = λ cell key h k is mine. own cell key h k is (sound.claims.viewed cell key k mine);
}
  where
    holds : (key : ClaimKey) (c : ℕ) (x : Holding) → (b : IsToBeHeld s c key x) (y : Holding) → map.get s.holder key ≡ Some y → ⊥
    holds key c x b y held = clash (map.get s.holder key) y (ap (map.get s.holder) (sym b.claimed.of_key) ∙ sound.leases.unheld b.lease b.ops b.claimed.claim b.open_with b.claimed.stands) held

    own : (cell : ℕ) (key : ClaimKey) (h k : Holding) → map.get s.holder key ≡ Some h → IsViewed s cell key k → h.cell ≡ cell
    own cell key h k is (inl a) = let both : Some h ≡ Some k = sym is ∙ a.held in let same : h ≡ k = cc in ap (λ (x : Holding). x.cell) same ∙ a.here
    own cell key h k is (inr b) = absurd (holds key cell k b h is)

    go : (cell other : ℕ) (key : ClaimKey) (h k : Holding) → IsViewed s cell key h → IsViewed s other key k → cell ≡ other
    go cell other key h k (inl a) (inl b) = let both : Some h ≡ Some k = sym a.held ∙ b.held in let same : h ≡ k = cc in sym a.here ∙ ap (λ (x : Holding). x.cell) same ∙ b.here
    go cell other key h k (inl a) (inr b) = absurd (holds key other k b h a.held)
    go cell other key h k (inr a) (inl b) = absurd (holds key cell h a k b.held)
    go cell other key h k (inr a) (inr b) =
        let named_a = subst (Contains (Rattle.claim_types.specs.Operations.keys_of a.ops)) a.claimed.of_key (created_key a.ops a.claimed.claim a.claimed.stands) in
        let named_b = subst (Contains (Rattle.claim_types.specs.Operations.keys_of b.ops)) b.claimed.of_key (created_key b.ops b.claimed.claim b.claimed.stands) in
        sym a.of_cell ∙ ap (λ (l : LeaseId). l.cell) (sound.leases.apart a.lease b.lease a.ops b.ops key a.open_with b.open_with named_a named_b) ∙ b.of_cell
