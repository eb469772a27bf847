-- The service answers a request: the installation stays in order, and what it does is legal.
use Rattle.std.proofs.Common.{◌≡◌, ◌⊎◌, inl, inr, ℕ, ◌≤◌, Bool, true, false, cond, List, [], ◌∷◌, ◌++◌, length, Option, Some, None, is_some, refl, sym, ◌∙◌, ap, subst, arith}
use Rattle.std.specs.List.{Contains}
use Rattle.std.specs.FinMap as map
use Rattle.std.specs.FinSet as set
use Rattle.std.proofs.lemmas.List.Elements.{Contains-append_cases, Contains-push_cases, Contains-push, Contains-append_left}
use Rattle.claim_types.specs.declared.lease.LeaseId.{LeaseId}
use Rattle.claim_types.specs.declared.lease.How.{How}
use Rattle.claim_types.specs.declared.lease.How.TheVariants.{Committed as AsCommitted, RolledBack as AsRolledBack}
use Rattle.claim_types.specs.declared.operations.Operations.{Operations}
use Rattle.claim_types.specs.declared.cell.Cell.{Cell}
use Rattle.claim_types.specs.declared.verdict.Refusal.{Refusal}
use Rattle.claim_types.specs.declared.verdict.Verdict.{Verdict}
use Rattle.claim_types.specs.declared.verdict.Verdict.TheVariants.{Fresh, Again, Refused}
use Rattle.claim_types.specs.declared.step.Step.{Step}
use Rattle.claim_types.specs.declared.step.Step.TheVariants.{Leased, Denied, Committed, RolledBack, Ranged, Answered}
use Rattle.claim_types.specs.declared.message.Request.{Request}
use Rattle.claim_types.specs.declared.message.Request.TheVariants.{Begin, Commit, Rollback, List as ListRequest, Range as RangeRequest, Claims as ClaimsRequest, Classify, Page as PageRequest}
use Rattle.claim_types.specs.declared.message.Reply.{Reply}
use Rattle.claim_types.specs.declared.message.Reply.TheVariants.{NoCell}
use Rattle.claim_map.specs.Registry.{Registry, cell_of}
use Rattle.claim_map.specs.State.{ClaimMap, leases_of}
use Rattle.claim_map.specs.Step.{after, after_any}
use Rattle.claim_map.specs.Verdict.{refusal_of, fresh_unless, begun_before, settled_before, verdict_of}
use Rattle.claim_map.specs.Ranges.{AreRanges, RangeVerdict, unknown_cell, kept, too_far, exhausted, fresh, range_verdict, ranges_after}
use Rattle.claim_map.specs.Due.{Due, due, denial_of, begin_due, commit_due, rollback_due, range_due, of_cell, told}
use Rattle.claim_map.specs.Legal.{IsOpen, IsRecorded, Message, ask, answer, IsLegal, IsRun}
use Rattle.claim_laws.specs.World.{Packet, World, IsDrawn}
use Rattle.claim_laws.specs.Lives.{life_of, IsCommitted, CommitFact, BeginFact, RowsAreOwn}
use Rattle.claim_laws.proofs.Denials.{may_deny}
use Rattle.claim_laws.specs.Acts.{with_sent, after_due, with_handed}
use Rattle.claim_types.specs.declared.rule.Note.{Note}
use Rattle.claim_laws.proofs.Shapes.{traced, traced_any}
use Rattle.claim_laws.specs.Facts.{grounds_of, WasSent, MessageFact, ReplyFact, BeginsAgree, IsInOrder, MayDeny}
use Rattle.claim_map.proofs.Free.{fresh_may_begin, fresh_has_room}
use Rattle.claim_map.proofs.Ranges.{ranges_after-sound}
use Rattle.claim_laws.proofs.Looks
use Rattle.claim_laws.proofs.Looks.{after_commit, after_committed}
use Rattle.cells_base.proofs.Members.{only}
use Rattle.claim_laws.proofs.Pages.{listed_known}
use Rattle.claim_laws.proofs.Given.{kept_is, fresh_is}
use Rattle.claim_laws.proofs.Keep.{message_stays}
use Rattle.claim_laws.proofs.Steps.{StepKeeps, leased-keeps, committed-keeps, rolled_back-keeps, unrecorded, ranged-keeps, same-keeps}
use Rattle.claim_laws.proofs.Traces.{handed_on, replay_push, push_run, length_push}
use Rattle.cells_base.proofs.Truth.{not_true}
use Rattle.std.proofs.lemmas.Option.{same_Some}
use Rattle.std.proofs.lemmas.List.{append-nil}
use Rattle.claim_types.specs.declared.question.Class.{Class}
use Rattle.claim_map.specs.Classification.{class_of}

-- packets whose messages are true and no begins may be sent
pub record MaySend (w : World) (m : Message) : Type 0 where
  pub no_begin : (lease : LeaseId) (ops : Operations) → m ≡ ask (Begin lease ops) → ⊥
  pub said : MessageFact (grounds_of w.claims w.agents w.trace) m

-- what was sent with more packets is what was sent, or is among those
sent_append : (sent ps : List Packet) (m : Message) → WasSent (sent ++ ps) m → WasSent sent m ⊎ WasSent ps m
sent_append sent ps m was = elim (Contains-append_cases sent ps was.0 was.1) [ inl old ↦ inl (was.0, old, was.2) | inr new ↦ inr (was.0, new, was.2) ]

pub sent_before : (sent ps : List Packet) (m : Message) → WasSent sent m → WasSent (sent ++ ps) m
sent_before sent ps m was = (was.0, Contains-append_left sent ps was.0 was.1, was.2)

begins_append : (w : World) (ps : List Packet) → ((m : Message) → WasSent ps m → MaySend w m) → BeginsAgree w.sent → BeginsAgree (w.sent ++ ps)
begins_append w ps may agree lease ops theirs a b = elim (sent_append w.sent ps (ask (Begin lease ops)) a) [
  | inl old ↦ elim (sent_append w.sent ps (ask (Begin lease theirs)) b) [ inl too ↦ agree lease ops theirs old too | inr new ↦ absurd ((may (ask (Begin lease theirs)) new).no_begin lease theirs refl) ]
  | inr new ↦ absurd ((may (ask (Begin lease ops)) new).no_begin lease ops refl)
]

pub sends_all : (registry : Registry) (beginning : ClaimMap) (w : World) (ps : List Packet) → ((m : Message) → WasSent ps m → MaySend w m) → IsInOrder registry beginning w → IsInOrder registry beginning (with_sent ps w)
sends_all registry beginning w ps may order = record {
  sound = order.sound;
  lives = order.lives;
  cells = order.cells;
  installed = order.installed;
  messages = λ n sent. elim (sent_append w.sent ps n sent) [ inl old ↦ order.messages n old | inr new ↦ (may n new).said ];
  begins = begins_append w ps may order.begins;
  handed = λ m is. sent_before w.sent ps m (order.handed m is);
  legal = order.legal;
  stands = order.stands;
}

-- one more packet is sent, whose message is true and no begin
pub sends : (registry : Registry) (beginning : ClaimMap) (w : World) (p : Packet) → ((lease : LeaseId) (ops : Operations) → p.message ≡ ask (Begin lease ops) → ⊥) → MessageFact (grounds_of w.claims w.agents w.trace) p.message →
    IsInOrder registry beginning w → IsInOrder registry beginning (with_sent (p ∷ []) w)
sends registry beginning w p none said order =
    sends_all registry beginning w (p ∷ []) (λ n one. subst (MaySend w) (ap (λ (q : Packet). q.message) (only p one.0 one.1) ∙ one.2) (record { no_begin = none; said = said })) order

-- nothing is sent
pub sends_none : (registry : Registry) (beginning : ClaimMap) (w : World) → IsInOrder registry beginning w → IsInOrder registry beginning (with_sent [] w)
sends_none registry beginning w order = subst (λ ps. IsInOrder registry beginning (record w { sent = ps })) (sym (append-nil w.sent)) order

pub handed_more : (sent : List Packet) (handed : List (Option Message)) (m : Option Message) → ((x : Message) → m ≡ Some x → WasSent sent x) → ((x : Message) → Contains handed (Some x) → WasSent sent x) →
    (x : Message) → Contains (handed ++ m ∷ []) (Some x) → WasSent sent x
handed_more sent handed m new old x is = elim (Contains-push_cases handed m (Some x) is) [ inl before ↦ old x before | inr same ↦ new x same ]

-- a message that was sent is handed over, or a packet that nobody here sent
pub hands_over : (registry : Registry) (beginning : ClaimMap) (w : World) (m : Option Message) → ((x : Message) → m ≡ Some x → WasSent w.sent x) → IsInOrder registry beginning w → IsInOrder registry beginning (with_handed m w)
hands_over registry beginning w m sent order = record {
  sound = order.sound;
  lives = order.lives;
  cells = order.cells;
  installed = order.installed;
  messages = order.messages;
  begins = order.begins;
  handed = handed_more w.sent w.handed m sent order.handed;
  legal = handed_on registry w.trace beginning [] 0 w.handed m order.legal;
  stands = order.stands;
}

-- notes are no matter
pub notes : (registry : Registry) (beginning : ClaimMap) (w : World) (ns : List Note) → IsInOrder registry beginning w → IsInOrder registry beginning (record w { notes = ns })
notes registry beginning w ns order = record {
  sound = order.sound;
  lives = order.lives;
  cells = order.cells;
  installed = order.installed;
  messages = order.messages;
  begins = order.begins;
  handed = order.handed;
  legal = order.legal;
  stands = order.stands;
}

same_message : (m x : Message) → Some m ≡ Some x → m ≡ x
same_message m x e = cc

-- a step by the message that is handed over
abbrev pub stepped : World → Message → Step → World
stepped w m step = traced step (record w { handed = w.handed ++ Some m ∷ []; claims = after w.claims step })

pub steps_on : (registry : Registry) (beginning : ClaimMap) (w : World) (m : Message) (step : Step) → WasSent w.sent m → IsInOrder registry beginning w → IsLegal registry w.claims w.trace m step → StepKeeps w (after w.claims step) →
    IsInOrder registry beginning (stepped w m step)
steps_on registry beginning w m step sent order legal keeps = record {
  sound = keeps.sound;
  lives = keeps.lives;
  cells = keeps.cells;
  installed = order.installed;
  messages = λ n sent. message_stays (IsDrawn w.agents) (life_of (after w.claims step) w.agents) keeps.lives (after w.claims step).ranges (after w.claims step).ranges (λ r is. is) w.trace (w.trace ++ record { take = length (w.handed ++ Some m ∷ []); step = step } ∷ [])
      (λ t is. Contains-append_left w.trace (record { take = length (w.handed ++ Some m ∷ []); step = step } ∷ []) t is) n (keeps.messages n sent);
  begins = order.begins;
  handed = handed_more w.sent w.handed (Some m) (λ x same. subst (WasSent w.sent) (same_message m x same) sent) order.handed;
  legal = subst (λ n. IsRun registry beginning [] 0 (w.handed ++ Some m ∷ []) (w.trace ++ record { take = n; step = step } ∷ [])) (sym (length_push w.handed (Some m)))
      (push_run registry w.trace beginning [] 0 w.handed m step (omega arith) order.legal (subst (λ s. IsLegal registry s w.trace m step) (sym order.stands) legal));
  stands = replay_push registry w.trace beginning (record { take = length (w.handed ++ Some m ∷ []); step = step }) ∙ ap (λ s. after s step) order.stands;
}

module _ (registry : Registry) (beginning : ClaimMap) (w : World) (order : IsInOrder registry beginning w) (wide : (c : Cell) (id : ℕ) → cell_of registry id ≡ Some c → 1 ≤ c.width) where
  -- what is due is in order: nothing but a true reply, or a legal step and a reply that is true after it
  pub record Answers (m : Message) (d : Due) : Type 0 where
    pub keeps : StepKeeps w (after_any w.claims d.step)
    pub legal : (step : Step) → d.step ≡ Some step → IsLegal registry w.claims w.trace m step
    pub said : ReplyFact (grounds_of (after_any w.claims d.step) w.agents (traced_any d.step (record w { handed = w.handed ++ Some m ∷ [] })).trace) d.reply

  -- a reply alone
  replies : (m : Message) (reply : Reply) → ReplyFact (grounds_of w.claims w.agents w.trace) reply → Answers m (record { step = None; reply = reply })
  replies m reply said = record { keeps = same-keeps registry beginning w order; legal = λ step none. absurd cc; said = said }

  -- of a cell that there is, or is not
  in_cell : (m : Message) (cell : ℕ) (d : Due) → (is_some (cell_of registry cell) ≡ true → Answers m d) → Answers m (of_cell registry cell d)
  in_cell m cell d owed = go (is_some (cell_of registry cell)) refl
    where
      go : (b : Bool) → is_some (cell_of registry cell) ≡ b → Answers m (cond b d (told (NoCell cell)))
      go true is = owed is
      go false is = replies m (NoCell cell) tt

  module _ (lease : LeaseId) (ops : Operations) (begin : WasSent w.sent (ask (Begin lease ops))) (there : is_some (cell_of registry lease.cell) ≡ true) where
    owed : (v : Verdict) → verdict_of (leases_of w.claims) w.claims.ranges lease ops ≡ v → (step : Step) → (begin_due lease ops v).step ≡ Some step → (due registry w.claims (Begin lease ops)).step ≡ Some step
    owed v is step owes = ap (λ b. (cond b (begin_due lease ops (verdict_of (leases_of w.claims) w.claims.ranges lease ops)) (told (NoCell lease.cell))).step) there ∙ ap (λ v. (begin_due lease ops v).step) is ∙ owes

    is_again : (mine : Option Operations) (v : Verdict) → ((step : Verdict) → v ≡ step → v ≡ Again → ⊥) → begun_before mine ops v ≡ Again → (theirs : Operations) × (mine ≡ Some theirs)
    is_again None v other h = absurd (other v refl h)
    is_again (Some mine) v other h = (mine, refl)

    not_again : (reason : Option Refusal) → fresh_unless reason ≡ Again → ⊥
    not_again None h = cc
    not_again (Some reason) h = cc

    unsettled_again : (how : Option How) (v : Verdict) → settled_before how v ≡ Again → v ≡ Again
    unsettled_again None v h = h
    unsettled_again (Some how) v h = absurd cc

    begin_answers : (v : Verdict) → verdict_of (leases_of w.claims) w.claims.ranges lease ops ≡ v → Answers (ask (Begin lease ops)) (begin_due lease ops v)
    begin_answers Fresh is =
        let may = fresh_may_begin (leases_of w.claims) w.claims.ranges lease ops is in
        let room = fresh_has_room (leases_of w.claims) w.claims.ranges lease ops is in
        let keeps = leased-keeps registry beginning w order lease ops begin may room in
        record {
          keeps = keeps;
          legal = λ step same. subst (λ st. IsLegal registry w.claims w.trace (ask (Begin lease ops)) st) (same_Some (Leased lease ops) step same) (record { request = Begin lease ops; asked = refl; owed = owed Fresh is (Leased lease ops) refl });
          said = inl (ops, Looks.open_here w.claims lease ops);
        }
    begin_answers Again is =
        let found = is_again (map.get w.claims.open_leases lease) (fresh_unless (refusal_of (leases_of w.claims) w.claims.ranges lease ops)) (λ v e again. not_again (refusal_of (leases_of w.claims) w.claims.ranges lease ops) again) (unsettled_again (map.get w.claims.settled lease) _ is) in
        replies (ask (Begin lease ops)) _ (inl found)
    begin_answers (Refused reason) is = record {
      keeps = same-keeps registry beginning w order;
      legal = λ step same. subst (λ st. IsLegal registry w.claims w.trace (ask (Begin lease ops)) st) (same_Some (Denied lease (denial_of ops reason)) step same) (record { request = Begin lease ops; asked = refl; owed = owed (Refused reason) is (Denied lease (denial_of ops reason)) refl });
      said = (
        (record { take = length (w.handed ++ Some (ask (Begin lease ops)) ∷ []); step = Denied lease (denial_of ops reason) }, Contains-push w.trace (record { take = length (w.handed ++ Some (ask (Begin lease ops)) ∷ []); step = Denied lease (denial_of ops reason) }), refl),
        allowed (order.messages (ask (Begin lease ops)) begin),
      );
    }
      where
        allowed : BeginFact (IsDrawn w.agents lease) (life_of w.claims w.agents lease) ops × RowsAreOwn w.claims.ranges lease.cell ops → MayDeny (denial_of ops reason)
        allowed says = may_deny (leases_of w.claims) w.claims.ranges lease ops says.0.well_formed says.1 (map.get w.claims.settled lease) (map.get w.claims.open_leases lease) says.0.same_open reason is

  module _ (lease : LeaseId) (commit : WasSent w.sent (ask (Commit lease))) (there : is_some (cell_of registry lease.cell) ≡ true) where
    commit_owed : (opened : Option Operations) (how : Option How) → map.get w.claims.open_leases lease ≡ opened → map.get w.claims.settled lease ≡ how → (step : Step) → (commit_due lease opened how).step ≡ Some step → (due registry w.claims (Commit lease)).step ≡ Some step
    commit_owed opened how is_opened is_how step owes =
        ap (λ b. (cond b (commit_due lease (map.get w.claims.open_leases lease) (map.get w.claims.settled lease)) (told (NoCell lease.cell))).step) there
        ∙ ap (λ o. (commit_due lease o (map.get w.claims.settled lease)).step) is_opened ∙ ap (λ h. (commit_due lease opened h).step) is_how ∙ owes

    commit_recorded : (ops : Operations) → IsOpen w.claims lease ops → IsRecorded w.claims lease
    commit_recorded ops is = go (order.messages (ask (Commit lease)) commit)
      where
        go : CommitFact (life_of w.claims w.agents lease) → IsRecorded w.claims lease
        go (inl committed) = let both : Some AsCommitted ≡ None = sym committed ∙ (order.lives lease).unsettled ops is in absurd cc
        go (inr both) = (order.lives lease).row_recorded both.1.0 ops both.1.1 is

    commit_answers : (opened : Option Operations) (how : Option How) → map.get w.claims.open_leases lease ≡ opened → map.get w.claims.settled lease ≡ how → Answers (ask (Commit lease)) (commit_due lease opened how)
    commit_answers (Some ops) how is_opened is_how =
        let recorded = commit_recorded ops is_opened in
        record {
          keeps = subst (StepKeeps w) (sym (after_committed w.claims w.agents lease ops is_opened)) (committed-keeps registry beginning w order lease ops is_opened recorded);
          legal = λ step same. subst (λ st. IsLegal registry w.claims w.trace (ask (Commit lease)) st) (same_Some (Committed lease) step same)
              (record { request = Commit lease; asked = refl; owed = commit_owed (Some ops) how is_opened is_how (Committed lease) refl }, recorded);
          said = subst (λ (s : ClaimMap). IsCommitted (life_of s w.agents lease)) (sym (after_committed w.claims w.agents lease ops is_opened)) (Looks.settled_here w.claims lease AsCommitted);
        }
    commit_answers None (Some AsCommitted) is_opened is_how = replies (ask (Commit lease)) _ is_how
    commit_answers None (Some AsRolledBack) is_opened is_how = absurd (go (order.messages (ask (Commit lease)) commit))
      where
        go : CommitFact (life_of w.claims w.agents lease) → ⊥
        go (inl committed) = let both : Some AsRolledBack ≡ Some AsCommitted = sym is_how ∙ committed in absurd cc
        go (inr both) = let clash : None ≡ Some both.0.0 = sym is_opened ∙ both.0.1 in absurd cc
    commit_answers None None is_opened is_how = absurd (go (order.messages (ask (Commit lease)) commit))
      where
        go : CommitFact (life_of w.claims w.agents lease) → ⊥
        go (inl committed) = let both : None ≡ Some AsCommitted = sym is_how ∙ committed in absurd cc
        go (inr both) = let clash : None ≡ Some both.0.0 = sym is_opened ∙ both.0.1 in absurd cc

  module _ (lease : LeaseId) (rollback : WasSent w.sent (ask (Rollback lease))) (there : is_some (cell_of registry lease.cell) ≡ true) where
    rollback_answers : (how : Option How) → map.get w.claims.settled lease ≡ how → Answers (ask (Rollback lease)) (rollback_due lease how)
    rollback_answers None unsettled =
        let said = order.messages (ask (Rollback lease)) rollback in
        let owed : (due registry w.claims (Rollback lease)).step ≡ Some (RolledBack lease) =
        ap (λ b. (cond b (rollback_due lease (map.get w.claims.settled lease)) (told (NoCell lease.cell))).step) there ∙ ap (λ h. (rollback_due lease h).step) unsettled in
        record {
          keeps = rolled_back-keeps registry beginning w order lease unsettled said;
          legal = λ step same. subst (λ st. IsLegal registry w.claims w.trace (ask (Rollback lease)) st) (same_Some (RolledBack lease) step same)
              (record { request = Rollback lease; asked = refl; owed = owed }, not_true (set.contains w.claims.recorded lease) (unrecorded registry beginning w order lease unsettled said));
          said = tt;
        }
    rollback_answers (Some AsCommitted) is = replies (ask (Rollback lease)) _ tt
    rollback_answers (Some AsRolledBack) is = replies (ask (Rollback lease)) _ tt

  module _ (cell number : ℕ) (positive : 1 ≤ number) where
    range_answers : (v : RangeVerdict) → range_verdict registry w.claims.ranges cell number ≡ v → Answers (ask (RangeRequest cell number)) (range_due cell number v)
    range_answers unknown_cell is = replies (ask (RangeRequest cell number)) _ tt
    range_answers (kept range) is =
        let found = kept_is registry w.claims.ranges cell number range is in
        replies (ask (RangeRequest cell number)) _ (subst (Contains w.claims.ranges) found.1 found.0)
    range_answers (too_far next) is = replies (ask (RangeRequest cell number)) _ tt
    range_answers (exhausted last) is = replies (ask (RangeRequest cell number)) _ tt
    range_answers (fresh range) is =
        let fine = subst (λ v. AreRanges (ranges_after v w.claims.ranges)) is (ranges_after-sound w.claims.ranges order.sound.ranges registry cell number (λ c found. wide c cell found)) in
        record {
          keeps = ranged-keeps registry beginning w order range fine;
          legal = λ step same. subst (λ st. IsLegal registry w.claims w.trace (ask (RangeRequest cell number)) st) (same_Some (Ranged range) step same)
              (record { request = RangeRequest cell number; asked = refl; owed = ap (λ v. (range_due cell number v).step) is });
          said = subst (Contains (w.claims.ranges ++ range ∷ [])) (fresh_is registry w.claims.ranges order.sound.ranges cell number positive range is) (Contains-push w.claims.ranges range);
        }

  answers : (request : Request) → WasSent w.sent (ask request) → Answers (ask request) (due registry w.claims request)
  answers (Begin lease ops) sent = in_cell (ask (Begin lease ops)) lease.cell _ (λ there. begin_answers lease ops sent there (verdict_of (leases_of w.claims) w.claims.ranges lease ops) refl)
  answers (Commit lease) sent = in_cell (ask (Commit lease)) lease.cell _ (λ there. commit_answers lease sent there (map.get w.claims.open_leases lease) (map.get w.claims.settled lease) refl refl)
  answers (Rollback lease) sent = in_cell (ask (Rollback lease)) lease.cell _ (λ there. rollback_answers lease sent there (map.get w.claims.settled lease) refl)
  answers (ListRequest cell last) sent = in_cell (ask (ListRequest cell last)) cell _ (λ there. replies (ask (ListRequest cell last)) _ (λ lease listed. let known = listed_known w.claims cell last lease listed in (known.0, inl known.1)))
  answers (RangeRequest cell number) sent = range_answers cell number (order.messages (ask (RangeRequest cell number)) sent) (range_verdict registry w.claims.ranges cell number) refl
  answers (ClaimsRequest cell bucket first last behind) sent = in_cell (ask (ClaimsRequest cell bucket first last behind)) cell _ (λ there. replies (ask (ClaimsRequest cell bucket first last behind)) _ tt)
  answers (Classify question) sent =
      let class : Class = class_of registry w.claims.holder question in
      let m : Message = ask (Classify question) in
      record {
        keeps = same-keeps registry beginning w order;
        legal = λ step same. subst (λ st. IsLegal registry w.claims w.trace m st) (same_Some (Answered question class) step same) (record { request = Classify question; asked = refl; owed = refl });
        said = (record { take = length (w.handed ++ Some m ∷ []); step = Answered question class }, Contains-push w.trace (record { take = length (w.handed ++ Some m ∷ []); step = Answered question class }), refl);
      }
  answers (PageRequest cell path named) sent = replies (ask (PageRequest cell path named)) _ tt

  serves : (tag : ℕ) (m : Message) (step : Option Step) (reply : Reply) → WasSent w.sent m → Answers m (record { step = step; reply = reply }) → IsInOrder registry beginning (after_due tag (record { step = step; reply = reply }) (with_handed (Some m) w))
  serves tag m None reply sent due = sends registry beginning (with_handed (Some m) w) (record { message = answer reply; answers = tag }) (λ lease ops same. cc) due.said (hands_over registry beginning w (Some m) (λ x same. subst (WasSent w.sent) (same_message m x same) sent) order)
  serves tag m (Some step) reply sent due = sends registry beginning (stepped w m step) (record { message = answer reply; answers = tag }) (λ lease ops same. cc) due.said (steps_on registry beginning w m step sent order (due.legal step refl) due.keeps)

  -- a request is answered
  pub served-in_order : (tag : ℕ) (request : Request) → WasSent w.sent (ask request) → IsInOrder registry beginning (after_due tag (due registry w.claims request) (with_handed (Some (ask request)) w))
  served-in_order tag request sent = serves tag (ask request) (due registry w.claims request).step (due registry w.claims request).reply sent (answers request sent)
