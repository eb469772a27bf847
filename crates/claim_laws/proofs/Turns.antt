-- What a node owes may be written down in its turn, and its file then stands for what the node keeps.
use Rattle.std.proofs.Common.{◌≡◌, ℕ, ◌<◌, ◌≤◌, Bool, true, false, ◌&&◌, cond, List, [], ◌∷◌, ◌++◌, Option, Some, None, is_some, is_none, nat_eq, nat_le, nat_lt, refl, sym, ◌∙◌, ap, subst, arith}
use Rattle.std.specs.FinMap as map
use Rattle.claim_types.specs.declared.lease.LeaseId.{LeaseId}
use Rattle.claim_types.specs.declared.lease.How.{How}
use Rattle.claim_types.specs.declared.lease.How.TheVariants.{Committed as AsCommitted, RolledBack as AsRolledBack}
use Rattle.claim_types.specs.declared.operations.Operations.{Operations}
use Rattle.claim_types.specs.declared.cell.Range.{Range}
use Rattle.claim_types.specs.declared.entry.ServiceEntry.{ServiceEntry}
use Rattle.claim_types.specs.declared.entry.ServiceEntry.TheVariants.{Begun, Settled, Given}
use Rattle.claim_types.specs.declared.step.Step.TheVariants.{Leased, Committed, RolledBack, Ranged}
use Rattle.claim_types.specs.declared.verdict.Verdict.{Verdict}
use Rattle.claim_types.specs.declared.verdict.Verdict.TheVariants.{Fresh, Again, Refused}
use Rattle.claim_types.specs.declared.message.Request.{Request}
use Rattle.claim_types.specs.declared.message.Request.TheVariants.{Begin, Commit, Rollback, List as ListRequest, Range as RangeRequest, Claims as ClaimsRequest, Classify, Page as PageRequest}
use Rattle.std.proofs.lemmas.Bool.Decides.{Decides-eqb, nat_tests}
use Rattle.cells_base.proofs.Truth.{and_split}
use Rattle.claim_types.specs.declared.rule.Attempt.{Attempt}
use Rattle.claim_types.specs.declared.verdict.Denial.{Denial}
use Rattle.claim_types.specs.declared.entry.CellEntry.{CellEntry}
use Rattle.claim_types.specs.declared.entry.CellEntry.TheVariants.{Recorded as RecordedEntry, RowGone, Got as GotEntry}
use Rattle.claim_types.specs.declared.message.Reply.{Reply}
use Rattle.claim_types.specs.declared.message.Reply.TheVariants.{Begun as BegunReply, Committed as CommittedReply, RolledBack as RolledBackReply, Leases as LeasesReply, Ranged as RangedReply, Claims as ClaimsReply, NoCell, Classified, Page as PageReply}
use Rattle.claim_types.specs.declared.message.BegunResult.TheVariants.{Good, Denied as DeniedResult}
use Rattle.claim_types.specs.declared.message.CommittedResult.TheVariants.{Good as CommittedGood, Unknown, WasRolledBack}
use Rattle.claim_types.specs.declared.message.RangedResult.TheVariants.{Good as RangedGood, UnknownCell, TooFar, Exhausted}
use Rattle.claim_map.specs.Registry.{Registry, cell_of}
use Rattle.claim_map.specs.State.{ClaimMap, Tree, leases_of}
use Rattle.claim_map.specs.Records.{changed_by}
use Rattle.claim_laws.specs.Nodes.{Agent, Heard, KeepsInOrder, hears, hears_good, hears_denied, hears_committed, hears_page, passes_over, makes_change, gives_up, with_row, without_row, with_range, still_fits, is_next}
use Rattle.claim_map.specs.Step.{after, after_any}
use Rattle.claim_map.specs.Verdict.{verdict_of}
use Rattle.claim_map.specs.Ranges.{RangeVerdict, unknown_cell, kept, too_far, exhausted, fresh, range_verdict, follows}
use Rattle.claim_map.specs.Due.{Due, due, begin_due, commit_due, rollback_due, range_due}
use Rattle.claim_map.specs.Entries.{entry_of}
use Rattle.claim_laws.specs.Files.{service_of, is_fresh, where_legal, service_turn, fold_turns, service_in, empty_service, and_then, may_keep_row, store_turn, store_of}
use Rattle.claim_types.specs.declared.limits.TheConstants.{ATTEMPTS_AND_ROWS}

-- a due step's entry is legal in its turn, and leaves what the step leaves
abbrev pub TurnsAs : ClaimMap → Due → Type 0
TurnsAs s d = (e : ServiceEntry) → entry_of d.step ≡ Some e → service_turn (service_of s) e ≡ Some (service_of (after_any s d.step))

same_entry : (a b : ServiceEntry) → Some a ≡ Some b → a ≡ b
same_entry a b h = cc

legal_is : {S : Type 0} (b : Bool) (s : S) → b ≡ true → where_legal b s ≡ Some s
legal_is b s h = ap (λ c. where_legal c s) h

module _ (registry : Registry) (s : ClaimMap) where
  quiet : (d : Due) → d.step ≡ None → TurnsAs s d
  quiet d none e is = let both : None ≡ Some e = sym (ap entry_of none) ∙ is in cc

  in_cell : (b : Bool) (d : Due) (other : Due) → other.step ≡ None → TurnsAs s d → TurnsAs s (cond b d other)
  in_cell true d other none turns = turns
  in_cell false d other none turns = quiet other none

  begin_turn : (lease : LeaseId) (ops : Operations) (v : Verdict) → verdict_of (leases_of s) s.ranges lease ops ≡ v → TurnsAs s (begin_due lease ops v)
  begin_turn lease ops Fresh is e same =
      subst (λ x. service_turn (service_of s) x ≡ Some (service_of (after s (Leased lease ops)))) (same_entry (Begun lease ops) e same)
      (legal_is (is_fresh (verdict_of (leases_of s) s.ranges lease ops)) _ (ap is_fresh is))
  begin_turn lease ops Again is e same = cc
  begin_turn lease ops (Refused reason) is e same = cc

  commit_turn : (lease : LeaseId) (o : Option Operations) (how : Option How) → map.get s.open_leases lease ≡ o → TurnsAs s (commit_due lease o how)
  commit_turn lease (Some ops) how is e same =
      subst (λ x. service_turn (service_of s) x ≡ Some (service_of (after s (Committed lease)))) (same_entry (Settled lease AsCommitted) e same)
      (legal_is (is_some (map.get s.open_leases lease)) _ (ap is_some is))
  commit_turn lease None (Some AsCommitted) is e same = cc
  commit_turn lease None (Some AsRolledBack) is e same = cc
  commit_turn lease None None is e same = cc

  rollback_turn : (lease : LeaseId) (how : Option How) → map.get s.settled lease ≡ how → TurnsAs s (rollback_due lease how)
  rollback_turn lease None is e same =
      subst (λ x. service_turn (service_of s) x ≡ Some (service_of (after s (RolledBack lease)))) (same_entry (Settled lease AsRolledBack) e same)
      (legal_is (is_none (map.get s.settled lease)) _ (ap is_none is))
  rollback_turn lease (Some AsCommitted) is e same = cc
  rollback_turn lease (Some AsRolledBack) is e same = cc

  range_turn : (cell number : ℕ) (v : RangeVerdict) → ((r : Range) → v ≡ fresh r → follows s.ranges r ≡ true) → TurnsAs s (range_due cell number v)
  range_turn cell number unknown_cell fits e same = cc
  range_turn cell number (kept range) fits e same = cc
  range_turn cell number (too_far next) fits e same = cc
  range_turn cell number (exhausted last) fits e same = cc
  range_turn cell number (fresh range) fits e same =
      subst (λ x. service_turn (service_of s) x ≡ Some (service_of (after s (Ranged range)))) (same_entry (Given range) e same)
      (legal_is (follows s.ranges range) _ (fits range refl))

  -- whatever is due to a request, where a range that is given fresh follows those before it
  pub due_turn : (request : Request) → ((cell number : ℕ) (r : Range) → range_verdict registry s.ranges cell number ≡ fresh r → follows s.ranges r ≡ true) → TurnsAs s (due registry s request)
  due_turn (Begin lease ops) fits = in_cell (is_some (cell_of registry lease.cell)) _ _ refl (begin_turn lease ops (verdict_of (leases_of s) s.ranges lease ops) refl)
  due_turn (Commit lease) fits = in_cell (is_some (cell_of registry lease.cell)) _ _ refl (commit_turn lease (map.get s.open_leases lease) (map.get s.settled lease) refl)
  due_turn (Rollback lease) fits = in_cell (is_some (cell_of registry lease.cell)) _ _ refl (rollback_turn lease (map.get s.settled lease) refl)
  due_turn (ListRequest cell last) fits = in_cell (is_some (cell_of registry cell)) _ _ refl (λ e same. cc)
  due_turn (RangeRequest cell number) fits = range_turn cell number (range_verdict registry s.ranges cell number) (fits cell number)
  due_turn (ClaimsRequest cell bucket first last behind) fits = in_cell (is_some (cell_of registry cell)) _ _ refl (λ e same. cc)
  due_turn (Classify question) fits = λ e same. cc
  due_turn (PageRequest cell path named) fits = λ e same. cc

-- the entries with one more are folded from where those before it lead
pub folded_push : {S E : Type 0} (turn : S → E → Option S) (o : Option S) (es : List E) (e : E) → fold_turns turn o (es ++ e ∷ []) ≡ and_then (λ x. turn x e) (fold_turns turn o es)
folded_push turn o [] e = refl
folded_push turn o (x ∷ es) e = folded_push turn (and_then (λ y. turn y x) o) es e

-- what the service's file stands for, with the entry that is due
pub service_goes_on : (registry : Registry) (s : ClaimMap) (request : Request) (es : List ServiceEntry) → ((cell number : ℕ) (r : Range) → range_verdict registry s.ranges cell number ≡ fresh r → follows s.ranges r ≡ true) →
    service_in es ≡ Some (service_of s) → (e : ServiceEntry) → entry_of (due registry s request).step ≡ Some e → service_in (es ++ e ∷ []) ≡ Some (service_of (after_any s (due registry s request).step))
unfolding service_in
service_goes_on registry s request es fits folds e is =
    folded_push service_turn (Some empty_service) es e ∙ ap (and_then (λ x. service_turn x e)) folds ∙ due_turn registry s request fits e is

-- A cell.

module _ (cell : ℕ) (tree : Tree) (a : Agent) where
  -- an entry of what a cell heard is legal in its turn, and leaves what the cell keeps then
  abbrev pub TurnsTo : Heard → Type 0
  TurnsTo h = (e : CellEntry) → h.entry ≡ Some e → store_turn cell (store_of tree a) e ≡ Some (store_of h.tree h.agent)

  -- what it writes nothing down of changes nothing of what stands on its file
  abbrev pub StaysAs : Heard → Type 0
  StaysAs h = h.entry ≡ None → store_of h.tree h.agent ≡ store_of tree a

  pub record Writes (h : Heard) : Type 0 where
    pub turns : TurnsTo h
    pub stays : StaysAs h

  writes_nothing : (h : Heard) → h.entry ≡ None → store_of h.tree h.agent ≡ store_of tree a → Writes h
  writes_nothing h none same = record { turns = λ e is. let both : None ≡ Some e = sym none ∙ is in cc; stays = λ _. same }

  both_true : (x y : Bool) → x ≡ true → y ≡ true → (x && y) ≡ true
  both_true true y h k = k
  both_true false y h k = cc

  at_most : (n m : ℕ) → n ≤ m → nat_le n m ≡ true
  at_most n m h = grind (arith, nat_tests, h)

  less : (n m : ℕ) → n < m → nat_lt n m ≡ true
  less n m h = grind (arith, nat_tests, h)

  same_cell_entry : (x y : CellEntry) → Some x ≡ Some y → x ≡ y
  same_cell_entry x y h = cc

  module _ (order : KeepsInOrder cell a) where
    may : (lease : LeaseId) (attempt : Attempt) → map.get a.pending lease ≡ Some attempt → 0 < map.len a.pending → may_keep_row cell (store_of tree a) lease ≡ true
    may lease attempt waits some =
        let room = order.room in
        both_true _ _ (subst (λ c. nat_eq c cell ≡ true) (sym (order.attempt_here lease attempt waits)) ((Decides-eqb cell cell).1 refl))
        (both_true _ _ (at_most lease.epoch a.epoch (let now = order.attempt_now lease attempt waits in omega (arith, now)))
        (both_true _ _ (ap is_none (order.attempt_rowless lease attempt waits))
        (less (map.len a.rows) ATTEMPTS_AND_ROWS (omega (arith, room, some)))))

    good_if : (lease : LeaseId) (attempt : Attempt) → map.get a.pending lease ≡ Some attempt → 0 < map.len a.pending → (b : Bool) → still_fits tree a.known attempt.change attempt.ops ≡ b → Writes (cond b (makes_change tree a lease attempt) (gives_up tree a lease attempt))
    good_if lease attempt waits some true fits = record {
      turns = λ e is. subst (λ x. store_turn cell (store_of tree a) x ≡ Some (store_of (changed_by tree attempt.change a.known) (with_row a lease attempt.ops))) (same_cell_entry (RecordedEntry lease attempt.change attempt.ops) e is)
          (legal_is (may_keep_row cell (store_of tree a) lease && still_fits tree a.known attempt.change attempt.ops) _ (both_true _ _ (may lease attempt waits some) fits));
      stays = λ none. cc;
    }
    good_if lease attempt waits some false fits = writes_nothing (gives_up tree a lease attempt) refl refl

    good : (lease : LeaseId) (o : Option Attempt) → map.get a.pending lease ≡ o → ((attempt : Attempt) → o ≡ Some attempt → 0 < map.len a.pending) → Writes (hears_good tree a lease o)
    good lease None waits some = writes_nothing (passes_over tree a) refl refl
    good lease (Some attempt) waits some = good_if lease attempt waits (some attempt refl) (still_fits tree a.known attempt.change attempt.ops) refl

    refused : (lease : LeaseId) (denial : Denial) (o : Option Attempt) → Writes (hears_denied tree a lease denial o)
    refused lease denial None = writes_nothing (passes_over tree a) refl refl
    refused lease denial (Some attempt) = writes_nothing (hears_denied tree a lease denial (Some attempt)) refl refl

    settles : (lease : LeaseId) (o : Option Operations) → map.get a.rows lease ≡ o → Writes (hears_committed tree a lease o)
    settles lease None there = writes_nothing (passes_over tree a) refl refl
    settles lease (Some ops) there = record {
      turns = λ e is. subst (λ x. store_turn cell (store_of tree a) x ≡ Some (store_of tree (without_row a lease))) (same_cell_entry (RowGone lease) e is)
          (legal_is (is_some (map.get a.rows lease)) _ (ap is_some there));
      stays = λ none. cc;
    }

    numbered : (range : Range) (b : Bool) → (nat_eq range.cell cell && is_next a.known range) ≡ b → Writes (cond b (record (passes_over tree a) { entry = Some (GotEntry range.number range.low range.high); agent = with_range a range }) (passes_over tree a))
    numbered range false is = writes_nothing (passes_over tree a) refl refl
    numbered range true is =
        let parts = and_split (nat_eq range.cell cell) (is_next a.known range) is in
        let here : cell ≡ range.cell = sym ((Decides-eqb range.cell cell).0 parts.0) in
        let same : record { cell = cell; number = range.number; low = range.low; high = range.high } ≡ range = ap (λ c. record { cell = c; number = range.number; low = range.low; high = range.high }) here in
        record {
          turns = λ e is. subst (λ x. store_turn cell (store_of tree a) x ≡ Some (store_of tree (with_range a range))) (same_cell_entry (GotEntry range.number range.low range.high) e is)
              (subst (λ (r : Range). where_legal (is_next a.known r) (record (store_of tree a) { known = a.known ++ r ∷ [] }) ≡ Some (store_of tree (with_range a range))) (sym same) (legal_is (is_next a.known range) _ parts.1));
          stays = λ none. cc;
        }

    -- whatever a cell hears
    pub heard_turn : (reply : Reply) → ((lease : LeaseId) (attempt : Attempt) → map.get a.pending lease ≡ Some attempt → 0 < map.len a.pending) → Writes (hears cell tree a reply)
    heard_turn (BegunReply lease Good) some = good lease (map.get a.pending lease) refl (some lease)
    heard_turn (BegunReply lease (DeniedResult denial)) some = refused lease denial (map.get a.pending lease)
    heard_turn (CommittedReply lease CommittedGood) some = settles lease (map.get a.rows lease) refl
    heard_turn (CommittedReply lease Unknown) some = writes_nothing (passes_over tree a) refl refl
    heard_turn (CommittedReply lease WasRolledBack) some = writes_nothing (passes_over tree a) refl refl
    heard_turn (RolledBackReply lease result) some = writes_nothing (passes_over tree a) refl refl
    heard_turn (LeasesReply of page) some = writes_nothing (hears_page cell tree a page) refl refl
    heard_turn (RangedReply of number (RangedGood low high)) some = numbered (record { cell = of; number = number; low = low; high = high }) (nat_eq of cell && is_next a.known (record { cell = of; number = number; low = low; high = high })) refl
    heard_turn (RangedReply of number UnknownCell) some = writes_nothing (passes_over tree a) refl refl
    heard_turn (RangedReply of number (TooFar next)) some = writes_nothing (passes_over tree a) refl refl
    heard_turn (RangedReply of number (Exhausted last)) some = writes_nothing (passes_over tree a) refl refl
    heard_turn (ClaimsReply of bucket first last behind page) some = writes_nothing (passes_over tree a) refl refl
    heard_turn (Classified question class) some = writes_nothing (passes_over tree a) refl refl
    heard_turn (PageReply of path named found) some = writes_nothing (passes_over tree a) refl refl
    heard_turn (NoCell of) some = writes_nothing (passes_over tree a) refl refl
