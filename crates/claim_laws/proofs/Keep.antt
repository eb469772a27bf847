-- One lease's life moves, and every other stays: each life stays in order, and every message stays true.
use Rattle.std.proofs.Common.{◌≡◌, ◌≢◌, inl, inr, List, refl, sym, subst}
use Rattle.std.specs.List.{Contains}
use Rattle.cells_base.proofs.Maps.{same_or_other}
use Rattle.claim_types.proofs.Ordered.{leases_total, leases_exact}
use Rattle.claim_types.specs.declared.lease.LeaseId.{LeaseId}
use Rattle.claim_types.specs.declared.operations.Operations.{Operations}
use Rattle.claim_types.specs.declared.cell.Range.{Range}
use Rattle.claim_types.specs.declared.message.RangedResult.TheVariants.{Good as RangedGood, UnknownCell, TooFar, Exhausted}
use Rattle.claim_types.specs.declared.step.Transition.{Transition}
use Rattle.claim_types.specs.declared.message.Request.TheVariants.{Begin, Commit, Rollback, List as ListRequest, Range as RangeRequest, Claims as ClaimsRequest, Classify, Page as PageRequest}
use Rattle.claim_types.specs.declared.message.Reply.TheVariants.{Begun, Committed, RolledBack, Leases, Ranged, Claims, NoCell, Classified, Page as PageReply}
use Rattle.claim_types.specs.declared.message.BegunResult.TheVariants.{Good, Denied}
use Rattle.claim_types.specs.declared.message.CommittedResult.TheVariants.{Good as CommittedGood, Unknown, WasRolledBack}
use Rattle.claim_map.specs.Legal.{Message, ask, answer}
use Rattle.claim_map.proofs.Covers.{covers_more}
use Rattle.claim_laws.specs.Lives.{Life, IsLifeInOrder}
use Rattle.claim_laws.specs.Facts.{Grounds, MessageFact}
use Rattle.claim_laws.proofs.Lives.{Moves}

weaker : {drawn drawn' : Type 0} (life : Life) → (drawn → drawn') → IsLifeInOrder drawn life → IsLifeInOrder drawn' life
weaker life grows fine = record {
  known_drawn = λ known. grows (fine.known_drawn known);
  pending_drawn = λ attempt waits. grows (fine.pending_drawn attempt waits);
  unsettled = fine.unsettled;
  recorded_open = fine.recorded_open;
  row_recorded = fine.row_recorded;
  row_known = fine.row_known;
  pending_rowless = fine.pending_rowless;
  pending_unsettled = fine.pending_unsettled;
  pending_open = fine.pending_open;
}

-- a lease's life that stays
pub unmoved : {drawn drawn' : Type 0} {Fits : Operations → Type 0} (life life' : Life) → life' ≡ life → (drawn → drawn') → IsLifeInOrder drawn life → Moves drawn drawn' life life' Fits
unmoved {drawn} {drawn'} {Fits} life life' same grows fine = subst (λ x. Moves drawn drawn' life x Fits) (sym same) (record {
  in_order = weaker life grows fine;
  known = λ known. known;
  committed = λ c. c;
  begin = λ ops fits said. record { drawn_for = grows said.drawn_for; well_formed = said.well_formed; of_attempt = said.of_attempt; same_open = said.same_open };
  commit = λ said. said;
  rollback = λ said. said;
})

-- lives move, and there are more ranges and a longer trace
pub record Grows (g g' : Grounds) (Fits : LeaseId → Operations → Type 0) : Type 0 where
  pub moved : (l : LeaseId) → Moves (g.drawn l) (g'.drawn l) (g.lives l) (g'.lives l) (Fits l)
  pub ranges : (r : Range) → Contains g.ranges r → Contains g'.ranges r
  pub trace : (t : Transition) → Contains g.trace t → Contains g'.trace t

-- and messages stay true
pub message_keeps_each : (g g' : Grounds) (Fits : LeaseId → Operations → Type 0) → Grows g g' Fits → (m : Message) → ((l : LeaseId) (ops : Operations) → m ≡ ask (Begin l ops) → Fits l ops) → MessageFact g m → MessageFact g' m
message_keeps_each g g' Fits grows (ask (Begin lease ops)) fits said = ((grows.moved lease).begin ops (fits lease ops refl) said.0, λ c is. covers_more g.ranges g'.ranges grows.ranges lease.cell c.origin.row (said.1 c is))
message_keeps_each g g' Fits grows (ask (Commit lease)) fits said = (grows.moved lease).commit said
message_keeps_each g g' Fits grows (ask (Rollback lease)) fits said = (grows.moved lease).rollback said
message_keeps_each g g' Fits grows (ask (ListRequest cell last)) fits said = tt
message_keeps_each g g' Fits grows (ask (RangeRequest cell number)) fits said = said
message_keeps_each g g' Fits grows (ask (ClaimsRequest cell bucket first last behind)) fits said = tt
message_keeps_each g g' Fits grows (ask (Classify question)) fits said = tt
message_keeps_each g g' Fits grows (ask (PageRequest cell path named)) fits said = tt
message_keeps_each g g' Fits grows (answer (Classified question class)) fits said = (said.0, grows.trace said.0 said.1, said.2)
message_keeps_each g g' Fits grows (answer (PageReply cell path named found)) fits said = tt
message_keeps_each g g' Fits grows (answer (Begun lease Good)) fits said = (grows.moved lease).known said
message_keeps_each g g' Fits grows (answer (Begun lease (Denied denial))) fits said = ((said.0.0, grows.trace said.0.0 said.0.1, said.0.2), said.1)
message_keeps_each g g' Fits grows (answer (Committed lease CommittedGood)) fits said = (grows.moved lease).committed said
message_keeps_each g g' Fits grows (answer (Committed lease Unknown)) fits said = said
message_keeps_each g g' Fits grows (answer (Committed lease WasRolledBack)) fits said = said
message_keeps_each g g' Fits grows (answer (RolledBack lease result)) fits said = tt
message_keeps_each g g' Fits grows (answer (Leases cell page)) fits said = λ l listed. let old = said l listed in (old.0, (grows.moved l).known old.1)
message_keeps_each g g' Fits grows (answer (Ranged cell number (RangedGood low high))) fits said = grows.ranges (record { cell = cell; number = number; low = low; high = high }) said
message_keeps_each g g' Fits grows (answer (Ranged cell number UnknownCell)) fits said = tt
message_keeps_each g g' Fits grows (answer (Ranged cell number (TooFar next))) fits said = tt
message_keeps_each g g' Fits grows (answer (Ranged cell number (Exhausted last))) fits said = tt
message_keeps_each g g' Fits grows (answer (Claims cell bucket first last behind page)) fits said = tt
message_keeps_each g g' Fits grows (answer (NoCell cell)) fits said = tt

module _ (drawn drawn' : LeaseId → Type 0) (lives lives' : LeaseId → Life) (grows : (l : LeaseId) → drawn l → drawn' l) (k : LeaseId) (Fits : Operations → Type 0)
    (others : (l : LeaseId) → l ≢ k → lives' l ≡ lives l) (moved : Moves (drawn k) (drawn' k) (lives k) (lives' k) Fits) (fine : (l : LeaseId) → IsLifeInOrder (drawn l) (lives l)) where
  -- at this lease it moves, and every other stays
  pub one_moves : (l : LeaseId) → Moves (drawn l) (drawn' l) (lives l) (lives' l) (λ ops. l ≡ k → Fits ops)
  one_moves l = elim (same_or_other leases_total leases_exact l k) [
    | inl e ↦ subst (λ q. Moves (drawn q) (drawn' q) (lives q) (lives' q) (λ ops. q ≡ k → Fits ops)) (sym e)
        (record { in_order = moved.in_order; known = moved.known; committed = moved.committed; begin = λ ops fits said. moved.begin ops (fits refl) said; commit = moved.commit; rollback = moved.rollback })
    | inr apart ↦ unmoved (lives l) (lives' l) (others l apart) (grows l) (fine l)
  ]

  pub lives_keep : (l : LeaseId) → IsLifeInOrder (drawn' l) (lives' l)
  lives_keep l = (one_moves l).in_order

  pub message_keeps : (given given' : List Range) → ((r : Range) → Contains given r → Contains given' r) → (trace trace' : List Transition) → ((t : Transition) → Contains trace t → Contains trace' t) → (m : Message) →
      ((ops : Operations) → m ≡ ask (Begin k ops) → Fits ops) → MessageFact (record { drawn = drawn; lives = lives; ranges = given; trace = trace }) m → MessageFact (record { drawn = drawn'; lives = lives'; ranges = given'; trace = trace' }) m
  message_keeps given given' more_given trace trace' more m fits said =
      message_keeps_each (record { drawn = drawn; lives = lives; ranges = given; trace = trace }) (record { drawn = drawn'; lives = lives'; ranges = given'; trace = trace' }) (λ l ops. l ≡ k → Fits ops)
      (record { moved = one_moves; ranges = more_given; trace = more }) m (λ l ops is e. fits ops (subst (λ q. m ≡ ask (Begin q ops)) e is)) said

-- more ranges and a longer trace take nothing away from what a message says
pub message_stays : (drawn : LeaseId → Type 0) (lives : LeaseId → Life) → ((l : LeaseId) → IsLifeInOrder (drawn l) (lives l)) → (given given' : List Range) → ((r : Range) → Contains given r → Contains given' r) →
    (trace trace' : List Transition) → ((t : Transition) → Contains trace t → Contains trace' t) → (m : Message) → MessageFact (record { drawn = drawn; lives = lives; ranges = given; trace = trace }) m → MessageFact (record { drawn = drawn; lives = lives; ranges = given'; trace = trace' }) m
message_stays drawn lives fine given given' more_given trace trace' more m said =
    message_keeps_each (record { drawn = drawn; lives = lives; ranges = given; trace = trace }) (record { drawn = drawn; lives = lives; ranges = given'; trace = trace' }) (λ l ops. Unit {0})
    (record { moved = λ l. unmoved (lives l) (lives l) refl (λ d. d) (fine l); ranges = more_given; trace = more }) m (λ l ops is. tt) said
