-- Each step of the service keeps the installation in order.
use Rattle.std.proofs.Common.{◌≡◌, ℕ, ◌+◌, ◌<◌, ◌≤◌, Bool, true, false, nat_eq, nat_le, ◌&&◌, ◌||◌, cond, [], ◌∷◌, ◌++◌, Some, None, refl, sym, ◌∙◌, ap, subst, arith}
use Rattle.std.specs.List.{list_any}
use Rattle.std.specs.FinMap as map
use Rattle.std.proofs.lemmas.List.Elements.{filter-append, Contains-append_left}
use Rattle.std.proofs.lemmas.List.Folds.{list_any-append}
use Rattle.std.proofs.lemmas.Bool.Decides.{Decides-eqb}
use Rattle.claim_types.specs.declared.lease.LeaseId.{LeaseId}
use Rattle.claim_types.specs.declared.operations.Operations.{Operations}
use Rattle.claim_types.specs.declared.cell.Range.{Range}
use Rattle.claim_types.specs.declared.step.Step.TheVariants.{Leased, RolledBack, Ranged}
use Rattle.claim_types.specs.declared.message.Request.TheVariants.{Begin}
use Rattle.claim_map.specs.Registry.{Registry}
use Rattle.claim_map.specs.State.{ClaimMap, leases_of, tree_of, ranges_of, covers}
use Rattle.claim_map.specs.Step.{after}
use Rattle.claim_map.specs.Verdict.{MayBegin, open_count}
use Rattle.claim_map.specs.Ranges.{AreRanges}
use Rattle.claim_map.specs.Records.{id_at}
use Rattle.claim_map.specs.Sound.{ClaimsEqualView, LeasesAreSound, IsSound, RecordsAreSound}
use Rattle.claim_map.specs.Legal.{IsOpen, IsRecorded, Message, ask}
use Rattle.claim_laws.specs.World.{World, agent_of, IsDrawn}
use Rattle.claim_map.proofs.Stable.{id_stays}
use Rattle.claim_laws.specs.Lives.{life_of, IsLifeInOrder, BeginFact, RollbackFact}
use Rattle.claim_laws.specs.Facts.{grounds_of, WasSent, MessageFact, IsCellInOrder, IsInOrder}
use Rattle.claim_laws.proofs.Lives.{Moves, Any, leased, applied, given_up}
use Rattle.claim_laws.proofs.Looks.{after_commit, leased_here, leased_other, committed_here, committed_other, rolled_back_here, rolled_back_other}
use Rattle.claim_laws.proofs.Keep.{lives_keep, message_keeps, message_stays}
use Rattle.claim_laws.proofs.Leases.{leased-sound, committed-sound, rolled_back-sound}
use Rattle.claim_laws.proofs.Views.{same_view, leased-view, rolled_back-view, committed-view}
use Rattle.claim_laws.proofs.Agents.{more_given}
use Rattle.claim_laws.proofs.Counts.{open_less, open_more}
use Rattle.claim_types.specs.declared.limits.TheConstants.{OPEN_LEASES}

-- the claim map after a step is sound, and fits what the cells keep and what was said
pub record StepKeeps (w : World) (s : ClaimMap) : Type 0 where
  pub sound : IsSound s
  pub lives : (l : LeaseId) → IsLifeInOrder (IsDrawn w.agents l) (life_of s w.agents l)
  pub cells : (cell : ℕ) → IsCellInOrder (ranges_of s.ranges cell) cell (tree_of s cell) (agent_of w.agents cell)
  pub messages : (m : Message) → WasSent w.sent m → MessageFact (grounds_of s w.agents w.trace) m

pub sound_of : (w : World) (s : ClaimMap) → LeasesAreSound s → ((cell : ℕ) → open_count s.open_leases cell ≤ OPEN_LEASES) → AreRanges s.ranges → ClaimsEqualView s → ((cell : ℕ) → RecordsAreSound (tree_of s cell) (ranges_of s.ranges cell)) →
    ((l : LeaseId) → IsLifeInOrder (IsDrawn w.agents l) (life_of s w.agents l)) → IsSound s
sound_of w s leases few ranges view records lives = record {
  leases = leases;
  unsettled = λ l ops is. (lives l).unsettled ops is;
  recorded_open = λ l r. let found = (lives l).recorded_open r in (found.0, found.1);
  few_open = few;
  ranges = ranges;
  claims = view;
  records = records;
}

few_more : (b : Bool) (k c n m : ℕ) → (b ≡ true → k ≡ c) → n ≤ cond b 1 0 + m → m ≤ OPEN_LEASES → (k ≡ c → m < OPEN_LEASES) → n ≤ OPEN_LEASES
few_more true k c n m same le few room = let more = room (same refl) in omega (arith, le, more)
few_more false k c n m same le few room = omega (arith, le, few)

module _ (registry : Registry) (beginning : ClaimMap) (w : World) (order : IsInOrder registry beginning w) (k : LeaseId) where
  module _ (ops : Operations) (begin : WasSent w.sent (ask (Begin k ops))) (may : MayBegin (leases_of w.claims) w.claims.ranges k ops) (room : open_count w.claims.open_leases k.cell < OPEN_LEASES) where
    said : BeginFact (IsDrawn w.agents k) (life_of w.claims w.agents k) ops
    said = (order.messages (ask (Begin k ops)) begin).0

    leased-moves : Moves (IsDrawn w.agents k) (IsDrawn w.agents k) (life_of w.claims w.agents k) (life_of (after w.claims (Leased k ops)) w.agents k) (λ theirs. ops ≡ theirs)
    leased-moves = subst (λ life. Moves (IsDrawn w.agents k) (IsDrawn w.agents k) (life_of w.claims w.agents k) life (λ theirs. ops ≡ theirs)) (sym (leased_here w.claims w.agents k ops))
        (leased (life_of w.claims w.agents k) (order.lives k) ops said.drawn_for may.closed may.unsettled said.of_attempt)

    leased-lives : (l : LeaseId) → IsLifeInOrder (IsDrawn w.agents l) (life_of (after w.claims (Leased k ops)) w.agents l)
    leased-lives = lives_keep (IsDrawn w.agents) (IsDrawn w.agents) (life_of w.claims w.agents) (life_of (after w.claims (Leased k ops)) w.agents) (λ l d. d) k (λ theirs. ops ≡ theirs) (leased_other w.claims w.agents k ops) leased-moves order.lives

    closed : IsRecorded w.claims k → ⊥
    closed r = let found = (order.lives k).recorded_open r in let both : None ≡ Some found.0 = sym may.closed ∙ found.1 in cc

    pub leased-keeps : StepKeeps w (after w.claims (Leased k ops))
    leased-keeps = record {
      sound = sound_of w (after w.claims (Leased k ops)) (leased-sound w.claims order.sound.leases k ops may)
          (λ cell. few_more (nat_eq k.cell cell) k.cell cell _ (open_count w.claims.open_leases cell) (Decides-eqb k.cell cell).0 (open_more w.claims.open_leases k ops cell) (order.sound.few_open cell) (λ e. subst (λ c. open_count w.claims.open_leases c < OPEN_LEASES) e room))
          order.sound.ranges (leased-view w.claims order.sound.claims k ops closed) order.sound.records leased-lives;
      lives = leased-lives;
      cells = order.cells;
      messages = λ m sent. message_keeps (IsDrawn w.agents) (IsDrawn w.agents) (life_of w.claims w.agents) (life_of (after w.claims (Leased k ops)) w.agents) (λ l d. d) k (λ theirs. ops ≡ theirs) (leased_other w.claims w.agents k ops) leased-moves order.lives
          w.claims.ranges w.claims.ranges (λ r is. is) w.trace w.trace (λ t is. is) m (λ theirs is. order.begins k ops theirs begin (subst (WasSent w.sent) is sent)) (order.messages m sent);
    }

  module _ (ops : Operations) (is_open : IsOpen w.claims k ops) (is_recorded : IsRecorded w.claims k) where
    committed-moves : Moves (IsDrawn w.agents k) (IsDrawn w.agents k) (life_of w.claims w.agents k) (life_of (after_commit w.claims k ops) w.agents k) Any
    committed-moves = subst (λ life. Moves (IsDrawn w.agents k) (IsDrawn w.agents k) (life_of w.claims w.agents k) life Any) (sym (committed_here w.claims w.agents k ops))
        (applied (life_of w.claims w.agents k) (order.lives k) ops is_open is_recorded)

    committed-lives : (l : LeaseId) → IsLifeInOrder (IsDrawn w.agents l) (life_of (after_commit w.claims k ops) w.agents l)
    committed-lives = lives_keep (IsDrawn w.agents) (IsDrawn w.agents) (life_of w.claims w.agents) (life_of (after_commit w.claims k ops) w.agents) (λ l d. d) k Any (committed_other w.claims w.agents k ops) committed-moves order.lives

    pub committed-keeps : StepKeeps w (after_commit w.claims k ops)
    committed-keeps = record {
      sound = sound_of w (after_commit w.claims k ops) (committed-sound w.claims order.sound.leases k ops is_open)
          (λ cell. let less = open_less w.claims.open_leases k cell in let few = order.sound.few_open cell in omega (arith, less, few))
          order.sound.ranges (committed-view w.claims order.sound.leases k ops is_open is_recorded order.sound.claims) order.sound.records committed-lives;
      lives = committed-lives;
      cells = order.cells;
      messages = λ m sent. message_keeps (IsDrawn w.agents) (IsDrawn w.agents) (life_of w.claims w.agents) (life_of (after_commit w.claims k ops) w.agents) (λ l d. d) k Any (committed_other w.claims w.agents k ops) committed-moves order.lives
          w.claims.ranges w.claims.ranges (λ r is. is) w.trace w.trace (λ t is. is) m (λ theirs is. tt) (order.messages m sent);
    }

  module _ (unsettled : map.get w.claims.settled k ≡ None) (said : RollbackFact (life_of w.claims w.agents k)) where
    rolled_back-moves : Moves (IsDrawn w.agents k) (IsDrawn w.agents k) (life_of w.claims w.agents k) (life_of (after w.claims (RolledBack k)) w.agents k) Any
    rolled_back-moves = subst (λ life. Moves (IsDrawn w.agents k) (IsDrawn w.agents k) (life_of w.claims w.agents k) life Any) (sym (rolled_back_here w.claims w.agents k))
        (given_up (life_of w.claims w.agents k) (order.lives k) unsettled said)

    rolled_back-lives : (l : LeaseId) → IsLifeInOrder (IsDrawn w.agents l) (life_of (after w.claims (RolledBack k)) w.agents l)
    rolled_back-lives = lives_keep (IsDrawn w.agents) (IsDrawn w.agents) (life_of w.claims w.agents) (life_of (after w.claims (RolledBack k)) w.agents) (λ l d. d) k Any (rolled_back_other w.claims w.agents k) rolled_back-moves order.lives

    pub unrecorded : IsRecorded w.claims k → ⊥
    unrecorded r = let found = (order.lives k).recorded_open r in let both : None ≡ Some found.0 = sym said.no_row ∙ found.2 in cc

    pub rolled_back-keeps : StepKeeps w (after w.claims (RolledBack k))
    rolled_back-keeps = record {
      sound = sound_of w (after w.claims (RolledBack k)) (rolled_back-sound w.claims order.sound.leases k)
          (λ cell. let less = open_less w.claims.open_leases k cell in let few = order.sound.few_open cell in omega (arith, less, few))
          order.sound.ranges (rolled_back-view w.claims order.sound.claims k unrecorded) order.sound.records rolled_back-lives;
      lives = rolled_back-lives;
      cells = order.cells;
      messages = λ m sent. message_keeps (IsDrawn w.agents) (IsDrawn w.agents) (life_of w.claims w.agents) (life_of (after w.claims (RolledBack k)) w.agents) (λ l d. d) k Any (rolled_back_other w.claims w.agents k) rolled_back-moves order.lives
          w.claims.ranges w.claims.ranges (λ r is. is) w.trace w.trace (λ t is. is) m (λ theirs is. tt) (order.messages m sent);
    }

-- a range is given
module _ (registry : Registry) (beginning : ClaimMap) (w : World) (order : IsInOrder registry beginning w) (range : Range) (fine : AreRanges (w.claims.ranges ++ range ∷ [])) where
  more_ranges : (cell : ℕ) → ranges_of (w.claims.ranges ++ range ∷ []) cell ≡ ranges_of w.claims.ranges cell ++ ranges_of (range ∷ []) cell
  more_ranges cell = filter-append (λ (r : Range). nat_eq r.cell cell) w.claims.ranges (range ∷ [])

  or_first : (a b : Bool) → a ≡ true → (a || b) ≡ true
  or_first true b h = refl
  or_first false b h = cc

  still_covers : (cell id : ℕ) → covers w.claims.ranges cell id ≡ true → covers (w.claims.ranges ++ range ∷ []) cell id ≡ true
  still_covers cell id is =
      ap (list_any (λ (r : Range). nat_le r.low id && nat_le id r.high)) (more_ranges cell)
      ∙ list_any-append (λ (r : Range). nat_le r.low id && nat_le id r.high) (ranges_of w.claims.ranges cell) (ranges_of (range ∷ []) cell)
      ∙ or_first (covers w.claims.ranges cell id) (list_any (λ (r : Range). nat_le r.low id && nat_le id r.high) (ranges_of (range ∷ []) cell)) is

  ranged-leases : LeasesAreSound (after w.claims (Ranged range))
  ranged-leases =
      let sound = order.sound.leases in
      record {
        well_formed = sound.well_formed;
        apart = sound.apart;
        unheld = sound.unheld;
        held_here = sound.held_here;
        own_rows = λ l ops c is made. still_covers l.cell c.origin.row (sound.own_rows l ops c is made);
      }

  ranged-records : (cell : ℕ) → RecordsAreSound (tree_of w.claims cell) (ranges_of (w.claims.ranges ++ range ∷ []) cell)
  ranged-records cell =
      let old = order.sound.records cell in
      record {
        ids = λ r is. let found = old.ids r is in (found.0, found.1, ap (id_at found.0) (more_ranges cell) ∙ id_stays found.0 (ranges_of w.claims.ranges cell) (ranges_of (range ∷ []) cell) r.id found.2);
        placed = old.placed;
      }

  pub ranged-keeps : StepKeeps w (after w.claims (Ranged range))
  ranged-keeps = record {
    sound = sound_of w (after w.claims (Ranged range)) ranged-leases order.sound.few_open fine
        (same_view w.claims (after w.claims (Ranged range)) refl (λ l r. r) (λ l r. r) (λ l o r is. is) (λ l o r is. is) refl order.sound.claims) ranged-records order.lives;
    lives = order.lives;
    cells = λ cell. subst (λ rs. IsCellInOrder rs cell (tree_of w.claims cell) (agent_of w.agents cell)) (sym (more_ranges cell)) (more_given (ranges_of w.claims.ranges cell) (ranges_of (range ∷ []) cell) cell (tree_of w.claims cell) (agent_of w.agents cell) (order.cells cell));
    messages = λ m sent. message_stays (IsDrawn w.agents) (life_of w.claims w.agents) order.lives w.claims.ranges (w.claims.ranges ++ range ∷ []) (λ r is. Contains-append_left w.claims.ranges (range ∷ []) r is) w.trace w.trace (λ t is. is) m (order.messages m sent);
  }

-- nothing changes
pub same-keeps : (registry : Registry) (beginning : ClaimMap) (w : World) → IsInOrder registry beginning w → StepKeeps w w.claims
same-keeps registry beginning w order = record { sound = order.sound; lives = order.lives; cells = order.cells; messages = order.messages }
