-- What each step and each cell does to the lives of leases: it changes one lease's, and leaves every other as it was.
use Rattle.std.proofs.Common.{◌≡◌, ◌≢◌, ℕ, inl, inr, true, false, not, ◌||◌, ◌&&◌, Option, Some, None, refl, sym, ◌∙◌, ap, subst}
use Rattle.std.specs.Option.{unwrap_or}
use Rattle.std.specs.Ordering.{nat_cmp}
use Rattle.std.specs.Cmp.{nat_cmp_total}
use Rattle.std.specs.FinMap as map
use Rattle.std.specs.FinMap.{FinMap, nat_cmp-IsAntisymmetric}
use Rattle.std.specs.FinSet as set
use Rattle.cells_base.proofs.Maps
use Rattle.cells_base.proofs.Maps.{insert_same, insert_other, remove_same, remove_other, tie_itself, no_tie}
use Rattle.claim_types.specs.Order.{lease_cmp}
use Rattle.claim_types.proofs.Ordered.{leases_total, leases_exact}
use Rattle.claim_types.specs.declared.lease.LeaseId.{LeaseId}
use Rattle.claim_types.specs.declared.lease.How.{How}
use Rattle.claim_types.specs.declared.lease.How.TheVariants.{Committed as AsCommitted, RolledBack as AsRolledBack}
use Rattle.claim_types.specs.declared.operations.Operations.{Operations}
use Rattle.claim_types.specs.declared.step.Step.TheVariants.{Leased, Committed, RolledBack}
use Rattle.claim_map.specs.State.{ClaimMap, Tree, leases_of, with_leases}
use Rattle.claim_map.specs.Step.{after, after_commit_of}
use Rattle.claim_types.specs.declared.rule.Attempt.{Attempt}
use Rattle.claim_laws.specs.Nodes.{Agent, with_attempt, without_attempt, with_row, without_row}
use Rattle.claim_laws.specs.World.{idle_agent, agent_of, IsDrawn, IsDrawnBy}
use Rattle.claim_laws.proofs.Shapes.{with_recorded}
use Rattle.claim_laws.specs.Lives.{Life, life_of}

pub same_life : (a b : Life) → a.open_with ≡ b.open_with → a.settled ≡ b.settled → a.recorded ≡ b.recorded → a.pending ≡ b.pending → a.row ≡ b.row → a ≡ b
same_life a b opened settled recorded pending row = λ i. record { open_with = opened i; settled = settled i; recorded = recorded i; pending = pending i; row = row i }

-- a set of leases after a change
module _ (s : set.FinSet lease_cmp) (k : LeaseId) where
  pub member_put : set.contains (set.insert s k) k ≡ true
  member_put = set.contains-insert leases_total s k k ∙ ap (λ b. b || set.contains s k) (tie_itself leases_total leases_exact k)

  pub member_put_other : (q : LeaseId) → q ≢ k → set.contains (set.insert s k) q ≡ set.contains s q
  member_put_other q apart = set.contains-insert leases_total s k q ∙ ap (λ b. b || set.contains s q) (no_tie leases_total leases_exact q k apart)

  pub member_taken : set.contains (set.remove s k) k ≡ false
  member_taken = set.contains-remove leases_total s k k ∙ ap (λ b. not b && set.contains s k) (tie_itself leases_total leases_exact k)

  pub member_taken_other : (q : LeaseId) → q ≢ k → set.contains (set.remove s k) q ≡ set.contains s q
  member_taken_other q apart = set.contains-remove leases_total s k q ∙ ap (λ b. not b && set.contains s q) (no_tie leases_total leases_exact q k apart)

-- the claim map after a commit of an open lease
abbrev pub after_commit : ClaimMap → LeaseId → Operations → ClaimMap
after_commit s k ops = record (with_leases s (after_commit_of (leases_of s) k (Some ops))) { recorded = set.remove s.recorded k }

-- the service's steps
module _ (s : ClaimMap) (agents : FinMap nat_cmp Agent) (k : LeaseId) where
  pub leased_here : (ops : Operations) → life_of (after s (Leased k ops)) agents k ≡ record (life_of s agents k) { open_with = Some ops }
  leased_here ops = same_life _ _ (insert_same leases_total leases_exact s.open_leases k ops) refl refl refl refl

  pub leased_other : (ops : Operations) (q : LeaseId) → q ≢ k → life_of (after s (Leased k ops)) agents q ≡ life_of s agents q
  leased_other ops q apart = same_life _ _ (insert_other leases_total leases_exact s.open_leases k ops q apart) refl refl refl refl

  pub rolled_back_here : life_of (after s (RolledBack k)) agents k ≡ record (life_of s agents k) { open_with = None; settled = Some AsRolledBack }
  rolled_back_here = same_life _ _ (remove_same leases_total leases_exact s.open_leases k) (insert_same leases_total leases_exact s.settled k AsRolledBack) refl refl refl

  pub rolled_back_other : (q : LeaseId) → q ≢ k → life_of (after s (RolledBack k)) agents q ≡ life_of s agents q
  rolled_back_other q apart = same_life _ _ (remove_other leases_total leases_exact s.open_leases k q apart) (insert_other leases_total leases_exact s.settled k AsRolledBack q apart) refl refl refl

  pub after_committed : (ops : Operations) → map.get s.open_leases k ≡ Some ops → after s (Committed k) ≡ after_commit s k ops
  after_committed ops is = ap (λ o. record (with_leases s (after_commit_of (leases_of s) k o)) { recorded = set.remove s.recorded k }) is

  pub committed_here : (ops : Operations) → life_of (after_commit s k ops) agents k ≡ record (life_of s agents k) { open_with = None; settled = Some AsCommitted; recorded = false }
  committed_here ops = same_life _ _ (remove_same leases_total leases_exact s.open_leases k) (insert_same leases_total leases_exact s.settled k AsCommitted) (member_taken s.recorded k) refl refl

  pub committed_other : (ops : Operations) (q : LeaseId) → q ≢ k → life_of (after_commit s k ops) agents q ≡ life_of s agents q
  committed_other ops q apart = same_life _ _ (remove_other leases_total leases_exact s.open_leases k q apart) (insert_other leases_total leases_exact s.settled k AsCommitted q apart) (member_taken_other s.recorded k q apart) refl refl

-- a cell's agent
module _ (agents : FinMap nat_cmp Agent) (cell : ℕ) (a : Agent) where
  pub agent_here : agent_of (map.insert agents cell a) cell ≡ a
  agent_here = ap (λ o. unwrap_or o idle_agent) (insert_same nat_cmp_total nat_cmp-IsAntisymmetric agents cell a)

  pub agent_other : (c : ℕ) → c ≢ cell → agent_of (map.insert agents cell a) c ≡ agent_of agents c
  agent_other c apart = ap (λ o. unwrap_or o idle_agent) (insert_other nat_cmp_total nat_cmp-IsAntisymmetric agents cell a c apart)

  -- what is true of the other agents and of this one is true of all
  pub each_agent : (P : ℕ → Agent → Type 0) → P cell a → ((c : ℕ) → c ≢ cell → P c (agent_of agents c)) → (c : ℕ) → P c (agent_of (map.insert agents cell a) c)
  each_agent P here others c = elim (Maps.same_or_other nat_cmp_total nat_cmp-IsAntisymmetric c cell) [
    | inl same ↦ subst (λ d. P d (agent_of (map.insert agents cell a) d)) (sym same) (subst (P cell) (sym agent_here) here)
    | inr apart ↦ subst (P c) (sym (agent_other c apart)) (others c apart)
  ]

-- the agent of a lease's cell moves, and nothing but what it keeps of this lease changes
module _ (s : ClaimMap) (agents : FinMap nat_cmp Agent) (a a' : Agent) (k : LeaseId) (at : map.get agents k.cell ≡ Some a) where
  pub agent_is : agent_of agents k.cell ≡ a
  agent_is = ap (λ o. unwrap_or o idle_agent) at

  -- a lease that the agent keeps as before
  pub kept_life : (q : LeaseId) → map.get a'.pending q ≡ map.get a.pending q → map.get a'.rows q ≡ map.get a.rows q → life_of s (map.insert agents k.cell a') q ≡ life_of s agents q
  kept_life q pending row = elim (Maps.same_or_other nat_cmp_total nat_cmp-IsAntisymmetric q.cell k.cell) [
    | inl same ↦
        let new : agent_of (map.insert agents k.cell a') q.cell ≡ a' = ap (agent_of (map.insert agents k.cell a')) same ∙ agent_here agents k.cell a' in
        let old : agent_of agents q.cell ≡ a = ap (agent_of agents) same ∙ agent_is in
        same_life _ _ refl refl refl
        (ap (λ (x : Agent). map.get x.pending q) new ∙ pending ∙ sym (ap (λ (x : Agent). map.get x.pending q) old))
        (ap (λ (x : Agent). map.get x.rows q) new ∙ row ∙ sym (ap (λ (x : Agent). map.get x.rows q) old))
    | inr apart ↦
        let other = agent_other agents k.cell a' q.cell apart in
        same_life _ _ refl refl refl (ap (λ (x : Agent). map.get x.pending q) other) (ap (λ (x : Agent). map.get x.rows q) other)
  ]

  -- the lease itself
  new_life : (pending : Option Attempt) (row : Option Operations) → map.get a'.pending k ≡ pending → map.get a'.rows k ≡ row →
      life_of s (map.insert agents k.cell a') k ≡ record (life_of s agents k) { pending = pending; row = row }
  new_life pending row is_pending is_row =
      let new = agent_here agents k.cell a' in
      same_life _ _ refl refl refl (ap (λ (x : Agent). map.get x.pending k) new ∙ is_pending) (ap (λ (x : Agent). map.get x.rows k) new ∙ is_row)

  was_pending : map.get (agent_of agents k.cell).pending k ≡ map.get a.pending k
  was_pending = ap (λ (x : Agent). map.get x.pending k) agent_is

  was_row : map.get (agent_of agents k.cell).rows k ≡ map.get a.rows k
  was_row = ap (λ (x : Agent). map.get x.rows k) agent_is

  -- what was drawn stays so
  pub still_drawn : ((q : LeaseId) → IsDrawnBy a q → IsDrawnBy a' q) → (q : LeaseId) → IsDrawn agents q → IsDrawn (map.insert agents k.cell a') q
  still_drawn grows q drawn = elim (Maps.same_or_other nat_cmp_total nat_cmp-IsAntisymmetric q.cell k.cell) [
    | inl same ↦
        let new : agent_of (map.insert agents k.cell a') q.cell ≡ a' = ap (agent_of (map.insert agents k.cell a')) same ∙ agent_here agents k.cell a' in
        let old : agent_of agents q.cell ≡ a = ap (agent_of agents) same ∙ agent_is in
        subst (λ x. IsDrawnBy x q) (sym new) (grows q (subst (λ x. IsDrawnBy x q) old drawn))
    | inr apart ↦ subst (λ x. IsDrawnBy x q) (sym (agent_other agents k.cell a' q.cell apart)) drawn
  ]

-- what the agents do
module _ (s : ClaimMap) (agents : FinMap nat_cmp Agent) (a : Agent) (k : LeaseId) (at : map.get agents k.cell ≡ Some a) where
  pub asked_here : (attempt : Attempt) → life_of s (map.insert agents k.cell (with_attempt a k attempt)) k ≡ record (life_of s agents k) { pending = Some attempt }
  asked_here attempt = new_life s agents a (with_attempt a k attempt) k at (Some attempt) (life_of s agents k).row (insert_same leases_total leases_exact a.pending k attempt) (sym (was_row s agents a (with_attempt a k attempt) k at))

  pub asked_other : (attempt : Attempt) (q : LeaseId) → q ≢ k → life_of s (map.insert agents k.cell (with_attempt a k attempt)) q ≡ life_of s agents q
  asked_other attempt q apart = kept_life s agents a (with_attempt a k attempt) k at q (insert_other leases_total leases_exact a.pending k attempt q apart) refl

  pub ended_here : life_of s (map.insert agents k.cell (without_attempt a k)) k ≡ record (life_of s agents k) { pending = None }
  ended_here = new_life s agents a (without_attempt a k) k at None (life_of s agents k).row (remove_same leases_total leases_exact a.pending k) (sym (was_row s agents a (without_attempt a k) k at))

  pub ended_other : (q : LeaseId) → q ≢ k → life_of s (map.insert agents k.cell (without_attempt a k)) q ≡ life_of s agents q
  ended_other q apart = kept_life s agents a (without_attempt a k) k at q (remove_other leases_total leases_exact a.pending k q apart) refl

  pub row_gone_here : life_of s (map.insert agents k.cell (without_row a k)) k ≡ record (life_of s agents k) { row = None }
  row_gone_here = new_life s agents a (without_row a k) k at (life_of s agents k).pending None (sym (was_pending s agents a (without_row a k) k at)) (remove_same leases_total leases_exact a.rows k)

  pub row_gone_other : (q : LeaseId) → q ≢ k → life_of s (map.insert agents k.cell (without_row a k)) q ≡ life_of s agents q
  row_gone_other q apart = kept_life s agents a (without_row a k) k at q refl (remove_other leases_total leases_exact a.rows k q apart)

  pub recorded_here : (tree : Tree) (ops : Operations) → life_of (with_recorded s k tree) (map.insert agents k.cell (with_row a k ops)) k ≡ record (life_of s agents k) { recorded = true; pending = None; row = Some ops }
  recorded_here tree ops =
      ap (λ (l : Life). record l { recorded = set.contains (set.insert s.recorded k) k }) (new_life s agents a (with_row a k ops) k at None (Some ops) (remove_same leases_total leases_exact a.pending k) (insert_same leases_total leases_exact a.rows k ops))
      ∙ ap (λ b. record (life_of s agents k) { recorded = b; pending = None; row = Some ops }) (member_put s.recorded k)

  pub recorded_other : (tree : Tree) (ops : Operations) (q : LeaseId) → q ≢ k → life_of (with_recorded s k tree) (map.insert agents k.cell (with_row a k ops)) q ≡ life_of s agents q
  recorded_other tree ops q apart =
      ap (λ (l : Life). record l { recorded = set.contains (set.insert s.recorded k) q }) (kept_life s agents a (with_row a k ops) k at q (remove_other leases_total leases_exact a.pending k q apart) (insert_other leases_total leases_exact a.rows k ops q apart))
      ∙ ap (λ b. record (life_of s agents q) { recorded = b }) (member_put_other s.recorded k q apart)

-- a lease that was opened is open
pub open_here : (s : ClaimMap) (k : LeaseId) (ops : Operations) → map.get (map.insert s.open_leases k ops) k ≡ Some ops
open_here s k ops = insert_same leases_total leases_exact s.open_leases k ops

pub settled_here : (s : ClaimMap) (k : LeaseId) (how : How) → map.get (map.insert s.settled k how) k ≡ Some how
settled_here s k how = insert_same leases_total leases_exact s.settled k how
