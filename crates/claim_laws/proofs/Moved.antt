-- What a node's act leaves of the claim map and of the cells' trees.
use Rattle.std.proofs.Common.{◌≡◌, ◌≢◌, inl, inr, ⊎_elim, ℕ, ◌≤◌, Bool, true, false, cond, List, [], ◌∷◌, ◌++◌, length, Option, Some, None, is_some, refl, sym, ◌∙◌, ap, subst, arith}
use Rattle.std.specs.Option.{unwrap_or}
use Rattle.std.specs.List.{slice_get}
use Rattle.std.specs.FinMap as map
use Rattle.std.specs.FinMap.{nat_cmp-IsAntisymmetric}
use Rattle.std.specs.Cmp.{nat_cmp_total}
use Rattle.std.proofs.lemmas.Option.{slice_get_within}
use Rattle.cells_base.proofs.Maps.{insert_same, insert_other}
use Rattle.claim_types.specs.declared.cell.Cell.{Cell}
use Rattle.claim_types.specs.declared.cell.Range.{Range}
use Rattle.claim_types.specs.declared.lease.LeaseId.{LeaseId}
use Rattle.claim_types.specs.declared.lease.How.{How}
use Rattle.claim_types.specs.declared.lease.How.TheVariants.{Committed as AsCommitted, RolledBack as AsRolledBack}
use Rattle.claim_types.specs.declared.operations.Operations.{Operations}
use Rattle.claim_types.specs.declared.rule.Attempt.{Attempt}
use Rattle.claim_types.specs.declared.rule.Ended.{Ended}
use Rattle.claim_types.specs.declared.rule.Ended.TheVariants.{Denied as EndedDenied, Changed as EndedChanged}
use Rattle.claim_types.specs.declared.step.Step.{Step}
use Rattle.claim_types.specs.declared.verdict.Verdict.{Verdict}
use Rattle.claim_types.specs.declared.verdict.Verdict.TheVariants.{Fresh, Again, Refused}
use Rattle.claim_types.specs.declared.message.Request.{Request}
use Rattle.claim_types.specs.declared.message.Request.TheVariants.{Begin, Commit, Rollback, List as ListRequest, Range as RangeRequest, Claims as ClaimsRequest, Classify, Page as PageRequest}
use Rattle.claim_types.specs.declared.message.Reply.{Reply}
use Rattle.claim_map.specs.Registry.{Registry, cell_of}
use Rattle.claim_map.specs.State.{ClaimMap, Tree, empty_tree, tree_of, ranges_of, leases_of}
use Rattle.claim_map.specs.Records.{changed_by}
use Rattle.claim_map.specs.Step.{after_any}
use Rattle.claim_map.specs.Verdict.{verdict_of}
use Rattle.claim_map.specs.Ranges.{RangeVerdict, unknown_cell, kept, too_far, exhausted, fresh, range_verdict, ranges_after, follows, AreRanges}
use Rattle.claim_map.specs.Due.{Due, due, begin_due, commit_due, rollback_due, range_due}
use Rattle.claim_map.proofs.Ranges.{ranges_after-sound, slice_get-push}
use Rattle.claim_map.proofs.Stable.{stays}
use Rattle.claim_laws.specs.Nodes.{Agent, Heard, KeepsInOrder, hears}
use Rattle.claim_laws.specs.World.{World, agent_of}
use Rattle.claim_laws.specs.Acts.{with_step, with_note}
use Rattle.claim_laws.specs.Files.{service_of}
use Rattle.claim_laws.specs.Facts.{IsCellInOrder, IsInOrder}
use Rattle.claim_laws.proofs.Looks.{agent_is}
use Rattle.claim_laws.proofs.HeardStep.{Leaves, Records, heard_step}

-- no step that is due changes a tree
abbrev SameTrees : ClaimMap → Due → Type 0
SameTrees s d = (after_any s d.step).trees ≡ s.trees

module _ (registry : Registry) (s : ClaimMap) where
  in_cell : (b : Bool) (d other : Due) → SameTrees s d → SameTrees s other → SameTrees s (cond b d other)
  in_cell true d other x y = x
  in_cell false d other x y = y

  begin_trees : (lease : LeaseId) (ops : Operations) (v : Verdict) → SameTrees s (begin_due lease ops v)
  begin_trees lease ops Fresh = refl
  begin_trees lease ops Again = refl
  begin_trees lease ops (Refused reason) = refl

  commit_trees : (lease : LeaseId) (o : Option Operations) (how : Option How) → SameTrees s (commit_due lease o how)
  commit_trees lease (Some ops) how = refl
  commit_trees lease None (Some AsCommitted) = refl
  commit_trees lease None (Some AsRolledBack) = refl
  commit_trees lease None None = refl

  rollback_trees : (lease : LeaseId) (how : Option How) → SameTrees s (rollback_due lease how)
  rollback_trees lease None = refl
  rollback_trees lease (Some AsCommitted) = refl
  rollback_trees lease (Some AsRolledBack) = refl

  range_trees : (cell number : ℕ) (v : RangeVerdict) → SameTrees s (range_due cell number v)
  range_trees cell number unknown_cell = refl
  range_trees cell number (kept range) = refl
  range_trees cell number (too_far next) = refl
  range_trees cell number (exhausted last) = refl
  range_trees cell number (fresh range) = refl

  pub due_trees : (request : Request) → SameTrees s (due registry s request)
  due_trees (Begin lease ops) = in_cell (is_some (cell_of registry lease.cell)) _ _ (begin_trees lease ops (verdict_of (leases_of s) s.ranges lease ops)) refl
  due_trees (Commit lease) = in_cell (is_some (cell_of registry lease.cell)) _ _ (commit_trees lease (map.get s.open_leases lease) (map.get s.settled lease)) refl
  due_trees (Rollback lease) = in_cell (is_some (cell_of registry lease.cell)) _ _ (rollback_trees lease (map.get s.settled lease)) refl
  due_trees (ListRequest cell last) = in_cell (is_some (cell_of registry cell)) _ _ refl refl
  due_trees (RangeRequest cell number) = range_trees cell number (range_verdict registry s.ranges cell number)
  due_trees (ClaimsRequest cell bucket first last behind) = in_cell (is_some (cell_of registry cell)) _ _ refl refl
  due_trees (Classify question) = refl
  due_trees (PageRequest cell path named) = refl

-- a range that is given fresh follows those before it
last_place : {X : Type 0} (xs : List X) (y : X) → slice_get (xs ++ y ∷ []) (length xs) ≡ Some y
last_place [] y = refl
last_place (x ∷ xs) y = last_place xs y

pub fresh_follows : (registry : Registry) (given : List Range) → AreRanges given → ((c : Cell) (id : ℕ) → cell_of registry id ≡ Some c → 1 ≤ c.width) → (cell number : ℕ) (r : Range) → range_verdict registry given cell number ≡ fresh r → follows given r ≡ true
fresh_follows registry given sound wide cell number r is =
    let all : AreRanges (given ++ r ∷ []) = subst (λ v. AreRanges (ranges_after v given)) is (ranges_after-sound given sound registry cell number (λ c found. wide c cell found)) in
    let at = last_place given r in
    elim (slice_get-push given r (length given) r at) [
      | inl old ↦ let lt = slice_get_within given (length given) r old.0 in absurd (omega (arith, lt))
      | inr new ↦ subst (λ (rs : List Range). follows rs r ≡ true) new.1 (all (length given) r at)
    ]

pub steps_claims : (step : Option Step) (v : World) → (with_step step v).claims ≡ after_any v.claims step
steps_claims None v = refl
steps_claims (Some step) v = refl

pub steps_agents : (step : Option Step) (v : World) → (with_step step v).agents ≡ v.agents
steps_agents None v = refl
steps_agents (Some step) v = refl

pub noted_claims : (e : Option Ended) (v : World) → (with_note e v).claims ≡ v.claims
noted_claims None v = refl
noted_claims (Some (EndedDenied lease denial)) v = refl
noted_claims (Some (EndedChanged lease before now)) v = refl

pub noted_agents : (e : Option Ended) (v : World) → (with_note e v).agents ≡ v.agents
noted_agents None v = refl
noted_agents (Some (EndedDenied lease denial)) v = refl
noted_agents (Some (EndedChanged lease before now)) v = refl

-- what a cell of a world in order keeps of itself
module _ (registry : Registry) (beginning : ClaimMap) (w : World) (order : IsInOrder registry beginning w) (cell : ℕ) (a : Agent) (at : map.get w.agents cell ≡ Some a) where
  here : agent_of w.agents cell ≡ a
  here = agent_is w.claims w.agents a a (record { cell = cell; epoch = 0; attempt = 0 }) at

  pub cell_fine : IsCellInOrder (ranges_of w.claims.ranges cell) cell (tree_of w.claims cell) a
  cell_fine = subst (IsCellInOrder (ranges_of w.claims.ranges cell) cell (tree_of w.claims cell)) here (order.cells cell)

  agent_at : (l : LeaseId) → l.cell ≡ cell → agent_of w.agents l.cell ≡ a
  agent_at l e = ap (agent_of w.agents) e ∙ here

  pub keeps_in_order : KeepsInOrder cell a
  keeps_in_order =
      let fine = cell_fine in
      let pending : (l : LeaseId) (attempt : Attempt) → map.get a.pending l ≡ Some attempt → map.get (agent_of w.agents l.cell).pending l ≡ Some attempt =
      λ l attempt is. ap (λ (x : Agent). map.get x.pending l) (agent_at l (fine.own_attempts l attempt is)) ∙ is in
      record {
        attempt_here = fine.own_attempts;
        attempt_now = fine.present_epoch;
        attempt_drawn = λ l attempt is. (
            let drawn = (order.lives l).pending_drawn attempt (pending l attempt is) in
            let now : l.epoch ≡ a.epoch = fine.present_epoch l attempt is in
            let same : agent_of w.agents l.cell ≡ a = agent_at l (fine.own_attempts l attempt is) in
            let epochs : (agent_of w.agents l.cell).epoch ≡ a.epoch = ap (λ (x : Agent). x.epoch) same in
            let counts : (agent_of w.agents l.cell).drawn ≡ a.drawn = ap (λ (x : Agent). x.drawn) same in
            elim drawn.1 [ inl lt ↦ absurd (omega (arith, lt, now, epochs)) | inr both ↦ (let le = both.1 in omega (arith, le, counts)) ]);
        attempt_rowless = λ l attempt is. ap (λ (x : Agent). map.get x.rows l) (sym (agent_at l (fine.own_attempts l attempt is))) ∙ (order.lives l).pending_rowless attempt (pending l attempt is);
        row_here = fine.own_rows;
        room = fine.room;
      }

  -- what it hears changes its own tree alone
  module _ (reply : Reply) where
    abbrev h : Heard
    h = hears cell (tree_of w.claims cell) a reply

    pub record HeardAlone : Type 0 where
      pub service : service_of (after_any w.claims h.step) ≡ service_of w.claims
      pub here : tree_of (after_any w.claims h.step) cell ≡ h.tree
      pub there : (q : ℕ) → q ≢ cell → tree_of (after_any w.claims h.step) q ≡ tree_of w.claims q

    pub heard_alone : HeardAlone
    heard_alone = ⊎_elim stays_so records_so (heard_step cell (tree_of w.claims cell) a keeps_in_order reply)
      where
        stays_so : Leaves cell (tree_of w.claims cell) a h → HeardAlone
        stays_so is = record {
          service = ap (λ s. service_of (after_any w.claims s)) is.step;
          here = ap (λ s. tree_of (after_any w.claims s) cell) is.step ∙ sym is.same;
          there = λ q apart. ap (λ s. tree_of (after_any w.claims s) q) is.step;
        }

        records_so : Records cell (tree_of w.claims cell) a h → HeardAlone
        records_so is =
            let new_tree : Tree = changed_by (tree_of w.claims is.lease.cell) is.change (ranges_of w.claims.ranges is.lease.cell) in
            let known = cell_fine.known in
            let same_tree : new_tree ≡ h.tree =
            ap (λ c. changed_by (tree_of w.claims c) is.change (ranges_of w.claims.ranges c)) is.here
            ∙ ap (changed_by (tree_of w.claims cell) is.change) known.1 ∙ (stays (tree_of w.claims cell) is.change a.known known.0 is.no_rule).changed ∙ sym is.changed in
            record {
              service = ap (λ s. service_of (after_any w.claims s)) is.step;
              here = ap (λ s. tree_of (after_any w.claims s) cell) is.step
                  ∙ ap (λ c. unwrap_or (map.get (map.insert w.claims.trees c new_tree) cell) empty_tree) is.here
                  ∙ ap (λ o. unwrap_or o empty_tree) (insert_same nat_cmp_total nat_cmp-IsAntisymmetric w.claims.trees cell new_tree) ∙ same_tree;
              there = λ q apart. ap (λ s. tree_of (after_any w.claims s) q) is.step
                  ∙ ap (λ c. unwrap_or (map.get (map.insert w.claims.trees c new_tree) q) empty_tree) is.here
                  ∙ ap (λ o. unwrap_or o empty_tree) (insert_other nat_cmp_total nat_cmp-IsAntisymmetric w.claims.trees cell new_tree q apart);
            }
