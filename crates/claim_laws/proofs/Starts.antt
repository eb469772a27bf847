-- A new installation is a start.
use Rattle.std.proofs.Common.{◌≡◌, inl, inr, ℕ, Bool, true, false, cond, List, [], ◌∷◌, ◌++◌, map, Option, Some, None, refl, sym, ◌∙◌, ap, subst, arith}
use Rattle.std.specs.List.{Contains}
use Rattle.std.specs.Option.{unwrap_or}
use Rattle.std.specs.Ordering.{nat_cmp, eq_by_cmp}
use Rattle.std.specs.Cmp.{nat_cmp_total}
use Rattle.std.specs.FinMap as map
use Rattle.std.specs.FinMap.{find, get-empty, len-empty, get-from_entries, empty}
use Rattle.std.specs.FinSet as set
use Rattle.std.proofs.lemmas.Bool.Decides.{nat_tests}
use Rattle.claim_types.specs.Order.{key_cmp, lease_cmp}
use Rattle.claim_types.specs.declared.cell.Cell.{Cell}
use Rattle.claim_types.specs.declared.key.ClaimKey.{ClaimKey}
use Rattle.claim_types.specs.declared.lease.LeaseId.{LeaseId}
use Rattle.claim_types.specs.declared.lease.Holding.{Holding}
use Rattle.claim_types.specs.declared.operations.Operations.{Operations}
use Rattle.claim_map.specs.Registry.{Registry}
use Rattle.claim_map.specs.State.{empty_tree, tree_of, opening}
use Rattle.claim_map.specs.Claims.{claims_of}
use Rattle.claim_map.specs.Trees.{TreeFits}
use Rattle.claim_map.proofs.Trees.{empty_fits}
use Rattle.claim_map.specs.Sound.{IsClaimed, IsViewed, RecordsAreSound, IsSound}
use Rattle.claim_types.specs.declared.rule.Attempt.{Attempt}
use Rattle.claim_types.specs.Bounds.{IsCell}
use Rattle.claim_laws.specs.Nodes.{Agent}
use Rattle.claim_laws.specs.World.{idle_agent, agent_of}
use Rattle.claim_laws.specs.Lives.{life_of, IsKnown}
use Rattle.claim_laws.specs.Facts.{IsCellInOrder, IsInstalled, IsStart, new_agent, new_world}
use Rattle.cells_base.proofs.Members.{nowhere, here, later}
use Rattle.claim_laws.proofs.Counts.{open_nothing}
use Rattle.claim_map.specs.Bounds.{AreCells}

nothing : {X : Type 0} (o : Option X) (x : X) → o ≡ None → o ≡ Some x → ⊥
nothing o x none some = cc

-- an agent that keeps nothing
record KeepsNothing (a : Agent) : Type 0 where
  pending : a.pending ≡ map.empty
  rows : a.rows ≡ map.empty
  known : a.known ≡ []

found : (cells : List Cell) (id : ℕ) (o : Option Agent) → find nat_cmp id (map (λ (c : Cell). (c.id, new_agent)) cells) ≡ o → KeepsNothing (unwrap_or o idle_agent)
found [] id None h = record { pending = refl; rows = refl; known = refl }
found [] id (Some a) h = absurd cc
found (c ∷ cs) id o h = go (eq_by_cmp nat_cmp id c.id) o h (found cs id o)
  where
    go : (b : Bool) (o : Option Agent) → cond b (Some new_agent) (find nat_cmp id (map (λ (c : Cell). (c.id, new_agent)) cs)) ≡ o → (find nat_cmp id (map (λ (c : Cell). (c.id, new_agent)) cs) ≡ o → KeepsNothing (unwrap_or o idle_agent)) → KeepsNothing (unwrap_or o idle_agent)
    go true o h rest = subst (λ x. KeepsNothing (unwrap_or x idle_agent)) h (record { pending = refl; rows = refl; known = refl })
    go false o h rest = rest h

module _ (registry : Registry) where
  keeps_nothing : (cell : ℕ) → KeepsNothing (agent_of (new_world registry).agents cell)
  keeps_nothing cell =
      let entries_is = get-from_entries nat_cmp_total (map (λ (c : Cell). (c.id, new_agent)) registry.cells) cell in
      found registry.cells cell (map.get (new_world registry).agents cell) (sym entries_is)

  no_pending : (l : LeaseId) (cell : ℕ) → map.get (agent_of (new_world registry).agents cell).pending l ≡ None
  no_pending l cell = ap (λ m. map.get m l) (keeps_nothing cell).pending ∙ get-empty lease_cmp l

  no_row : (l : LeaseId) (cell : ℕ) → map.get (agent_of (new_world registry).agents cell).rows l ≡ None
  no_row l cell = ap (λ m. map.get m l) (keeps_nothing cell).rows ∙ get-empty lease_cmp l

not_in : (l : LeaseId) → set.contains (set.empty {R = lease_cmp}) l ≡ true → ⊥
not_in l is = let both : false ≡ true = sym (set.contains-empty lease_cmp l) ∙ is in cc

no_key : {X : Type 0} (l : LeaseId) (x : X) → map.get (map.empty {R = lease_cmp}) l ≡ Some x → ⊥
no_key l x is = let both : None ≡ Some x = sym (get-empty lease_cmp l) ∙ is in cc

no_holder : (k : ClaimKey) (h : Holding) → map.get (map.empty {R = key_cmp}) k ≡ Some h → ⊥
no_holder k h is = let both : None ≡ Some h = sym (get-empty key_cmp k) ∙ is in cc

no_tree : (cell : ℕ) → tree_of (opening []) cell ≡ empty_tree
no_tree cell = ap (λ o. unwrap_or o empty_tree) (get-empty nat_cmp cell)

no_claims : claims_of empty_tree ≡ []
unfolding claims_of
no_claims = refl

none_claimed : (cell : ℕ) (key : ClaimKey) (h : Holding) → IsClaimed (claims_of (tree_of (opening []) cell)) cell key h → ⊥
none_claimed cell key h claimed = nowhere claimed.claim (subst (λ cs. Contains cs claimed.claim) (ap claims_of (no_tree cell) ∙ no_claims) claimed.stands)

none_viewed : (cell : ℕ) (key : ClaimKey) (h : Holding) → IsViewed (opening []) cell key h → ⊥
none_viewed cell key h (inl kept) = no_holder key h kept.held
none_viewed cell key h (inr due) = not_in due.lease due.recorded

nobody-sound : IsSound (opening [])
nobody-sound = record {
  leases = record {
    well_formed = λ l ops is. absurd (no_key l ops is);
    apart = λ l m a b key la mb ka kb. absurd (no_key l a la);
    unheld = λ l ops c is made. absurd (no_key l ops is);
    held_here = λ l ops key is gone. absurd (no_key l ops is);
    own_rows = λ l ops c is made. absurd (no_key l ops is);
  };
  unsettled = λ l ops is. absurd (no_key l ops is);
  recorded_open = λ l r. absurd (not_in l r);
  few_open = λ cell. let none = open_nothing cell in omega (arith, none);
  ranges = λ k r is. absurd cc;
  claims = record { viewed = λ cell key h claimed. absurd (none_claimed cell key h claimed); claimed = λ cell key h viewed. absurd (none_viewed cell key h viewed) };
  records = λ cell. subst (λ t. RecordsAreSound t []) (sym (no_tree cell)) (record { ids = λ r is. absurd (nowhere r is); placed = λ r is. absurd (nowhere r is) });
}

-- each agent of a new installation is new, and of a cell of the configuration
found_new : (cells : List Cell) (id : ℕ) (a : Agent) → find nat_cmp id (map (λ (c : Cell). (c.id, new_agent)) cells) ≡ Some a → ((c : Cell) → Contains cells c → IsCell c.id) → IsInstalled id a
found_new [] id a h numbers = absurd cc
found_new (c ∷ cs) id a h numbers = go (eq_by_cmp nat_cmp id c.id) refl h (λ rest. found_new cs id a rest (λ d there. numbers d (later c cs d there)))
  where
    tied : eq_by_cmp nat_cmp id c.id ≡ true → id ≡ c.id
    tied h = grind (arith, nat_tests, h)

    go : (b : Bool) → eq_by_cmp nat_cmp id c.id ≡ b → cond b (Some new_agent) (find nat_cmp id (map (λ (c : Cell). (c.id, new_agent)) cs)) ≡ Some a → (find nat_cmp id (map (λ (c : Cell). (c.id, new_agent)) cs) ≡ Some a → IsInstalled id a) → IsInstalled id a
    go true is h rest =
        let same : new_agent ≡ a = cc in
        subst (λ x. IsInstalled id x) same (subst (λ n. IsInstalled n new_agent) (sym (tied is)) (record { number = numbers c (here c cs); epoch_least = omega arith; epoch_most = omega arith }))
    go false is h rest = rest h

pub new-start : (registry : Registry) → AreCells registry → IsStart registry (new_world registry)
new-start registry configured = record {
  configured = configured;
  sound = nobody-sound;
  lives = λ l.
      let waits = λ (attempt : Attempt) (is : map.get (agent_of (new_world registry).agents l.cell).pending l ≡ Some attempt). nothing _ attempt (no_pending registry l l.cell) is in
      let row = λ (ops : Operations) (is : map.get (agent_of (new_world registry).agents l.cell).rows l ≡ Some ops). nothing _ ops (no_row registry l l.cell) is in
      record {
        known_drawn = λ known. absurd (unknown l known);
        pending_drawn = λ attempt is. absurd (waits attempt is);
        unsettled = λ ops is. absurd (no_key l ops is);
        recorded_open = λ r. absurd (not_in l r);
        row_recorded = λ ops theirs is opened. absurd (row ops is);
        row_known = λ ops is. absurd (row ops is);
        pending_rowless = λ attempt is. absurd (waits attempt is);
        pending_unsettled = λ attempt is. absurd (waits attempt is);
        pending_open = λ attempt ops is opened. absurd (waits attempt is);
      };
  cells = λ cell. in_order cell;
  installed = λ cell a is. found_new registry.cells cell a (sym (get-from_entries nat_cmp_total (map (λ (c : Cell). (c.id, new_agent)) registry.cells) cell) ∙ is) configured.ids;
  none_waits = λ cell. (keeps_nothing registry cell).pending;
  nothing_sent = refl;
  nothing_handed = refl;
  no_trace = refl;
  no_notes = refl;
}
  where
    unknown : (l : LeaseId) → IsKnown (life_of (opening []) (new_world registry).agents l) → ⊥
    unknown l (inl opened) = no_key l opened.0 opened.1
    unknown l (inr settled) = no_key l settled.0 settled.1

    empty_cell : (cell : ℕ) (a : Agent) → KeepsNothing a → IsCellInOrder [] cell empty_tree a
    empty_cell cell a none =
        let waits : (l : LeaseId) (attempt : Attempt) → map.get a.pending l ≡ Some attempt → ⊥ = λ l attempt is. no_key l attempt (ap (λ m. map.get m l) (sym none.pending) ∙ is) in
        record {
          room = (let p : map.len a.pending ≡ 0 = ap map.len none.pending ∙ len-empty lease_cmp Attempt in let r : map.len a.rows ≡ 0 = ap map.len none.rows ∙ len-empty lease_cmp Operations in omega (arith, p, r));
          own_attempts = λ l attempt is. absurd (waits l attempt is);
          own_rows = λ l ops is. absurd (no_key l ops (ap (λ m. map.get m l) (sym none.rows) ∙ is));
          known = ([], sym (ap (λ ks. ks ++ []) none.known));
          fits = subst (λ ks. TreeFits empty_tree ks) (sym none.known) empty_fits;
          present_epoch = λ l attempt is. absurd (waits l attempt is);
          well_formed = λ l attempt is. absurd (waits l attempt is);
          asked_before = λ l attempt is. absurd (waits l attempt is);
          asked_now = λ l attempt is at. absurd (waits l attempt is);
        }

    in_order : (cell : ℕ) → IsCellInOrder [] cell (tree_of (opening []) cell) (agent_of (new_world registry).agents cell)
    in_order cell = subst (λ t. IsCellInOrder [] cell t (agent_of (new_world registry).agents cell)) (sym (no_tree cell)) (empty_cell cell (agent_of (new_world registry).agents cell) (keeps_nothing registry cell))
