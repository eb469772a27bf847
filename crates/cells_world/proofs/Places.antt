-- One agent of a list is put in its place.
use Rattle.std.proofs.Common.{◌≡◌, ◌≢◌, ◌⊎◌, inl, inr, ⊎_elim, ℕ, zero, suc, List, [], ◌∷◌, set, Some, refl, sym, ◌∙◌, ap, subst}
use Rattle.std.specs.Prelude.{IsSome}
use Rattle.std.specs.List.{Contains, slice_get}
use Rattle.std.specs.FinMap.{nat_cmp-IsAntisymmetric}
use Rattle.std.specs.Cmp.{nat_cmp_total}
use Rattle.std.proofs.lemmas.Option.{slice_get-get_or}
use Rattle.cells_base.proofs.Maps.{same_or_other}
use Rattle.cells_base.proofs.Members.{at_place}
use Rattle.claim_map.specs.Registry.{Registry, cell_of}
use Rattle.reconciler.specs.declared.agent.CellAgent.{CellAgent}
use Rattle.cells_world.specs.Cluster.{AreAgentsOf, IsPlaceOf, PutsOne}

module _ {X : Type 0} where
  set_here : (xs : List X) (n : ℕ) (x y : X) → slice_get xs n ≡ Some y → slice_get (set xs n x) n ≡ Some x
  set_here [] n x y is = absurd cc
  set_here (z ∷ zs) zero x y is = refl
  set_here (z ∷ zs) (suc n) x y is = set_here zs n x y is

  set_other : (xs : List X) (n m : ℕ) (x : X) → m ≢ n → slice_get (set xs n x) m ≡ slice_get xs m
  set_other [] n m x apart = refl
  set_other (z ∷ zs) zero zero x apart = absurd (apart refl)
  set_other (z ∷ zs) zero (suc m) x apart = refl
  set_other (z ∷ zs) (suc n) zero x apart = refl
  set_other (z ∷ zs) (suc n) (suc m) x apart = set_other zs n m x (λ same. apart (ap suc same))

  -- a member stands somewhere
  pub somewhere : (xs : List X) (y : X) → Contains xs y → (k : ℕ) × (slice_get xs k ≡ Some y)
  somewhere xs y there = (there.0, slice_get-get_or xs there.0 y there.1 ∙ ap Some there.2)

pub same_some : {X : Type 0} (x y : X) → Some x ≡ Some y → x ≡ y
same_some x y is = cc

-- the agent that was found for a cell
pub found_agent : (cells read : List CellAgent) → read ≡ cells → (cell place : ℕ) → IsPlaceOf read cell place → (k : CellAgent) × Contains cells k × (k.store.cell ≡ cell)
found_agent cells read same cell place found = (found.0, at_place cells place found.0 (ap (λ xs. slice_get xs place) (sym same) ∙ found.1), found.2)

module _ (registry : Registry) (cells : List CellAgent) (n : ℕ) (k now : CellAgent) (agents : AreAgentsOf registry cells) (here : slice_get cells n ≡ Some k) (same : now.store.cell ≡ k.store.cell) where
  at_now : slice_get (set cells n now) n ≡ Some now
  at_now = set_here cells n now k here

  -- what stands in the list now is this agent, or one that stood there before, in another place
  which : (m : ℕ) (a : CellAgent) → slice_get (set cells n now) m ≡ Some a → ((m ≡ n) × (a ≡ now)) ⊎ ((m ≢ n) × (slice_get cells m ≡ Some a))
  which m a there = go (same_or_other nat_cmp_total nat_cmp-IsAntisymmetric m n)
    where
      go : ((m ≡ n) ⊎ (m ≢ n)) → ((m ≡ n) × (a ≡ now)) ⊎ ((m ≢ n) × (slice_get cells m ≡ Some a))
      go (inl e) = inl (e, same_some a now (sym there ∙ ap (slice_get (set cells n now)) e ∙ at_now))
      go (inr apart) = inr (apart, sym (set_other cells n m now apart) ∙ there)

  pub puts_set : PutsOne cells now (set cells n now)
  puts_set = record {
    put = at_place (set cells n now) n now at_now;
    each = λ a there. (let at = somewhere (set cells n now) a there in
        ⊎_elim (λ is. inl is.1) (λ old. inr (at_place cells at.0 a old.1, λ clash. old.0 (agents.apart at.0 n a k old.1 here (clash ∙ same)))) (which at.0 a at.1));
    others = λ a there apart. (let at = somewhere cells a there in
        at_place (set cells n now) at.0 a (set_other cells n at.0 now (λ e. apart (ap (λ (x : CellAgent). x.store.cell) (same_some a k (sym at.1 ∙ ap (slice_get cells) e ∙ here)) ∙ sym same)) ∙ at.1));
  }

  pub agents_set : AreAgentsOf registry (set cells n now)
  agents_set = record {
    there = λ id known. (let was = agents.there id known in
        ⊎_elim
        (λ (e : was.0.store.cell ≡ now.store.cell). (now, puts_set.put, sym e ∙ was.2))
        (λ apart. (was.0, puts_set.others was.0 was.1 apart, was.2))
        (same_or_other nat_cmp_total nat_cmp-IsAntisymmetric was.0.store.cell now.store.cell));
    known = λ a there. ⊎_elim
        (λ (is : a ≡ now). subst (λ q. IsSome (cell_of registry q)) (sym (cell_of_now a is)) (agents.known k (at_place cells n k here)))
        (λ old. agents.known a old.0)
        (puts_set.each a there);
    apart = λ i j a b at_i at_j clash. places i j a b clash (which i a at_i) (which j b at_j);
  }
    where
      cell_of_now : (a : CellAgent) → a ≡ now → a.store.cell ≡ k.store.cell
      cell_of_now a is = ap (λ (x : CellAgent). x.store.cell) is ∙ same

      places : (i j : ℕ) (a b : CellAgent) → a.store.cell ≡ b.store.cell → ((i ≡ n) × (a ≡ now)) ⊎ ((i ≢ n) × (slice_get cells i ≡ Some a)) → ((j ≡ n) × (b ≡ now)) ⊎ ((j ≢ n) × (slice_get cells j ≡ Some b)) → i ≡ j
      places i j a b clash (inl x) (inl y) = x.0 ∙ sym y.0
      places i j a b clash (inl x) (inr y) = absurd (y.0 (agents.apart j n b k y.1 here (sym clash ∙ cell_of_now a x.1)))
      places i j a b clash (inr x) (inl y) = absurd (x.0 (agents.apart i n a k x.1 here (clash ∙ cell_of_now b y.1)))
      places i j a b clash (inr x) (inr y) = agents.apart i j a b x.1 y.1 clash
