-- A rename changes the claims of its record and of what moves with it, and the walk over the records behind it finds these.
use Rattle.std.proofs.Common.{◌≡◌, ◌≢◌, ℕ, ◌<◌, Bool, true, false, ◌&&◌, cond, List, [], ◌∷◌, ◌++◌, Some, None, is_some, refl, sym, ◌∙◌, ap, subst}
use Rattle.std.specs.Char.{to_ascii_lowercase}
use Rattle.std.proofs.lemmas.List.{append_cancel_right, map-append}
use Rattle.claim_types.specs.Order.{create_eq}
use Rattle.claim_types.specs.declared.operations.Create.{Create}
use Rattle.claim_types.specs.declared.record.Record.{Record}
use Rattle.claim_types.proofs.Equal.{Decides-create}
use Rattle.claim_map.specs.Trees.{AreAscending}
use Rattle.claim_map.specs.Claims.{continues_route, route_of, route_below, claim_of_record, claims_from}
use Rattle.record_tree.specs.Fresh.{fresh}
use Rattle.record_tree.specs.Moved.{Moved, with_claim, moved_on, moved_among}
use Rattle.record_tree.proofs.Moves.{lower, lower_lower, RouteMove, stays, moves, Moving, same_moving, fresh_stays, gone_stays, moved_moving, fresh_moves, gone_moves}
use Rattle.cells_base.proofs.Truth.{not_true}

-- claims with other values are others
pub other_value : (a b : Create) → lower a.key.value ≢ lower b.key.value → create_eq a b ≡ false
other_value a b apart = not_true (create_eq a b) (λ h. apart (ap (λ (c : Create). lower c.key.value) ((Decides-create a b).0 h)))

-- two routes that differ go on to texts that differ
still_apart : (u v name : List ℕ) → lower u ≢ lower v → lower (lower (u ++ 47 ∷ name)) ≢ lower (lower (v ++ 47 ∷ name))
still_apart u v name apart same =
    let whole : lower (u ++ 47 ∷ name) ≡ lower (v ++ 47 ∷ name) = sym (lower_lower (u ++ 47 ∷ name)) ∙ same ∙ lower_lower (v ++ 47 ∷ name) in
    let parts : lower u ++ lower (47 ∷ name) ≡ lower v ++ lower (47 ∷ name) = sym (map-append to_ascii_lowercase u (47 ∷ name)) ∙ whole ∙ map-append to_ascii_lowercase v (47 ∷ name) in
    apart (append_cancel_right (lower u) (lower v) (lower (47 ∷ name)) parts)

-- the claim of a record whose text this is
abbrev pub claim_with : Record → List ℕ → Create
claim_with r text = record (claim_of_record [] r) { key = record { bucket = (claim_of_record [] r).key.bucket; value = lower text } }

-- what the walk has found once it has passed these records
pub record Walked (last : ℕ) (before afterwards : List Create) (m : Moved) : Type 0 where
  pub moving : Moving last before afterwards
  pub new : fresh before afterwards ≡ m.afterwards
  pub old : fresh afterwards before ≡ m.before

module _ (last : ℕ) (before afterwards : List Create) (m : Moved) (w : Walked last before afterwards m) (r : Record) (lt : last < r.id) where
  same_step : claim_of_record afterwards r ≡ claim_of_record before r → Walked r.id (before ++ claim_of_record before r ∷ []) (afterwards ++ claim_of_record afterwards r ∷ []) m
  same_step e = subst (λ d. Walked r.id (before ++ claim_of_record before r ∷ []) (afterwards ++ d ∷ []) m) (sym e) (record {
    moving = same_moving last before afterwards w.moving (claim_of_record before r) lt;
    new = fresh_stays last before afterwards w.moving (claim_of_record before r) lt ∙ w.new;
    old = gone_stays last before afterwards w.moving (claim_of_record before r) lt ∙ w.old;
  })

  moved_step : lower (claim_of_record before r).key.value ≢ lower (claim_of_record afterwards r).key.value →
      claim_of_record afterwards r ≡ claim_of_record m.afterwards r → claim_of_record before r ≡ claim_of_record m.before r →
      Walked r.id (before ++ claim_of_record before r ∷ []) (afterwards ++ claim_of_record afterwards r ∷ []) (with_claim m r)
  moved_step apart ea eb =
      let ne = other_value (claim_of_record before r) (claim_of_record afterwards r) apart in
      let ne' = other_value (claim_of_record afterwards r) (claim_of_record before r) (λ e. apart (sym e)) in
      record {
        moving = moved_moving last before afterwards w.moving (claim_of_record before r) (claim_of_record afterwards r) lt refl refl apart ne ne';
        new = fresh_moves last before afterwards w.moving (claim_of_record before r) (claim_of_record afterwards r) lt lt ne ∙ ap (λ xs. xs ++ claim_of_record afterwards r ∷ []) w.new ∙ ap (λ c. m.afterwards ++ c ∷ []) ea;
        old = gone_moves last before afterwards w.moving (claim_of_record before r) (claim_of_record afterwards r) lt lt ne' ∙ ap (λ xs. xs ++ claim_of_record before r ∷ []) w.old ∙ ap (λ c. m.before ++ c ∷ []) eb;
      }

  step : Walked r.id (before ++ claim_of_record before r ∷ []) (afterwards ++ claim_of_record afterwards r ∷ []) (moved_on m r)
  step = at (continues_route r.kind) refl
    where
      claim_at : (b : Bool) → continues_route r.kind ≡ b → (claims : List Create) → claim_of_record claims r ≡ claim_with r (cond b (route_below (route_of claims r.parent) r.name) r.name)
      claim_at b is claims = ap (λ b. claim_with r (cond b (route_below (route_of claims r.parent) r.name) r.name)) is

      under : continues_route r.kind ≡ true → RouteMove (route_of before r.parent) (route_of afterwards r.parent) (route_of (fresh before afterwards) r.parent) (route_of (fresh afterwards before) r.parent) →
          Walked r.id (before ++ claim_of_record before r ∷ []) (afterwards ++ claim_of_record afterwards r ∷ []) (cond (is_some (route_of m.afterwards r.parent)) (with_claim m r) m)
      under is (stays same none) =
          let unmoved : route_of m.afterwards r.parent ≡ None = ap (λ xs. route_of xs r.parent) (sym w.new) ∙ none in
          subst (λ o. Walked r.id (before ++ claim_of_record before r ∷ []) (afterwards ++ claim_of_record afterwards r ∷ []) (cond (is_some o) (with_claim m r) m)) (sym unmoved)
          (same_step (claim_at true is afterwards ∙ ap (λ o. claim_with r (route_below o r.name)) same ∙ sym (claim_at true is before)))
      under is (moves u v old new moved left apart) =
          let now : route_of m.afterwards r.parent ≡ Some v = ap (λ xs. route_of xs r.parent) (sym w.new) ∙ moved in
          let then : route_of m.before r.parent ≡ Some u = ap (λ xs. route_of xs r.parent) (sym w.old) ∙ left in
          let b : claim_of_record before r ≡ claim_with r (u ++ 47 ∷ r.name) = claim_at true is before ∙ ap (λ o. claim_with r (route_below o r.name)) old in
          let a : claim_of_record afterwards r ≡ claim_with r (v ++ 47 ∷ r.name) = claim_at true is afterwards ∙ ap (λ o. claim_with r (route_below o r.name)) new in
          subst (λ o. Walked r.id (before ++ claim_of_record before r ∷ []) (afterwards ++ claim_of_record afterwards r ∷ []) (cond (is_some o) (with_claim m r) m)) (sym now)
          (moved_step
          (λ e. still_apart u v r.name apart (ap (λ (c : Create). lower c.key.value) (sym b) ∙ e ∙ ap (λ (c : Create). lower c.key.value) a))
          (a ∙ sym (claim_at true is m.afterwards ∙ ap (λ o. claim_with r (route_below o r.name)) now))
          (b ∙ sym (claim_at true is m.before ∙ ap (λ o. claim_with r (route_below o r.name)) then)))

      at : (b : Bool) → continues_route r.kind ≡ b → Walked r.id (before ++ claim_of_record before r ∷ []) (afterwards ++ claim_of_record afterwards r ∷ []) (moved_on m r)
      at true is = subst (λ b. Walked r.id (before ++ claim_of_record before r ∷ []) (afterwards ++ claim_of_record afterwards r ∷ []) (cond (b && is_some (route_of m.afterwards r.parent)) (with_claim m r) m)) (sym is)
          (under is (w.moving.routes r.parent))
      at false is = subst (λ b. Walked r.id (before ++ claim_of_record before r ∷ []) (afterwards ++ claim_of_record afterwards r ∷ []) (cond (b && is_some (route_of m.afterwards r.parent)) (with_claim m r) m)) (sym is)
          (same_step (claim_at false is afterwards ∙ sym (claim_at false is before)))

-- the walk over records behind
abbrev pub last_of : ℕ → List Record → ℕ
last_of last [] = last
last_of last (r ∷ rs) = last_of r.id rs

pub walk : (last : ℕ) (before afterwards : List Create) (m : Moved) (rs : List Record) → Walked last before afterwards m → AreAscending last rs →
    Walked (last_of last rs) (claims_from before rs) (claims_from afterwards rs) (moved_among m rs)
walk last before afterwards m [] w up = w
walk last before afterwards m (r ∷ rs) w up =
    walk r.id (before ++ claim_of_record before r ∷ []) (afterwards ++ claim_of_record afterwards r ∷ []) (moved_on m r) rs (step last before afterwards m w r up.0) up.1
