-- How routes move where a record gets another name, claim by claim.
use Rattle.std.proofs.Common.{◌≡◌, ◌≢◌, ◌⊎◌, inl, inr, ℕ, ◌<◌, Bool, true, false, not, cond, nat_eq, List, [], ◌∷◌, ◌++◌, map, Option, Some, None, refl, sym, ◌∙◌, ap, subst, arith}
use Rattle.std.specs.Prelude.{filter}
use Rattle.std.specs.Char.{to_ascii_lowercase}
use Rattle.std.proofs.lemmas.Bool.Decides.{Decides-eqb}
use Rattle.std.proofs.lemmas.Str.Ascii.{lowercase-lowercase}
use Rattle.claim_types.specs.Order.{create_eq}
use Rattle.claim_types.specs.declared.operations.Create.{Create}
use Rattle.claim_map.specs.Claims.{route_of, is_among}
use Rattle.record_tree.specs.Fresh.{fresh, UpTo}
use Rattle.record_tree.proofs.Fresh.{up_to_push, up_to_more, eq_itself, fresh_push}
use Rattle.record_tree.proofs.Looks.{own_route, route_none, route_other, route_own}
use Rattle.claim_map.specs.Classification.{is_route}
use Rattle.cells_base.proofs.Truth.{true_or_false}

abbrev pub lower : List ℕ → List ℕ
lower text = map to_ascii_lowercase text

pub lower_lower : (text : List ℕ) → lower (lower text) ≡ lower text
lower_lower [] = refl
lower_lower (b ∷ bs) = ap (λ x. x ∷ lower (lower bs)) (lowercase-lowercase b) ∙ ap (λ xs. to_ascii_lowercase b ∷ xs) (lower_lower bs)

-- how a record's route is before, afterwards, among what is new, and among what is gone
pub data RouteMove (old new moved gone : Option (List ℕ)) : Type 0 where
  stays : new ≡ old → moved ≡ None → RouteMove old new moved gone
  moves : (u v : List ℕ) → old ≡ Some u → new ≡ Some v → moved ≡ Some v → gone ≡ Some u → lower u ≢ lower v → RouteMove old new moved gone

as_well : (old new moved left old' new' moved' left' : Option (List ℕ)) → old' ≡ old → new' ≡ new → moved' ≡ moved → left' ≡ left → RouteMove old new moved left → RouteMove old' new' moved' left'
as_well old new moved left old' new' moved' left' eo en em eg (stays e m) = stays (en ∙ e ∙ sym eo) (em ∙ m)
as_well old new moved left old' new' moved' left' eo en em eg (moves u v o n m g apart) = moves u v (eo ∙ o) (en ∙ n) (em ∙ m) (eg ∙ g) apart

-- the claims of the same records before and afterwards
pub record Moving (last : ℕ) (before afterwards : List Create) : Type 0 where
  pub up : UpTo last before
  pub up_after : UpTo last afterwards
  pub routes : (id : ℕ) → RouteMove (route_of before id) (route_of afterwards id) (route_of (fresh before afterwards) id) (route_of (fresh afterwards before) id)

up_to_filter : (p : Create → Bool) (last : ℕ) (cs : List Create) → UpTo last cs → UpTo last (filter p cs)
up_to_filter p last [] up = tt
up_to_filter p last (c ∷ cs) up = go (p c) (up_to_filter p last cs up.1)
  where
    go : (b : Bool) → UpTo last (filter p cs) → UpTo last (cond b (c ∷ filter p cs) (filter p cs))
    go true rest = (up.0, rest)
    go false rest = rest

up_to_fresh : (last : ℕ) (before afterwards : List Create) → UpTo last afterwards → UpTo last (fresh before afterwards)
up_to_fresh last before afterwards up = up_to_filter (λ c. not (is_among before c)) last afterwards up

append_nil : (cs : List Create) → cs ++ [] ≡ cs
append_nil [] = refl
append_nil (c ∷ cs) = ap (λ xs. c ∷ xs) (append_nil cs)

id_or_other : (m n : ℕ) → (m ≡ n) ⊎ (m ≢ n)
id_or_other m n = elim (true_or_false (nat_eq m n)) [
  | inl h ↦ inl ((Decides-eqb m n).0 h)
  | inr h ↦ inr (λ e. let both : true ≡ false = sym ((Decides-eqb m n).1 e) ∙ h in cc)
]

module _ (last : ℕ) (before afterwards : List Create) (m : Moving last before afterwards) where
  -- a claim that is the same before and afterwards
  pub fresh_stays : (c : Create) → last < c.origin.row → fresh (before ++ c ∷ []) (afterwards ++ c ∷ []) ≡ fresh before afterwards
  fresh_stays c lt =
      fresh_push last before afterwards c c m.up m.up_after lt lt
      ∙ ap (λ b. fresh before afterwards ++ cond b [] (c ∷ [])) (eq_itself c) ∙ append_nil (fresh before afterwards)

  pub gone_stays : (c : Create) → last < c.origin.row → fresh (afterwards ++ c ∷ []) (before ++ c ∷ []) ≡ fresh afterwards before
  gone_stays c lt =
      fresh_push last afterwards before c c m.up_after m.up lt lt
      ∙ ap (λ b. fresh afterwards before ++ cond b [] (c ∷ [])) (eq_itself c) ∙ append_nil (fresh afterwards before)

  pub same_moving : (c : Create) → last < c.origin.row → Moving c.origin.row (before ++ c ∷ []) (afterwards ++ c ∷ [])
  same_moving c lt = record {
    up = up_to_push c.origin.row before c (up_to_more last c.origin.row before (omega (arith, lt)) m.up) (omega arith);
    up_after = up_to_push c.origin.row afterwards c (up_to_more last c.origin.row afterwards (omega (arith, lt)) m.up_after) (omega arith);
    routes = λ id. elim (id_or_other c.origin.row id) [
      | inl e ↦ subst (λ n. RouteMove (route_of (before ++ c ∷ []) n) (route_of (afterwards ++ c ∷ []) n) (route_of (fresh (before ++ c ∷ []) (afterwards ++ c ∷ [])) n) (route_of (fresh (afterwards ++ c ∷ []) (before ++ c ∷ [])) n)) e
          (stays (route_own last afterwards c m.up_after lt ∙ sym (route_own last before c m.up lt))
          (ap (λ xs. route_of xs c.origin.row) (fresh_stays c lt) ∙ route_none last (fresh before afterwards) c.origin.row (up_to_fresh last before afterwards m.up_after) lt))
      | inr apart ↦ as_well _ _ _ _ _ _ _ _ (route_other before c id apart) (route_other afterwards c id apart)
          (ap (λ xs. route_of xs id) (fresh_stays c lt)) (ap (λ xs. route_of xs id) (gone_stays c lt)) (m.routes id)
    ];
  }

  -- a claim that another one takes the place of
  pub fresh_moves : (c d : Create) → last < c.origin.row → last < d.origin.row → create_eq c d ≡ false → fresh (before ++ c ∷ []) (afterwards ++ d ∷ []) ≡ fresh before afterwards ++ d ∷ []
  fresh_moves c d lt lt' apart =
      fresh_push last before afterwards c d m.up m.up_after lt lt'
      ∙ ap (λ b. fresh before afterwards ++ cond b [] (d ∷ [])) apart

  pub gone_moves : (c d : Create) → last < c.origin.row → last < d.origin.row → create_eq d c ≡ false → fresh (afterwards ++ d ∷ []) (before ++ c ∷ []) ≡ fresh afterwards before ++ c ∷ []
  gone_moves c d lt lt' apart =
      fresh_push last afterwards before d c m.up_after m.up lt' lt
      ∙ ap (λ b. fresh afterwards before ++ cond b [] (c ∷ [])) apart

  pub moved_moving : (c d : Create) → last < c.origin.row → c.origin.row ≡ d.origin.row → c.key.bucket ≡ d.key.bucket → lower c.key.value ≢ lower d.key.value → create_eq c d ≡ false → create_eq d c ≡ false →
      Moving c.origin.row (before ++ c ∷ []) (afterwards ++ d ∷ [])
  moved_moving c d lt row bucket apart ne ne' = record {
    up = up_to_push c.origin.row before c (up_to_more last c.origin.row before (omega (arith, lt)) m.up) (omega arith);
    up_after = up_to_push c.origin.row afterwards d (up_to_more last c.origin.row afterwards (omega (arith, lt)) m.up_after) (omega (arith, row));
    routes = λ id. elim (id_or_other c.origin.row id) [
      | inl e ↦ subst (λ n. RouteMove (route_of (before ++ c ∷ []) n) (route_of (afterwards ++ d ∷ []) n) (route_of (fresh (before ++ c ∷ []) (afterwards ++ d ∷ [])) n) (route_of (fresh (afterwards ++ d ∷ []) (before ++ c ∷ [])) n)) e
          (as_well _ _ _ _ _ _ _ _ (route_own last before c m.up lt)
          (ap (λ n. route_of (afterwards ++ d ∷ []) n) row ∙ route_own last afterwards d m.up_after lt')
          (ap (λ xs. route_of xs c.origin.row) (fresh_moves c d lt lt' ne) ∙ ap (λ n. route_of (fresh before afterwards ++ d ∷ []) n) row ∙ route_own last (fresh before afterwards) d (up_to_fresh last before afterwards m.up_after) lt')
          (ap (λ xs. route_of xs c.origin.row) (gone_moves c d lt lt' ne') ∙ route_own last (fresh afterwards before) c (up_to_fresh last afterwards before m.up) lt)
          own)
      | inr other ↦ as_well _ _ _ _ _ _ _ _ (route_other before c id other) (route_other afterwards d id (λ e. other (row ∙ e)))
          (ap (λ xs. route_of xs id) (fresh_moves c d lt lt' ne) ∙ route_other (fresh before afterwards) d id (λ e. other (row ∙ e)))
          (ap (λ xs. route_of xs id) (gone_moves c d lt lt' ne') ∙ route_other (fresh afterwards before) c id other) (m.routes id)
    ];
  }
    where
      lt' : last < d.origin.row
      lt' = subst (λ n. last < n) row lt

      at : (b : Bool) → RouteMove (cond b (Some c.key.value) None) (cond b (Some d.key.value) None) (cond b (Some d.key.value) None) (cond b (Some c.key.value) None)
      at true = moves c.key.value d.key.value refl refl refl refl apart
      at false = stays refl refl

      own : RouteMove (own_route c) (own_route d) (own_route d) (own_route c)
      own = subst (λ k. RouteMove (own_route c) (cond (is_route k) (Some d.key.value) None) (cond (is_route k) (Some d.key.value) None) (own_route c)) bucket
          (at (is_route c.key.bucket))
