-- What stands in a list.
use Rattle.std.proofs.Common.{◌≡◌, ℕ, zero, suc, ◌<◌, Bool, true, false, cond, ◌⊎◌, inl, inr, List, [], ◌∷◌, map, length, get_or, Some, refl, sym, ◌∙◌, ap, subst, arith}
use Rattle.std.specs.Prelude.{filter}
use Rattle.std.specs.List.{Contains, slice_get}
use Rattle.std.proofs.lemmas.Option.{slice_get-get_or, slice_get_within, same_Some}

pub here_or_later : {X : Type 0} (x : X) (xs : List X) (y : X) → Contains (x ∷ xs) y → (x ≡ y) ⊎ Contains xs y
here_or_later {X} x xs y h = at h.0 h.1 h.2
  where
    at : (k : ℕ) → k < length (x ∷ xs) → get_or (x ∷ xs) k y ≡ y → (x ≡ y) ⊎ Contains xs y
    at zero lt is = inl is
    at (suc k) lt is = inr (k, omega (arith, lt), is)

pub nowhere : {X : Type 0} (y : X) → Contains [] y → ⊥
nowhere y h = omega (arith, h.1)

pub here : {X : Type 0} (x : X) (xs : List X) → Contains (x ∷ xs) x
here x xs = (0, omega arith, refl)

pub later : {X : Type 0} (x : X) (xs : List X) (y : X) → Contains xs y → Contains (x ∷ xs) y
later x xs y h = (suc h.0, omega (arith, h.1), h.2)

pub at_place : {X : Type 0} (xs : List X) (n : ℕ) (x : X) → slice_get xs n ≡ Some x → Contains xs x
at_place xs n x is = let lt = slice_get_within xs n x is in (n, lt, same_Some _ _ (sym (slice_get-get_or xs n x lt) ∙ is))

pub only : {X : Type 0} (x y : X) → Contains (x ∷ []) y → x ≡ y
only x y h = elim (here_or_later x [] y h) [ inl e ↦ e | inr none ↦ absurd (nowhere y none) ]

module _ {X : Type 0} (p : X → Bool) where
  picks : (x : X) (xs : List X) (b : Bool) → p x ≡ b → (y : X) → Contains (cond b (x ∷ filter p xs) (filter p xs)) y → (Contains (filter p xs) y → Contains xs y × (p y ≡ true)) → Contains (x ∷ xs) y × (p y ≡ true)
  picks x xs true is y h rest = elim (here_or_later x (filter p xs) y h) [
    | inl e ↦ (subst (λ z. Contains (x ∷ xs) z) e (here x xs), ap p (sym e) ∙ is)
    | inr there ↦ (later x xs y (rest there).0, (rest there).1)
  ]
  picks x xs false is y h rest = (later x xs y (rest h).0, (rest h).1)

  pub of_filter : (xs : List X) (y : X) → Contains (filter p xs) y → Contains xs y × (p y ≡ true)
  of_filter [] y h = absurd (nowhere y h)
  of_filter (x ∷ xs) y h = picks x xs (p x) refl y h (of_filter xs y)

  keeps : (x : X) (xs : List X) (b : Bool) → p x ≡ b → (y : X) → p y ≡ true → (x ≡ y) ⊎ Contains (filter p xs) y → Contains (cond b (x ∷ filter p xs) (filter p xs)) y
  keeps x xs true is y passes (inl e) = subst (λ z. Contains (x ∷ filter p xs) z) e (here x (filter p xs))
  keeps x xs true is y passes (inr there) = later x (filter p xs) y there
  keeps x xs false is y passes (inl e) = let both : true ≡ false = sym passes ∙ ap p (sym e) ∙ is in absurd cc
  keeps x xs false is y passes (inr there) = there

  pub in_filter : (xs : List X) (y : X) → Contains xs y → p y ≡ true → Contains (filter p xs) y
  in_filter [] y h passes = absurd (nowhere y h)
  in_filter (x ∷ xs) y h passes = keeps x xs (p x) refl y passes (elim (here_or_later x xs y h) [ inl e ↦ inl e | inr there ↦ inr (in_filter xs y there passes) ])

module _ {X Y : Type 0} (f : X → Y) where
  pub of_map : (xs : List X) (y : Y) → Contains (map f xs) y → (x : X) × Contains xs x × (f x ≡ y)
  of_map [] y h = absurd (nowhere y h)
  of_map (x ∷ xs) y h = elim (here_or_later (f x) (map f xs) y h) [
    | inl e ↦ (x, here x xs, e)
    | inr there ↦ let rest = of_map xs y there in (rest.0, later x xs rest.0 rest.1, rest.2)
  ]

  pub in_map : (xs : List X) (x : X) → Contains xs x → Contains (map f xs) (f x)
  in_map [] x h = absurd (nowhere x h)
  in_map (y ∷ xs) x h = elim (here_or_later y xs x h) [
    | inl e ↦ subst (λ z. Contains (f y ∷ map f xs) (f z)) e (here (f y) (map f xs))
    | inr there ↦ later (f y) (map f xs) (f x) (in_map xs x there)
  ]
