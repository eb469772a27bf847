-- What a search through a list finds.
use Rattle.std.proofs.Common.{◌≡◌, ◌⊎◌, inl, inr, ℕ, zero, suc, Bool, true, false, ◌||◌, cond, List, [], ◌∷◌, ◌++◌, Option, Some, None, refl, sym, ◌∙◌, ap, subst}
use Rattle.std.specs.List.{Contains, find, list_any, slice_get}
use Rattle.std.proofs.lemmas.Option.{same_Some}
use Rattle.cells_base.proofs.Truth.{neither, not_picked, or_split, or_first, or_second}
use Rattle.cells_base.proofs.Members.{here, later, here_or_later, nowhere}

cond_finds : {X : Type 0} (b : Bool) (y x : X) (rest : Option X) → cond b (Some y) rest ≡ Some x → ((b ≡ true) × (y ≡ x)) ⊎ (rest ≡ Some x)
cond_finds true y x rest h = inl (refl, same_Some y x h)
cond_finds false y x rest h = inr h

-- it passes
pub find_passes : {X : Type 0} (test : X → Bool) (xs : List X) (x : X) → find test xs ≡ Some x → test x ≡ true
find_passes test [] x h = absurd cc
find_passes test (y ∷ xs) x h =
    elim (cond_finds (test y) y x (find test xs) h) [ inl p ↦ ap test (sym p.1) ∙ p.0 | inr p ↦ find_passes test xs x p ]

-- where nothing is found, nothing passes
cond_finds_none : {X : Type 0} (b : Bool) (y : X) (rest : Option X) → cond b (Some y) rest ≡ None → (b ≡ false) × (rest ≡ None)
cond_finds_none true y rest h = absurd cc
cond_finds_none false y rest h = (refl, h)

pub none_passes : {X : Type 0} (test : X → Bool) (xs : List X) → find test xs ≡ None → (k : ℕ) (x : X) → slice_get xs k ≡ Some x → test x ≡ false
none_passes test [] h k x at = absurd cc
none_passes test (y ∷ xs) h zero x at = ap test (sym (same_Some y x at)) ∙ (cond_finds_none (test y) y (find test xs) h).0
none_passes test (y ∷ xs) h (suc k) x at = none_passes test xs (cond_finds_none (test y) y (find test xs) h).1 k x at

-- it is found where there is one more behind
pub find_push : {X : Type 0} (test : X → Bool) (rs : List X) (r q : X) → find test rs ≡ Some q → find test (rs ++ r ∷ []) ≡ Some q
find_push test [] r q h = absurd cc
find_push test (x ∷ xs) r q h = go (test x) (find_push test xs r q) h
  where
    go : (b : Bool) → (find test xs ≡ Some q → find test (xs ++ r ∷ []) ≡ Some q) → cond b (Some x) (find test xs) ≡ Some q → cond b (Some x) (find test (xs ++ r ∷ [])) ≡ Some q
    go true rest is = is
    go false rest is = rest is

-- where a list has no element that passes, none of its elements does
pub none_any : {X : Type 0} (p : X → Bool) (xs : List X) (y : X) → list_any p xs ≡ false → Contains xs y → p y ≡ false
none_any p [] y h c = absurd (nowhere y c)
none_any p (x ∷ xs) y h c =
    let parts = neither (p x) (list_any p xs) h in
    elim (here_or_later x xs y c) [ inl e ↦ subst (λ z. p z ≡ false) e parts.0 | inr later ↦ none_any p xs y parts.1 later ]

pub none_found : {X : Type 0} (p : X → Bool) (xs : List X) (y : X) → find p xs ≡ None → Contains xs y → p y ≡ false
none_found p [] y h c = absurd (nowhere y c)
none_found p (x ∷ xs) y h c =
    let parts = not_picked (p x) x (find p xs) h in
    elim (here_or_later x xs y c) [ inl e ↦ subst (λ z. p z ≡ false) e parts.0 | inr later ↦ none_found p xs y parts.1 later ]

-- where none of the elements passes, nothing is found, and there is none that does
pub find_none : {X : Type 0} (test : X → Bool) (xs : List X) → ((x : X) → Contains xs x → test x ≡ false) → find test xs ≡ None
find_none test [] fails = refl
find_none test (x ∷ xs) fails = ap (λ b. cond b (Some x) (find test xs)) (fails x (here x xs)) ∙ find_none test xs (λ y is. fails y (later x xs y is))

pub any_none : {X : Type 0} (test : X → Bool) (xs : List X) → ((x : X) → Contains xs x → test x ≡ false) → list_any test xs ≡ false
any_none test [] fails = refl
any_none test (x ∷ xs) fails = ap (λ b. b || list_any test xs) (fails x (here x xs)) ∙ any_none test xs (λ y is. fails y (later x xs y is))

-- one passes where some element does
pub some_passes : {X : Type 0} (test : X → Bool) (xs : List X) → list_any test xs ≡ true → (x : X) × Contains xs x × (test x ≡ true)
some_passes test [] h = absurd cc
some_passes test (x ∷ xs) h = elim (or_split (test x) (list_any test xs) h) [ inl first ↦ (x, here x xs, first) | inr rest ↦ let found = some_passes test xs rest in (found.0, later x xs found.0 found.1, found.2) ]

pub any_passes : {X : Type 0} (test : X → Bool) (xs : List X) (x : X) → Contains xs x → test x ≡ true → list_any test xs ≡ true
any_passes test [] x is h = absurd (nowhere x is)
any_passes test (y ∷ ys) x is h = elim (here_or_later y ys x is) [
  | inl e ↦ or_first (test y) (list_any test ys) (ap test e ∙ h)
  | inr there ↦ or_second (test y) (list_any test ys) (any_passes test ys x there h)
]
