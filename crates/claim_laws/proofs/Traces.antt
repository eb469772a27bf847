-- A run goes on: by one more message that is handed over, and by one more legal transition of it.
use Rattle.std.proofs.Common.{◌≡◌, ℕ, zero, suc, ◌+◌, ◌-◌, ◌<◌, ◌≤◌, List, [], ◌∷◌, ◌++◌, length, Option, Some, refl, sym, ◌∙◌, ap, subst, append_assoc, arith}
use Rattle.std.specs.List.{slice_get}
use Rattle.claim_types.specs.declared.step.Step.{Step}
use Rattle.claim_types.specs.declared.step.Transition.{Transition}
use Rattle.claim_map.specs.Registry.{Registry}
use Rattle.claim_map.specs.State.{ClaimMap}
use Rattle.claim_map.specs.Step.{after}
use Rattle.claim_map.specs.Legal.{Message, IsLegal, IsRun, replay}
use Rattle.std.proofs.lemmas.List.{append-nil}

pub get_push : {X : Type 0} (xs : List X) (y : X) (n : ℕ) (x : X) → slice_get xs n ≡ Some x → slice_get (xs ++ y ∷ []) n ≡ Some x
get_push [] y n x h = absurd cc
get_push (z ∷ zs) y zero x h = h
get_push (z ∷ zs) y (suc n) x h = get_push zs y n x h

pub get_last : {X : Type 0} (xs : List X) (y : X) → slice_get (xs ++ y ∷ []) (length xs) ≡ Some y
get_last [] y = refl
get_last (z ∷ zs) y = get_last zs y

module _ (registry : Registry) where
  pub handed_on : (ts : List Transition) (s : ClaimMap) (earlier : List Transition) (last : ℕ) (handed : List (Option Message)) (m : Option Message) → IsRun registry s earlier last handed ts → IsRun registry s earlier last (handed ++ m ∷ []) ts
  handed_on [] s earlier last handed m is = tt
  handed_on (t ∷ ts) s earlier last handed m is =
      (record { rising = is.0.rising; message = is.0.message; handed_over = get_push handed m (t.take - 1) (Some is.0.message) is.0.handed_over; legal = is.0.legal }, handed_on ts (after s t.step) (earlier ++ t ∷ []) t.take handed m is.1)

  pub replay_push : (ts : List Transition) (s : ClaimMap) (t : Transition) → replay s (ts ++ t ∷ []) ≡ after (replay s ts) t.step
  replay_push [] s t = refl
  replay_push (u ∷ ts) s t = replay_push ts (after s u.step) t

  -- each take of a run is a message that was handed over
  within : {X : Type 0} (xs : List X) (n : ℕ) (x : X) → slice_get xs n ≡ Some x → n < length xs
  within [] n x h = absurd cc
  within (z ∷ zs) zero x h = omega arith
  within (z ∷ zs) (suc n) x h = let rest = within zs n x h in omega (arith, rest)

  pub push_run : (ts : List Transition) (s : ClaimMap) (earlier : List Transition) (last : ℕ) (handed : List (Option Message)) (m : Message) (step : Step) → last ≤ length handed → IsRun registry s earlier last handed ts →
      IsLegal registry (replay s ts) (earlier ++ ts) m step → IsRun registry s earlier last (handed ++ Some m ∷ []) (ts ++ record { take = length handed + 1; step = step } ∷ [])
  push_run [] s earlier last handed m step le is legal =
      let at : slice_get (handed ++ Some m ∷ []) (length handed + 1 - 1) ≡ Some (Some m) = (let same : length handed + 1 - 1 ≡ length handed = omega arith in ap (slice_get (handed ++ Some m ∷ [])) same ∙ get_last handed (Some m)) in
      (record { rising = omega arith; message = m; handed_over = at; legal = subst (λ e. IsLegal registry s e m step) (append-nil earlier) legal }, tt)
  push_run (t ∷ ts) s earlier last handed m step le is legal =
      let lt = within handed (t.take - 1) (Some is.0.message) is.0.handed_over in
      let rising = is.0.rising in (
        record { rising = is.0.rising; message = is.0.message; handed_over = get_push handed (Some m) (t.take - 1) (Some is.0.message) is.0.handed_over; legal = is.0.legal },
        push_run ts (after s t.step) (earlier ++ t ∷ []) t.take handed m step (omega (arith, lt, rising)) is.1 (subst (λ e. IsLegal registry (replay (after s t.step) ts) e m step) (sym (append_assoc earlier (t ∷ []) ts)) legal),
      )

pub length_push : {X : Type 0} (xs : List X) (y : X) → length (xs ++ y ∷ []) ≡ length xs + 1
length_push [] y = refl
length_push (x ∷ xs) y = let rest = length_push xs y in omega (arith, rest)
