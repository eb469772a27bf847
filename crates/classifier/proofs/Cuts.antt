-- Where a text may be cut into whole segments: before a '/', and at its end. What stands before a cut is what begins the text in whole
-- segments.
use Rattle.std.proofs.Common.{◌≡◌, ℕ, zero, suc, ◌+◌, ◌<◌, ◌≤◌, Bool, true, false, ◌⊎◌, inl, inr, List, [], ◌∷◌, ◌++◌, length, take, drop, get_or, min, Some, refl, sym, ◌∙◌, ap, subst, arith}
use Rattle.std.specs.Cmp.Lexicographic.{bytes_decides}
use Rattle.std.specs.List.{slice_get, starts_with, count_by}
use Rattle.std.specs.Prelude.{nat_eq}
use Rattle.std.specs.Str.{bytes_eq}
use Rattle.std.proofs.Math.Seq.{take-length, take-append_seam, drop-append_seam}
use Rattle.std.proofs.lemmas.List.{length-append, length-take, length-take-le, take_more}
use Rattle.std.proofs.lemmas.List.Sums.{count_by_more_yes, count_by_more_no}
use Rattle.std.proofs.lemmas.Option.{slice_get-get_or, slice_get_within, get_or_from_slice_get}
use Rattle.cells_base.proofs.Truth.{or_split, or_first, or_second}
use Rattle.claim_map.specs.Classification.{begins_segments}

module _ (text : List ℕ) where
  abbrev pub IsCut : ℕ → Type 0
  IsCut n = (slice_get text n ≡ Some 47) ⊎ (n ≡ length text)

  pub IsFront : List ℕ → Type 0
  IsFront route = IsCut (length route) × (take (length route) text ≡ route) × (length route ≤ length text)

  whole : (route : List ℕ) → route ≡ text → IsFront route
  unfolding IsFront
  whole route same = subst IsFront (sym same) (inr refl, take-length text, omega arith)

  module _ (route : List ℕ) (same : route ++ 47 ∷ [] ≡ take (length route + 1) text) where
    n : ℕ
    n = length route

    inside : length route < length text
    inside =
        let a : length (route ++ 47 ∷ []) ≡ length route + 1 = length-append {A = ℕ} route (47 ∷ []) in
        let b : length (route ++ 47 ∷ []) ≡ min (length route + 1) (length text) = ap length same ∙ length-take (length route + 1) text in
        omega (arith, a, b)

    last : ℕ
    last = get_or text (length route) 0

    parted : route ++ 47 ∷ [] ≡ take (length route) text ++ last ∷ []
    unfolding last
    parted = same ∙ take_more text (length route) 0 inside

    taken_length : length (take (length route) text) ≡ length route
    taken_length = length-take-le (length route) text (omega (arith, inside))

    front : take (length route) text ≡ route
    front =
        sym (take-append_seam (take (length route) text) (last ∷ []))
        ∙ ap (λ k. take k (take (length route) text ++ last ∷ [])) taken_length
        ∙ ap (take (length route)) (sym parted) ∙ take-append_seam route (47 ∷ [])

    ends : last ≡ 47
    ends =
        let both : last ∷ [] ≡ 47 ∷ [] =
        sym (drop-append_seam (take (length route) text) (last ∷ []))
        ∙ ap (λ k. drop k (take (length route) text ++ last ∷ [])) taken_length
        ∙ ap (drop (length route)) (sym parted) ∙ drop-append_seam route (47 ∷ []) in
        cc

    followed : IsFront route
    unfolding IsFront last
    followed = (inl (slice_get-get_or text (length route) 0 inside ∙ ap Some ends), front, omega (arith, inside))

  pub begins_front : (route : List ℕ) → begins_segments route text ≡ true → IsFront route
  begins_front route h = elim (or_split (bytes_eq route text) (starts_with nat_eq text (route ++ 47 ∷ [])) h) [
    | inl is ↦ whole route ((bytes_decides route text).0 is)
    | inr is ↦ followed route ((bytes_decides (route ++ 47 ∷ []) (take (length (route ++ 47 ∷ [])) text)).0 is ∙ ap (λ k. take k text) (length-append {A = ℕ} route (47 ∷ [])))
  ]

  pub front_is : (route : List ℕ) → IsFront route → IsCut (length route) × (take (length route) text ≡ route) × (length route ≤ length text)
  unfolding IsFront
  front_is route is = is

  -- and what stands before a cut begins the text so
  pub front_begins : (n : ℕ) → n ≤ length text → IsCut n → begins_segments (take n text) text ≡ true
  front_begins n le (inr is) =
      or_first (bytes_eq (take n text) text) (starts_with nat_eq text (take n text ++ 47 ∷ [])) ((bytes_decides (take n text) text).1 (ap (λ k. take k text) is ∙ take-length text))
  front_begins n le (inl is) =
      let lt = slice_get_within text n 47 is in
      let byte : get_or text n 0 ≡ 47 = get_or_from_slice_get text n 47 0 is in
      let more : take (n + 1) text ≡ take n text ++ 47 ∷ [] = take_more text n 0 lt ∙ ap (λ b. take n text ++ b ∷ []) byte in
      let long : length (take n text ++ 47 ∷ []) ≡ n + 1 = length-append {A = ℕ} (take n text) (47 ∷ []) ∙ ap (λ k. k + 1) (length-take-le n text le) in
      or_second (bytes_eq (take n text) text) (starts_with nat_eq text (take n text ++ 47 ∷ []))
      ((bytes_decides (take n text ++ 47 ∷ []) (take (length (take n text ++ 47 ∷ [])) text)).1 (sym more ∙ ap (λ k. take k text) (sym long)))

-- a longer front has no fewer
module _ (p : ℕ → Bool) (xs : List ℕ) (e : ℕ) where
  grows : (k : ℕ) → k < length xs → (b : Bool) → p (get_or xs k 0) ≡ b → count_by p (take k xs) ≤ count_by p (take (k + 1) xs)
  grows k lt true is = omega (arith, count_by_more_yes p xs k 0 lt is)
  grows k lt false is = omega (arith, count_by_more_no p xs k 0 lt is)

  pub count_by-take : (d : ℕ) → e + d ≤ length xs → count_by p (take e xs) ≤ count_by p (take (e + d) xs)
  count_by-take zero le = let same : e ≡ e + 0 = omega arith in subst (λ (k : ℕ). count_by p (take e xs) ≤ count_by p (take k xs)) same (omega arith)
  count_by-take (suc d) le =
      let before = count_by-take d (omega (arith, le)) in
      let step = grows (e + d) (omega (arith, le)) (p (get_or xs (e + d) 0)) refl in
      let same : e + d + 1 ≡ e + suc d = omega arith in
      subst (λ (k : ℕ). count_by p (take e xs) ≤ count_by p (take k xs)) same (omega (arith, before, step))
