-- A list with others at an offset.
use Rattle.std.proofs.Common.{◌≡◌, ◌⊎◌, inl, inr, ℕ, ◌+◌, ◌-◌, ◌≤◌, ◌<◌, max, List, ◌++◌, length, take, drop, get_or, sym, ◌∙◌, ap, arith, length-append, length-take, length-drop}
use Rattle.std.proofs.lemmas.List.{same_lists, get_or_append_left, get_or-append_right, get_or-take, get_or-drop}
use Rattle.std.proofs.lemmas.Bool.{cases_lt}
use Rattle.disk_journal.specs.Memory.{overlaid}

module _ {X : Type 0} (at : ℕ) (ys xs : List X) (le : at ≤ length xs) where
  length-front : length (take at xs ++ ys) ≡ at + length ys
  length-front = omega (arith, length-take at xs, length-append (take at xs) ys)

  pub length-overlaid : length (overlaid at ys xs) ≡ max (length xs) (at + length ys)
  length-overlaid = omega (arith, length-front, length-append (take at xs ++ ys) (drop (at + length ys) xs), length-drop (at + length ys) xs)

  pub overlaid_before : (k : ℕ) (d : X) → k < at → get_or (overlaid at ys xs) k d ≡ get_or xs k d
  overlaid_before k d lt =
      get_or_append_left (take at xs ++ ys) (drop (at + length ys) xs) d k (omega (arith, length-front))
      ∙ get_or_append_left (take at xs) ys d k (omega (arith, length-take at xs))
      ∙ get_or-take at xs k d lt

  pub overlaid_within : (k : ℕ) (d : X) → at ≤ k → k < at + length ys → get_or (overlaid at ys xs) k d ≡ get_or ys (k - at) d
  overlaid_within k d ge lt =
      get_or_append_left (take at xs ++ ys) (drop (at + length ys) xs) d k (omega (arith, length-front))
      ∙ get_or-append_right (take at xs) ys at k d (omega (arith, length-take at xs)) ge

  pub overlaid_behind : (k : ℕ) (d : X) → at + length ys ≤ k → get_or (overlaid at ys xs) k d ≡ get_or xs k d
  overlaid_behind k d ge =
      get_or-append_right (take at xs ++ ys) (drop (at + length ys) xs) (at + length ys) k d length-front ge
      ∙ get_or-drop (at + length ys) xs (k - (at + length ys)) d
      ∙ ap (λ i. get_or xs i d) (let is : at + length ys + (k - (at + length ys)) ≡ k = omega arith in is)

-- before, within or behind the offset
pub three_parts : (at n k : ℕ) → (k < at) ⊎ (((at ≤ k) × (k < at + n)) ⊎ (at + n ≤ k))
three_parts at n k = elim (cases_lt k at) [
  | inl lt ↦ inl lt
  | inr ge ↦ elim (cases_lt k (at + n)) [ inl lt ↦ inr (inl (ge, lt)) | inr ge2 ↦ inr (inr ge2) ]
]

-- the front of a list with others at an offset is the front with them
pub take_overlaid : {X : Type 0} (at : ℕ) (ys xs : List X) (size n : ℕ) → at ≤ size → size ≤ length xs → at + length ys ≤ length xs → n ≡ max size (at + length ys)
    → take n (overlaid at ys xs) ≡ overlaid at ys (take size xs)
take_overlaid at ys xs size n le within fits is =
    let le_xs : at ≤ length xs = omega arith in
    let le_front : at ≤ length (take size xs) = omega (arith, length-take size xs) in
    let long = length-overlaid at ys xs le_xs in
    let long_front = length-overlaid at ys (take size xs) le_front in
    let long_taken = length-take size xs in
    let long_all = length-take n (overlaid at ys xs) in
    let long_left : length (take n (overlaid at ys xs)) ≡ n = omega arith in
    same_lists _ _ (omega arith) (λ k d lt.
    let below : k < n = omega arith in
    get_or-take n (overlaid at ys xs) k d below ∙ elim (three_parts at (length ys) k) [
      | inl before ↦ overlaid_before at ys xs le_xs k d before ∙ sym (overlaid_before at ys (take size xs) le_front k d before ∙ get_or-take size xs k d (omega arith))
      | inr (inl within2) ↦ overlaid_within at ys xs le_xs k d within2.0 within2.1 ∙ sym (overlaid_within at ys (take size xs) le_front k d within2.0 within2.1)
      | inr (inr behind) ↦ overlaid_behind at ys xs le_xs k d behind ∙ sym (overlaid_behind at ys (take size xs) le_front k d behind ∙ get_or-take size xs k d (omega arith))
    ])
