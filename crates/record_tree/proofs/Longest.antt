-- A scan over the fronts of a path, from the shortest.
use Rattle.std.proofs.Common.{◌≡◌, ◌⊎◌, inl, inr, ℕ, ◌+◌, ◌<◌, ◌≤◌, List, length, take, Option, Some, None, refl, sym, subst, arith}
use Rattle.std.specs.Option.{option_or}
use Rattle.std.proofs.Common.{min}
use Rattle.std.proofs.lemmas.List.{length-take-le}
use Rattle.std.proofs.lemmas.Bool.Decides.{nat_tests}
use Rattle.record_tree.specs.Paths.{EndsSegment, IsLongest}

module _ (holder : List ℕ → Option ℕ) (path : List ℕ) where
  pub longest_first : IsLongest holder path 0 None
  longest_first n lt ends = absurd (omega (arith, lt))

  below_or_at : (n end : ℕ) → n < end + 1 → (n < end) ⊎ (n ≡ end)
  below_or_at n end lt = grind (arith, nat_tests, lt)

  -- a front that no route has, or that is none
  pub longest_none : (end : ℕ) (found : Option ℕ) → (EndsSegment path end → holder (take end path) ≡ None) → IsLongest holder path end found → IsLongest holder path (end + 1) found
  longest_none end None none h = λ n lt ends. at n ends (below_or_at n end lt)
    where
      at : (n : ℕ) → EndsSegment path n → (n < end) ⊎ (n ≡ end) → holder (take n path) ≡ None
      at n ends (inl lt) = h n lt ends
      at n ends (inr e) = subst (λ m. EndsSegment path m → holder (take m path) ≡ None) (sym e) none ends
  longest_none end (Some id) none h = let lt = h.1 in (h.0, omega (arith, lt), h.2, h.3, λ more past lt ends. at more past ends (below_or_at more end lt))
    where
      at : (more : ℕ) → h.0 < more → EndsSegment path more → (more < end) ⊎ (more ≡ end) → holder (take more path) ≡ None
      at more past ends (inl lt) = h.4 more past lt ends
      at more past ends (inr e) = subst (λ m. EndsSegment path m → holder (take m path) ≡ None) (sym e) none ends

  -- a front that is a route
  pub longest_some : (end id : ℕ) → EndsSegment path end → holder (take end path) ≡ Some id → IsLongest holder path (end + 1) (Some id)
  longest_some end id ends is = (end, omega arith, ends, is, λ more past lt ends. absurd (omega (arith, past, lt)))

  -- where no longer front is a route, that is all
  pub longest_all : (end last : ℕ) (found : Option ℕ) → end ≤ last → ((n : ℕ) → end ≤ n → n < last → holder (take n path) ≡ None) → IsLongest holder path end found → IsLongest holder path last found
  longest_all end last None le none h = λ n lt ends. at n lt ends (here n)
    where
      here : (n : ℕ) → (n < end) ⊎ (end ≤ n)
      here n = grind (arith, nat_tests)

      at : (n : ℕ) → n < last → EndsSegment path n → (n < end) ⊎ (end ≤ n) → holder (take n path) ≡ None
      at n lt ends (inl less) = h n less ends
      at n lt ends (inr more) = none n more lt
  longest_all end last (Some id) le none h = let lt = h.1 in (h.0, omega (arith, lt, le), h.2, h.3, λ more past lt ends. at more past lt ends (here more))
    where
      here : (n : ℕ) → (n < end) ⊎ (end ≤ n)
      here n = grind (arith, nat_tests)

      at : (more : ℕ) → h.0 < more → more < last → EndsSegment path more → (more < end) ⊎ (end ≤ more) → holder (take more path) ≡ None
      at more past lt ends (inl less) = h.4 more past less ends
      at more past lt ends (inr beyond) = none more beyond lt

  -- a step of the scan
  pub longest_step : (end : ℕ) (found here next : Option ℕ) → next ≡ option_or here found → ((id : ℕ) → here ≡ Some id → EndsSegment path end × (holder (take end path) ≡ Some id)) →
      (here ≡ None → EndsSegment path end → holder (take end path) ≡ None) → IsLongest holder path end found → IsLongest holder path (end + 1) next
  longest_step end found None next e some none h = subst (IsLongest holder path (end + 1)) (sym e) (longest_none end found (none refl) h)
  longest_step end found (Some id) next e some none h = subst (IsLongest holder path (end + 1)) (sym e) (let both = some id refl in longest_some end id both.0 both.1)

  -- where no route has more bytes than this, a scan as far as that is a scan of all
  pub longest_whole : (bound most end : ℕ) (found : Option ℕ) → most ≡ min (length path) bound → end ≡ most + 1 → ((value : List ℕ) → bound < length value → holder value ≡ None) →
      IsLongest holder path end found → IsLongest holder path (length path + 1) found
  longest_whole bound most end found m e long h = longest_all end (length path + 1) found (omega (arith, e, m)) each h
    where
      each : (n : ℕ) → end ≤ n → n < length path + 1 → holder (take n path) ≡ None
      each n le lt =
          let len : length (take n path) ≡ n = length-take-le n path (omega (arith, lt)) in
          long (take n path) (omega (arith, len, le, lt, e, m))
