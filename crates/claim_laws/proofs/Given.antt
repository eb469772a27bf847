-- Ranges that were given: what a reply names, and the place of a cell's range among its own.
use Rattle.std.proofs.Common.{◌≡◌, ◌⊎◌, inl, inr, ℕ, zero, suc, ◌+◌, ◌<◌, ◌≤◌, Bool, true, false, ◌&&◌, nat_eq, nat_lt, cond, List, [], ◌∷◌, ◌++◌, length, take, get_or, Option, Some, None, refl, sym, ◌∙◌, ap, subst, append_assoc, arith}
use Rattle.std.specs.List.{Contains, slice_get}
use Rattle.std.proofs.lemmas.Bool.Decides.{Decides-eqb, nat_tests}
use Rattle.std.proofs.lemmas.List.{take_all, append-nil}
use Rattle.std.proofs.lemmas.List.Elements.{filter_more}
use Rattle.std.proofs.lemmas.List.Sums.{length-filter}
use Rattle.std.proofs.lemmas.Option.{slice_get-get_or, same_Some}
use Rattle.cells_base.proofs.Truth.{and_split}
use Rattle.claim_types.specs.declared.cell.Cell.{Cell}
use Rattle.claim_types.specs.declared.cell.Range.{Range}
use Rattle.claim_types.specs.declared.limits.TheConstants.{GREATEST_IDENTIFIER}
use Rattle.claim_map.specs.Registry.{Registry, cell_of}
use Rattle.claim_map.specs.State.{ranges_of}
use Rattle.claim_map.specs.Ranges.{given_as, next_number, last_end, AreRanges, kept, too_far, exhausted, fresh, next_range, kept_or_next, verdict_for, range_verdict}
use Rattle.claim_map.proofs.Found.{Contains-found}
use Rattle.cells_base.proofs.Finds.{find_passes}
use Rattle.claim_map.proofs.Ranges.{follows_says, next_is}
use Rattle.cells_base.proofs.Members.{in_filter}

named : (range : Range) (cell number : ℕ) → range.cell ≡ cell → range.number ≡ number → range ≡ record { cell = cell; number = number; low = range.low; high = range.high }
named range cell number c n = λ i. record { cell = c i; number = n i; low = range.low; high = range.high }

module _ (registry : Registry) (given : List Range) (cell number : ℕ) where
  id_is : (c : Cell) → cell_of registry cell ≡ Some c → c.id ≡ cell
  id_is c h = (Decides-eqb c.id cell).0 (find_passes (λ (x : Cell). nat_eq x.id cell) registry.cells c h)

  -- a range that was kept under this number
  in_kept : (c : Cell) (o : Option Range) (range : Range) → given_as given c.id number ≡ o → kept_or_next o given c number ≡ kept range → given_as given c.id number ≡ Some range
  in_kept c (Some r) range is h = is ∙ (let same : r ≡ range = cc in ap Some same)
  in_kept c None range is h = absurd (never (nat_lt (next_number given c.id) number) (nat_lt GREATEST_IDENTIFIER (next_range given c).high) h)
    where
      never : (b d : Bool) → cond b (too_far (next_number given c.id)) (cond d (exhausted (last_end given)) (fresh (next_range given c))) ≡ kept range → ⊥
      never true d h = cc
      never false true h = cc
      never false false h = cc

  in_cell : (o : Option Cell) (range : Range) → verdict_for o given number ≡ kept range → (c : Cell) × (o ≡ Some c) × (given_as given c.id number ≡ Some range)
  in_cell None range h = absurd cc
  in_cell (Some c) range h = (c, refl, in_kept c (given_as given c.id number) range refl h)

  pub kept_is : (range : Range) → range_verdict registry given cell number ≡ kept range → Contains given range × (range ≡ record { cell = cell; number = number; low = range.low; high = range.high })
  kept_is range h =
      let found = in_cell (cell_of registry cell) range h in
      let stands = Contains-found (λ (r : Range). nat_eq r.cell found.0.id && nat_eq r.number number) given range found.2 in
      let passes = and_split (nat_eq range.cell found.0.id) (nat_eq range.number number) (find_passes (λ (r : Range). nat_eq r.cell found.0.id && nat_eq r.number number) given range found.2) in
      (stands, named range cell number ((Decides-eqb range.cell found.0.id).0 passes.0 ∙ id_is found.0 found.1) ((Decides-eqb range.number number).0 passes.1))

  -- a range that is given under this number
  module _ (sound : AreRanges given) (positive : 1 ≤ number) where
    not_less : (a b : ℕ) → nat_lt a b ≡ false → b ≤ a
    not_less a b h = grind (arith, nat_tests, h)

    fresh_next : (c : Cell) (o : Option Range) (range : Range) → given_as given c.id number ≡ o → kept_or_next o given c number ≡ fresh range → (range ≡ next_range given c) × (next_number given c.id ≡ number)
    fresh_next c (Some r) range is h = absurd cc
    fresh_next c None range is h = go (nat_lt (next_number given c.id) number) (nat_lt GREATEST_IDENTIFIER (next_range given c).high) refl h
      where
        go : (b d : Bool) → nat_lt (next_number given c.id) number ≡ b → cond b (too_far (next_number given c.id)) (cond d (exhausted (last_end given)) (fresh (next_range given c))) ≡ fresh range → (range ≡ next_range given c) × (next_number given c.id ≡ number)
        go true d near h = absurd cc
        go false true near h = absurd cc
        go false false near h = (cc, next_is given sound c.id number positive is (not_less (next_number given c.id) number near))

    fresh_cell : (o : Option Cell) → cell_of registry cell ≡ o → (range : Range) → verdict_for o given number ≡ fresh range → (range.cell ≡ cell) × (range.number ≡ number)
    fresh_cell None is range h = absurd cc
    fresh_cell (Some c) is range h =
        let found = fresh_next c (given_as given c.id number) range refl h in
        (ap (λ (r : Range). r.cell) found.0 ∙ id_is c is, ap (λ (r : Range). r.number) found.0 ∙ found.1)

  fresh_found : (sound : AreRanges given) (positive : 1 ≤ number) (range : Range) → range_verdict registry given cell number ≡ fresh range → range ≡ record { cell = cell; number = number; low = range.low; high = range.high }
  fresh_found sound positive range h = let parts = fresh_cell sound positive (cell_of registry cell) refl range h in named range cell number parts.0 parts.1

pub fresh_is : (registry : Registry) (given : List Range) → AreRanges given → (cell number : ℕ) → 1 ≤ number → (range : Range) → range_verdict registry given cell number ≡ fresh range → range ≡ record { cell = cell; number = number; low = range.low; high = range.high }
fresh_is registry given sound cell number positive range h = fresh_found registry given cell number sound positive range h

-- a cell's ranges are numbered from 1 in their order
push_cases : {X : Type 0} (xs : List X) (y : X) (i : ℕ) (x : X) → slice_get (xs ++ y ∷ []) i ≡ Some x → (slice_get xs i ≡ Some x) ⊎ ((i ≡ length xs) × (y ≡ x))
push_cases [] y zero x h = inr (refl, same_Some y x h)
push_cases [] y (suc i) x h = absurd cc
push_cases (z ∷ zs) y zero x h = inl h
push_cases (z ∷ zs) y (suc i) x h = elim (push_cases zs y i x h) [ inl old ↦ inl old | inr new ↦ let n = new.0 in inr (omega (arith, n), new.1) ]

module _ (given : List Range) (sound : AreRanges given) (cell : ℕ) where
  no_range : Range
  no_range = record { cell = 0; number = 0; low = 0; high = 0 }

  one_more : (k : ℕ) → k < length given → ((i : ℕ) (q : Range) → slice_get (ranges_of (take k given) cell) i ≡ Some q → q.number ≡ i + 1) →
      (r : Range) → slice_get given k ≡ Some r → (b : Bool) → nat_eq r.cell cell ≡ b → (i : ℕ) (q : Range) → slice_get (ranges_of (take k given) cell ++ cond b (r ∷ []) []) i ≡ Some q → q.number ≡ i + 1
  one_more k lt before r at true is i q h = elim (push_cases (ranges_of (take k given) cell) r i q h) [
    | inl old ↦ before i q old
    | inr new ↦
        let same : r.cell ≡ cell = (Decides-eqb r.cell cell).0 is in
        let next = (follows_says (take k given) r (sound k r at)).number in
        let counted = length-filter (λ (x : Range). nat_eq x.cell cell) (take k given) in
        let number : r.number ≡ next_number (take k given) cell = next ∙ ap (next_number (take k given)) same in
        let place = new.0 in
        ap (λ (x : Range). x.number) (sym new.1) ∙ number ∙ ap (λ n. n + 1) (sym counted ∙ sym place)
  ]
  one_more k lt before r at false is i q h = before i q (subst (λ (rs : List Range). slice_get rs i ≡ Some q) (append-nil (ranges_of (take k given) cell)) h)

  numbered_to : (k : ℕ) → k ≤ length given → (i : ℕ) (q : Range) → slice_get (ranges_of (take k given) cell) i ≡ Some q → q.number ≡ i + 1
  numbered_to zero le i q h = absurd cc
  numbered_to (suc k) le i q h =
      let lt : k < length given = omega (arith, le) in
      let r = get_or given k no_range in
      let step : suc k ≡ k + 1 = omega arith in
      let grown : ranges_of (take (suc k) given) cell ≡ ranges_of (take k given) cell ++ cond (nat_eq r.cell cell) (r ∷ []) [] = ap (λ n. ranges_of (take n given) cell) step ∙ filter_more (λ (x : Range). nat_eq x.cell cell) given k no_range lt in
      one_more k lt (numbered_to k (omega (arith, le))) r (slice_get-get_or given k no_range lt) (nat_eq r.cell cell) refl i q (subst (λ (rs : List Range). slice_get rs i ≡ Some q) grown h)

  numbered : (i : ℕ) (q : Range) → slice_get (ranges_of given cell) i ≡ Some q → q.number ≡ i + 1
  numbered i q h = numbered_to (length given) (omega arith) i q (subst (λ (rs : List Range). slice_get (ranges_of rs cell) i ≡ Some q) (sym (take_all (length given) given (omega arith))) h)

  behind : {X : Type 0} (xs ys : List X) → slice_get (xs ++ ys) (length xs) ≡ slice_get ys 0
  behind [] ys = refl
  behind (x ∷ xs) ys = behind xs ys

  begins : {X : Type 0} (ys : List X) (x : X) → slice_get ys 0 ≡ Some x → (rest : List X) × (ys ≡ x ∷ rest)
  begins [] x h = absurd cc
  begins (y ∷ ys) x h = (ys, ap (λ z. z ∷ ys) (same_Some y x h))

  -- the range with the number behind those that are known stands just behind them
  pub stands_next : (known rest : List Range) → ranges_of given cell ≡ known ++ rest → (range : Range) → Contains given range → range.cell ≡ cell → range.number ≡ length known + 1 → (more : List Range) × (ranges_of given cell ≡ (known ++ range ∷ []) ++ more)
  stands_next known rest is range stands of_cell number =
      let there = in_filter (λ (x : Range). nat_eq x.cell cell) given range stands ((Decides-eqb range.cell cell).1 of_cell) in
      let at : slice_get (ranges_of given cell) there.0 ≡ Some range = slice_get-get_or (ranges_of given cell) there.0 range there.1 ∙ ap Some there.2 in
      let place = numbered there.0 range at in
      let same : there.0 ≡ length known = omega (arith, place, number) in
      let first : slice_get rest 0 ≡ Some range = sym (behind known rest) ∙ ap (slice_get (known ++ rest)) (sym same) ∙ ap (λ (rs : List Range). slice_get rs there.0) (sym is) ∙ at in
      let split = begins rest range first in
      (split.0, joined split.0 split.1)
    where
      joined : (more : List Range) → rest ≡ range ∷ more → ranges_of given cell ≡ (known ++ range ∷ []) ++ more
      joined more split = is ∙ ap (λ (rs : List Range). known ++ rs) split ∙ sym (append_assoc known (range ∷ []) more)

-- a range that was given ends no earlier than it begins
pub ends_within : (given : List Range) → AreRanges given → (range : Range) → Contains given range → range.low ≤ range.high
ends_within given sound range stands =
    let at : slice_get given stands.0 ≡ Some range = slice_get-get_or given stands.0 range stands.1 ∙ ap Some stands.2 in
    (follows_says (take stands.0 given) range (sound stands.0 range at)).ordered
