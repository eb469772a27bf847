-- Ranges stay sound as they are given, and a number that is no further than the next one was given or is the next one.
use Rattle.std.proofs.Common.{◌≡◌, ◌≢◌, ℕ, zero, suc, ◌+◌, ◌-◌, ◌<◌, ◌≤◌, Bool, true, false, ◌&&◌, nat_eq, nat_lt, List, [], ◌∷◌, ◌++◌, length, take, get_or, count_by, Option, Some, None, cond, inl, inr, ◌⊎◌, refl, sym, ◌∙◌, ap, subst, arith, rules}
use Rattle.std.proofs.lemmas.Grind.{common_steps}
use Rattle.std.proofs.lemmas.Bool.{eqb-true, eqb-false}
use Rattle.std.proofs.lemmas.List.{take_all}
use Rattle.std.proofs.lemmas.List.Sums.{count_by_more_yes, count_by_more_no}
use Rattle.std.proofs.lemmas.Option.{slice_get-get_or}
use Rattle.std.specs.Option.{option_map_or}
use Rattle.std.specs.List.{slice_get}
use Rattle.claim_types.specs.declared.cell.Range.{Range}
use Rattle.claim_types.specs.declared.limits.TheConstants.{GREATEST_IDENTIFIER}
use Rattle.claim_types.specs.declared.cell.Cell.{Cell}
use Rattle.claim_map.specs.Registry.{Registry, cell_of}
use Rattle.cells_base.proofs.Finds.{none_passes}
use Rattle.claim_map.specs.Ranges.{given_as, next_number, last_end, follows, AreRanges, next_range, exhausted, too_far, fresh, fresh_or_exhausted, kept_or_next, verdict_for, range_verdict, ranges_after}

pub record Follows (ranges : List Range) (r : Range) : Type 0 where
  pub number : r.number ≡ next_number ranges r.cell
  pub low : r.low ≡ last_end ranges + 1
  pub ordered : r.low ≤ r.high
  pub bound : r.high ≤ GREATEST_IDENTIFIER

pub follows_says : (ranges : List Range) (r : Range) → follows ranges r ≡ true → Follows ranges r
follows_says ranges r h = record { number = grind (arith, common_steps); low = grind (arith, common_steps); ordered = grind (arith, common_steps); bound = grind (arith, common_steps) }

-- no range given passes the greatest identifier
last_of : (last : Option Range) → ((r : Range) → last ≡ Some r → r.high ≤ GREATEST_IDENTIFIER) → option_map_or (λ r. r.high) last 0 ≤ GREATEST_IDENTIFIER
last_of None h = search rules
last_of (Some r) h = h r refl

pub last_end-bound : (ranges : List Range) → AreRanges ranges → last_end ranges ≤ GREATEST_IDENTIFIER
last_end-bound ranges sound = last_of (slice_get ranges (length ranges - 1)) (λ r e. (follows_says (take (length ranges - 1) ranges) r (sound (length ranges - 1) r e)).bound)

-- an element of a list with one more at the end
pub slice_get-push : {X : Type 0} (xs : List X) (y : X) (k : ℕ) (x : X) → slice_get (xs ++ y ∷ []) k ≡ Some x → ((slice_get xs k ≡ Some x) × (take k (xs ++ y ∷ []) ≡ take k xs)) ⊎ ((x ≡ y) × (take k (xs ++ y ∷ []) ≡ xs))
slice_get-push [] y zero x h = inr ((cc), refl)
slice_get-push [] y (suc k) x h = absurd cc
slice_get-push (z ∷ xs) y zero x h = inl (h, refl)
slice_get-push (z ∷ xs) y (suc k) x h =
    elim (slice_get-push xs y k x h) [ inl p ↦ inl (p.0, ap (λ ys. z ∷ ys) p.1) | inr p ↦ inr (p.0, ap (λ ys. z ∷ ys) p.1) ]

pub AreRanges-push : (ranges : List Range) (r : Range) → AreRanges ranges → follows ranges r ≡ true → AreRanges (ranges ++ r ∷ [])
AreRanges-push ranges r sound next k s h =
    elim (slice_get-push ranges r k s h) [
      | inl p ↦ ap (λ earlier. follows earlier s) p.1 ∙ sound k s p.0
      | inr p ↦ ap (λ earlier. follows earlier s) p.1 ∙ ap (λ x. follows ranges x) p.0 ∙ next
    ]

-- a cell has been given fewer ranges than a number that none of them has
module _ (ranges : List Range) (sound : AreRanges ranges) (cell n : ℕ) (positive : 1 ≤ n) (none : given_as ranges cell n ≡ None) where
  no_range : Range
  no_range = record { cell = 0; number = 0; low = 0; high = 0 }

  further : (k : ℕ) (r : Range) → k < length ranges → slice_get ranges k ≡ Some r → get_or ranges k no_range ≡ r → count_by (λ (r : Range). nat_eq r.cell cell) (take k ranges) < n → (b : Bool) → nat_eq r.cell cell ≡ b → count_by (λ (r : Range). nat_eq r.cell cell) (take (k + 1) ranges) < n
  further k r lt at is below true here =
      let same : r.cell ≡ cell = eqb-true r.cell cell here in
      let next = follows_says (take k ranges) r (sound k r at) in
      let number : r.number ≡ count_by (λ (r : Range). nat_eq r.cell cell) (take k ranges) + 1 = subst (λ (c : ℕ). r.number ≡ next_number (take k ranges) c) same next.number in
      let other : nat_eq r.number n ≡ false = ap (λ b. b && nat_eq r.number n) (sym here) ∙ none_passes (λ (r : Range). nat_eq r.cell cell && nat_eq r.number n) ranges none k r at in
      let differs : r.number ≢ n = eqb-false r.number n other in
      let more = count_by_more_yes (λ (r : Range). nat_eq r.cell cell) ranges k no_range lt (ap (λ (r : Range). nat_eq r.cell cell) is ∙ here) in
      omega arith
  further k r lt at is below false here =
      let less = count_by_more_no (λ (r : Range). nat_eq r.cell cell) ranges k no_range lt (ap (λ (r : Range). nat_eq r.cell cell) is ∙ here) in
      omega arith

  counted : (k : ℕ) → k ≤ length ranges → count_by (λ (r : Range). nat_eq r.cell cell) (take k ranges) < n
  counted zero le = positive
  counted (suc k) le =
      let lt : k < length ranges = omega arith in
      let before : k ≤ length ranges = omega arith in
      let next : k + 1 ≡ suc k = omega arith in
      subst (λ (m : ℕ). count_by (λ (r : Range). nat_eq r.cell cell) (take m ranges) < n) next
      (further k (get_or ranges k no_range) lt (slice_get-get_or ranges k no_range lt) refl (counted k before) _ refl)

  pub next_is : n ≤ next_number ranges cell → next_number ranges cell ≡ n
  next_is le =
      let all : count_by (λ (r : Range). nat_eq r.cell cell) ranges < n = subst (λ (rs : List Range). count_by (λ (r : Range). nat_eq r.cell cell) rs < n) (take_all (length ranges) ranges (omega arith)) (counted (length ranges) (omega arith)) in
      omega arith

-- a range with its cell's next number, from just past the last one and of some width within the identifiers, may follow
pub next-follows : (ranges : List Range) (cell next last width : ℕ) → next ≡ next_number ranges cell → last ≡ last_end ranges → 1 ≤ width → last + width ≤ GREATEST_IDENTIFIER → follows ranges (record { cell = cell; number = next; low = last + 1; high = last + width }) ≡ true
next-follows ranges cell next last width is ends wide fits = grind (arith, common_steps)

-- the ranges stay sound after each request
module _ (ranges : List Range) (sound : AreRanges ranges) where
  after-next : (c : Cell) → 1 ≤ c.width → (b : Bool) → nat_lt GREATEST_IDENTIFIER (last_end ranges + c.width) ≡ b → AreRanges (ranges_after (cond b (exhausted (last_end ranges)) (fresh (next_range ranges c))) ranges)
  after-next c wide true h = sound
  after-next c wide false h =
      let fits : last_end ranges + c.width ≤ GREATEST_IDENTIFIER = grind (arith, common_steps) in
      AreRanges-push ranges (next_range ranges c) sound (next-follows ranges c.id (next_number ranges c.id) (last_end ranges) c.width refl refl wide fits)

  after-number : (c : Cell) → 1 ≤ c.width → (b : Bool) → AreRanges (ranges_after (cond b (too_far (next_number ranges c.id)) (fresh_or_exhausted ranges (next_range ranges c))) ranges)
  after-number c wide true = sound
  after-number c wide false = after-next c wide (nat_lt GREATEST_IDENTIFIER (last_end ranges + c.width)) refl

  after-kept : (kept_range : Option Range) (c : Cell) (number : ℕ) → 1 ≤ c.width → AreRanges (ranges_after (kept_or_next kept_range ranges c number) ranges)
  after-kept (Some r) c number wide = sound
  after-kept None c number wide = after-number c wide (nat_lt (next_number ranges c.id) number)

  after-cell : (found : Option Cell) (number : ℕ) → ((c : Cell) → found ≡ Some c → 1 ≤ c.width) → AreRanges (ranges_after (verdict_for found ranges number) ranges)
  after-cell None number wide = sound
  after-cell (Some c) number wide = after-kept (given_as ranges c.id number) c number (wide c refl)

  pub ranges_after-sound : (registry : Registry) (cell number : ℕ) → ((c : Cell) → cell_of registry cell ≡ Some c → 1 ≤ c.width) → AreRanges (ranges_after (range_verdict registry ranges cell number) ranges)
  ranges_after-sound registry cell number wide = after-cell (cell_of registry cell) number wide
