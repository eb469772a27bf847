-- The files of a disk in memory by their numbers, found and put back.
use Rattle.std.proofs.Common.{◌≡◌, inl, inr, Bool, true, false, cond, not, ◌==◌, ℕ, zero, suc, ◌+◌, ◌≤◌, ◌<◌, Some, None, List, [], ◌∷◌, length, get_or, set, refl, sym, ◌∙◌, ap, subst, arith, nat_lt, min, take, drop, length-take}
use Rattle.std.specs.List.{position, position_or_len}
use Rattle.std.proofs.lemmas.List.Quantifiers.{position-Some}
use Rattle.std.proofs.lemmas.List.Recursion.{found_at}
use Rattle.std.proofs.lemmas.Bool.Decides.{nat_tests}
use Rattle.std.proofs.lemmas.Bool.{cases_lt}
use Rattle.std.specs.Prelude.{IsTrue, ◌&&◌, is_some, nat_le}
use Rattle.std.proofs.lemmas.List.Folds.{position_or_len-set}
use Rattle.std.proofs.lemmas.List.{take_all, nil_from_length, length-set, set-get_or}
use Rattle.disk_journal.specs.declared.limits.TheConstants.{FILE_BYTES}
use Rattle.disk_journal.specs.Memory.{FileState, IsConsistent, no_file, state_of, place_of, Changes, Works, can_write, cut_to}

abbrev pub has_number : ℕ → FileState → Bool
has_number f s = s.number == f

is_number : (a b : ℕ) → (a == b) ≡ true → a ≡ b
is_number a b h = grind (arith, nat_tests)

passed_over : (b : Bool) (s rest : FileState) (n m : ℕ) → suc n ≤ cond (not b) (1 + m) 0 → (n ≤ m → rest ≡ no_file) → cond b s rest ≡ no_file
passed_over true s rest n m le none = absurd (omega arith)
passed_over false s rest n m le none = none (omega arith)

past : (ss : List FileState) (f : ℕ) → length ss ≤ position_or_len (has_number f) ss → state_of ss f ≡ no_file
past [] f le = refl
past (s ∷ ss) f le = passed_over (has_number f s) s (state_of ss f) (length ss) (position_or_len (has_number f) ss) le (past ss f)

no_place : (n m : ℕ) → cond (nat_lt n m) (Some n) None ≡ None → m ≤ n
no_place n m h = elim (cases_lt n m) [
  | inl lt ↦ let is : nat_lt n m ≡ true = grind (arith, nat_tests) in
      let some : cond true (Some n) None ≡ None = subst (λ b. cond b (Some n) None ≡ None) is h in absurd cc
  | inr ge ↦ ge
]

-- no file has the number
pub not_found : (ss : List FileState) (f : ℕ) → position (has_number f) ss ≡ None → state_of ss f ≡ no_file
not_found ss f h = past ss f (no_place (position_or_len (has_number f) ss) (length ss) h)

first_set_other : (ss : List FileState) (i g : ℕ) (t : FileState) → ((get_or ss i no_file).number == g) ≡ false → (t.number == g) ≡ false → state_of (set ss i t) g ≡ state_of ss g
first_set_other [] i g t old new = refl
first_set_other (s ∷ ss) zero g t old new = ap (λ b. cond b t (state_of ss g)) new ∙ sym (ap (λ b. cond b s (state_of ss g)) old)
first_set_other (s ∷ ss) (suc i) g t old new = ap (λ (rest : FileState). cond (s.number == g) s rest) (first_set_other ss i g t old new)

first_set : (ss : List FileState) (i f : ℕ) (t : FileState) → i < length ss → ((k : ℕ) → k < i → has_number f (get_or ss k no_file) ≡ false) → has_number f t ≡ true → state_of (set ss i t) f ≡ t
first_set [] i f t lt before is = absurd (omega arith)
first_set (s ∷ ss) zero f t lt before is = ap (λ b. cond b t (state_of ss f)) is
first_set (s ∷ ss) (suc i) f t lt before is =
    ap (λ b. cond b s (state_of (set ss i t) f)) (before zero (omega arith)) ∙ first_set ss i f t (omega arith) (λ k below. before (suc k) (omega arith)) is

module _ (ss : List FileState) (f i : ℕ) (at : position (has_number f) ss ≡ Some i) where
  pub found : (s : FileState) → s ≡ get_or ss i s → state_of ss f ≡ s
  found s is =
      let p = position-Some (has_number f) ss i s at in
      found_at (λ (ss : List FileState). state_of ss f) (has_number f) (λ s. s) no_file refl (λ s ss. refl) ss i s p.0 (λ k lt. p.2 k lt) p.1 ∙ sym is

  found_number : (s : FileState) → s ≡ get_or ss i s → s.number ≡ f
  found_number s is =
      let p = position-Some (has_number f) ss i s at in
      is_number s.number f (ap (has_number f) is ∙ p.1)

  -- the file put back after a step that keeps its number
  pub put_back : (step : FileState → FileState) (s t : FileState) → s ≡ get_or ss i s → t ≡ step s → (step s).number ≡ s.number → Changes f step ss (set ss i t)
  put_back step s t is stepped keeps =
      let p = position-Some (has_number f) ss i no_file at in
      let number : t.number ≡ f = ap (λ (u : FileState). u.number) stepped ∙ keeps ∙ found_number s is in
      let same : has_number f t ≡ true = grind (arith, nat_tests) in
      let old : (get_or ss i no_file).number ≡ f = is_number _ _ p.1 in
      record {
        this = first_set ss i f t p.0 p.2 same ∙ stepped ∙ ap step (sym (found s is));
        others = λ g apart.
            let a : ((get_or ss i no_file).number == g) ≡ false = grind (arith, nat_tests) in
            let b : (t.number == g) ≡ false = grind (arith, nat_tests) in
            first_set_other ss i g t a b;
        places = λ g.
            let same_number : has_number g t ≡ has_number g (get_or ss i no_file) = ap (λ n. n == g) (number ∙ sym old) in
            let at_same = position_or_len-set (has_number g) ss i t no_file same_number in
            ap (λ n. cond (nat_lt n (length (set ss i t))) (Some n) None) at_same ∙ ap (λ n. cond (nat_lt (position_or_len (has_number g) ss) n) (Some (position_or_len (has_number g) ss)) None) (length-set ss i t);
      }

  -- the file put back after a step or as it was
  pub put_back_if : (b : Bool) (step : FileState → FileState) (s t : FileState) → s ≡ get_or ss i s → (IsTrue b → t ≡ step s) → (b ≡ false → t ≡ s) → (step s).number ≡ s.number → Works b f step ss (set ss i t)
  put_back_if true step s t is stepped same keeps = put_back step s t is (stepped refl) keeps
  put_back_if false step s t is stepped same keeps = ap (set ss i) (same refl ∙ is) ∙ set-get_or ss i s

  -- whether a write that ends here passes
  pub can_write_here : (s : FileState) → s ≡ get_or ss i s → (end : ℕ) → end ≤ FILE_BYTES → can_write ss f end ≡ nat_le end s.room
  can_write_here s is end le =
      let some : is_some (place_of ss f) ≡ true = ap is_some at in
      let small : nat_le end FILE_BYTES ≡ true = grind (arith, nat_tests) in
      ap (λ a. a && nat_le end FILE_BYTES && nat_le end (state_of ss f).room) some ∙ ap (λ b. true && b && nat_le end (state_of ss f).room) small ∙ ap (λ (s : FileState). nat_le end s.room) (found s is)

-- past the greatest size of a file no write passes
pub no_write_past : (ss : List FileState) (f end : ℕ) → FILE_BYTES < end → can_write ss f end ≡ false
no_write_past ss f end past_end =
    let large : nat_le end FILE_BYTES ≡ false = grind (arith, nat_tests) in
    ap (λ b. is_some (place_of ss f) && b && nat_le end (state_of ss f).room) large ∙ never (is_some (place_of ss f))
  where
    never : (b : Bool) → (b && false && nat_le end (state_of ss f).room) ≡ false
    never true = refl
    never false = refl

-- a step that leaves what a file is
pub stays : (ss : List FileState) (f : ℕ) (step : FileState → FileState) → step (state_of ss f) ≡ state_of ss f → Changes f step ss ss
stays ss f step same = record { this = sym same; others = λ g apart. refl; places = λ g. refl }

pub consistent_none : IsConsistent no_file
consistent_none = record {
  least = omega arith;
  most = omega arith;
  within = omega arith;
  low_synced = omega arith;
  kept = λ k lt unwritten. refl;
  grown = λ k ge lt. absurd (omega arith);
}

pub cut_none : (size : ℕ) → cut_to size no_file ≡ no_file
cut_none size =
    let seen : take {A = ℕ} size [] ≡ [] = take_all size [] (omega arith) in
    let low : min 0 size ≡ 0 = omega arith in
    cc

pub read_none : (at : ℕ) (buf seen : List ℕ) → seen ≡ [] → at + length buf ≤ length seen → buf ≡ take (length buf) (drop at seen)
read_none at buf seen none le =
    let short : length buf ≡ 0 = omega (arith, ap length none) in
    nil_from_length buf short ∙ sym (nil_from_length (take (length buf) (drop at seen)) (omega (arith, short, length-take (length buf) (drop at seen))))
