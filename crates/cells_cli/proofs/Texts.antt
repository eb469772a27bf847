-- What was read of a text into a buffer.
use Rattle.std.proofs.Common.{◌≡◌, ℕ, ◌<◌, ◌≤◌, List, [], ◌++◌, length, take, sym, ap, ◌∙◌, arith, length-append, length-take-le, take-take}
use Rattle.std.proofs.lemmas.List.{append-nil, take-append-le}

module _ (end limit : ℕ) (buffer left whole : List ℕ) (read : take end buffer ++ left ≡ whole) where
  pub is_long : end ≤ length buffer → limit < end → limit < length whole
  is_long within over =
      let front = length-take-le end buffer within in
      let both = length-append (take end buffer) left in
      let same = ap length read in
      omega arith

  pub is_whole : (end < length buffer → left ≡ []) → end < length buffer → take end buffer ≡ whole
  is_whole ended room = sym (append-nil (take end buffer)) ∙ ap (λ (l : List ℕ). take end buffer ++ l) (sym (ended room)) ∙ read

-- a front of a buffer that was written back into its room
pub front_kept : (end room : ℕ) (buffer behind : List ℕ) → end ≤ length buffer → end ≤ room → take end (take room (buffer ++ behind)) ≡ take end buffer
front_kept end room buffer behind within most = take-take end room (buffer ++ behind) most ∙ take-append-le end buffer behind within
