-- Reading parts one after the other, as a loop does.
use Rattle.std.proofs.Common.{◌≡◌, ℕ, suc, ◌-◌, ◌+◌, ◌≤◌, ◌<◌, List, [], ◌∷◌, ◌++◌, Option, Some, None, refl, sym, ap, ◌∙◌, append_assoc, arith}
use Rattle.std.proofs.lemmas.List.{append-nil}
use Rattle.entry_codec.specs.declared.unread.Unread.{Unread}
use Rattle.entry_codec.specs.declared.unread.Unread.TheVariants as unread
use Rattle.entry_codec.specs.Reading.{◌>>=◌, Fails, Part, repeated}

-- what was read before, and what is still read
abbrev pub with_front : {A : Type 0} → List A → Option (List A × List ℕ) → Option (List A × List ℕ)
with_front front read = read >>= λ x. Some (front ++ x.0, x.1)

regroup : {A : Type 0} (front : List A) (a : A) (read : Option (List A × List ℕ)) → with_front front (read >>= λ x. Some (a ∷ x.0, x.1)) ≡ with_front (front ++ a ∷ []) read
regroup {A} front a (Some x) = ap (λ (xs : List A). Some (xs, x.1)) (simp append_assoc)
regroup front a None = refl

module _ {A : Type 0} (part : Part A) where
  pub goes_on : (front : List A) (count i : ℕ) (bytes : List ℕ) (a : A) (after : List ℕ) (total : Option (List A × List ℕ)) → i < count → part bytes ≡ Some (a, after)
      → with_front front (repeated part (count - i) bytes) ≡ total → with_front (front ++ a ∷ []) (repeated part (count - (i + 1)) after) ≡ total
  unfolding repeated
  goes_on front count i bytes a after total lt h so_far =
      let k : count - i ≡ suc (count - (i + 1)) = omega arith in
      let one : with_front front (repeated part (count - i) bytes) ≡ with_front (front ++ a ∷ []) (repeated part (count - (i + 1)) after) = rw (k, h) (regroup front a (repeated part (count - (i + 1)) after)) in
      sym one ∙ so_far

  pub ends : (e : Unread) (front : List A) (count i : ℕ) (bytes : List ℕ) (total : Option (List A × List ℕ)) → i < count → Fails e (part bytes)
      → with_front front (repeated part (count - i) bytes) ≡ total → Fails e total
  unfolding repeated
  ends unread.Memory front count i bytes total lt h so_far = tt
  ends unread.OutsideGrammar front count i bytes total lt h so_far =
      let k : count - i ≡ suc (count - (i + 1)) = omega arith in
      let one : with_front front (repeated part (count - i) bytes) ≡ None = rw (k, h) refl in
      sym so_far ∙ one

  pub is_done : (front : List A) (count i : ℕ) (bytes : List ℕ) (total : Option (List A × List ℕ)) → count ≤ i → with_front front (repeated part (count - i) bytes) ≡ total → total ≡ Some (front, bytes)
  unfolding repeated
  is_done front count i bytes total le so_far =
      let k : count - i ≡ 0 = omega arith in
      let one : with_front front (repeated part (count - i) bytes) ≡ Some (front, bytes) = rw k (ap (λ (xs : List A). Some (xs, bytes)) (append-nil front)) in
      sym so_far ∙ one
