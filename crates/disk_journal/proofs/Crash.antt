-- The files of a disk in memory after a crash.
use Rattle.std.proofs.Common.{◌≡◌, inl, inr, Bool, true, false, cond, ◌==◌, if◌then◌else◌, ℕ, zero, suc, ◌+◌, ◌-◌, ◌<◌, ◌%◌, List, [], ◌∷◌, ◌++◌, map, length, get_or, set, take, drop, replicate, refl, sym, ◌∙◌, ap, subst, arith, append_assoc, length-take}
use Rattle.std.proofs.lemmas.List.{drop_more, take_more, map_push, set_at, get_or_at, length-map, take_at}
use Rattle.disk_journal.specs.Disk.{IsImage}
use Rattle.disk_journal.specs.Memory.{FileState, IsLeft, MayLeave, left_by, crashed, torn, flushed, with_seen, no_file, state_of}
use Rattle.disk_journal.proofs.Calls.{from_flush}

left_none : (pick : ℕ) → left_by pick no_file ≡ []
left_none pick = none (pick == 0)
  where
    none : (b : Bool) → (if b then take {A = ℕ} 0 [] ++ replicate (0 - 0) 0 else torn (pick % 256) [] []) ≡ []
    none true = refl
    none false = refl

crashed_none : (pick : ℕ) → crashed pick no_file ≡ no_file
crashed_none pick = ap (λ bytes. flushed (record { number = 0; seen = bytes; synced = []; written = []; low = 0; room = 0 })) (left_none pick)

-- the crash of all files is the crash of each
pub crashed_of : (pick : ℕ) (ss : List FileState) (f : ℕ) → state_of (map (crashed pick) ss) f ≡ crashed pick (state_of ss f)
crashed_of pick [] f = sym (crashed_none pick)
crashed_of pick (s ∷ ss) f = ap (λ (rest : FileState). cond (s.number == f) (crashed pick s) rest) (crashed_of pick ss f) ∙ pushed (s.number == f)
  where
    pushed : (b : Bool) → cond b (crashed pick s) (crashed pick (state_of ss f)) ≡ crashed pick (cond b s (state_of ss f))
    pushed true = refl
    pushed false = refl

one_of : (pick : ℕ) (b : Bool) (s rest : FileState) → MayLeave s (left_by pick s) → MayLeave rest (left_by pick rest) → MayLeave (cond b s rest) (left_by pick (cond b s rest))
one_of pick true s rest this others = this
one_of pick false s rest this others = others

-- what is left of each is a content that a crash might leave
pub left_of : (pick : ℕ) (ss : List FileState) → ((k : ℕ) → k < length ss → IsLeft (get_or ss k no_file) (left_by pick (get_or ss k no_file))) → (f : ℕ) → MayLeave (state_of ss f) (left_by pick (state_of ss f))
left_of pick [] may f = inl (left_none pick)
left_of pick (s ∷ ss) may f = one_of pick (s.number == f) s (state_of ss f) (inr (may zero (omega arith))) (left_of pick ss (λ k lt. may (suc k) (omega arith)) f)

-- one file more in the loop
module _ (pick i : ℕ) (old now : List FileState) (lt : i < length old) (so_far : now ≡ map (crashed pick) (take i old) ++ drop i old) where
  here : now ≡ map (crashed pick) (take i old) ++ get_or old i no_file ∷ drop (i + 1) old
  here = so_far ∙ ap (λ rest. map (crashed pick) (take i old) ++ rest) (drop_more old i no_file lt)

  long : length (map (crashed pick) (take i old)) ≡ i
  long = omega (arith, length-map (take i old) (crashed pick), length-take i old)

  pub next_is : (d : FileState) → get_or now i d ≡ get_or old i no_file
  next_is d = ap (λ (l : List FileState). get_or l i d) here ∙ get_or_at (map (crashed pick) (take i old)) (get_or old i no_file) (drop (i + 1) old) d i long

  pub one_more : (t : FileState) → t ≡ crashed pick (get_or old i no_file) → set now i t ≡ map (crashed pick) (take (i + 1) old) ++ drop (i + 1) old
  one_more t is =
      ap (λ (l : List FileState). set l i t) here ∙ set_at (map (crashed pick) (take i old)) (get_or old i no_file) (drop (i + 1) old) t i long
      ∙ ap (λ u. map (crashed pick) (take i old) ++ u ∷ drop (i + 1) old) is
      ∙ sym (append_assoc (map (crashed pick) (take i old)) (crashed pick (get_or old i no_file) ∷ []) (drop (i + 1) old))
      ∙ sym (ap (λ (l : List FileState). map (crashed pick) l ++ drop (i + 1) old) (take_more old i no_file lt) ∙ ap (λ (l : List FileState). l ++ drop (i + 1) old) (map_push (crashed pick) (take i old) (get_or old i no_file)))

-- a slice written over a whole list
pub whole_is : {X : Type 0} (len : ℕ) (items xs : List X) → length xs ≡ length items → len ≡ length items → take len (xs ++ drop (length xs) items) ≡ xs
whole_is len items xs long is = take_at xs (drop (length xs) items) len (omega (arith, long, is))

module _ (pick len : ℕ) (old xs : List FileState) (left : xs ≡ map (crashed pick) old) (is : len ≡ length old) where
  abbrev pub new : List FileState
  new = take len (xs ++ drop (length xs) old)

  pub new_is : new ≡ map (crashed pick) old
  new_is = whole_is len old xs (ap length left ∙ length-map old (crashed pick)) is ∙ left

  pub each_left : (f : ℕ) → state_of new f ≡ crashed pick (state_of old f)
  each_left f = ap (λ ss. state_of ss f) new_is ∙ crashed_of pick old f

  pub image_left : ((k : ℕ) → k < length old → IsLeft (get_or old k no_file) (left_by pick (get_or old k no_file))) → IsImage (λ f. MayLeave (state_of old f)) (λ f. (state_of new f).seen)
  image_left may f = subst (MayLeave (state_of old f)) (sym (ap (λ (s : FileState). s.seen) (each_left f))) (left_of pick old may f)

  pub all_synced : (f : ℕ) (c : List ℕ) → MayLeave (state_of new f) c → c ≡ (state_of new f).seen
  all_synced f c may =
      from_flush (with_seen (left_by pick (state_of old f)) (state_of old f)) c (subst (λ s. MayLeave s c) (each_left f) may) ∙ sym (ap (λ (s : FileState). s.seen) (each_left f))
