-- The words of a line that is made of words are such, and so is what stands behind some of them.
use Rattle.std.proofs.Common.{◌≡◌, ℕ, suc, ◌<◌, ◌≤◌, zero, Bool, true, false, ◌&&◌, not, nat_le, cond, List, [], ◌∷◌, length, map, filter, drop, length-drop, Option, Some, None, Bor, refl, sym, subst, rules, arith}
use Rattle.std.specs.List.{All, AllByRecursion, list_all, slice_split, onto_first}
use Rattle.std.proofs.lemmas.Bool.{leb-true}
use Rattle.std.proofs.lemmas.Str.{IsUtf8-from_ascii}
use Rattle.std.specs.Str.{IsUtf8}
use Rattle.std.specs.Prelude.{slice_index}
use Rattle.cells_script.specs.Lines.{line_with, line_of}
use Rattle.cells_script.specs.Bounds.{IsWord, IsRest}
use Rattle.cells_script.specs.Words.{is_space, is_visible, is_printable, is_word, is_all_printable, has_space_at_an_end, is_made_of_words, words_in, from_place, from_space, after_word, after_three_words}
use Rattle.cells_script.specs.declared.limits.TheConstants.{LINE_BYTES}

both : (a b : Bool) → (a && b) ≡ true → (a ≡ true) × (b ≡ true)
both true b h = (refl, h)
both false b h = absurd (search rules)

-- a part of a line: not too long, and of visible bytes
IsPart : ℕ → List ℕ → Type 0
IsPart n part = (length part ≤ n) × (list_all is_visible part ≡ true)

visible : (b : ℕ) → is_printable b ≡ true → is_space b ≡ false → is_visible b ≡ true
visible b p s = grind (arith, p, s)

visible_more : (b : ℕ) (bs : List ℕ) → is_visible b ≡ true → list_all is_visible bs ≡ true → list_all is_visible (b ∷ bs) ≡ true
visible_more b bs h t = rw h t

onto : (b n : ℕ) (parts : List (List ℕ)) → is_visible b ≡ true → AllByRecursion (IsPart n) parts → AllByRecursion (IsPart (suc n)) parts
    → AllByRecursion (IsPart (suc n)) (onto_first b parts)
unfolding IsPart
onto b n [] v short long = ((omega arith, visible_more b [] v refl), tt)
onto b n (part ∷ parts) v short long = ((omega (arith, short.0.0), visible_more b part v short.0.1), long.1)

-- one byte more in front: it ends a part, or belongs to the first
in_front : (b n : ℕ) (parts : List (List ℕ)) (space : Bool) → (space ≡ false → is_visible b ≡ true)
    → AllByRecursion (IsPart n) parts → AllByRecursion (IsPart (suc n)) parts
    → AllByRecursion (IsPart (suc n)) (cond space ([] ∷ parts) (onto_first b parts))
unfolding IsPart
in_front b n parts true v short long = ((omega arith, refl), long)
in_front b n parts false v short long = onto b n parts (v refl) short long

parts_are : (n : ℕ) (line : List ℕ) → length line ≤ n → list_all is_printable line ≡ true → AllByRecursion (IsPart n) (slice_split is_space line)
unfolding IsPart
parts_are n [] h p = ((omega arith, refl), tt)
parts_are zero (b ∷ bs) h p = absurd (omega arith)
parts_are (suc n) (b ∷ bs) h p =
    let q = both (is_printable b) (list_all is_printable bs) p in
    in_front b n (slice_split is_space bs) (is_space b) (λ e. visible b q.0 e) (parts_are n bs (omega arith) q.1) (parts_are (suc n) bs (omega arith) q.1)

-- a part that is not empty is a word
keep : (word : List ℕ) (is : Bool) (words : List (List ℕ)) → (is ≡ true → IsWord word) → AllByRecursion IsWord words → AllByRecursion IsWord (cond is (word ∷ words) words)
keep word true words h are = (h refl, are)
keep word false words h are = are

kept : (n : ℕ) (parts : List (List ℕ)) → n ≤ LINE_BYTES → AllByRecursion (IsPart n) parts → AllByRecursion IsWord (filter is_word parts)
unfolding IsPart
kept n [] h are = tt
kept n (part ∷ parts) h are = keep part (is_word part) (filter is_word parts)
    (λ is. record { some = grind (arith, is); not_too_long = omega (arith, are.0.0); visible = are.0.1 })
    (kept n parts h are.1)

-- what holds of each mapped element, by its place
placed : {A : Type 0} (f : A → List ℕ) (xs : List A) → AllByRecursion IsWord (map f xs) → All (λ x. IsWord (f x)) xs
placed f [] are k d lt = absurd (omega arith)
placed f (x ∷ xs) are zero d lt = are.0
placed f (x ∷ xs) are (suc k) d lt = placed f xs are.1 k d (omega arith)

made : (line : List ℕ) → is_made_of_words line ≡ true → (length line ≤ LINE_BYTES) × (list_all is_printable line ≡ true)
unfolding is_made_of_words
made line h =
    let p = both (nat_le (length line) LINE_BYTES && is_all_printable line) (not (has_space_at_an_end line)) h in
    let q = both (nat_le (length line) LINE_BYTES) (is_all_printable line) p.0 in
    (leb-true (length line) LINE_BYTES q.0, q.1)

words_are : (line : List ℕ) → is_made_of_words line ≡ true → AllByRecursion IsWord (words_in line)
unfolding words_in
words_are line h = let m = made line h in kept (length line) (slice_split is_space line) m.0 (parts_are (length line) line (omega arith) m.1)

pub all_words : (line : List ℕ) (words : List (Bor (List ℕ))) → is_made_of_words line ≡ true → map (λ w. w.now) words ≡ words_in line → All (λ w. IsWord w.now) words
all_words line words h same = placed (λ w. w.now) words (subst (AllByRecursion IsWord) (sym same) (words_are line h))

printable_drop : (n : ℕ) (bs : List ℕ) → list_all is_printable bs ≡ true → list_all is_printable (drop n bs) ≡ true
printable_drop zero bs h = h
printable_drop (suc n) [] h = h
printable_drop (suc n) (b ∷ bs) h = printable_drop n bs (both (is_printable b) (list_all is_printable bs) h).1

rest_from : (place : Option ℕ) (bs : List ℕ) → IsRest bs → IsRest (from_place place bs)
rest_from None bs is = record { not_too_long = omega arith; printable = refl }
rest_from (Some n) bs is =
    let short : length (drop n bs) ≤ LINE_BYTES = omega (arith, is.not_too_long, length-drop n bs) in
    record { not_too_long = short; printable = printable_drop n bs is.printable }

rest_after : (bs : List ℕ) → IsRest bs → IsRest (after_word bs)
unfolding after_word
rest_after bs is = rest_from _ (from_space bs) (rest_from _ bs is)

pub rest_is : (line : List ℕ) → is_made_of_words line ≡ true → IsRest (after_three_words line)
rest_is line h =
    let m = made line h in
    rest_after _ (rest_after _ (rest_after line (record { not_too_long = m.0; printable = m.1 })))

-- such a line is a text, and so is a word, and the rest of a line
small : (bs : List ℕ) (k : ℕ) → list_all is_printable bs ≡ true → slice_index bs k < 128
small [] k h = omega arith
small (b ∷ bs) zero h = grind (arith, (both (is_printable b) (list_all is_printable bs) h).0)
small (b ∷ bs) (suc k) h = small bs k (both (is_printable b) (list_all is_printable bs) h).1

printable : (bs : List ℕ) → list_all is_visible bs ≡ true → list_all is_printable bs ≡ true
printable [] h = refl
printable (b ∷ bs) h =
    let p = both (is_visible b) (list_all is_visible bs) h in
    let q : is_printable b ≡ true = grind (arith, p.0) in
    rw q (printable bs p.1)

pub utf8_is : (line : List ℕ) → is_made_of_words line ≡ true → IsUtf8 line
utf8_is line h = IsUtf8-from_ascii line (λ k. small line k (made line h).1)

pub words_are_utf8 : (word : List ℕ) → IsWord word → IsUtf8 word
words_are_utf8 word is = IsUtf8-from_ascii word (λ k. small word k (printable word is.visible))

pub rests_are_utf8 : (rest : List ℕ) → IsRest rest → IsUtf8 rest
rests_are_utf8 rest is = IsUtf8-from_ascii rest (λ k. small rest k is.printable)

-- and it is the line with these words
pub line_is : (line cookie : List ℕ) (words : List (Bor (List ℕ))) → is_made_of_words line ≡ true → cookie ≡ after_three_words line
    → map (λ w. w.now) words ≡ words_in line → line_with cookie (map (λ w. w.now) words) ≡ line_of line
unfolding line_of
line_is line cookie words h e f = rw (h, e, f) refl
