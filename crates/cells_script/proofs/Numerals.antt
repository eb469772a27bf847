-- What reading a number gives is the number that its digits write.
use Rattle.std.proofs.Common.{◌≡◌, ℕ, ◌<◌, ◌≤◌, true, false, Bool, ◌&&◌, List, length, refl, arith, rules, Some, Result, Ok, Err, not, ◌==◌, ◌||◌, ap, le-leb}
use Rattle.std.specs.Prelude.{slice_index}
use Rattle.claim_types.specs.declared.limits.TheConstants.{GREATEST_NUMBER}
use Rattle.std.specs.Char.{is_ascii_digit}
use Rattle.std.specs.List.{list_all}
use Rattle.std.specs.Result.{result_ok}
use Rattle.std.specs.Str.Parse.{ParsesUnsigned, digits_value}
use Rattle.std.proofs.lemmas.Str.Parse.{IsNumeralModel, numerals_by_value, parse_digits}
use Rattle.cells_script.specs.Numbers.{is_numeral, number_of}

own : IsNumeralModel (λ ds. list_all is_ascii_digit ds ≡ true) (digits_value 10)
own = numerals_by_value _ (search rules)

both : (a b : Bool) → (a && b) ≡ true → (a ≡ true) × (b ≡ true)
both true b h = (refl, h)
both false b h = absurd (search rules)

pub numeral_parts : (word : List ℕ) → is_numeral word ≡ true → (list_all is_ascii_digit word ≡ true) × (0 < length word)
unfolding is_numeral
numeral_parts word h =
    let p = both (list_all is_ascii_digit word && not (length word == 0)) (length word == 1 || not (slice_index word 0 == 48)) h in
    let q = both (list_all is_ascii_digit word) (not (length word == 0)) p.0 in
    (q.0, grind (arith, q.1))

pub number_read : {E : Type 0} (word : List ℕ) (r : Result ℕ E) → ParsesUnsigned 64 10 word r → is_numeral word ≡ true → result_ok r ≡ number_of word
unfolding number_of
number_read {E = E} word (Ok n) parses is =
    let p = numeral_parts word is in
    let h = parse_digits own {E = E} 64 word (Ok n) parses p.0 in
    let small : digits_value 10 word ≤ GREATEST_NUMBER = omega (arith, h.0) in
    rw (is, le-leb (digits_value 10 word) GREATEST_NUMBER small) (ap Some h.1)
number_read {E = E} word (Err e) parses is =
    let p = numeral_parts word is in
    let h = parse_digits own {E = E} 64 word (Err e) parses p.0 in
    grind (arith, is, p.1, h)
