-- The numbers that words write.
use Rattle.std.specs.Prelude.{ℕ, ◌==◌, ◌&&◌, ◌||◌, Bool, not, nat_le, if◌then◌else◌, List, length, slice_index, Option, Some, None}
use Rattle.std.specs.Char.{is_ascii_digit}
use Rattle.std.specs.List.{list_all}
use Rattle.std.specs.Str.Parse.{digits_value}
use Rattle.claim_types.specs.declared.limits.TheConstants.{GREATEST_CELL, GREATEST_NUMBER}

-- decimal digits alone, and no zero in front of others
unfoldable pub is_numeral : List ℕ → Bool
is_numeral word = list_all is_ascii_digit word && not (length word == 0) && (length word == 1 || not (slice_index word 0 == 48))

-- the number of 64 bits that a word writes
unfoldable pub number_of : List ℕ → Option ℕ
number_of word = if is_numeral word && nat_le (digits_value 10 word) GREATEST_NUMBER then Some (digits_value 10 word) else None

-- the number, if it is one of these
abbrev pub between : ℕ → ℕ → Option ℕ → Option ℕ
between least most None = None
between least most (Some n) = if nat_le least n && nat_le n most then Some n else None

unfoldable pub number_in : ℕ → ℕ → List ℕ → Option ℕ
number_in least most word = between least most (number_of word)

-- the cell that it names
abbrev pub cell_in : List ℕ → Option ℕ
cell_in word = number_in 1 GREATEST_CELL word
