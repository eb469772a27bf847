-- The words of a line: runs of visible bytes, with one space or more between two of them.
use Rattle.std.specs.Prelude.{ℕ, ◌==◌, ◌-◌, ◌&&◌, ◌||◌, Bool, not, nat_le, List, [], length, filter, drop, slice_index, position, Option, Some, None}
use Rattle.std.specs.List.{slice_split, list_all}
use Rattle.cells_script.specs.declared.limits.TheConstants.{LINE_BYTES}

abbrev pub is_space : ℕ → Bool
is_space byte = byte == 32

-- a byte of a word, and a byte of a line
abbrev pub is_visible : ℕ → Bool
is_visible byte = nat_le 33 byte && nat_le byte 126

abbrev pub is_printable : ℕ → Bool
is_printable byte = nat_le 32 byte && nat_le byte 126

abbrev pub is_word : List ℕ → Bool
is_word word = not (length word == 0)

abbrev pub is_all_printable : List ℕ → Bool
is_all_printable line = list_all is_printable line

abbrev pub has_space_at_an_end : List ℕ → Bool
has_space_at_an_end line = is_space (slice_index line 0) || is_space (slice_index line (length line - 1))

-- a line is not too long, has no other bytes, and has no space at an end
unfoldable pub is_made_of_words : List ℕ → Bool
is_made_of_words line = nat_le (length line) LINE_BYTES && is_all_printable line && not (has_space_at_an_end line)

-- its words, in order
unfoldable pub words_in : List ℕ → List (List ℕ)
words_in line = filter is_word (slice_split is_space line)

-- what stands from a place on, if there is one
abbrev pub from_place : Option ℕ → List ℕ → List ℕ
from_place None bytes = []
from_place (Some at) bytes = drop at bytes

-- the line from its first space on, and from its first word on
abbrev pub from_space : List ℕ → List ℕ
from_space line = from_place (position is_space line) line

abbrev pub from_word : List ℕ → List ℕ
from_word line = from_place (position (λ b. not (is_space b)) line) line

-- the line from its second word on
unfoldable pub after_word : List ℕ → List ℕ
after_word line = from_word (from_space line)

-- the line from its fourth word on, as it stands
abbrev pub after_three_words : List ℕ → List ℕ
after_three_words line = after_word (after_word (after_word line))
