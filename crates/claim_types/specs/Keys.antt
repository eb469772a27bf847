-- The key that a bucket reads from a text, or the first refusal. It is a rule on the whole text.
use Rattle.std.specs.Prelude.{◌≡◌, ℕ, Bool, true, false, not, ◌&&◌, ◌||◌, ◌==◌, nat_lt, nat_le, nat_eq, if◌then◌else◌, List, [], ◌∷◌, length, map, codes, position, take, Option, Some, None, Result, Ok, Err}
use Rattle.std.specs.List.{list_all, list_any, starts_with, ends_with, slice_split, before_first}
use Rattle.std.specs.Option.{option_or}
use Rattle.std.specs.Str.{byte, bytes_eq}
use Rattle.std.specs.Char.{to_ascii_lowercase, is_ascii_digit, is_ascii_lowercase, is_ascii_graphic}
use Rattle.std.specs.Int.{is_in_range}
use Rattle.claim_types.specs.declared.key.Bucket.{Bucket}
use Rattle.claim_types.specs.declared.key.Bucket.TheVariants.{OrganizationPath, Route, Address, SshKey, PagesDomain}
use Rattle.claim_types.specs.declared.key.ClaimKey.{ClaimKey}
use Rattle.claim_types.specs.declared.key.KeyFault.{KeyFault}
use Rattle.claim_types.specs.declared.key.KeyFault.TheVariants.{Empty, TooLong, BadByte, BadSegment, Reserved, Memory}
use Rattle.claim_types.specs.declared.limits.TheConstants.{KEY_BYTES, SEGMENT_BYTES, ROUTE_SEGMENTS, LABEL_BYTES, FEWEST_LABELS, MOST_LABELS, FINGERPRINT_DIGITS}

-- a small letter or a digit
abbrev pub is_plain : ℕ → Bool
is_plain b = is_ascii_digit b || is_ascii_lowercase b

-- what a segment of a path may have: these, '_', '.' and '-'
abbrev pub is_segment_byte : ℕ → Bool
is_segment_byte b = is_plain b || b == byte "_" || b == byte "." || b == byte "-"

-- '/' stands between the segments of a route, and '.' between the labels of a domain
abbrev pub is_slash : ℕ → Bool
is_slash b = b == byte "/"

abbrev pub is_dot : ℕ → Bool
is_dot b = b == byte "."

-- the alphabet of a bucket; an address has the printed ASCII but '"' and '\'
abbrev pub is_in_alphabet : Bucket → ℕ → Bool
is_in_alphabet OrganizationPath b = is_segment_byte b
is_in_alphabet Route b = is_segment_byte b || is_slash b
is_in_alphabet Address b = is_ascii_graphic b && not (b == byte "\"" || b == byte "\\")
is_in_alphabet SshKey b = is_ascii_digit b || is_in_range (byte "a") (byte "f") b
is_in_alphabet PagesDomain b = is_plain b || b == byte "-" || is_dot b

-- a small letter, a digit or '_' stands first; an empty segment has nothing that begins it
abbrev pub begins_well : List ℕ → Bool
begins_well [] = false
begins_well (b ∷ bs) = is_plain b || b == byte "_"

-- the endings that no segment has
abbrev pub ends_badly : List ℕ → Bool
ends_badly s = ends_with nat_eq s (codes ".") || ends_with nat_eq s (codes ".git") || ends_with nat_eq s (codes ".atom")

-- a segment of a path: 1 to 63 bytes
abbrev pub is_segment : List ℕ → Bool
is_segment s = nat_le (length s) SEGMENT_BYTES && list_all is_segment_byte s && begins_well s && not (ends_badly s)

-- a label has small letters, digits and '-'
abbrev pub is_label_byte : ℕ → Bool
is_label_byte b = is_plain b || b == byte "-"

-- a label of a domain: 1 to 63 bytes, neither beginning nor ending with '-'
abbrev pub is_label : List ℕ → Bool
is_label s = nat_le 1 (length s) && nat_le (length s) LABEL_BYTES && list_all is_label_byte s && not (starts_with nat_eq s (codes "-")) && not (ends_with nat_eq s (codes "-"))

-- the parts of a bucket's value
abbrev pub parts_of : Bucket → List ℕ → List (List ℕ)
parts_of OrganizationPath value = value ∷ []
parts_of Route value = slice_split is_slash value
parts_of Address value = value ∷ []
parts_of SshKey value = value ∷ []
parts_of PagesDomain value = slice_split is_dot value

-- what each part has to be; an address is opaque, and a fingerprint has 64 digits
abbrev pub is_part : Bucket → List ℕ → Bool
is_part OrganizationPath part = is_segment part
is_part Route part = is_segment part
is_part Address part = true
is_part SshKey part = length part == FINGERPRINT_DIGITS
is_part PagesDomain part = is_label part

-- how many parts a value has at least
abbrev pub fewest_parts : Bucket → ℕ
fewest_parts OrganizationPath = 1
fewest_parts Route = 1
fewest_parts Address = 1
fewest_parts SshKey = 1
fewest_parts PagesDomain = FEWEST_LABELS

-- and at most
abbrev pub most_parts : Bucket → ℕ
most_parts OrganizationPath = 1
most_parts Route = ROUTE_SEGMENTS
most_parts Address = 1
most_parts SshKey = 1
most_parts PagesDomain = MOST_LABELS

-- where the number of parts is wrong: the place of the first one too many, or of the one that is missing
abbrev pub miscounted_at : ℕ → ℕ → ℕ → Option ℕ
miscounted_at least most n = if nat_lt most n then Some most else if nat_lt n least then Some n else None

-- the first part that breaks its rule, among the most that a value may have; else the first one too many; else the one that is missing
abbrev pub first_bad : Bucket → List (List ℕ) → Option ℕ
first_bad bucket parts = option_or (position (λ part. not (is_part bucket part)) (take (most_parts bucket) parts)) (miscounted_at (fewest_parts bucket) (most_parts bucket) (length parts))

-- the words that no path begins with
abbrev pub reserved_words : List (List ℕ)
reserved_words =
    codes "admin" ∷ codes "api" ∷ codes "assets" ∷ codes "dashboard" ∷ codes "explore" ∷ codes "files"
    ∷ codes "help" ∷ codes "import" ∷ codes "oauth" ∷ codes "profile" ∷ codes "search" ∷ codes "uploads" ∷ []

abbrev pub is_reserved_word : List ℕ → Bool
is_reserved_word word = list_any (λ reserved. bytes_eq word reserved) reserved_words

-- an organization's path is not such a word, and the first segment of a route is not
abbrev pub is_reserved : Bucket → List ℕ → Bool
is_reserved OrganizationPath value = is_reserved_word value
is_reserved Route value = is_reserved_word (before_first is_slash value)
is_reserved Address value = false
is_reserved SshKey value = false
is_reserved PagesDomain value = false

-- the refusals in the order in which they are sought, of a text in small letters
abbrev pub after_parts : Bucket → List ℕ → Option ℕ → Result ClaimKey KeyFault
after_parts bucket value (Some index) = Err (BadSegment index)
after_parts bucket value None = if is_reserved bucket value then Err Reserved else Ok (record { bucket = bucket; value = value })

abbrev pub after_bytes : Bucket → List ℕ → Option ℕ → Result ClaimKey KeyFault
after_bytes bucket value (Some at) = Err (BadByte at)
after_bytes bucket value None = after_parts bucket value (first_bad bucket (parts_of bucket value))

abbrev pub lowered_key : Bucket → List ℕ → Result ClaimKey KeyFault
lowered_key bucket value = after_bytes bucket value (position (λ b. not (is_in_alphabet bucket b)) value)

-- the key of a text
abbrev pub key_of : Bucket → List ℕ → Result ClaimKey KeyFault
key_of bucket text =
    if length text == 0 then Err Empty
    else if nat_lt KEY_BYTES (length text) then Err TooLong
    else lowered_key bucket (map to_ascii_lowercase text)

-- what was returned is what the rule says, unless memory ran out
abbrev pub GivesKey : Result ClaimKey KeyFault → Result ClaimKey KeyFault → Type 0
GivesKey (Err Memory) rule = Unit {0}
GivesKey result rule = rule ≡ result
