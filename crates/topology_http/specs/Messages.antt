-- The message at the front of bytes, and why there is none, in the order in which the reasons are sought.
use Rattle.std.specs.Prelude.{◌≡◌, ℕ, ◌+◌, Bool, true, ◌&&◌, if◌then◌else◌, nat_lt, nat_le, bytes_eq, codes, List, [], ◌∷◌, length, map, take, slice_range, Option, Some, None, option_map, Result, Ok, Err}
use Rattle.std.specs.List.{filter, list_all}
use Rattle.std.specs.Char.{is_ascii_digit, to_ascii_lowercase}
use Rattle.std.specs.Str.Parse.{digits_value}
use Rattle.claim_types.specs.declared.limits.TheConstants.{BODY}
use Rattle.topology_http.specs.declared.limits.TheConstants.{HEAD_BYTES, LENGTH_DIGITS}
use Rattle.topology_http.specs.declared.fault.HttpFault.{HttpFault}
use Rattle.topology_http.specs.declared.fault.HttpFault.TheVariants.{Partial, BadHead, Chunked, NoLength, TooLarge}
use Rattle.topology_http.specs.declared.message.Message.{Message}
use Rattle.topology_http.specs.declared.message.Side.{Side}
use Rattle.topology_http.specs.Heads.{Start, Asked, Answered, Head, HeadAnswer, Whole, Unfinished, Refused, Answers, start_of}

-- a step after another that found no fault
infixl 10 ◌>>=◌
abbrev pub ◌>>=◌ : {A B : Type 0} → Result A HttpFault → (A → Result B HttpFault) → Result B HttpFault
(Ok x) >>= f = f x
(Err e) >>= f = Err e

-- a field has this name, whatever the case
abbrev pub has_name : List ℕ → List ℕ × List ℕ → Bool
has_name name field = bytes_eq (map to_ascii_lowercase field.0) (map to_ascii_lowercase name)

-- the values of the fields with this name, in their order
unfoldable pub values : List ℕ → List (List ℕ × List ℕ) → List (List ℕ)
values name fields = map (λ f. f.1) (filter (has_name name) fields)

abbrev pub first_of : List (List ℕ) → Option (List ℕ)
first_of [] = None
first_of (v ∷ vs) = Some v

-- a length is 1 to 19 digits
unfoldable pub number_in : List ℕ → Option ℕ
number_in value =
    if nat_le 1 (length value) && nat_le (length value) LENGTH_DIGITS && list_all is_ascii_digit value
    then Some (digits_value 10 value) else None

abbrev pub told : Option ℕ → Result (Option ℕ) HttpFault
told None = Err BadHead
told (Some n) = Ok (Some n)

-- the length that the fields tell: none, or that of the one field
abbrev pub length_told : List (List ℕ) → Result (Option ℕ) HttpFault
length_told [] = Ok None
length_told (value ∷ []) = told (number_in value)
length_told (value ∷ other ∷ others) = Err BadHead

-- the body comes as it is
abbrev pub unless_chunked : List (List ℕ) → Option ℕ → Result (Option ℕ) HttpFault
unless_chunked [] n = Ok n
unless_chunked (value ∷ others) n = Err Chunked

-- a POST and a response tell their length
abbrev pub tells_length : Start → Bool
tells_length (Asked method target) = bytes_eq method (codes "POST")
tells_length (Answered status) = true

abbrev pub body_length : Start → Option ℕ → Result ℕ HttpFault
body_length first None = if tells_length first then Err NoLength else Ok 0
body_length first (Some n) = if nat_lt BODY n then Err (TooLarge n) else Ok n

-- how long the body is behind a first line and fields
unfoldable pub length_of_body : Start → List (List ℕ × List ℕ) → Result ℕ HttpFault
length_of_body first fields =
    length_told (values (codes "content-length") fields)
    >>= unless_chunked (values (codes "transfer-encoding") fields)
    >>= body_length first

abbrev pub length_behind : Head → Result ℕ HttpFault
length_behind head = length_of_body head.first head.fields

-- a message in its parts: what it begins with, its cookie, its body, and its length in bytes
pub record Parts : Type 0 where
  pub first : Start
  pub cookie : Option (List ℕ)
  pub body : List ℕ
  pub used : ℕ

-- the parts that slices show
abbrev pub parts_of : Message → Parts
parts_of m = record { first = start_of m.first; cookie = option_map (λ c. c.now) m.cookie; body = m.body.now; used = m.used }

-- the message of a head and n bytes behind it
unfoldable pub message_with : Head → List ℕ → ℕ → Result Parts HttpFault
message_with head bytes n =
    if nat_lt (length bytes) (head.size + n) then Err Partial
    else Ok (record {
      first = head.first;
      cookie = first_of (values (codes "cookie") head.fields);
      body = slice_range bytes head.size (head.size + n);
      used = head.size + n;
    })

abbrev pub message_behind : Head → List ℕ → Result Parts HttpFault
message_behind head bytes = length_behind head >>= message_with head bytes

-- the message, by what stands at its front
abbrev pub message_after : HeadAnswer → List ℕ → Result Parts HttpFault
message_after (Whole head) bytes = message_behind head bytes
message_after Unfinished bytes = if nat_le (length bytes) HEAD_BYTES then Err Partial else Err BadHead
message_after Refused bytes = Err BadHead

abbrev pub shown : Result Message HttpFault → Result Parts HttpFault
shown (Ok m) = Ok (parts_of m)
shown (Err e) = Err e

-- what a side's bytes may be read as: the message of an answer that its first bytes may be given, or why there is none
abbrev pub IsReadAs : Side → List ℕ → Result Parts HttpFault → Type 0
IsReadAs side bytes r = (answer : HeadAnswer) × Answers side (take HEAD_BYTES bytes) answer × (r ≡ message_after answer bytes)
