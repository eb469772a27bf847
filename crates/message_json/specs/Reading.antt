-- How the members of a body are read: one after the other, up to the first fault.
use Rattle.std.specs.Prelude.{◌≡◌, ℕ, Bool, ◌||◌, nat_lt, if◌then◌else◌, List, [], ◌∷◌, ◌++◌, length, codes, Option, Some, None, option_and_then, Result, Ok, Err}
use Rattle.std.specs.Str.{bytes_eq}
use Rattle.serde_json.specs.Data.{Data, null, boolean, number, string, array, object, Items, no_items, item}
use Rattle.serde_json.specs.Find.{get, as_bool, as_number, as_u64, as_str, as_array}
use denote.Ref.{Bor}
use Rattle.serde_json.specs.View.{view, items_view}
use Rattle.serde_json.specs.declared.value.Value.{Value}
use Rattle.uuid.specs.Text.{parsed}
use Rattle.claim_types.specs.Keys.{key_of}
use Rattle.claim_types.specs.Leases.{lease_in}
use Rattle.claim_types.specs.Names.{named_bucket, named_subject_kind}
use Rattle.claim_types.specs.Numbers.{numbered_kind}
use Rattle.claim_types.specs.declared.lease.LeaseId.{LeaseId}
use Rattle.claim_types.specs.declared.key.ClaimKey.{ClaimKey}
use Rattle.claim_types.specs.declared.key.KeyFault.{KeyFault}
use Rattle.claim_types.specs.declared.key.Bucket.{Bucket}
use Rattle.claim_types.specs.declared.record.Kind.{Kind}
use Rattle.claim_types.specs.declared.page.ClaimItem.{ClaimItem}
use Rattle.claim_types.specs.declared.question.Question.{Question}
use Rattle.claim_types.specs.declared.question.Question.TheVariants as question
use Rattle.claim_types.specs.declared.limits.TheConstants.{GREATEST_IDENTIFIER, GREATEST_CELL, TEXT_BYTES}
use Rattle.message_json.specs.declared.member.Member.{Member}
use Rattle.message_json.specs.declared.member.Member.TheVariants.{Bucket as BucketMember, Value as ValueMember, Subject as SubjectMember, Table as TableMember, SubjectId, Row, After, By, Cell as CellMember, Text as TextMember}
use Rattle.message_json.specs.declared.fault.BodyFault.{BodyFault}
use Rattle.message_json.specs.declared.fault.BodyFault.TheVariants.{NotJson, Missing, WrongKind, BadValue, Memory}
use Rattle.message_json.specs.Members.{member_text}

-- a step after another that found no fault
infixl 10 ◌>>=◌
abbrev pub ◌>>=◌ : {A B : Type 0} → Result A BodyFault → (A → Result B BodyFault) → Result B BodyFault
(Ok x) >>= f = f x
(Err e) >>= f = Err e

-- what was returned is what the rule says, unless memory ran out
abbrev pub Fails : {A : Type 0} → BodyFault → Result A BodyFault → Type 0
Fails Memory rule = Unit {0}
Fails NotJson rule = rule ≡ Err NotJson
Fails (Missing which) rule = rule ≡ Err (Missing which)
Fails (WrongKind which) rule = rule ≡ Err (WrongKind which)
Fails (BadValue which) rule = rule ≡ Err (BadValue which)

abbrev pub Gives : {A : Type 0} → Result A BodyFault → Result A BodyFault → Type 0
Gives (Ok x) rule = rule ≡ Ok x
Gives (Err e) rule = Fails e rule

-- the three faults of a member
abbrev pub present : {A : Type 0} → Member → Option A → Result A BodyFault
present which None = Err (Missing which)
present which (Some x) = Ok x

abbrev pub of_kind : {A : Type 0} → Member → Option A → Result A BodyFault
of_kind which None = Err (WrongKind which)
of_kind which (Some x) = Ok x

abbrev pub in_bounds : {A : Type 0} → Member → Option A → Result A BodyFault
in_bounds which None = Err (BadValue which)
in_bounds which (Some x) = Ok x

-- a member of an object
unfoldable pub member_of : Member → Data → Result Data BodyFault
member_of which body = present which (get (member_text which) body)

-- a text
unfoldable pub text_member : Member → Data → Result (List ℕ) BodyFault
text_member which body = member_of which body >>= λ d. of_kind which (as_str d)

-- a whole number from low to high
abbrev pub between : ℕ → ℕ → Option ℕ → Option ℕ
between low high None = None
between low high (Some n) = if nat_lt n low || nat_lt high n then None else Some n

unfoldable pub number_member : Member → ℕ → ℕ → Data → Result ℕ BodyFault
number_member which low high body = member_of which body >>= λ d. of_kind which (as_number d) >>= λ n. in_bounds which (between low high (as_u64 n))

-- a cell's number
abbrev pub cell_named : Member → Data → Result ℕ BodyFault
cell_named which body = number_member which 1 GREATEST_CELL body

-- true or false
unfoldable pub flag_member : Member → Data → Result Bool BodyFault
flag_member which body = member_of which body >>= λ d. of_kind which (as_bool d)

-- an array
unfoldable pub array_member : Member → Data → Result Items BodyFault
array_member which body = member_of which body >>= λ d. of_kind which (as_array d)

-- each element in turn, up to the first fault
abbrev pub each : {A : Type 0} → (Data → Result A BodyFault) → Items → Result (List A) BodyFault
each rule no_items = Ok []
each rule (item d ds) = rule d >>= λ x. each rule ds >>= λ xs. Ok (x ∷ xs)

-- the lease that a text names: every form of a UUID's text is taken
unfoldable pub lease_named : List ℕ → Option LeaseId
lease_named text = option_and_then lease_in (parsed text)

unfoldable pub lease_member : Member → Data → Result LeaseId BodyFault
lease_member which body = text_member which body >>= λ text. in_bounds which (lease_named text)

-- a lease, or null where there is none
abbrev pub some_lease : Option LeaseId → Option (Option LeaseId)
some_lease None = None
some_lease (Some lease) = Some (Some lease)

abbrev pub lease_or_null : Member → Data → Result (Option LeaseId) BodyFault
lease_or_null which null = Ok None
lease_or_null which (boolean b) = Err (WrongKind which)
lease_or_null which (number n) = Err (WrongKind which)
lease_or_null which (string text) = in_bounds which (some_lease (lease_named text))
lease_or_null which (array ds) = Err (WrongKind which)
lease_or_null which (object ms) = Err (WrongKind which)

unfoldable pub after_member : Data → Result (Option LeaseId) BodyFault
after_member body = member_of After body >>= λ d. lease_or_null After d

-- a bucket by its name
unfoldable pub bucket_member : Data → Result Bucket BodyFault
bucket_member body = text_member BucketMember body >>= λ text. in_bounds BucketMember (named_bucket text)

-- a key's value is read by its grammar, and each refusal is a bad value
abbrev pub key_in : Result ClaimKey KeyFault → Option ClaimKey
key_in (Ok key) = Some key
key_in (Err fault) = None

unfoldable pub key_member : Bucket → Data → Result ClaimKey BodyFault
key_member bucket body = text_member ValueMember body >>= λ text. in_bounds ValueMember (key_in (key_of bucket text))

-- a key has a bucket and a value
unfoldable pub key_members : Data → Result ClaimKey BodyFault
key_members body = bucket_member body >>= λ bucket. key_member bucket body

-- the kind of a subject by its name
unfoldable pub subject_kind_member : Data → Result Kind BodyFault
subject_kind_member body = text_member SubjectMember body >>= λ text. in_bounds SubjectMember (named_subject_kind text)

-- a table by its number
unfoldable pub table_member : Data → Result Kind BodyFault
table_member body = number_member TableMember 1 7 body >>= λ n. in_bounds TableMember (numbered_kind n)

-- a claim of a bucket has these members
unfoldable pub claim_members : Bucket → Data → Result ClaimItem BodyFault
claim_members bucket body = do
  key ← key_member bucket body
  subject_kind ← subject_kind_member body
  subject_id ← number_member SubjectId 1 GREATEST_IDENTIFIER body
  table ← table_member body
  row ← number_member Row 1 GREATEST_IDENTIFIER body
  Ok (record { key = key; subject = record { kind = subject_kind; id = subject_id }; origin = record { table = table; row = row } })

-- a text that is asked for, which is not too long
abbrev pub short : List ℕ → Option (List ℕ)
short text = if nat_lt TEXT_BYTES (length text) then None else Some text

unfoldable pub short_member : Member → Data → Result (List ℕ) BodyFault
short_member which body = text_member which body >>= λ text. in_bounds which (short text)

-- a question: the word that it is asked by says which members follow
abbrev pub cell_question : Data → Result Question BodyFault
cell_question body = cell_named CellMember body >>= λ id. Ok (question.Cell id)

abbrev pub session_question : Data → Result Question BodyFault
session_question body = short_member TextMember body >>= λ text. Ok (question.Session text)

abbrev pub claim_question : Data → Result Question BodyFault
claim_question body = key_members body >>= λ key. Ok (question.Claim key)

abbrev pub path_question : Data → Result Question BodyFault
path_question body = short_member TextMember body >>= λ text. Ok (question.Path text)

abbrev pub question_by : List ℕ → Data → Result Question BodyFault
question_by word body =
    if bytes_eq word (codes "first") then Ok question.First
    else if bytes_eq word (codes "cell") then cell_question body
    else if bytes_eq word (codes "session") then session_question body
    else if bytes_eq word (codes "claim") then claim_question body
    else if bytes_eq word (codes "path") then path_question body
    else Err (BadValue By)

unfoldable pub question_member : Data → Result Question BodyFault
question_member body = text_member By body >>= λ word. question_by word body

-- what a reader that lends a part of the body found
abbrev pub Finds : Result (Bor Value) BodyFault → Result Data BodyFault → Type 0
Finds (Ok found) rule = rule ≡ Ok (view found.now)
Finds (Err e) rule = rule ≡ Err e

abbrev pub FindsText : Result (Bor (List ℕ)) BodyFault → Result (List ℕ) BodyFault → Type 0
FindsText (Ok found) rule = rule ≡ Ok found.now
FindsText (Err e) rule = rule ≡ Err e

abbrev pub FindsItems : Result (Bor (List Value)) BodyFault → Result Items BodyFault → Type 0
FindsItems (Ok found) rule = rule ≡ Ok (items_view found.now)
FindsItems (Err e) rule = rule ≡ Err e

-- what was found so far, and then the rest
abbrev pub with_front : {A : Type 0} → List A → Result (List A) BodyFault → Result (List A) BodyFault
with_front front rest = rest >>= λ xs. Ok (front ++ xs)
