-- The value of a key that was read is ASCII, and so a text.
use Rattle.std.proofs.Common.{◌≡◌, ℕ, zero, suc, ◌+◌, ◌<◌, Bool, true, false, not, ◌&&◌, ◌||◌, ◌==◌, cond, nat_lt, List, [], ◌∷◌, length, map, None, Ok, refl, sym, subst, arith, lit<}
use Rattle.std.specs.List.{position_or_len}
use Rattle.std.specs.Str.{IsAscii, IsUtf8}
use Rattle.std.specs.Char.{to_ascii_lowercase, is_ascii_digit}
use Rattle.std.specs.Int.{is_in_range}
use Rattle.std.proofs.lemmas.Str.{IsUtf8-from_ascii}
use Rattle.std.proofs.lemmas.Bool.Decides.{nat_tests}
use Rattle.cells_base.proofs.Truth.{true_of_not, not_picked}
use Rattle.claim_types.specs.declared.key.Bucket.{Bucket}
use Rattle.claim_types.specs.declared.key.Bucket.TheVariants.{OrganizationPath, Route, Address, SshKey, PagesDomain}
use Rattle.claim_types.specs.declared.key.ClaimKey.{ClaimKey}
use Rattle.claim_types.specs.Keys.{key_of, is_in_alphabet, is_plain, is_segment_byte}
use Rattle.claim_types.proofs.KeyRead.{key_of-says}

plain_below : (b : ℕ) → is_plain b ≡ true → b < 128
plain_below b h = grind (arith, nat_tests)

segment_below : (b : ℕ) → is_segment_byte b ≡ true → b < 128
segment_below b h = grind (arith, nat_tests)

route_below : (b : ℕ) → (is_segment_byte b || b == 47) ≡ true → b < 128
route_below b h = grind (arith, nat_tests)

address_below : (b : ℕ) (other : Bool) → (is_in_range 33 126 b && other) ≡ true → b < 128
address_below b other h = grind (arith, nat_tests)

digit_below : (b : ℕ) → (is_ascii_digit b || is_in_range 97 102 b) ≡ true → b < 128
digit_below b h = grind (arith, nat_tests)

domain_below : (b : ℕ) → (is_plain b || b == 45 || b == 46) ≡ true → b < 128
domain_below b h = grind (arith, nat_tests)

byte_below : (bucket : Bucket) (b : ℕ) → is_in_alphabet bucket b ≡ true → b < 128
byte_below OrganizationPath b h = segment_below b h
byte_below Route b h = route_below b h
byte_below Address b h = address_below b _ h
byte_below SshKey b h = digit_below b h
byte_below PagesDomain b h = domain_below b h

first_passes : (b : Bool) (n m : ℕ) → nat_lt (cond (not b) (1 + n) 0) (suc m) ≡ false → b ≡ false
first_passes true n m h = absurd (grind (arith, nat_tests))
first_passes false n m h = refl

rest_none : (b : Bool) (n m : ℕ) → nat_lt (cond (not b) (1 + n) 0) (suc m) ≡ false → nat_lt n m ≡ false
rest_none true n m h = absurd (grind (arith, nat_tests))
rest_none false n m h = grind (arith, nat_tests)

all_ascii : (bucket : Bucket) (value : List ℕ) → nat_lt (position_or_len (λ b. not (is_in_alphabet bucket b)) value) (length value) ≡ false → IsAscii value
all_ascii bucket [] none i = lit< tt
all_ascii bucket (b ∷ bs) none zero = byte_below bucket b (true_of_not (is_in_alphabet bucket b) (first_passes (not (is_in_alphabet bucket b)) (position_or_len (λ b. not (is_in_alphabet bucket b)) bs) (length bs) none))
all_ascii bucket (b ∷ bs) none (suc i) = all_ascii bucket bs (rest_none (not (is_in_alphabet bucket b)) (position_or_len (λ b. not (is_in_alphabet bucket b)) bs) (length bs) none) i

pub IsUtf8-key_of : (bucket : Bucket) (text : List ℕ) (key : ClaimKey) → key_of bucket text ≡ Ok key → IsUtf8 key.value
IsUtf8-key_of bucket text key h =
    let read = key_of-says bucket text key h in
    let small = map to_ascii_lowercase text in
    subst IsUtf8 (sym read.value_is) (IsUtf8-from_ascii small (all_ascii bucket small (not_picked _ _ None read.in_alphabet).0))
