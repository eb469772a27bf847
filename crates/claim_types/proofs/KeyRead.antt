-- What is known of a key that was read: its bucket and value, and that its value is read again as the same key.
use Rattle.std.proofs.Common.{◌≡◌, ℕ, ◌≤◌, Bool, true, false, ◌==◌, not, cond, nat_lt, List, [], ◌∷◌, length, map, position, Option, Some, None, Result, Ok, Err, refl, sym, ◌∙◌, ap}
use Rattle.std.proofs.lemmas.Bool.{ltb-false}
use Rattle.std.proofs.lemmas.List.{length-map}
use Rattle.std.proofs.lemmas.Str.Ascii.{lowercase-lowercase}
use Rattle.std.specs.Char.{to_ascii_lowercase}
use Rattle.claim_types.specs.declared.key.Bucket.{Bucket}
use Rattle.claim_types.specs.declared.key.ClaimKey.{ClaimKey}
use Rattle.claim_types.specs.declared.key.KeyFault.{KeyFault}
use Rattle.claim_types.specs.declared.key.KeyFault.TheVariants.{Empty, TooLong, Reserved}
use Rattle.claim_types.specs.declared.limits.TheConstants.{KEY_BYTES}
use Rattle.claim_types.specs.Keys.{key_of, lowered_key, after_bytes, after_parts, is_in_alphabet, is_reserved, first_bad, parts_of}

-- of the key that a bucket reads from a text, with the text in small letters
pub record KeyRead (bucket : Bucket) (text small : List ℕ) (key : ClaimKey) : Type 0 where
  pub bucket_is : key.bucket ≡ bucket
  pub value_is : key.value ≡ small
  pub not_too_long : length text ≤ KEY_BYTES
  pub in_alphabet : position (λ b. not (is_in_alphabet bucket b)) small ≡ None
  pub good_parts : first_bad bucket (parts_of bucket small) ≡ None

module _ (bucket : Bucket) (text small : List ℕ) (key : ClaimKey) (short : length text ≤ KEY_BYTES) where
  module _ (bytes : position (λ b. not (is_in_alphabet bucket b)) small ≡ None) (parts : first_bad bucket (parts_of bucket small) ≡ None) where
    by_word : (b : Bool) → cond b (Err Reserved) (Ok (record { bucket = bucket; value = small })) ≡ Ok key → KeyRead bucket text small key
    by_word true h = absurd cc
    by_word false h =
        let e : ◌≡◌ {A = ClaimKey} (record { bucket = bucket; value = small }) key = cc in
        record { bucket_is = ap (λ (k : ClaimKey). k.bucket) (sym e); value_is = ap (λ (k : ClaimKey). k.value) (sym e); not_too_long = short; in_alphabet = bytes; good_parts = parts }

  by_parts : (bytes : position (λ b. not (is_in_alphabet bucket b)) small ≡ None) (bad : Option ℕ) → first_bad bucket (parts_of bucket small) ≡ bad → after_parts bucket small bad ≡ Ok key → KeyRead bucket text small key
  by_parts bytes (Some index) is h = absurd cc
  by_parts bytes None is h = by_word bytes is (is_reserved bucket small) h

  by_bytes : (bad : Option ℕ) → position (λ b. not (is_in_alphabet bucket b)) small ≡ bad → after_bytes bucket small bad ≡ Ok key → KeyRead bucket text small key
  by_bytes (Some at) is h = absurd cc
  by_bytes None is h = by_parts is (first_bad bucket (parts_of bucket small)) refl h

-- the tests of the length, and then the rest
abbrev tested : Bool → Bool → Result ClaimKey KeyFault → Result ClaimKey KeyFault
tested empty long rest = cond empty (Err Empty) (cond long (Err TooLong) rest)

passed : (a b : Bool) (rest : Result ClaimKey KeyFault) (key : ClaimKey) → tested a b rest ≡ Ok key → (b ≡ false) × (rest ≡ Ok key)
passed true b rest key h = absurd cc
passed false true rest key h = absurd cc
passed false false rest key h = (refl, h)

all_small : (text : List ℕ) → map to_ascii_lowercase (map to_ascii_lowercase text) ≡ map to_ascii_lowercase text
all_small [] = refl
all_small (b ∷ bs) = λ i. lowercase-lowercase b i ∷ all_small bs i

module _ (bucket : Bucket) (text : List ℕ) (key : ClaimKey) (read : key_of bucket text ≡ Ok key) where
  pub key_of-says : KeyRead bucket text (map to_ascii_lowercase text) key
  key_of-says =
      let small = map to_ascii_lowercase text in
      let rest = passed (length text == 0) (nat_lt KEY_BYTES (length text)) (lowered_key bucket small) key read in
      by_bytes bucket text small key (ltb-false KEY_BYTES (length text) rest.0) (position (λ b. not (is_in_alphabet bucket b)) small) refl rest.1

  small_again : key_of bucket (map to_ascii_lowercase text) ≡ key_of bucket text
  small_again =
      let same : length (map to_ascii_lowercase text) ≡ length text = length-map text to_ascii_lowercase in
      λ i. tested (same i == 0) (nat_lt KEY_BYTES (same i)) (lowered_key bucket (all_small text i))

  pub key_of-again : key_of key.bucket key.value ≡ Ok key
  key_of-again = (λ i. key_of (key_of-says.bucket_is i) (key_of-says.value_is i)) ∙ small_again ∙ read
