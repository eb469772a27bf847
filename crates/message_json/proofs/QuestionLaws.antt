-- A question that was written is read again as the same, and so is what it was answered with.
use Rattle.std.proofs.Common.{◌≡◌, ℕ, ◌≤◌, List, Some, None, Ok, Option, refl, arith}
use Rattle.std.specs.Prelude.{codes, length}
use Rattle.std.proofs.lemmas.Bool.Decides.{nat_tests}
use Rattle.serde_json.specs.Data.{Data, string, number, unsigned}
use Rattle.serde_json.specs.Find.{get}
use Rattle.claim_types.specs.Bounds.{IsCell, IsKey, IsText}
use Rattle.claim_types.specs.MessageBounds.{IsFound}
use Rattle.claim_types.specs.Names.{bucket_name}
use Rattle.claim_types.specs.declared.key.ClaimKey.{ClaimKey}
use Rattle.claim_types.specs.declared.limits.TheConstants.{GREATEST_CELL, GREATEST_IDENTIFIER, TEXT_BYTES}
use Rattle.claim_types.specs.declared.question.Question.TheVariants.{First, Cell, Session, Claim, Path}
use Rattle.claim_types.specs.declared.question.Class.TheVariants.{Cell as InCell, NotFound, UnknownCell}
use Rattle.message_json.specs.declared.member.Member.{Member}
use Rattle.message_json.specs.declared.member.Member.TheVariants as member
use Rattle.message_json.specs.Members.{member_text}
use Rattle.message_json.specs.Reading.{between, short, short_member, key_members, question_member}
use Rattle.message_json.specs.ReplyReader.{class_member, found_member}
use Rattle.message_json.specs.ReplyWriter.{found_data}
use Rattle.message_json.proofs.MemberLaws.{member_back, text_back, number_back, bucket_back, key_back}

is_short : (text : List ℕ) → length text ≤ TEXT_BYTES → short text ≡ Some text
is_short text most = grind (arith, nat_tests)

pub short_back : (which : Member) (body : Data) (text : List ℕ) → IsText text → get (member_text which) body ≡ Some (string text) → short_member which body ≡ Ok text
unfolding short_member
short_back which body text is found = rw (text_back which body text found, is_short text is.not_too_long) refl

-- a question, by its word and the members of that word
module _ (body : Data) where
  pub first_back : get (codes "by") body ≡ Some (string (codes "first")) → question_member body ≡ Ok First
  unfolding question_member
  first_back by = rw (text_back member.By body (codes "first") by) refl

  pub cell_back : (id : ℕ) → IsCell id → get (codes "by") body ≡ Some (string (codes "cell")) → get (codes "cell") body ≡ Some (number (unsigned id)) → question_member body ≡ Ok (Cell id)
  unfolding question_member
  cell_back id is by cell = rw (text_back member.By body (codes "cell") by, number_back member.Cell 1 GREATEST_CELL body id is.0 is.1 cell) refl

  pub session_back : (text : List ℕ) → IsText text → get (codes "by") body ≡ Some (string (codes "session")) → get (codes "text") body ≡ Some (string text) → question_member body ≡ Ok (Session text)
  unfolding question_member
  session_back text is by found = rw (text_back member.By body (codes "session") by, short_back member.Text body text is found) refl

  pub claim_back : (key : ClaimKey) → IsKey key → get (codes "by") body ≡ Some (string (codes "claim")) → get (codes "bucket") body ≡ Some (string (bucket_name key.bucket)) → get (codes "value") body ≡ Some (string key.value) → question_member body ≡ Ok (Claim key)
  unfolding question_member key_members
  claim_back key is by bucket value = rw (text_back member.By body (codes "claim") by, bucket_back body key.bucket bucket, key_back body key is value) refl

  pub path_back : (text : List ℕ) → IsText text → get (codes "by") body ≡ Some (string (codes "path")) → get (codes "text") body ≡ Some (string text) → question_member body ≡ Ok (Path text)
  unfolding question_member
  path_back text is by found = rw (text_back member.By body (codes "path") by, short_back member.Text body text is found) refl

  -- the class that it was answered with
  pub answer_back : (id : ℕ) → IsCell id → get (codes "result") body ≡ Some (string (codes "cell")) → get (codes "answer") body ≡ Some (number (unsigned id)) → class_member body ≡ Ok (InCell id)
  unfolding class_member
  answer_back id is result answer = rw (text_back member.Result body (codes "cell") result, number_back member.Answer 1 GREATEST_CELL body id is.0 is.1 answer) refl

  pub not_found_back : get (codes "result") body ≡ Some (string (codes "not_found")) → class_member body ≡ Ok NotFound
  unfolding class_member
  not_found_back result = rw (text_back member.Result body (codes "not_found") result) refl

  pub unknown_back : get (codes "result") body ≡ Some (string (codes "unknown_cell")) → class_member body ≡ Ok UnknownCell
  unfolding class_member
  unknown_back result = rw (text_back member.Result body (codes "unknown_cell") result) refl

  -- the record that was found
  within : (id : ℕ) → id ≤ GREATEST_IDENTIFIER → between 0 GREATEST_IDENTIFIER (Some id) ≡ Some id
  within id most = grind (arith, nat_tests)

  pub found_back : (found : Option ℕ) → IsFound found → get (codes "found") body ≡ Some (found_data found) → found_member body ≡ Ok found
  unfolding found_member
  found_back None is at = rw (member_back member.Found body (found_data None) at) refl
  found_back (Some id) is at = rw (member_back member.Found body (found_data (Some id)) at, within id is) refl
