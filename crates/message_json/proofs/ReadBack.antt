-- What was written is the text of its data, and is read as that data again.
use Rattle.std.proofs.Common.{◌≡◌, ℕ, ◌≤◌, false, List, Some, Result, Ok, Err, ap, subst, sym, ◌∙◌}
use Rattle.std.specs.Prelude.{IfOk}
use Rattle.std.specs.Str.{IsUtf8}
use Rattle.serde_json.specs.Data.{Data, depth}
use Rattle.serde_json.specs.Read.{read, max_depth}
use Rattle.serde_json.specs.Written.{compact_text, has_float}
use Rattle.claim_types.specs.declared.message.Request.{Request}
use Rattle.claim_types.specs.declared.message.Reply.{Reply}
use Rattle.claim_types.specs.MessageBounds.{IsRequest, IsReply}
use Rattle.message_json.specs.RequestReader.{request_of, of_read}
use Rattle.message_json.specs.ReplyReader.{reply_of, of_read as reply_of_read}
use Rattle.message_json.specs.ReplyWriter.{reply_data}
use Rattle.message_json.specs.RequestWriter.{request_data}
use Rattle.message_json.proofs.RequestLaws.{request_back}
use Rattle.message_json.proofs.ReplyLaws.{reply_back}
use Rattle.message_json.proofs.Utf8.{read_of-text}
use Rattle.message_json.proofs.Written.{reply_shallow}
use Rattle.message_json.proofs.Returned.{read_returned, reply_returns}
use Rattle.message_json.specs.Fields.{IsTextOf}

abbrev pub IsReadAs : Data → List ℕ → Type 0
IsReadAs meant text = IsUtf8 text × (read text ≡ Some meant)

module _ {E : Type 0} where
  pub text_written : (result : Result (List ℕ) E) (seen meant : Data) → seen ≡ meant → has_float meant ≡ false → IfOk result (λ text. has_float seen ≡ false → text ≡ compact_text seen) → IfOk result (λ text. text ≡ compact_text meant)
  text_written (Ok text) seen meant same whole h = h (ap has_float same ∙ whole) ∙ ap compact_text same
  text_written (Err e) seen meant same whole h = tt

  pub read_again : (result : Result (List ℕ) E) (seen meant : Data) → seen ≡ meant → depth meant ≤ max_depth → IfOk result IsUtf8 → IfOk result (λ text. depth seen ≤ max_depth → read text ≡ Some seen) → IfOk result (IsReadAs meant)
  read_again (Ok text) seen meant same shallow utf8 h = (utf8, h (subst (λ (d : Data). depth d ≤ max_depth) (sym same) shallow) ∙ ap (λ (d : Data). Some d) same)
  read_again (Err e) seen meant same shallow utf8 h = tt

  pub request_again : (result : Result (List ℕ) E) (request : Request) → IfOk result (IsReadAs (request_data request)) → IfOk result (λ text. IsRequest request → request_of text ≡ Ok request)
  request_again (Ok text) request h = λ is. read_of-text of_read text h.0 ∙ ap of_read h.1 ∙ request_back request is
  request_again (Err e) request h = tt

-- a text with the tokens of a reply within its bounds is read as the reply
pub reply_again : (reply : Reply) (text : List ℕ) → IsTextOf (reply_data reply) text → IsReply reply → reply_of text ≡ Ok reply
reply_again reply text h is =
    read_of-text reply_of_read text h.utf8 ∙ ap reply_of_read (read_returned (reply_data reply) text h.tokens_are (reply_shallow reply) (reply_returns reply is)) ∙ reply_back reply is
