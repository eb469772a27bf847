-- A body that is a text in UTF-8, and one that is none.
use Rattle.std.proofs.Common.{◌≡◌, ℕ, List, if◌then◌else◌, Option, Result, Err, ap}
use Rattle.std.specs.Str.{IsUtf8, is_utf8}
use Rattle.std.proofs.lemmas.Str.{is_utf8-from_IsUtf8, IsUtf8-from_is_utf8}
use Rattle.serde_json.specs.Data.{Data}
use Rattle.serde_json.specs.Read.{read}
use Rattle.cells_base.proofs.Truth.{not_true}
use Rattle.message_json.specs.declared.fault.BodyFault.{BodyFault}
use Rattle.message_json.specs.declared.fault.BodyFault.TheVariants.{NotJson}

module _ {A : Type 0} (rule : Option Data → Result A BodyFault) (bytes : List ℕ) where
  pub read_of-text : IsUtf8 bytes → (if is_utf8 bytes then rule (read bytes) else Err NotJson) ≡ rule (read bytes)
  read_of-text text = ap (λ b. if b then rule (read bytes) else Err NotJson) (is_utf8-from_IsUtf8 bytes text)

  pub read_of-other : (IsUtf8 bytes → ⊥) → (if is_utf8 bytes then rule (read bytes) else Err NotJson) ≡ Err NotJson
  read_of-other other = ap (λ b. if b then rule (read bytes) else Err NotJson) (not_true (is_utf8 bytes) (λ h. other (IsUtf8-from_is_utf8 bytes h)))
