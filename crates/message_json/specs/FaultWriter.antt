-- The body that names a fault: the compact text of an object.
use Rattle.std.specs.Prelude.{ℕ, List, codes}
use Rattle.serde_json.specs.Data.{Data, object, no_members}
use Rattle.serde_json.specs.Written.{compact_text}
use Rattle.message_json.specs.declared.fault.BodyFault.{BodyFault}
use Rattle.message_json.specs.declared.fault.BodyFault.TheVariants.{NotJson, Missing, WrongKind, BadValue, Memory}
use Rattle.message_json.specs.Members.{member_text}
use Rattle.message_json.specs.Texts.{text}

-- the data of a fault, and its text
abbrev pub words_fault : List ℕ → Data
words_fault words = object (text (codes "fault") words no_members)

abbrev pub member_fault : List ℕ → List ℕ → Data
member_fault words which = object (text (codes "fault") words (text (codes "member") which no_members))

abbrev pub fault_data : BodyFault → Data
fault_data NotJson = words_fault (codes "not json")
fault_data (Missing which) = member_fault (codes "missing") (member_text which)
fault_data (WrongKind which) = member_fault (codes "wrong kind") (member_text which)
fault_data (BadValue which) = member_fault (codes "bad value") (member_text which)
fault_data Memory = words_fault (codes "memory")

unfoldable pub fault_text : BodyFault → List ℕ
fault_text fault = compact_text (fault_data fault)
