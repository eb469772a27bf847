use Rattle.std.proofs.Common.{◌≡◌, ◌++◌, drop}
use Rattle.message_json.specs.Fields.{member_tokens}
use Rattle.message_json.proofs.fields.members.Given as goal

abbrev pub invariant-loop-name : goal.invariant-loop-name
invariant-loop-name l = record {
  told : l.out.tokens ++ member_tokens (drop l.name-index l.members) ≡ l.fn.out.tokens ++ member_tokens l.members;
  before : l.out.before ≡ l.fn.out.before;
}
