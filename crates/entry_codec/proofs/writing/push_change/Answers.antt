use Rattle.std.proofs.Common.{[], ◌∷◌}
use Rattle.std.specs.Int.{w64, to_be_bytes}
use Rattle.claim_types.specs.Order.{kind_number}
use Rattle.entry_codec.specs.Spelling.{text_bytes}
use Rattle.entry_codec.proofs.Written.{four}
use Rattle.entry_codec.proofs.writing.push_change.Goals as goal

pub returns-in_ok-push_number-in-Create : goal.returns-in_ok-push_number-in-Create
returns-in_ok-push_number-in-Create c =
    rw (c.in-Create.is, ← c.as_slice.ensures) (four c.push_text.result c.args.out.now.items c.push.new.self.items c.push-in-Create.new.self.items c.push_number.new.out.items c.push_text.new.out.items
    (1 ∷ []) (kind_number c.in-Create.kind ∷ []) (to_be_bytes w64 c.in-Create.parent) (text_bytes c.as_slice.result.now)
    c.in_ok-push-in-Create.ensures.items (rw c.number.ensures at c.in_ok-push-in-Create-2.ensures.items) c.in_ok-push_number-in-Create.ensures c.push_text.ensures)
