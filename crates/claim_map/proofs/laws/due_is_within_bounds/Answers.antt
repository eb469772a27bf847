use Rattle.claim_map.proofs.Bounded.{due_bounds}
use Rattle.claim_map.proofs.Entered.{due_enters}
use Rattle.claim_map.proofs.laws.due_is_within_bounds.Goals as goal

pub returns : goal.returns
returns c = record { reply = due_bounds; entry = due_enters }
