use Rattle.std.proofs.Common.{sym, subst, List, []}
use Rattle.claim_types.specs.declared.record.Record.{Record}
use Rattle.record_tree.specs.Indexed.{IsWhole}
use Rattle.record_tree.proofs.Same.{whole_at_first}
use Rattle.record_tree.proofs.tree.Tree.start.Goals as goal

pub invariant_of-result : goal.invariant_of-result
invariant_of-result c = subst (λ (records : List Record). IsWhole records c.new-2.result) (sym c.new.ensures.items) (subst (λ index. IsWhole [] index) (sym c.new-2.ensures) whole_at_first)
