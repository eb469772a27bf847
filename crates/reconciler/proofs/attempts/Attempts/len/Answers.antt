use Rattle.std.proofs.Common.{sym, ◌∙◌, ap, length}
use Rattle.std.specs.FinMap as map
use Rattle.claim_types.proofs.Ordered.{leases_total, leases_exact}
use Rattle.reconciler.proofs.Trees.{entries_tree}
use Rattle.reconciler.proofs.attempts.Attempts.len.Goals as goal

pub returns : goal.returns
returns c = c.len.ensures.len ∙ ap length (sym (entries_tree leases_total leases_exact c.self.inside.entries.entries c.len.ensures.ordered)) ∙ sym (map.len-entries (map.from_entries c.self.inside.entries.entries)) ∙ ap map.len c.self.view_is
