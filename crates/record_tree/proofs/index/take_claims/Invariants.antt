use Rattle.std.proofs.Common.{◌≡◌, drop, map}
use Rattle.claim_types.specs.declared.operations.Create.{Create}
use Rattle.record_tree.specs.Unique.{without}
use Rattle.record_tree.proofs.index.take_claims.Given as goal

abbrev pub invariant-loop-claim : goal.invariant-loop-claim
invariant-loop-claim l = record { so_far : without (map (λ (c : Create). c.key) (drop l.claim-index l.claims)) l.index ≡ without (map (λ (c : Create). c.key) l.claims) l.fn.index }
