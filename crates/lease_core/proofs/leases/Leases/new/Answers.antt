use Rattle.std.proofs.Common.{◌∙◌, ap}
use Rattle.lease_core.proofs.Wholes.{empty_kept}
use Rattle.lease_core.proofs.States.{ends, none_ended}
use Rattle.key_table.specs.Parts.{KeyParts}
use Rattle.lease_core.proofs.leases.Leases.new.Goals as goal

pub invariant_of-result : goal.invariant_of-result
invariant_of-result c = empty_kept _ c.new.ensures c.new-3.ensures c.new-5.ensures

pub returns : goal.returns
returns c =
    let holder = ap (λ (k : KeyParts). k.holder) c.new.ensures in
    let settled = ap ends c.new-4.ensures ∙ none_ended in
    λ i. record { holder = holder i; open_leases = c.new-3.ensures i; settled = settled i }
