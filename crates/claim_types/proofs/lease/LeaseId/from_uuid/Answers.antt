use Rattle.std.proofs.Common.{Some, sym, ◌∙◌, ap}
use Rattle.std.specs.Str.{bytes_eq}
use Rattle.claim_types.specs.declared.lease.LeaseId.{LeaseId}
use Rattle.claim_types.specs.Leases.{is_lease, lease_bytes}
use Rattle.claim_types.proofs.LeaseBits.{lease_in-out, lease_in-other, lease_in-here, no_lease}
use Rattle.claim_types.proofs.lease.LeaseId.from_uuid.Goals as goal

pub returns-then-not-is_within_bounds-clause-value : goal.returns-then-not-is_within_bounds-clause-value
returns-then-not-is_within_bounds-clause-value c = lease_in-out c.args.id (ap is_lease (sym c.numbers_in-lease.ensures) ∙ sym c.if-not-is_within_bounds.ensures.test)

pub returns-then-not-is_within_bounds-clause-none : goal.returns-then-not-is_within_bounds-clause-none
returns-then-not-is_within_bounds-clause-none c = no_lease c.args.id (lease_in-out c.args.id (ap is_lease (sym c.numbers_in-lease.ensures) ∙ sym c.if-not-is_within_bounds.ensures.test))

pub returns-then-eq-clause-value : goal.returns-then-eq-clause-value
returns-then-eq-clause-value c =
    let n = c.numbers_in-lease.ensures in
    ap (λ (l : LeaseId). Some l) n
    ∙ lease_in-here c.args.id (ap is_lease (sym n) ∙ sym c.if-not-is_within_bounds.ensures.test)
    (ap (λ u. bytes_eq u c.args.id) (ap lease_bytes (sym n) ∙ sym c.to_uuid.ensures) ∙ sym c.if-eq.ensures)

pub returns-clause-value : goal.returns-clause-value
returns-clause-value c =
    lease_in-other c.args.id (ap (λ u. bytes_eq u c.args.id) (ap lease_bytes (sym c.numbers_in-lease.ensures) ∙ sym c.to_uuid.ensures) ∙ sym c.if-eq.ensures)

pub returns-clause-none : goal.returns-clause-none
returns-clause-none c =
    no_lease c.args.id (lease_in-other c.args.id (ap (λ u. bytes_eq u c.args.id) (ap lease_bytes (sym c.numbers_in-lease.ensures) ∙ sym c.to_uuid.ensures) ∙ sym c.if-eq.ensures))
