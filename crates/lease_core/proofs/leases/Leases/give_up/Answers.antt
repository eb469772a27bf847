use Rattle.std.proofs.Common.{refl, sym, Some}
use Rattle.claim_types.specs.declared.lease.How.TheVariants.{RolledBack}
use Rattle.lease_core.proofs.Noted.{on_ok}
use Rattle.lease_core.proofs.Steps.{has_one}
use Rattle.lease_core.proofs.States.{then_rolled_back}
use Rattle.lease_core.proofs.Wholes.{rolled_back_kept, never_begun_kept}
use Rattle.lease_core.proofs.leases.Leases.give_up.Goals as goal

pub lower-requires-clause-some : goal.lower-requires-clause-some
lower-requires-clause-some c = has_one c.self.inside.open_leases c.args.id c.self.inside.open_numbers c.self.invariant.numbers c.in-Some.ops (sym c.in-Some.ensures.value)

pub invariant_of-self : goal.invariant_of-self
invariant_of-self c = rolled_back_kept c.self.inside c.self.invariant c.args.id c.in-Some.ops (sym c.in-Some.ensures.value) RolledBack c.forget.new.keys c.forget.new.rows c.remove.new.self c.set.new.self c.lower.new.numbers
    c.in-Some.ensures.after c.forget.ensures.named c.set.ensures c.lower.ensures c.forget.ensures.holder c.forget.ensures.held c.forget.ensures.rows

pub invariant_of-self-in-None : goal.invariant_of-self-in-None
invariant_of-self-in-None c = never_begun_kept c.self.inside c.self.invariant c.make.result c.args.id (Some RolledBack) c.remove.new.self c.make.new.self c.in-None.ensures.none c.make.ensures.ok c.make.ensures.err

pub returns-in-Some-clause-ok : goal.returns-in-Some-clause-ok
returns-in-Some-clause-ok c = then_rolled_back c.self.inside _ c.self.view_is c.args.id c.forget.new.keys c.remove.new.self c.set.new.self c.forget.ensures.holder c.in-Some.ensures.after c.set.ensures

pub returns-in-None-clause-ok : goal.returns-in-None-clause-ok
returns-in-None-clause-ok c = on_ok c.make.result c.make.ensures.ok (λ done. then_rolled_back c.self.inside _ c.self.view_is c.args.id c.self.inside.keys c.remove.new.self c.make.new.self refl c.in-None.ensures.after done)
