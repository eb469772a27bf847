use Rattle.std.proofs.Common.{sym, subst, Some}
use Rattle.lease_core.specs.Kept.{HavePlaces}
use Rattle.lease_core.proofs.Steps.{room_more}
use Rattle.lease_core.proofs.States.{then_settled}
use Rattle.lease_core.proofs.leases.Leases.settle.Goals as goal

pub invariant_of-self-2 : goal.invariant_of-self-2
invariant_of-self-2 c =
    let kept = c.self.invariant in
    record {
      names = kept.names;
      places = kept.places;
      numbers = kept.numbers;
      room = subst (λ s. HavePlaces s c.self.inside.open_leases) (sym c.in_ok-make.ensures.ok) (room_more c.self.inside.settled c.self.inside.open_leases c.args.id (Some c.args.how) kept.room);
      apart = kept.apart;
    }

pub returns-clause-after : goal.returns-clause-after
returns-clause-after c = then_settled c.self.inside _ c.self.view_is c.args.id c.make.new.self c.args.how c.in_ok-make.ensures.ok
