-- What a `Leases` stands for, and what holds of its parts.
use Rattle.std.specs.FinMap as map
use Rattle.claim_map.specs.State.{LeaseState}
use Rattle.key_table.specs.Picked.{picked}
use Rattle.lease_core.specs.declared.leases.Leases.TheInside.{Inside}
use Rattle.lease_core.specs.Kept.{AreNamed, ArePlaced, AreCounted, HavePlaces, AreApart}

-- the three maps; a settled lease that has not ended is one that is open, or might have been
abbrev pub state_of : Inside → LeaseState
state_of s = record { holder = s.keys.holder; open_leases = s.open_leases; settled = picked (λ how. how) s.settled }

-- what the parts know of each other
pub record IsKept (s : Inside) : Type 0 where
  pub names : AreNamed (map.get s.keys.named) s.open_leases
  pub places : ArePlaced s.rows s.keys.holder s.open_leases
  pub numbers : AreCounted s.open_numbers s.open_leases
  pub room : HavePlaces s.settled s.open_leases
  pub apart : AreApart s.open_leases
