-- A configuration and a claim map within their bounds.
use Rattle.std.specs.Prelude.{◌≡◌, ◌≤◌, Some}
use Rattle.std.specs.List.{All, Contains}
use Rattle.std.specs.FinMap as map
use Rattle.claim_types.specs.Bounds.{IsCell, IsKey, IsHolding, AreOperations, IsRange}
use Rattle.claim_types.specs.Leases.{IsLease}
use Rattle.claim_types.specs.Order.{key_cmp}
use Rattle.claim_types.specs.declared.cell.Cell.{Cell}
use Rattle.claim_types.specs.declared.key.ClaimKey.{ClaimKey}
use Rattle.claim_types.specs.declared.lease.LeaseId.{LeaseId}
use Rattle.claim_types.specs.declared.lease.Holding.{Holding}
use Rattle.claim_types.specs.declared.lease.How.{How}
use Rattle.claim_types.specs.declared.operations.Operations.{Operations}
use Rattle.claim_map.specs.Registry.{Registry}
use Rattle.claim_map.specs.Ranges.{AreRanges}
use Rattle.claim_map.specs.State.{ClaimMap}

-- the cells of a configuration are numbered within bounds, and no range of theirs is empty
pub record AreCells (registry : Registry) : Type 0 where
  pub ids : (c : Cell) → Contains registry.cells c → IsCell c.id
  pub widths : (c : Cell) → Contains registry.cells c → 1 ≤ c.width

-- each held key is one, and is held within bounds
pub record AreHeld (holder : map.FinMap key_cmp Holding) : Type 0 where
  pub keys : (key : ClaimKey) (h : Holding) → map.get holder key ≡ Some h → IsKey key
  pub holdings : (key : ClaimKey) (h : Holding) → map.get holder key ≡ Some h → IsHolding h

-- what the service keeps of the claim map is within bounds
pub record IsWithinBounds (s : ClaimMap) : Type 0 where
  pub holder : AreHeld s.holder
  pub open_leases : (lease : LeaseId) (ops : Operations) → map.get s.open_leases lease ≡ Some ops → IsLease lease
  pub operations : (lease : LeaseId) (ops : Operations) → map.get s.open_leases lease ≡ Some ops → AreOperations ops
  pub settled : (lease : LeaseId) (how : How) → map.get s.settled lease ≡ Some how → IsLease lease
  pub ranges : All IsRange s.ranges
  pub in_order : AreRanges s.ranges
