-- The one global claim map.
use Rattle.std.specs.Prelude.{ℕ, Bool, ◌&&◌, nat_eq, nat_le, List, [], filter, refl, unwrap_or}
use Rattle.std.specs.List.{list_any}
use Rattle.std.specs.Ordering.{nat_cmp}
use Rattle.std.specs.FinMap as map
use Rattle.std.specs.FinSet as set
use Rattle.std.specs.Coded.{Coded, code_by, coded×}
use Rattle.claim_types.specs.Order.{key_cmp, lease_cmp}
use Rattle.claim_types.specs.contracts.key.ClaimKey as key_type
use Rattle.claim_types.specs.contracts.lease.LeaseId as lease_type
use Rattle.claim_types.specs.contracts.lease.Holding as holding_type
use Rattle.claim_types.specs.contracts.lease.How as how_type
use Rattle.claim_types.specs.contracts.operations.Operations as operations_type
use Rattle.claim_types.specs.declared.lease.Holding.{Holding}
use Rattle.claim_types.specs.declared.lease.How.{How}
use Rattle.claim_types.specs.declared.operations.Operations.{Operations}
use Rattle.claim_types.specs.declared.cell.Range.{Range}
use Rattle.claim_types.specs.declared.record.Record.{Record}

-- a cell's records in order of identifier, how many identifiers it has used, and how often it has changed
pub record Tree : Type 0 where
  pub records : List Record
  pub used : ℕ
  pub version : ℕ

-- who holds each key; which leases are open, with which operations; which of these their cell has recorded; how each settled lease
-- ended; the ranges in the order of giving; each cell's tree
pub record ClaimMap : Type 0 where
  pub holder : map.FinMap key_cmp Holding
  pub open_leases : map.FinMap lease_cmp Operations
  pub recorded : set.FinSet lease_cmp
  pub settled : map.FinMap lease_cmp How
  pub ranges : List Range
  pub trees : map.FinMap nat_cmp Tree

-- the part of it that is about leases alone
pub record LeaseState : Type 0 where
  pub holder : map.FinMap key_cmp Holding
  pub open_leases : map.FinMap lease_cmp Operations
  pub settled : map.FinMap lease_cmp How

abbrev pub leases_of : ClaimMap → LeaseState
leases_of s = record { holder = s.holder; open_leases = s.open_leases; settled = s.settled }

-- the claim map with another such part
abbrev pub with_leases : ClaimMap → LeaseState → ClaimMap
with_leases s leases = record s { holder = leases.holder; open_leases = leases.open_leases; settled = leases.settled }

-- nobody holds a key, and no lease is open or has ended
abbrev pub no_leases : LeaseState
no_leases = record { holder = map.empty; open_leases = map.empty; settled = map.empty }

-- the empty claim map, but for the ranges that were given
abbrev pub opening : List Range → ClaimMap
opening ranges = record { holder = map.empty; open_leases = map.empty; recorded = set.empty; settled = map.empty; ranges = ranges; trees = map.empty }

-- no record, nothing used, never changed: the tree of a cell that the map lacks
abbrev pub empty_tree : Tree
empty_tree = record { records = []; used = 0; version = 0 }

abbrev pub tree_of : ClaimMap → ℕ → Tree
tree_of s cell = unwrap_or (map.get s.trees cell) empty_tree

-- the ranges of a cell, in order
abbrev pub ranges_of : List Range → ℕ → List Range
ranges_of ranges cell = filter (λ r. nat_eq r.cell cell) ranges

-- whether an identifier lies in a range of the cell
abbrev pub covers : List Range → ℕ → ℕ → Bool
covers ranges cell id = list_any (λ r. nat_le r.low id && nat_le id r.high) (ranges_of ranges cell)

-- how a state of leases is stored
abbrev pub lease_state_code : Coded LeaseState
lease_state_code =
    code_by (map.FinMap key_cmp Holding × (map.FinMap lease_cmp Operations × map.FinMap lease_cmp How))
    (coded× (map.code key_type.the_row.coded holding_type.the_row.coded) (coded× (map.code lease_type.the_row.coded operations_type.the_row.coded) (map.code lease_type.the_row.coded how_type.the_row.coded)))
    (λ s. (s.holder, (s.open_leases, s.settled))) (λ p. record { holder = p.0; open_leases = p.1.0; settled = p.1.1 }) (λ _. refl)
