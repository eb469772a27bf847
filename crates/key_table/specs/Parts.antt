-- The two maps that are known of keys.
use Rattle.std.specs.Prelude.{refl}
use Rattle.std.specs.FinMap as map
use Rattle.std.specs.Coded.{Coded, code_by, coded×}
use Rattle.claim_types.specs.Order.{key_cmp}
use Rattle.claim_types.specs.contracts.key.ClaimKey as key_type
use Rattle.claim_types.specs.contracts.lease.LeaseId as lease_type
use Rattle.claim_types.specs.contracts.lease.Holding as holding_type
use Rattle.claim_types.specs.declared.key.ClaimKey.{ClaimKey}
use Rattle.claim_types.specs.declared.lease.LeaseId.{LeaseId}
use Rattle.claim_types.specs.declared.lease.Holding.{Holding}
use Rattle.key_table.specs.declared.keys.KeyState.{KeyState}
use Rattle.key_table.specs.Picked.{picked}

-- who holds each key, and which open lease names it
pub record KeyParts : Type 0 where
  pub holder : map.FinMap key_cmp Holding
  pub named : map.FinMap key_cmp LeaseId

-- nobody holds a key, and no lease names one
abbrev pub no_keys : KeyParts
no_keys = record { holder = map.empty; named = map.empty }

-- a lease names the key
abbrev pub with_name : KeyParts → ClaimKey → LeaseId → KeyParts
with_name p key lease = record p { named = map.insert p.named key lease }

-- no lease names the key
abbrev pub without_name : KeyParts → ClaimKey → KeyParts
without_name p key = record p { named = map.remove p.named key }

-- the key is held, and no lease names it
abbrev pub with_holder : KeyParts → ClaimKey → Holding → KeyParts
with_holder p key holding = record { holder = map.insert p.holder key holding; named = map.remove p.named key }

-- nobody holds the key, and no lease names it
abbrev pub without_key : KeyParts → ClaimKey → KeyParts
without_key p key = record { holder = map.remove p.holder key; named = map.remove p.named key }

-- what these states say
abbrev pub parts_of : map.FinMap key_cmp KeyState → KeyParts
parts_of states = record { holder = picked (λ s. s.holder) states; named = picked (λ s. s.named) states }

-- how the two maps are stored
abbrev pub parts_code : Coded KeyParts
parts_code =
    code_by (map.FinMap key_cmp Holding × map.FinMap key_cmp LeaseId)
    (coded× (map.code key_type.the_row.coded holding_type.the_row.coded) (map.code key_type.the_row.coded lease_type.the_row.coded))
    (λ p. (p.holder, p.named)) (λ p. record { holder = p.0; named = p.1 }) (λ _. refl)
