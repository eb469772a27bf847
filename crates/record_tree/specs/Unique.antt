-- Keys that one claim has, and an index after a change.
use Rattle.std.specs.Prelude.{◌≡◌, ◌≢◌, ℕ, List, [], ◌∷◌, None}
use Rattle.std.specs.List.{Contains}
use Rattle.std.specs.FinMap as map
use Rattle.claim_types.specs.Order.{key_cmp}
use Rattle.claim_types.specs.declared.key.ClaimKey.{ClaimKey}
use Rattle.claim_types.specs.declared.operations.Create.{Create}
use Rattle.claim_types.specs.declared.operations.Operations.{Operations}

-- an index without some keys
abbrev pub without : List ClaimKey → map.FinMap key_cmp ℕ → map.FinMap key_cmp ℕ
without [] index = index
without (k ∷ ks) index = without ks (map.remove index k)

-- an index with the keys of some claims
abbrev pub with_claims : List Create → map.FinMap key_cmp ℕ → map.FinMap key_cmp ℕ
with_claims [] index = index
with_claims (c ∷ cs) index = with_claims cs (map.insert index c.key c.origin.row)

-- the created keys come, and then the destroyed ones go
abbrev pub index_after : Operations → map.FinMap key_cmp ℕ → map.FinMap key_cmp ℕ
index_after ops index = without ops.destroys (with_claims ops.creates index)

-- the index has none of the keys of these claims
abbrev pub AreFree : List Create → map.FinMap key_cmp ℕ → Type 0
AreFree claims index = (c : Create) → Contains claims c → map.get index c.key ≡ None

-- an index gives the same at each key that none of these claims has
abbrev pub IsSameBut : List Create → map.FinMap key_cmp ℕ → map.FinMap key_cmp ℕ → Type 0
IsSameBut claims before afterwards = (key : ClaimKey) → ((c : Create) → Contains claims c → key ≢ c.key) → map.get afterwards key ≡ map.get before key

abbrev pub IsSame : map.FinMap key_cmp ℕ → map.FinMap key_cmp ℕ → Type 0
IsSame before afterwards = (key : ClaimKey) → map.get afterwards key ≡ map.get before key
