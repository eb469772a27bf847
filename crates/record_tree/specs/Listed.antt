-- What the records of a tree claim, as it is listed.
use Rattle.std.specs.Prelude.{List, map}
use Rattle.claim_types.specs.declared.operations.Create.{Create}
use Rattle.claim_types.specs.declared.page.ClaimItem.{ClaimItem}
use Rattle.claim_map.specs.State.{Tree}
use Rattle.claim_map.specs.Claims.{claims_of}

-- a claim as an item of a list
abbrev pub item_of : Create → ClaimItem
item_of c = record { key = c.key; subject = c.subject; origin = c.origin }

-- the claims of a tree, in order of identifier
abbrev pub claim_items : Tree → List ClaimItem
claim_items tree = map item_of (claims_of tree)
