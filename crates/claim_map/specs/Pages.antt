-- The pages in which open leases and held claims are listed.
use Rattle.std.specs.Prelude.{ℕ, Bool, true, ◌&&◌, nat_eq, nat_lt, nat_le, List, length, map, take, filter, Option, Some, None}
use Rattle.std.specs.Ordering.{nat_cmp, ordering_then, is_lt}
use Rattle.std.specs.declared.cmp.Ordering.{Ordering}
use Rattle.std.specs.FinMap as map
use Rattle.claim_types.specs.Order.{key_cmp, lease_cmp, bucket_number}
use Rattle.claim_types.specs.declared.key.Bucket.{Bucket}
use Rattle.claim_types.specs.declared.key.ClaimKey.{ClaimKey}
use Rattle.claim_types.specs.declared.lease.LeaseId.{LeaseId}
use Rattle.claim_types.specs.declared.lease.Holding.{Holding}
use Rattle.claim_types.specs.declared.operations.Operations.{Operations}
use Rattle.claim_types.specs.declared.page.LeasePage.{LeasePage}
use Rattle.claim_types.specs.declared.page.ClaimItem.{ClaimItem}
use Rattle.claim_types.specs.declared.page.ClaimPage.{ClaimPage}
use Rattle.claim_types.specs.declared.limits.TheConstants.{LEASES_A_PAGE, CLAIMS_A_PAGE}
use Rattle.claim_map.specs.State.{LeaseState}

-- above this lease; without one, any lease
abbrev pub is_above : Option LeaseId → LeaseId → Bool
is_above None lease = true
is_above (Some last) lease = is_lt (lease_cmp last lease)

-- the open leases of a cell above this one, in order
abbrev pub leases_above : map.FinMap lease_cmp Operations → ℕ → Option LeaseId → List LeaseId
leases_above open_leases cell last = filter (λ l. nat_eq l.cell cell && is_above last l) (map.keys open_leases)

-- the first page of them
abbrev pub lease_page : LeaseState → ℕ → Option LeaseId → LeasePage
lease_page s cell last =
    let leases = leases_above s.open_leases cell last in
    record { leases = take LEASES_A_PAGE leases; more = nat_lt LEASES_A_PAGE (length leases) }

-- places by row, and then by key
abbrev pub place_cmp : ℕ × ClaimKey → ℕ × ClaimKey → Ordering
place_cmp a b = ordering_then (nat_cmp a.0 b.0) (key_cmp a.1 b.1)

abbrev pub claim_of : ClaimKey × Holding → ClaimItem
claim_of e = record { key = e.0; subject = e.1.subject; origin = e.1.origin }

-- a claim at its place
abbrev pub placed : ClaimKey × Holding → (ℕ × ClaimKey) × ClaimItem
placed e = ((e.1.origin.row, e.0), claim_of e)

-- a held key is of this cell and bucket, with a row from first to last and above after
abbrev pub is_listed : ℕ → Bucket → ℕ → ℕ → ℕ → ClaimKey × Holding → Bool
is_listed cell bucket first last after e =
    nat_eq e.1.cell cell && nat_eq (bucket_number e.0.bucket) (bucket_number bucket) && nat_le first e.1.origin.row && nat_le e.1.origin.row last && nat_lt after e.1.origin.row

-- these claims, in the order of their places, which no two of them share
abbrev pub claims_between : map.FinMap key_cmp Holding → ℕ → Bucket → ℕ → ℕ → ℕ → List ClaimItem
claims_between holder cell bucket first last after =
    map.values (map.from_entries {R = place_cmp} (map placed (filter (is_listed cell bucket first last after) (map.entries holder))))

-- the first page of them
abbrev pub claim_page : LeaseState → ℕ → Bucket → ℕ → ℕ → ℕ → ClaimPage
claim_page s cell bucket first last after =
    let claims = claims_between s.holder cell bucket first last after in
    record { items = take CLAIMS_A_PAGE claims; more = nat_lt CLAIMS_A_PAGE (length claims) }
