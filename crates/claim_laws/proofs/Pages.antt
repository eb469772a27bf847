-- What a page of leases lists.
use Rattle.std.proofs.Common.{◌≡◌, inl, inr, ℕ, zero, suc, ◌&&◌, nat_eq, List, [], ◌∷◌, take, Option, Some, subst}
use Rattle.std.specs.List.{Contains, All}
use Rattle.std.specs.FinMap as map
use Rattle.std.specs.FinMap.{FinMap}
use Rattle.std.proofs.lemmas.List.Elements.{All-contains}
use Rattle.std.proofs.lemmas.Bool.Decides.{Decides-eqb}
use Rattle.cells_base.proofs.Truth.{and_split}
use Rattle.cells_base.proofs.Entries.{All-entries}
use Rattle.claim_types.proofs.Ordered.{leases_total}
use Rattle.claim_types.specs.Order.{lease_cmp}
use Rattle.claim_types.specs.declared.lease.LeaseId.{LeaseId}
use Rattle.claim_types.specs.declared.operations.Operations.{Operations}
use Rattle.claim_map.specs.State.{ClaimMap, leases_of}
use Rattle.claim_map.specs.Pages.{is_above, leases_above, lease_page}
use Rattle.claim_map.specs.Legal.{IsOpen}
use Rattle.cells_base.proofs.Members.{here_or_later, nowhere, here, later, of_filter, of_map}

pub of_take : {X : Type 0} (n : ℕ) (xs : List X) (y : X) → Contains (take n xs) y → Contains xs y
of_take zero xs y h = absurd (nowhere y h)
of_take (suc n) [] y h = absurd (nowhere y h)
of_take (suc n) (x ∷ xs) y h = elim (here_or_later x (take n xs) y h) [ inl e ↦ subst (λ z. Contains (x ∷ xs) z) e (here x xs) | inr there ↦ later x xs y (of_take n xs y there) ]

-- a key of a map has a value there
pub of_keys : {X : Type 0} (m : FinMap lease_cmp X) (k : LeaseId) → Contains (map.keys m) k → (x : X) × (map.get m k ≡ Some x)
of_keys {X} m k h =
    let found = of_map (λ (e : LeaseId × X). e.0) (map.entries m) k h in
    let all : All (λ (e : LeaseId × X). map.get m e.0 ≡ Some e.1) (map.entries m) = All-entries leases_total (λ (e : LeaseId × X). map.get m e.0 ≡ Some e.1) m (λ q v is. is) in
    let at = All-contains (λ (e : LeaseId × X). map.get m e.0 ≡ Some e.1) (map.entries m) found.0 all found.1 in
    (found.0.1, subst (λ q. map.get m q ≡ Some found.0.1) found.2 at)

-- a page lists open leases of its cell
pub listed_known : (s : ClaimMap) (cell : ℕ) (last : Option LeaseId) (lease : LeaseId) → Contains (lease_page (leases_of s) cell last).leases lease → (lease.cell ≡ cell) × ((ops : Operations) × IsOpen s lease ops)
listed_known s cell last lease h =
    let passed = of_filter (λ (l : LeaseId). nat_eq l.cell cell && is_above last l) (map.keys s.open_leases) lease (of_take 100 (leases_above s.open_leases cell last) lease h) in
    ((Decides-eqb lease.cell cell).0 (and_split (nat_eq lease.cell cell) (is_above last lease) passed.1).0, of_keys s.open_leases lease passed.0)
