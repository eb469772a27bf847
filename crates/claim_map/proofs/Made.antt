-- A create makes one claim, and takes none away.
use Rattle.std.proofs.Common.{◌≡◌, ◌⊎◌, inl, inr, ℕ, ◌≤◌, true, false, List, [], ◌∷◌, ◌++◌, Some, None, sym, ◌∙◌, subst, arith}
use Rattle.std.specs.List.{Contains}
use Rattle.std.proofs.lemmas.List.Elements.{Contains-push_cases, Contains-push}
use Rattle.claim_types.specs.Operations.{operation_count}
use Rattle.claim_types.specs.declared.key.ClaimKey.{ClaimKey}
use Rattle.claim_types.specs.declared.cell.Range.{Range}
use Rattle.claim_types.specs.declared.operations.Create.{Create}
use Rattle.claim_types.specs.declared.operations.Operations.{Operations}
use Rattle.claim_types.specs.declared.record.Kind.{Kind}
use Rattle.claim_types.specs.declared.record.Record.{Record}
use Rattle.claim_map.specs.State.{Tree}
use Rattle.claim_map.specs.Records.{next_id, with_record}
use Rattle.claim_map.specs.Claims.{claim_of_record, claims_of, is_among, operations_between}
use Rattle.claim_map.specs.Rules.{record_at, place_rule}
use Rattle.claim_map.specs.Trees.{TreeFits}
use Rattle.cells_base.proofs.Members.{nowhere}
use Rattle.claim_map.proofs.Claims.{is_among-Contains, stands_or_not, is_created, claims_push, claim_of_some}
use Rattle.claim_map.proofs.Trees.{all_below}

pub some_create : (ops : Operations) (c : Create) → Contains ops.creates c → 1 ≤ operation_count ops
some_create ops c is = let lt = is.1 in omega (arith, lt)

pub some_destroy : (ops : Operations) (k : ClaimKey) → Contains ops.destroys k → 1 ≤ operation_count ops
some_destroy ops k is = let lt = is.1 in omega (arith, lt)

abbrev pub MadeApart : Tree → Tree → Type 0
MadeApart tree changed = (c d : Create) → Contains (claims_of changed) c → is_among (claims_of tree) c ≡ false → Contains (claims_of changed) d → is_among (claims_of tree) d ≡ false → c.key ≡ d.key → c ≡ d

abbrev pub HasSome : Tree → Tree → Type 0
HasSome tree changed = 1 ≤ operation_count (operations_between (claims_of tree) (claims_of changed))

pub old_is_among : {G : Type 0} (claims : List Create) (c : Create) → Contains claims c → is_among claims c ≡ false → G
old_is_among claims c is gone = let both : true ≡ false = sym (is_among-Contains claims c is) ∙ gone in absurd cc

-- a record is made
module _ (tree : Tree) (known : List Range) (fits : TreeFits tree known) (kind : Kind) (parent : ℕ) (name : List ℕ) (id : ℕ) (next : next_id tree known ≡ Some id) (placed : place_rule kind parent (record_at tree parent) ≡ None) where
  abbrev pub more : Tree
  more = with_record tree (Some id) kind parent name

  abbrev pub made : Create
  made = claim_of_record (claims_of tree) (record { id = id; kind = kind; parent = parent; name = name })

  pub claims_more : claims_of more ≡ claims_of tree ++ made ∷ []
  unfolding claims_of
  claims_more = claims_push [] tree.records (record { id = id; kind = kind; parent = parent; name = name })

  pub of_some : (c : Create) → Contains (claims_of tree) c → Contains {X = Create} [] c ⊎ ((r : Record) × Contains tree.records r × (c.origin.row ≡ r.id))
  unfolding claims_of
  of_some c is = claim_of_some [] tree.records c is

  pub made_new : is_among (claims_of tree) made ≡ false
  made_new = elim (stands_or_not (claims_of tree) made) [
    | inl stands ↦ elim (of_some made stands) [
      | inl none ↦ absurd (nowhere made none)
      | inr found ↦ (let lt = all_below tree known fits kind parent name id next placed found.0 found.1 in let row = found.2 in absurd (omega (arith, lt, row)))
    ]
    | inr gone ↦ gone
  ]

  pub only_made : (c : Create) → Contains (claims_of more) c → is_among (claims_of tree) c ≡ false → made ≡ c
  only_made c is gone = elim (Contains-push_cases (claims_of tree) made c (subst (λ cs. Contains cs c) claims_more is)) [ inl old ↦ old_is_among (claims_of tree) c old gone | inr same ↦ same ]

  pub created_apart : MadeApart tree more
  created_apart c d ic gc id gd same = sym (only_made c ic gc) ∙ only_made d id gd

  pub created_some : HasSome tree more
  created_some = some_create (operations_between (claims_of tree) (claims_of more)) made
      (is_created (claims_of tree) (claims_of more) made (subst (λ cs. Contains cs made) (sym claims_more) (Contains-push (claims_of tree) made)) made_new)
