-- The operations of a change that no rule refuses are within their bounds.
use Rattle.std.proofs.Common.{◌≡◌, ◌⊎◌, inl, inr, ℕ, ◌≤◌, true, nat_eq, nat_le, List, [], ◌∷◌, ◌++◌, Option, Some, None, refl, sym, ap, subst, arith}
use Rattle.std.specs.List.{All, Contains}
use Rattle.std.proofs.lemmas.Bool.Decides.{Decides-eqb, nat_tests}
use Rattle.std.proofs.lemmas.List.Elements.{All-contains_itself, Contains-push_cases}
use Rattle.cells_base.proofs.Truth.{and_split}
use Rattle.cells_base.proofs.Members.{here, later, nowhere}
use Rattle.claim_types.specs.Bounds.{IsIdentifier, IsKey, IsRange, IsSubject, IsSubjectKind, IsCreate}
use Rattle.claim_types.specs.EntryBounds.{AreEntryOperations}
use Rattle.claim_types.specs.declared.cell.Range.{Range}
use Rattle.claim_types.specs.declared.limits.TheConstants.{GREATEST_IDENTIFIER}
use Rattle.claim_types.specs.declared.operations.Create.{Create}
use Rattle.claim_types.specs.declared.record.Kind.{Kind}
use Rattle.claim_types.specs.declared.record.Kind.TheVariants.{Organization, Group, Project, User, Key, Address, Domain}
use Rattle.claim_types.specs.declared.record.Record.{Record}
use Rattle.claim_types.specs.declared.record.Change.{Change}
use Rattle.claim_map.specs.State.{Tree}
use Rattle.claim_map.specs.Records.{changed_by}
use Rattle.claim_map.specs.Claims.{subject_of, claim_of_record, claims_from, claims_of, operations_of}
use Rattle.claim_map.specs.Rules.{record_at, place_rule, rule_of}
use Rattle.claim_map.specs.Trees.{AreApart, TreeFits}
use Rattle.cells_base.proofs.Finds.{find_passes}
use Rattle.claim_map.proofs.Found.{Contains-found, All-contained}
use Rattle.claim_map.proofs.Claims.{created, destroyed}
use Rattle.claim_map.proofs.Changed.{changed_fits}
use Rattle.claim_map.proofs.Covers.{in_range}
use Rattle.claim_map.proofs.Formed.{well_formed}
use Rattle.claim_map.proofs.Trees.{id_above}

pub all_of : {X : Type 0} (P : X → Type 0) (xs : List X) → ((x : X) → Contains xs x → P x) → All P xs
all_of P xs each i d lt = each _ (All-contains_itself xs i d lt)

-- each claim is of a record, and speaks of what its kind says
record IsOf (rs : List Record) (c : Create) : Type 0 where
  of : Record
  stands : Contains rs of
  subject : c.subject ≡ subject_of of.kind of.id of.parent
  row : c.origin.row ≡ of.id

claim_is : (earlier : List Create) (rs : List Record) (c : Create) → Contains (claims_from earlier rs) c → Contains earlier c ⊎ IsOf rs c
claim_is earlier [] c is = inl is
claim_is earlier (r ∷ rs) c is = elim (claim_is (earlier ++ claim_of_record earlier r ∷ []) rs c is) [
  | inl old ↦ elim (Contains-push_cases earlier (claim_of_record earlier r) c old) [
    | inl there ↦ inl there
    | inr same ↦ inr (record { of = r; stands = here r rs; subject = ap (λ (x : Create). x.subject) (sym same); row = ap (λ (x : Create). x.origin.row) (sym same) })
  ]
  | inr new ↦ inr (record { of = new.of; stands = later r rs new.of new.stands; subject = new.subject; row = new.row })
]

-- the kind of a subject is one that may be spoken of, and its identifier is the record's or its parent's
may_be : (kind : Kind) (id parent : ℕ) → IsSubjectKind (subject_of kind id parent).kind
may_be Organization id parent = tt
may_be Group id parent = tt
may_be Project id parent = tt
may_be User id parent = tt
may_be Key id parent = tt
may_be Address id parent = tt
may_be Domain id parent = tt

module _ (tree : Tree) (known : List Range) (fits : TreeFits tree known) (ranges : All IsRange known) where
  is_identifier : (r : Record) → Contains tree.records r → IsIdentifier r.id
  is_identifier r is =
      let place = fits.ids r is in
      let positive = id_above 0 known place.0 r.id fits.rising place.2 in
      let range = in_range place.0 known r.id place.2 in
      let bounds = (All-contained IsRange known range.0 ranges range.1).ends in
      let last = bounds.2 in
      let ends = and_split (nat_le range.0.low r.id) (nat_le r.id range.0.high) range.2 in
      (omega (arith, positive), at_most r.id range.0.high ends.1 last)
    where
      at_most : (n high : ℕ) → nat_le n high ≡ true → high ≤ GREATEST_IDENTIFIER → n ≤ GREATEST_IDENTIFIER
      at_most n high le most = let below : n ≤ high = grind (arith, nat_tests, le) in omega (arith, below, most)

  of_parent : (kind : Kind) (parent : ℕ) → ((o : Option Record) → place_rule kind parent o ≡ None → (r : Record) × (o ≡ Some r)) → place_rule kind parent (record_at tree parent) ≡ None → IsIdentifier parent
  of_parent kind parent below placed =
      let found = below (record_at tree parent) placed in
      let stands = Contains-found (λ (q : Record). nat_eq q.id parent) tree.records found.0 found.1 in
      subst IsIdentifier ((Decides-eqb found.0.id parent).0 (find_passes (λ (q : Record). nat_eq q.id parent) tree.records found.0 found.1)) (is_identifier found.0 stands)

  -- an identifier that a subject has
  subject_id : (kind : Kind) (id parent : ℕ) → IsIdentifier id → place_rule kind parent (record_at tree parent) ≡ None → IsIdentifier (subject_of kind id parent).id
  subject_id Organization id parent own placed = own
  subject_id Group id parent own placed = own
  subject_id Project id parent own placed = own
  subject_id User id parent own placed = own
  subject_id Key id parent own placed = of_parent Key parent there placed
    where
      there : (o : Option Record) → place_rule Key parent o ≡ None → (r : Record) × (o ≡ Some r)
      there None h = absurd cc
      there (Some r) h = (r, refl)
  subject_id Address id parent own placed = of_parent Address parent there placed
    where
      there : (o : Option Record) → place_rule Address parent o ≡ None → (r : Record) × (o ≡ Some r)
      there None h = absurd cc
      there (Some r) h = (r, refl)
  subject_id Domain id parent own placed = of_parent Domain parent there placed
    where
      there : (o : Option Record) → place_rule Domain parent o ≡ None → (r : Record) × (o ≡ Some r)
      there None h = absurd cc
      there (Some r) h = (r, refl)

  -- each claim is within its bounds
  pub claim_bounds : (c : Create) → Contains (claims_of tree) c → IsCreate c
  unfolding claims_of
  claim_bounds c is = elim (claim_is [] tree.records c is) [
    | inl none ↦ absurd (nowhere c none)
    | inr known_as ↦
        let own = is_identifier known_as.of known_as.stands in
        record {
          key = fits.keys c is;
          subject = subst IsSubject (sym known_as.subject) (record { kind = may_be known_as.of.kind known_as.of.id known_as.of.parent; id = subject_id known_as.of.kind known_as.of.id known_as.of.parent own (fits.placed known_as.of known_as.stands) });
          origin = record { row = subst IsIdentifier (sym known_as.row) own };
        }
  ]

pub operation_bounds : (tree : Tree) (change : Change) (known : List Range) → TreeFits tree known → All IsRange known → AreApart (claims_of tree) → rule_of tree change known ≡ None → AreEntryOperations (operations_of tree change known)
operation_bounds tree change known fits ranges apart h =
    let formed = well_formed tree change known fits apart h in
    let few = formed.not_too_many in
    let after = changed_by tree change known in
    record {
      well_formed = formed;
      bounds = record {
        number = omega (arith, few);
        creates = all_of IsCreate (operations_of tree change known).creates (λ c is. claim_bounds after known (changed_fits tree change known fits h) ranges c (created (claims_of tree) (claims_of after) c is).0);
        destroys = all_of IsKey (operations_of tree change known).destroys (λ key is. let old = destroyed (claims_of tree) (claims_of after) key is in subst IsKey old.3 (fits.keys old.0 old.1));
      };
    }
