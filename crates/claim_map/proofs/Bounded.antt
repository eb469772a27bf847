-- What is due to a request within bounds, in a claim map within bounds, is within bounds, and so is the claim map after it.
use Rattle.std.proofs.Common.{◌≡◌, ℕ, ◌<◌, inl, inr, Bool, true, false, ◌&&◌, nat_eq, nat_lt, nat_le, if◌then◌else◌, is_some, List, [], ◌∷◌, map as maps, filter, Option, Some, None, refl, sym, ap, subst, ◌∙◌}
use Rattle.std.specs.List.{All, slice_index_or}
use Rattle.std.proofs.lemmas.Bool.{eqb-true}
use Rattle.std.proofs.lemmas.Option.{same_Some}
use Rattle.std.proofs.lemmas.List.Elements.{All-head, All-tail, All-take, All-map, All-filter, All-append, All-weaker, All-push}
use Rattle.std.specs.FinMap as map
use Rattle.cells_base.proofs.Maps.{inserted, removed}
use Rattle.cells_base.proofs.Entries.{All-entries, found_in}
use Rattle.cells_base.proofs.Truth.{and_split}
use Rattle.claim_types.specs.Bounds.{IsCell, IsKey, IsHolding, IsClaim, IsCreate, AreOperations, IsRange, IsRangeNumber}
use Rattle.claim_types.specs.Leases.{IsLease}
use Rattle.claim_types.specs.MessageBounds.{IsDenial, IsRequest, IsReply}
use Rattle.claim_types.specs.Numbers.{numbered_bucket}
use Rattle.claim_types.specs.Operations.{keys_of, operation_count}
use Rattle.claim_types.specs.Order.{key_cmp, lease_cmp, bucket_number}
use Rattle.claim_types.proofs.Numbers.{numbered_bucket-number}
use Rattle.claim_types.proofs.Ordered.{keys_total, keys_exact, leases_total, leases_exact}
use Rattle.claim_types.specs.declared.cell.Range.{Range}
use Rattle.claim_types.specs.declared.key.Bucket.{Bucket}
use Rattle.claim_types.specs.declared.key.Bucket.TheVariants.{Route}
use Rattle.claim_types.specs.declared.key.ClaimKey.{ClaimKey}
use Rattle.claim_types.specs.declared.lease.Holding.{Holding}
use Rattle.claim_types.specs.declared.lease.LeaseId.{LeaseId}
use Rattle.claim_types.specs.declared.lease.How.{How}
use Rattle.claim_types.specs.declared.lease.How.TheVariants.{Committed, RolledBack}
use Rattle.claim_types.specs.declared.limits.TheConstants.{LEASES_A_PAGE, CLAIMS_A_PAGE}
use Rattle.claim_types.specs.declared.message.Request.{Request}
use Rattle.claim_types.specs.declared.message.Request.TheVariants.{Begin, Commit, Rollback, List as ListRequest, Range as RangeRequest, Claims as ClaimsRequest, Classify, Page}
use Rattle.claim_types.specs.declared.message.Reply.TheVariants.{Leases as LeasesReply, Claims as ClaimsReply, NoCell}
use Rattle.claim_types.specs.declared.operations.Create.{Create}
use Rattle.claim_types.specs.declared.operations.Operations.{Operations}
use Rattle.claim_types.specs.declared.page.ClaimItem.{ClaimItem}
use Rattle.claim_types.specs.declared.verdict.Refusal.{Refusal}
use Rattle.claim_types.specs.declared.verdict.Refusal.TheVariants.{Settled, OtherOperations, NoneOrTooMany, Twice, ForeignId, TooManyOpen, Owned, Leased, NotOwned}
use Rattle.claim_types.specs.declared.verdict.Verdict.{Verdict}
use Rattle.claim_types.specs.declared.verdict.Verdict.TheVariants.{Fresh, Again, Refused}
use Rattle.claim_map.specs.Bounds.{AreCells, AreHeld, IsWithinBounds}
use Rattle.claim_map.specs.Due.{Due, denial_of, begin_due, commit_due, rollback_due, range_due, told, due}
use Rattle.claim_map.specs.Pages.{lease_page, leases_above, claim_page, claims_between, claim_of, place_cmp, placed, is_listed}
use Rattle.claim_map.specs.Ranges.{AreRanges, RangeVerdict, unknown_cell, kept, too_far, exhausted, fresh, range_verdict, ranges_after}
use Rattle.claim_map.specs.Registry.{Registry, cell_of}
use Rattle.claim_map.specs.State.{ClaimMap, leases_of, opening}
use Rattle.claim_map.specs.Step.{without_keys, with_claims, holding_of, after_any}
use Rattle.claim_map.specs.Verdict.{verdict_of}
use Rattle.claim_map.proofs.Classified.{class_bounds}
use Rattle.claim_map.proofs.Found.{All-picked, Contains-found}
use Rattle.claim_map.proofs.Places.{places_total}
use Rattle.claim_map.proofs.Ranged.{IsRangeVerdict, range_bounds}
use Rattle.claim_map.proofs.Ranges.{ranges_after-sound}
use Rattle.claim_map.proofs.Refusals.{IsRefusal, IsVerdict, length-keys_of, verdict_bounds}

-- ---- refusals

are_keys : (ops : Operations) → AreOperations ops → All IsKey (keys_of ops)
are_keys ops are =
    let key_in = λ (create : Create). create.key in
    All-append IsKey (maps key_in ops.creates) ops.destroys
    (All-map IsKey key_in ops.creates (All-weaker (λ (create : Create). IsCreate create) (λ (create : Create). IsKey create.key) (λ create is. is.key) ops.creates are.creates)) are.destroys

module _ (ops : Operations) (are : AreOperations ops) where
  at_place : (at : ℕ) → at < operation_count ops → IsKey (slice_index_or (keys_of ops) at (record { bucket = Route; value = [] }))
  at_place at lt = are_keys ops are at (record { bucket = Route; value = [] }) (subst (λ (n : ℕ). at < n) (sym (length-keys_of ops)) lt)

  denial : (reason : Refusal) → IsRefusal (operation_count ops) reason → IsDenial (denial_of ops reason)
  denial (Settled how) is = tt
  denial OtherOperations is = tt
  denial (NoneOrTooMany n) is = is
  denial (Twice at) is = at_place at is
  denial (ForeignId id) is = is
  denial TooManyOpen is = tt
  denial (Owned at cell) is = (at_place at is.0, is.1)
  denial (Leased at by) is = (at_place at is.0, is.1)
  denial (NotOwned at) is = at_place at is

-- ---- holders after keys are released and claimed

released : (keys : List ClaimKey) (holder : map.FinMap key_cmp Holding) → AreHeld holder → AreHeld (without_keys keys holder)
released [] holder now = now
released (k ∷ ks) holder now = released ks (map.remove holder k) (record {
  keys = λ key h is. now.keys key h (removed keys_total keys_exact holder k key h is).1;
  holdings = λ key h is. now.holdings key h (removed keys_total keys_exact holder k key h is).1;
})

held_too : (cell : ℕ) (c : Create) (holder : map.FinMap key_cmp Holding) → IsCell cell → IsCreate c → AreHeld holder → AreHeld (map.insert holder c.key (holding_of cell c))
held_too cell c holder is_cell is now = record {
  keys = λ key h at. elim (inserted keys_total keys_exact holder c.key (holding_of cell c) key h at) [
    | inl same ↦ subst IsKey (sym same.0) is.key
    | inr other ↦ now.keys key h other.1
  ];
  holdings = λ key h at. elim (inserted keys_total keys_exact holder c.key (holding_of cell c) key h at) [
    | inl same ↦ subst IsHolding same.1 (record { cell = is_cell; subject = is.subject; origin = is.origin })
    | inr other ↦ now.holdings key h other.1
  ];
}

claimed : (cell : ℕ) (creates : List Create) (holder : map.FinMap key_cmp Holding) → IsCell cell → All IsCreate creates → AreHeld holder → AreHeld (with_claims cell creates holder)
claimed cell [] holder is_cell all now = now
claimed cell (c ∷ cs) holder is_cell all now =
    claimed cell cs (map.insert holder c.key (holding_of cell c)) is_cell (All-tail IsCreate c cs all) (held_too cell c holder is_cell (All-head IsCreate c cs all) now)

-- ---- the claim map after a step

abbrev IsDue : ClaimMap → Due → Type 0
IsDue s d = IsReply d.reply × IsWithinBounds (after_any s d.step)

module _ (s : ClaimMap) (now : IsWithinBounds s) where
  settled_too : (lease : LeaseId) (how : How) → IsLease lease → (l : LeaseId) (h : How) → map.get (map.insert s.settled lease how) l ≡ Some h → IsLease l
  settled_too lease how is l h at = elim (inserted leases_total leases_exact s.settled lease how l h at) [
    | inl same ↦ subst IsLease (sym same.0) is
    | inr other ↦ now.settled l h other.1
  ]

  begun : (lease : LeaseId) (ops : Operations) → IsLease lease → AreOperations ops → (verdict : Verdict) → IsVerdict (operation_count ops) verdict → IsDue s (begin_due lease ops verdict)
  begun lease ops is are Fresh v = (
    (is, tt),
    record {
      holder = now.holder;
      open_leases = λ l o at. elim (inserted leases_total leases_exact s.open_leases lease ops l o at) [
        | inl same ↦ subst IsLease (sym same.0) is
        | inr other ↦ now.open_leases l o other.1
      ];
      operations = λ l o at. elim (inserted leases_total leases_exact s.open_leases lease ops l o at) [
        | inl same ↦ subst AreOperations same.1 are
        | inr other ↦ now.operations l o other.1
      ];
      settled = now.settled;
      ranges = now.ranges;
      in_order = now.in_order;
    },
  )
  begun lease ops is are Again v = ((is, tt), now)
  begun lease ops is are (Refused reason) v = ((is, denial ops are reason v), now)

  still_open : (lease : LeaseId) (l : LeaseId) (o : Operations) → map.get (map.remove s.open_leases lease) l ≡ Some o → map.get s.open_leases l ≡ Some o
  still_open lease l o at = (removed leases_total leases_exact s.open_leases lease l o at).1

  -- an open lease is applied
  applied : (lease : LeaseId) (mine : Option Operations) → map.get s.open_leases lease ≡ mine → (ops : Operations) → mine ≡ Some ops → IsWithinBounds (after_any s (commit_due lease (Some ops) None).step)
  applied lease mine is ops some = let at = is ∙ some in rw at (record {
    holder = claimed lease.cell ops.creates (without_keys ops.destroys s.holder) (let l = now.open_leases lease ops at in (l.cell_least, l.cell_most)) (now.operations lease ops at).creates (released ops.destroys s.holder now.holder);
    open_leases = λ l o there. now.open_leases l o (still_open lease l o there);
    operations = λ l o there. now.operations l o (still_open lease l o there);
    settled = settled_too lease Committed (now.open_leases lease ops at);
    ranges = now.ranges;
    in_order = now.in_order;
  })

  commit : (lease : LeaseId) → IsLease lease → (mine : Option Operations) (how : Option How) → map.get s.open_leases lease ≡ mine → IsDue s (commit_due lease mine how)
  commit lease is (Some ops) how at = (is, applied lease (Some ops) at ops refl)
  commit lease is None None at = (is, now)
  commit lease is None (Some Committed) at = (is, now)
  commit lease is None (Some RolledBack) at = (is, now)

  rolled : (lease : LeaseId) → IsLease lease → IsWithinBounds (after_any s (rollback_due lease None).step)
  rolled lease is = record {
    holder = now.holder;
    open_leases = λ l o there. now.open_leases l o (still_open lease l o there);
    operations = λ l o there. now.operations l o (still_open lease l o there);
    settled = settled_too lease RolledBack is;
    ranges = now.ranges;
    in_order = now.in_order;
  }

  rollback : (lease : LeaseId) → IsLease lease → (how : Option How) → IsDue s (rollback_due lease how)
  rollback lease is None = (is, rolled lease is)
  rollback lease is (Some Committed) = (is, now)
  rollback lease is (Some RolledBack) = (is, now)

  ranged : (cell n : ℕ) → IsCell cell → IsRangeNumber n → (verdict : RangeVerdict) → IsRangeVerdict verdict → AreRanges (ranges_after verdict s.ranges) → IsDue s (range_due cell n verdict)
  ranged cell n is_cell is_number unknown_cell is sound = ((is_cell, is_number, tt), now)
  ranged cell n is_cell is_number (kept r) is sound = ((is_cell, is_number, is), now)
  ranged cell n is_cell is_number (too_far next) is sound = ((is_cell, is_number, is), now)
  ranged cell n is_cell is_number (exhausted last) is sound = ((is_cell, is_number, is), now)
  ranged cell n is_cell is_number (fresh r) is sound = (
    (is_cell, is_number, is.ends),
    record {
      holder = now.holder;
      open_leases = now.open_leases;
      operations = now.operations;
      settled = now.settled;
      ranges = All-push IsRange s.ranges r now.ranges is;
      in_order = sound;
    },
  )

  -- pages
  listed : (cell : ℕ) (last : Option LeaseId) → All IsLease (lease_page (leases_of s) cell last).leases
  listed cell last =
      All-take IsLease LEASES_A_PAGE (leases_above s.open_leases cell last)
      (All-filter _ IsLease (map.keys s.open_leases)
      (All-map IsLease (λ (e : LeaseId × Operations). e.0) (map.entries s.open_leases)
      (All-entries leases_total (λ (e : LeaseId × Operations). IsLease e.0) s.open_leases now.open_leases)))

same_bucket : (a b : Bucket) → bucket_number a ≡ bucket_number b → a ≡ b
same_bucket a b same = same_Some a b (sym (numbered_bucket-number a) ∙ ap numbered_bucket same ∙ numbered_bucket-number b)

of_bucket : (cell : ℕ) (bucket : Bucket) (first last after : ℕ) (e : ClaimKey × Holding) → is_listed cell bucket first last after e ≡ true → e.0.bucket ≡ bucket
of_bucket cell bucket first last after e h =
    let a = nat_eq e.1.cell cell in
    let b = nat_eq (bucket_number e.0.bucket) (bucket_number bucket) in
    let c = nat_le first e.1.origin.row in
    let d = nat_le e.1.origin.row last in
    let four = and_split (a && b && c && d) (nat_lt after e.1.origin.row) h in
    let three = and_split (a && b && c) d four.0 in
    let two = and_split (a && b) c three.0 in
    same_bucket e.0.bucket bucket (eqb-true (bucket_number e.0.bucket) (bucket_number bucket) (and_split a b two.0).1)

held : (holder : map.FinMap key_cmp Holding) → AreHeld holder → (cell : ℕ) (bucket : Bucket) (first last after : ℕ) → All (IsClaim bucket) (claims_between holder cell bucket first last after)
held holder now cell bucket first last after =
    let is_claim = λ (item : ClaimItem). IsClaim bucket item in
    let claims = filter (is_listed cell bucket first last after) (map.entries holder) in
    All-map is_claim (λ (e : (ℕ × ClaimKey) × ClaimItem). e.1) (map.entries (map.from_entries {R = place_cmp} (maps placed claims)))
    (All-entries places_total (λ (e : (ℕ × ClaimKey) × ClaimItem). is_claim e.1) (map.from_entries {R = place_cmp} (maps placed claims))
    (λ k v is. found_in place_cmp is_claim k v (maps placed claims)
    (All-map (λ (e : (ℕ × ClaimKey) × ClaimItem). is_claim e.1) placed claims
    (All-picked (λ (e : ClaimKey × Holding). IsKey e.0 × IsHolding e.1) (λ (e : ClaimKey × Holding). IsClaim bucket (claim_of e)) (is_listed cell bucket first last after)
    (λ e is listed_there. record { key = is.0; bucket_is = of_bucket cell bucket first last after e listed_there; subject = is.1.subject; origin = is.1.origin }) (map.entries holder)
    (All-entries keys_total (λ (e : ClaimKey × Holding). IsKey e.0 × IsHolding e.1) holder (λ key h at. (now.keys key h at, now.holdings key h at)))))
    (sym (map.get-from_entries places_total (maps placed claims) k) ∙ is)))

-- ---- every request

guarded : (b : Bool) (s : ClaimMap) (d : Due) (cell : ℕ) → IsCell cell → IsWithinBounds s → IsDue s d → IsDue s (if b then d else told (NoCell cell))
guarded true s d cell is_cell now is = is
guarded false s d cell is_cell now is = (is_cell, now)

pub due_bounds : (registry : Registry) (s : ClaimMap) (request : Request) → AreCells registry → IsWithinBounds s → IsRequest request → IsReply (due registry s request).reply × IsWithinBounds (after_any s (due registry s request).step)
due_bounds registry s (Begin lease ops) cells now is =
    guarded (is_some (cell_of registry lease.cell)) s (begin_due lease ops (verdict_of (leases_of s) s.ranges lease ops)) lease.cell (is.0.cell_least, is.0.cell_most) now
    (begun s now lease ops is.0 is.1 (verdict_of (leases_of s) s.ranges lease ops) (verdict_bounds (leases_of s) now.open_leases (λ key h at. (now.holder.holdings key h at).cell) s.ranges lease ops is.1))
due_bounds registry s (Commit lease) cells now is =
    guarded (is_some (cell_of registry lease.cell)) s (commit_due lease (map.get s.open_leases lease) (map.get s.settled lease)) lease.cell (is.cell_least, is.cell_most) now
    (commit s now lease is (map.get s.open_leases lease) (map.get s.settled lease) refl)
due_bounds registry s (Rollback lease) cells now is =
    guarded (is_some (cell_of registry lease.cell)) s (rollback_due lease (map.get s.settled lease)) lease.cell (is.cell_least, is.cell_most) now (rollback s now lease is (map.get s.settled lease))
due_bounds registry s (ListRequest cell last) cells now is =
    guarded (is_some (cell_of registry cell)) s (told (LeasesReply cell (lease_page (leases_of s) cell last))) cell is.0 now ((is.0, listed s now cell last), now)
due_bounds registry s (RangeRequest cell n) cells now is =
    ranged s now cell n is.0 is.1 (range_verdict registry s.ranges cell n) (range_bounds s.ranges now.ranges registry cells now.in_order cell n is.1)
    (ranges_after-sound s.ranges now.in_order registry cell n (λ c found. cells.widths c (Contains-found _ registry.cells c found)))
due_bounds registry s (ClaimsRequest cell bucket first last after) cells now is =
    guarded (is_some (cell_of registry cell)) s (told (ClaimsReply cell bucket first last after (claim_page (leases_of s) cell bucket first last after))) cell is.0 now
    ((is.0, is.1, All-take (IsClaim bucket) CLAIMS_A_PAGE (claims_between s.holder cell bucket first last after) (held s.holder now.holder cell bucket first last after)), now)
due_bounds registry s (Classify question) cells now is = ((is, class_bounds registry s.holder question cells now.holder), now)
due_bounds registry s (Page cell path named) cells now is = (is.0, now)

-- in the beginning there are ranges alone
pub opening_bounds : (ranges : List Range) → All IsRange ranges → AreRanges ranges → IsWithinBounds (opening ranges)
opening_bounds ranges are sound = record {
  holder = record {
    keys = λ key h is. let none : map.get (map.empty {X = Holding} {R = key_cmp}) key ≡ None = map.get-empty key_cmp key in let e : None ≡ Some h = sym none ∙ is in absurd cc;
    holdings = λ key h is. let none : map.get (map.empty {X = Holding} {R = key_cmp}) key ≡ None = map.get-empty key_cmp key in let e : None ≡ Some h = sym none ∙ is in absurd cc;
  };
  open_leases = λ lease ops is. let none : map.get (map.empty {X = Operations} {R = lease_cmp}) lease ≡ None = map.get-empty lease_cmp lease in let e : None ≡ Some ops = sym none ∙ is in absurd cc;
  operations = λ lease ops is. let none : map.get (map.empty {X = Operations} {R = lease_cmp}) lease ≡ None = map.get-empty lease_cmp lease in let e : None ≡ Some ops = sym none ∙ is in absurd cc;
  settled = λ lease how is. let none : map.get (map.empty {X = How} {R = lease_cmp}) lease ≡ None = map.get-empty lease_cmp lease in let e : None ≡ Some how = sym none ∙ is in absurd cc;
  ranges = are;
  in_order = sound;
}
