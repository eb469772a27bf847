-- The walk over the cuts of a text: the last held route that it met is the longest of them.
use Rattle.std.proofs.Common.{◌≡◌, ℕ, ◌+◌, ◌-◌, ◌<◌, ◌≤◌, Bool, true, false, ◌&&◌, ◌⊎◌, inl, inr, List, [], ◌∷◌, length, take, get_or, Option, Some, None, option_map, refl, sym, ◌∙◌, ap, subst, arith}
use Rattle.std.specs.FinMap.{FinMap, get, entries}
use Rattle.std.specs.List.{Contains, count_by}
use Rattle.std.specs.Option.{option_or}
use Rattle.std.specs.Prelude.{filter}
use Rattle.std.proofs.lemmas.Bool.{cases_lt, eqb-true}
use Rattle.std.proofs.Math.Seq.{take-length}
use Rattle.std.proofs.lemmas.List.{length-take-le}
use Rattle.std.proofs.lemmas.List.Sums.{count_by_more_yes, count_by_more_no}
use Rattle.std.proofs.lemmas.Option.{slice_get-get_or, get_or_from_slice_get}
use Rattle.cells_base.proofs.Members.{nowhere, of_filter, in_filter}
use Rattle.cells_base.proofs.Truth.{and_split, not_true}
use Rattle.claim_types.proofs.Ordered.{keys_total, keys_exact}
use Rattle.claim_types.specs.Keys.{is_slash}
use Rattle.claim_types.specs.Order.{key_cmp}
use Rattle.claim_types.specs.declared.key.Bucket.{Bucket}
use Rattle.claim_types.specs.declared.key.Bucket.TheVariants.{OrganizationPath, Route, Address, SshKey, PagesDomain}
use Rattle.claim_types.specs.declared.key.ClaimKey.{ClaimKey}
use Rattle.claim_types.specs.declared.lease.Holding.{Holding}
use Rattle.claim_types.specs.declared.limits.TheConstants.{ROUTE_SEGMENTS}
use Rattle.claim_map.specs.Bounds.{AreHeld}
use Rattle.claim_map.specs.Classification.{is_route, leads_to, begins_segments, longest, path_holder}
use Rattle.claim_map.proofs.Longest.{IsLongest, longest-is}
use Rattle.classifier.proofs.BaseEntries.{Contains-get, get-Contains}
use Rattle.classifier.proofs.Cuts.{IsCut, begins_front, front_is, front_begins, count_by-take}
use Rattle.classifier.proofs.Segments.{few_slashes}

only_route : (bucket : Bucket) → is_route bucket ≡ true → bucket ≡ Route
only_route OrganizationPath h = absurd cc
only_route Route h = refl
only_route Address h = absurd cc
only_route SshKey h = absurd cc
only_route PagesDomain h = absurd cc

module _ (holder : FinMap key_cmp Holding) (text : List ℕ) where
  abbrev pub route_at : ℕ → ClaimKey
  route_at n = record { bucket = Route; value = take n text }

  -- of the routes that end at a cut before the limit, this is who holds the longest one that is held
  abbrev pub IsBest : ℕ → Option Holding → Type 0
  IsBest limit None = (n : ℕ) → n < limit → IsCut text n → get holder (route_at n) ≡ None
  IsBest limit (Some h) = (n : ℕ) × (n < limit) × IsCut text n × (get holder (route_at n) ≡ Some h) × ((m : ℕ) → n < m → m < limit → IsCut text m → get holder (route_at m) ≡ None)

  pub none_yet : IsBest 0 None
  none_yet n lt cut = absurd (omega (arith, lt))

  -- nothing is held from here up to another limit
  pub none_more : (e limit : ℕ) (f : Option Holding) → IsBest e f → ((m : ℕ) → e ≤ m → m < limit → IsCut text m → get holder (route_at m) ≡ None) → e ≤ limit → IsBest limit f
  none_more e limit None best none le = λ n lt cut. elim (cases_lt n e) [ inl before ↦ best n before cut | inr behind ↦ none n behind lt cut ]
  none_more e limit (Some h) best none le = (
    best.0,
    omega (arith, best.1, le),
    best.2,
    best.3,
    λ m above lt cut. elim (cases_lt m e) [ inl before ↦ best.4 m above before cut | inr behind ↦ none m behind lt cut ],
  )

  pub passed : (e : ℕ) (f : Option Holding) → IsBest e f → (IsCut text e → get holder (route_at e) ≡ None) → IsBest (e + 1) f
  passed e f best none =
      none_more e (e + 1) f best (λ m le lt cut. let same : e ≡ m = omega (arith, le, lt) in subst (λ (k : ℕ). get holder (route_at k) ≡ None) same (none (subst (IsCut text) (sym same) cut))) (omega arith)

  looked_at : (e : ℕ) (f o : Option Holding) → get holder (route_at e) ≡ o → IsCut text e → IsBest e f → IsBest (e + 1) (option_or o f)
  looked_at e f None is cut best = passed e f best (λ c. is)
  looked_at e f (Some h) is cut best = (e, omega arith, cut, is, λ m above lt c. absurd (omega (arith, above, lt)))

  pub looked : (e : ℕ) (f : Option Holding) → IsCut text e → IsBest e f → IsBest (e + 1) (option_or (get holder (route_at e)) f)
  looked e f cut best = looked_at e f (get holder (route_at e)) refl cut best

  -- behind so many '/' no route is held
  module _ (held : AreHeld holder) (e : ℕ) (many : ROUTE_SEGMENTS ≤ count_by is_slash (take e text)) where
    nothing_at : (m : ℕ) → e ≤ m → m ≤ length text → (o : Option Holding) → get holder (route_at m) ≡ o → o ≡ None
    nothing_at m le within None is = refl
    nothing_at m le within (Some h) is =
        let few = few_slashes (take m text) (held.keys (route_at m) h is) in
        let same : e + (m - e) ≡ m = omega (arith, le) in
        let more = subst (λ (k : ℕ). count_by is_slash (take e text) ≤ count_by is_slash (take k text)) same (count_by-take is_slash text e (m - e) (omega (arith, le, within))) in
        absurd (omega (arith, many, few, more))

    pub enough : (f : Option Holding) → IsBest e f → e ≤ length text → IsBest (length text + 1) f
    enough f best le = none_more e (length text + 1) f best (λ m above lt cut. nothing_at m above (omega (arith, lt)) (get holder (route_at m)) refl) (omega (arith, le))

  -- ---- the longest held route of the definition

  candidates : List (ClaimKey × Holding)
  candidates = filter (leads_to text) (entries holder)

  -- a candidate stands before a cut
  record Candidate (e : ClaimKey × Holding) : Type 0 where
    cut : IsCut text (length e.0.value)
    within : length e.0.value ≤ length text
    held : get holder (route_at (length e.0.value)) ≡ Some e.1

  candidate : (e : ClaimKey × Holding) → Contains candidates e → Candidate e
  unfolding candidates
  candidate e c =
      let there = of_filter (leads_to text) (entries holder) e c in
      let both = and_split (is_route e.0.bucket) (begins_segments e.0.value text) there.1 in
      let front = front_is text e.0.value (begins_front text e.0.value both.1) in
      let bucket = only_route e.0.bucket both.0 in
      let key : ◌≡◌ {A = ClaimKey} (route_at (length e.0.value)) e.0 = λ i. record { bucket = sym bucket i; value = front.1 i } in
      record { cut = front.0; within = front.2; held = ap (get holder) key ∙ get-Contains keys_total keys_exact holder e there.0 }

  -- and a held route before a cut is a candidate
  is_candidate : (n : ℕ) (h : Holding) → n ≤ length text → IsCut text n → get holder (route_at n) ≡ Some h → Contains candidates (route_at n, h)
  unfolding candidates
  is_candidate n h le cut is = in_filter (leads_to text) (entries holder) (route_at n, h) (Contains-get keys_total keys_exact holder (route_at n) h is) (front_begins text n le cut)

  same_holding : (a b : Holding) (o : Option Holding) → o ≡ Some a → o ≡ Some b → Some a ≡ Some b
  same_holding a b o p q = sym p ∙ q

  joined : (o : Option (ClaimKey × Holding)) → IsLongest candidates o → (f : Option Holding) → IsBest (length text + 1) f → option_map (λ (e : ClaimKey × Holding). e.1) o ≡ f
  joined None none None best = refl
  joined None none (Some h) best =
      absurd (nowhere (route_at best.0, h) (subst (λ (es : List (ClaimKey × Holding)). Contains es (route_at best.0, h)) none (is_candidate best.0 h (omega (arith, best.1)) best.2 best.3)))
  joined (Some e) is None best =
      let at = candidate e is.0 in
      let both : Some e.1 ≡ None = sym at.held ∙ best (length e.0.value) (omega (arith, at.within)) at.cut in
      absurd cc
  joined (Some e) is (Some h) best =
      let at = candidate e is.0 in
      let n = best.0 in
      let there = is_candidate n h (omega (arith, best.1)) best.2 best.3 in
      let most : length (take n text) ≤ length e.0.value = is.1 (route_at n, h) there in
      let long : length (take n text) ≡ n = length-take-le n text (omega (arith, best.1)) in
      elim (cases_lt n (length e.0.value)) [
        | inl shorter ↦ (let both : Some e.1 ≡ None = sym at.held ∙ best.4 (length e.0.value) shorter (omega (arith, at.within)) at.cut in absurd cc)
        | inr longer ↦ (let same : length e.0.value ≡ n = omega (arith, longer, most, long) in same_holding e.1 h (get holder (route_at n)) (subst (λ (k : ℕ). get holder (route_at k) ≡ Some e.1) same at.held) best.3)
      ]

  pub best_is : (f : Option Holding) → IsBest (length text + 1) f → f ≡ path_holder (entries holder) text
  unfolding candidates
  best_is f best = sym (joined (longest (filter (leads_to text) (entries holder))) (longest-is (filter (leads_to text) (entries holder))) f best)

-- one byte more of the walk
module _ (holder : FinMap key_cmp Holding) (text : List ℕ) (end : ℕ) (found : Option Holding) (best : IsBest holder text end found) (within : end < length text) where
  pub slash_best : get_or text end 0 ≡ 47 → (o now : Option Holding) → o ≡ get holder (route_at holder text end) → now ≡ option_or o found → IsBest holder text (end + 1) now
  slash_best slash o now is joins =
      let same : option_or (get holder (route_at holder text end)) found ≡ now = sym (joins ∙ ap (λ (x : Option Holding). option_or x found) is) in
      subst (IsBest holder text (end + 1)) same (looked holder text end found (inl (slice_get-get_or text end 0 within ∙ ap Some slash)) best)

  pub other_best : (get_or text end 0 ≡ 47 → ⊥) → IsBest holder text (end + 1) found
  other_best other = passed holder text end found best (λ cut. absurd (elim cut [
    | inl slash ↦ other (get_or_from_slice_get text end 47 0 slash)
    | inr last ↦ omega (arith, last, within)
  ]))

  module _ (segments : ℕ) (counted : segments ≡ count_by is_slash (take end text)) where
    pub slash_counted : get_or text end 0 ≡ 47 → segments + 1 ≡ count_by is_slash (take (end + 1) text)
    slash_counted slash = omega (arith, counted, count_by_more_yes is_slash text end 0 within (ap is_slash slash))

    pub other_counted : (get_or text end 0 ≡ 47 → ⊥) → segments ≡ count_by is_slash (take (end + 1) text)
    other_counted other = counted ∙ sym (count_by_more_no is_slash text end 0 within (not_true (is_slash (get_or text end 0)) (λ h. other (eqb-true (get_or text end 0) 47 h))))

    -- the walk ends where there are as many segments as a route may have
    pub full : AreHeld holder → get_or text end 0 ≡ 47 → segments + 1 ≡ ROUTE_SEGMENTS → (now : Option Holding) → IsBest holder text (end + 1) now → now ≡ path_holder (entries holder) text
    full held slash last now is = best_is holder text now (enough holder text held (end + 1) (omega (arith, last, slash_counted slash)) now is (omega (arith, within)))

-- or at the end of the text
pub at_end : (holder : FinMap key_cmp Holding) (text : List ℕ) (end : ℕ) (found : Option Holding) → IsBest holder text end found → end ≡ length text → (o now : Option Holding) → o ≡ get holder (record { bucket = Route; value = text }) → now ≡ option_or o found → now ≡ path_holder (entries holder) text
at_end holder text end found best last o now is joins =
    let best_there = subst (λ (k : ℕ). IsBest holder text k found) last best in
    let whole : get holder (record { bucket = Route; value = text }) ≡ get holder (route_at holder text (length text)) = ap (λ (v : List ℕ). get holder (record { bucket = Route; value = v })) (sym (take-length text)) in
    let same : option_or (get holder (route_at holder text (length text))) found ≡ now = sym (joins ∙ ap (λ (x : Option Holding). option_or x found) (is ∙ whole)) in
    best_is holder text now (subst (IsBest holder text (length text + 1)) same (looked holder text (length text) found (inr refl) best_there))
