-- The claims of records stand in the order of their rows, and operations that lead from some to others name no key twice.
use Rattle.std.proofs.Common.{◌≡◌, ◌≢◌, inl, inr, ℕ, zero, suc, ◌<◌, ◌≤◌, Bool, true, false, not, cond, List, [], ◌∷◌, ◌++◌, length, map, get_or, refl, sym, ◌∙◌, ap, subst, arith}
use Rattle.std.specs.Prelude.{filter}
use Rattle.std.specs.List.{Contains, AllPairs}
use Rattle.std.proofs.lemmas.List.Elements.{Contains-push_cases, Contains-append_cases}
use Rattle.claim_types.specs.Operations.{keys_of}
use Rattle.claim_types.specs.declared.operations.Create.{Create}
use Rattle.claim_types.specs.declared.record.Record.{Record}
use Rattle.claim_map.specs.State.{Tree}
use Rattle.claim_map.specs.Claims.{claim_of_record, claims_from, claims_of, is_among, operations_between}
use Rattle.claim_map.specs.Trees.{AreRows, AreAscending, AreApart}
use Rattle.cells_base.proofs.Truth.{false_of_not}
use Rattle.cells_base.proofs.Members.{here_or_later, nowhere, here, later, of_filter, of_map}
use Rattle.claim_map.proofs.Claims.{destroyed}

-- no two places of a list have one thing
abbrev pub Distinct : {X : Type 0} → List X → Type 0
Distinct [] = Unit {0}
Distinct (x ∷ xs) = ((y : _) → Contains xs y → x ≢ y) × Distinct xs

module _ {X : Type 0} where
  pub same_at : (xs : List X) (i : ℕ) (x y : X) → i < length xs → get_or xs i x ≡ get_or xs i y
  same_at [] i x y lt = absurd (omega (arith, lt))
  same_at (z ∷ zs) zero x y lt = refl
  same_at (z ∷ zs) (suc i) x y lt = same_at zs i x y (omega (arith, lt))

  pub distinct_pairs : (xs : List X) → Distinct xs → AllPairs (λ a b. a ≢ b) xs
  distinct_pairs [] h i j d lt within = absurd (omega (arith, within))
  distinct_pairs (x ∷ xs) h i zero d lt within = absurd (omega (arith, lt))
  distinct_pairs (x ∷ xs) h zero (suc j) d lt within = let fits : j < length xs = omega (arith, within) in h.0 (get_or xs j d) (j, fits, same_at xs j (get_or xs j d) d fits)
  distinct_pairs (x ∷ xs) h (suc i) (suc j) d lt within = distinct_pairs xs h.1 i j d (omega (arith, lt)) (omega (arith, within))

  pub distinct_append : (xs ys : List X) → Distinct xs → Distinct ys → ((x y : X) → Contains xs x → Contains ys y → x ≢ y) → Distinct (xs ++ ys)
  distinct_append [] ys h k apart = k
  distinct_append (x ∷ xs) ys h k apart =
      (λ y is. elim (Contains-append_cases xs ys y is) [ inl old ↦ h.0 y old | inr new ↦ apart x y (here x xs) new ], distinct_append xs ys h.1 k (λ z y there is. apart z y (later x xs z there) is))

pub rising_above : (last : ℕ) (cs : List Create) → AreRows last cs → (d : Create) → Contains cs d → last < d.origin.row
rising_above last [] rising d is = absurd (nowhere d is)
rising_above last (c ∷ cs) rising d is = elim (here_or_later c cs d is) [
  | inl e ↦ subst (λ (x : Create). last < x.origin.row) e rising.0
  | inr there ↦ (let beyond = rising_above c.origin.row cs rising.1 d there in let lt = rising.0 in omega (arith, beyond, lt))
]

pub rising_lower : (a b : ℕ) (cs : List Create) → a ≤ b → AreRows b cs → AreRows a cs
rising_lower a b [] le h = tt
rising_lower a b (c ∷ cs) le h = let lt = h.0 in (omega (arith, le, lt), h.1)

pub rising_filter : (p : Create → Bool) (last : ℕ) (cs : List Create) → AreRows last cs → AreRows last (filter p cs)
rising_filter p last [] h = tt
rising_filter p last (c ∷ cs) h = go (p c) (rising_filter p c.origin.row cs h.1)
  where
    go : (b : Bool) → AreRows c.origin.row (filter p cs) → AreRows last (cond b (c ∷ filter p cs) (filter p cs))
    go true rest = (h.0, rest)
    go false rest = let lt = h.0 in rising_lower last c.origin.row (filter p cs) (omega (arith, lt)) rest

pub rising_push : (last : ℕ) (cs : List Create) (c : Create) → AreRows last cs → last < c.origin.row → ((d : Create) → Contains cs d → d.origin.row < c.origin.row) → AreRows last (cs ++ c ∷ [])
rising_push last [] c h lt all = (lt, tt)
rising_push last (d ∷ ds) c h lt all = (h.0, rising_push d.origin.row ds c h.1 (all d (here d ds)) (λ e is. all e (later d ds e is)))

-- one row, one claim
pub one_row : (last : ℕ) (cs : List Create) → AreRows last cs → (c d : Create) → Contains cs c → Contains cs d → c.origin.row ≡ d.origin.row → c ≡ d
one_row last [] rising c d ic id same = absurd (nowhere c ic)
one_row last (x ∷ xs) rising c d ic id same = elim (here_or_later x xs c ic) [
  | inl e ↦ elim (here_or_later x xs d id) [ inl f ↦ sym e ∙ f | inr there ↦ (let lt = rising_above x.origin.row xs rising.1 d there in let row : x.origin.row ≡ c.origin.row = ap (λ (y : Create). y.origin.row) e in absurd (omega (arith, lt, row, same))) ]
  | inr there ↦ elim (here_or_later x xs d id) [
    | inl f ↦ (let lt = rising_above x.origin.row xs rising.1 c there in let row : x.origin.row ≡ d.origin.row = ap (λ (y : Create). y.origin.row) f in absurd (omega (arith, lt, row, same)))
    | inr too ↦ one_row x.origin.row xs rising.1 c d there too same
  ]
]

pub distinct_keys : (last : ℕ) (cs : List Create) → AreRows last cs → AreApart cs → Distinct (map (λ (c : Create). c.key) cs)
distinct_keys last [] rising apart = tt
distinct_keys last (c ∷ cs) rising apart = (
  λ y is same.
      (let found = of_map (λ (d : Create). d.key) cs y is in
      let one = apart c found.0 (here c cs) (later c cs found.0 found.1) (same ∙ sym found.2) in
      let lt = rising_above c.origin.row cs rising.1 found.0 found.1 in
      let row : c.origin.row ≡ found.0.origin.row = ap (λ (d : Create). d.origin.row) one in
      omega (arith, lt, row)),
  distinct_keys c.origin.row cs rising.1 (λ d e id ie same. apart d e (later c cs d id) (later c cs e ie) same),
)

-- from claims to others
module _ (before afterwards : List Create) (first : AreRows 0 before) (second : AreRows 0 afterwards) (apart : AreApart before)
    (made_apart : (c d : Create) → Contains afterwards c → is_among before c ≡ false → Contains afterwards d → is_among before d ≡ false → c.key ≡ d.key → c ≡ d)
    (free : (c d : Create) → Contains (operations_between before afterwards).creates c → Contains before d → d.key ≢ c.key) where
  pub creates_distinct : Distinct (map (λ (c : Create). c.key) (operations_between before afterwards).creates)
  unfolding operations_between
  creates_distinct =
      let new : Create → Bool = λ c. not (is_among before c) in
      distinct_keys 0 (filter new afterwards) (rising_filter new 0 afterwards second) (λ c d ic id same.
      let a = of_filter new afterwards c ic in
      let b = of_filter new afterwards d id in
      made_apart c d a.0 (false_of_not (is_among before c) a.1) b.0 (false_of_not (is_among before d) b.1) same)

  pub destroys_distinct : Distinct (operations_between before afterwards).destroys
  unfolding operations_between
  destroys_distinct =
      let gone : Create → Bool = λ c. not (is_among afterwards c) in
      distinct_keys 0 (filter gone before) (rising_filter gone 0 before first) (λ c d ic id same. apart c d (of_filter gone before c ic).0 (of_filter gone before d id).0 same)

  pub all_distinct : AllPairs (λ a b. a ≢ b) (keys_of (operations_between before afterwards))
  all_distinct = distinct_pairs (keys_of (operations_between before afterwards)) (distinct_append (map (λ (c : Create). c.key) (operations_between before afterwards).creates) (operations_between before afterwards).destroys creates_distinct destroys_distinct
      (λ x y ix iy same.
      let made = of_map (λ (c : Create). c.key) (operations_between before afterwards).creates x ix in
      let lost = destroyed before afterwards y iy in
      free made.0 lost.0 made.1 lost.1 (lost.3 ∙ sym same ∙ sym made.2)))

pub claims_rise : (m : ℕ) (e : List Create) (rs : List Record) → AreRows 0 e → ((c : Create) → Contains e c → c.origin.row ≤ m) → AreAscending m rs → AreRows 0 (claims_from e rs)
claims_rise m e [] rising most ascending = rising
claims_rise m e (r ∷ rs) rising most ascending =
    let lt = ascending.0 in
    claims_rise r.id (e ++ claim_of_record e r ∷ []) rs
    (rising_push 0 e (claim_of_record e r) rising (omega (arith, lt)) (λ d is. let le = most d is in omega (arith, le, lt)))
    (λ c is. elim (Contains-push_cases e (claim_of_record e r) c is) [ inl old ↦ (let le = most c old in omega (arith, le, lt)) | inr same ↦ (let row : r.id ≡ c.origin.row = ap (λ (x : Create). x.origin.row) same in omega (arith, row)) ])
    ascending.1

pub tree_rises : (tree : Tree) → AreAscending 0 tree.records → AreRows 0 (claims_of tree)
unfolding claims_of
tree_rises tree ascending = claims_rise 0 [] tree.records tt (λ c is. absurd (nowhere c is)) ascending
