-- A rename changes the claim of its record, and the routes below it, which begin otherwise and go on as before.
use Rattle.std.proofs.Common.{◌≡◌, ◌⊎◌, inl, inr, ℕ, ◌<◌, ◌≤◌, Bool, true, false, ◌&&◌, cond, nat_eq, List, [], ◌∷◌, ◌++◌, map, Option, Some, None, option_map, refl, sym, ◌∙◌, ap, subst, append_assoc, arith}
use Rattle.std.specs.List.{Contains, find}
use Rattle.std.specs.Char.{to_ascii_lowercase}
use Rattle.std.specs.Str.{byte}
use Rattle.std.proofs.lemmas.Str.Ascii.{lowercase-lowercase}
use Rattle.std.proofs.lemmas.Bool.Decides.{Decides-eqb, nat_tests}
use Rattle.std.proofs.lemmas.List.{append-nil}
use Rattle.std.proofs.lemmas.List.Elements.{Contains-push}
use Rattle.claim_types.specs.declared.key.ClaimKey.{ClaimKey}
use Rattle.claim_types.specs.declared.cell.Range.{Range}
use Rattle.claim_types.specs.declared.operations.Create.{Create}
use Rattle.claim_types.specs.declared.record.Record.{Record}
use Rattle.claim_types.specs.declared.record.Change.TheVariants.{Rename}
use Rattle.claim_map.specs.State.{Tree}
use Rattle.claim_map.specs.Records.{renamed, changed_by}
use Rattle.claim_map.specs.Claims.{continues_route, route_of, route_below, text_of, claim_of_record, claims_from, claims_of, operations_between}
use Rattle.claim_map.specs.Classification.{is_route}
use Rattle.claim_map.specs.Trees.{AreAscending, TreeFits, AreApart}
use Rattle.cells_base.proofs.Members.{here_or_later, nowhere, here, later}
use Rattle.claim_map.proofs.Claims.{stands_or_not, is_created, claims_stay}
use Rattle.claim_map.proofs.Rising.{one_row, tree_rises}
use Rattle.claim_map.proofs.Made.{MadeApart, HasSome, old_is_among, some_create}
use Rattle.claim_map.proofs.Removed.{routed, claim_with}

-- a record is renamed: its claim, and the routes below it, begin otherwise
pub lower_twice : (xs : List ℕ) → map to_ascii_lowercase (map to_ascii_lowercase xs) ≡ map to_ascii_lowercase xs
lower_twice [] = refl
lower_twice (x ∷ xs) = λ i. lowercase-lowercase x i ∷ lower_twice xs i

pub lower_append : (xs ys : List ℕ) → map to_ascii_lowercase (xs ++ ys) ≡ map to_ascii_lowercase xs ++ map to_ascii_lowercase ys
lower_append [] ys = refl
lower_append (x ∷ xs) ys = ap (λ zs. to_ascii_lowercase x ∷ zs) (lower_append xs ys)

pub same_rest : (xs ys zs : List ℕ) → xs ++ ys ≡ xs ++ zs → ys ≡ zs
same_rest [] ys zs h = h
same_rest (x ∷ xs) ys zs h = let rest : xs ++ ys ≡ xs ++ zs = cc in same_rest xs ys zs rest

pub record Moved (before afterwards : List ℕ) (c d : Create) : Type 0 where
  pub origin : d.origin ≡ c.origin
  pub subject : d.subject ≡ c.subject
  pub bucket : d.key.bucket ≡ c.key.bucket
  pub rest : List ℕ
  pub old : c.key.value ≡ before ++ rest
  pub new : d.key.value ≡ afterwards ++ rest

module _ (before afterwards : List ℕ) (low : map to_ascii_lowercase before ≡ before) (low_too : map to_ascii_lowercase afterwards ≡ afterwards) where
  abbrev pub Rel : Create → Create → Type 0
  Rel c d = (d ≡ c) ⊎ Moved before afterwards c d

  abbrev pub Paired : List Create → List Create → Type 0
  Paired [] [] = Unit {0}
  Paired (c ∷ cs) (d ∷ ds) = Rel c d × Paired cs ds
  Paired [] (d ∷ ds) = ⊥
  Paired (c ∷ cs) [] = ⊥

  pub paired_same : (cs : List Create) → Paired cs cs
  paired_same [] = tt
  paired_same (c ∷ cs) = (inl refl, paired_same cs)

  pub paired_push : (cs ds : List Create) (c d : Create) → Paired cs ds → Rel c d → Paired (cs ++ c ∷ []) (ds ++ d ∷ [])
  paired_push [] [] c d h r = (r, tt)
  paired_push (x ∷ xs) (y ∷ ys) c d h r = (h.0, paired_push xs ys c d h.1 r)
  paired_push [] (y ∷ ys) c d h r = absurd h
  paired_push (x ∷ xs) [] c d h r = absurd h

  pub pair_of : (cs ds : List Create) → Paired cs ds → (d : Create) → Contains ds d → (c : Create) × Contains cs c × Rel c d
  pair_of [] [] h d is = absurd (nowhere d is)
  pair_of (x ∷ xs) (y ∷ ys) h d is = elim (here_or_later y ys d is) [
    | inl e ↦ (x, here x xs, subst (Rel x) e h.0)
    | inr there ↦ let deeper = pair_of xs ys h.1 d there in (deeper.0, later x xs deeper.0 deeper.1, deeper.2)
  ]
  pair_of [] (y ∷ ys) h d is = absurd h
  pair_of (x ∷ xs) [] h d is = absurd h

  -- what is found in both
  pub record Both (o p : Option Create) : Type 0 where
    old : Create
    new : Create
    found : o ≡ Some old
    found_too : p ≡ Some new
    related : Rel old new

  abbrev pub Found : Option Create → Option Create → Type 0
  Found o p = ((o ≡ None) × (p ≡ None)) ⊎ Both o p

  pub same_test : (parent : ℕ) (c d : Create) → Rel c d → routed 0 parent d ≡ routed 0 parent c
  same_test parent c d (inl e) = ap (routed 0 parent) e
  same_test parent c d (inr moved) = ap (λ n. nat_eq n parent && is_route d.key.bucket) (ap (λ o. o.row) moved.origin) ∙ ap (λ b. nat_eq c.origin.row parent && is_route b) moved.bucket

  pub find_both : (parent : ℕ) (cs ds : List Create) → Paired cs ds → Found (find (routed 0 parent) cs) (find (routed 0 parent) ds)
  find_both parent [] [] h = inl (refl, refl)
  find_both parent (x ∷ xs) (y ∷ ys) h = go (routed 0 parent x) (routed 0 parent y) (same_test parent x y h.0) (find_both parent xs ys h.1)
    where
      go : (b d : Bool) → d ≡ b → Found (find (routed 0 parent) xs) (find (routed 0 parent) ys) → Found (cond b (Some x) (find (routed 0 parent) xs)) (cond d (Some y) (find (routed 0 parent) ys))
      go true true e rest = inr (record { old = x; new = y; found = refl; found_too = refl; related = h.0 })
      go false false e rest = rest
      go true false e rest = absurd cc
      go false true e rest = absurd cc
  find_both parent [] (y ∷ ys) h = absurd h
  find_both parent (x ∷ xs) [] h = absurd h

  -- a claim below a route that has moved has moved
  pub shifted : (start rest name : List ℕ) → map to_ascii_lowercase start ≡ start → map to_ascii_lowercase ((start ++ rest) ++ byte "/" ∷ name) ≡ start ++ map to_ascii_lowercase (rest ++ byte "/" ∷ name)
  shifted start rest name lowered = ap (map to_ascii_lowercase) (append_assoc start rest (byte "/" ∷ name)) ∙ lower_append start (rest ++ byte "/" ∷ name) ∙ ap (λ xs. xs ++ map to_ascii_lowercase (rest ++ byte "/" ∷ name)) lowered

  abbrev pub value : Record → Option (List ℕ) → Bool → List ℕ
  value q route b = map to_ascii_lowercase (cond b (route_below route q.name) q.name)

  pub claim_pair : (o p : Option Create) → Found o p → (q : Record) → Rel (claim_with (option_map (λ (c : Create). c.key.value) o) q) (claim_with (option_map (λ (c : Create). c.key.value) p) q)
  claim_pair o p (inl none) q = inl (ap (λ x. claim_with (option_map (λ (c : Create). c.key.value) x) q) (none.1 ∙ sym none.0))
  claim_pair o p (inr both) q = by_relation both.related
    where
      by_relation : Rel both.old both.new → Rel (claim_with (option_map (λ (c : Create). c.key.value) o) q) (claim_with (option_map (λ (c : Create). c.key.value) p) q)
      by_relation (inl e) = inl (ap (λ x. claim_with (option_map (λ (c : Create). c.key.value) x) q) (both.found_too ∙ ap Some e ∙ sym both.found))
      by_relation (inr moved) = go (continues_route q.kind) refl
        where
          go : (b : Bool) → continues_route q.kind ≡ b → Rel (claim_with (option_map (λ (c : Create). c.key.value) o) q) (claim_with (option_map (λ (c : Create). c.key.value) p) q)
          go true is = inr (record {
            origin = refl;
            subject = refl;
            bucket = refl;
            rest = map to_ascii_lowercase (moved.rest ++ byte "/" ∷ q.name);
            old = ap (value q (option_map (λ (c : Create). c.key.value) o)) is ∙ ap (λ x. value q (option_map (λ (c : Create). c.key.value) x) true) both.found
                ∙ ap (λ v. map to_ascii_lowercase (v ++ byte "/" ∷ q.name)) moved.old ∙ shifted before moved.rest q.name low;
            new = ap (value q (option_map (λ (c : Create). c.key.value) p)) is ∙ ap (λ x. value q (option_map (λ (c : Create). c.key.value) x) true) both.found_too
                ∙ ap (λ v. map to_ascii_lowercase (v ++ byte "/" ∷ q.name)) moved.new ∙ shifted afterwards moved.rest q.name low_too;
          })
          go false is = inl (λ i. record (claim_of_record [] q) { key = record { bucket = (claim_of_record [] q).key.bucket; value = (ap (value q (option_map (λ (c : Create). c.key.value) p)) is ∙ sym (ap (value q (option_map (λ (c : Create). c.key.value) o)) is)) i } })

  pub paired_all : (e d : List Create) (rs : List Record) → Paired e d → Paired (claims_from e rs) (claims_from d rs)
  paired_all e d [] h = h
  paired_all e d (q ∷ rs) h = paired_all (e ++ claim_of_record e q ∷ []) (d ++ claim_of_record d q ∷ []) rs
      (paired_push e d (claim_of_record e q) (claim_of_record d q) h (claim_pair (find (routed 0 q.parent) e) (find (routed 0 q.parent) d) (find_both q.parent e d h) q))

pub above_all : (last : ℕ) (rs : List Record) → AreAscending last rs → (r : Record) → Contains rs r → last < r.id
above_all last [] h r is = absurd (nowhere r is)
above_all last (q ∷ rs) h r is = elim (here_or_later q rs r is) [
  | inl e ↦ subst (λ (x : Record). last < x.id) e h.0
  | inr there ↦ (let beyond = above_all q.id rs h.1 r there in let lt = h.0 in omega (arith, beyond, lt))
]

pub not_equal : (a b : ℕ) → a < b → nat_eq b a ≡ false
not_equal a b lt = grind (arith, nat_tests, lt)

module _ (id : ℕ) (name : List ℕ) where
  pub none_renamed : (last : ℕ) (rs : List Record) → id ≤ last → AreAscending last rs → map (renamed id name) rs ≡ rs
  none_renamed last [] le h = refl
  none_renamed last (r ∷ rs) le h =
      let lt = h.0 in
      let is : nat_eq r.id id ≡ false = not_equal id r.id (omega (arith, le, lt)) in
      λ i. ap (λ b. cond b (record r { name = name }) r) is i ∷ none_renamed r.id rs (omega (arith, le, lt)) h.1 i

  -- the claims with the record under its other name
  pub record Renames (r : Record) (before afterwards : List Create) : Type 0 where
    old : Create
    new : Create
    in_old : Contains before old
    in_new : Contains afterwards new
    row : new.origin.row ≡ old.origin.row
    low : map to_ascii_lowercase old.key.value ≡ old.key.value
    low_too : map to_ascii_lowercase new.key.value ≡ new.key.value
    pairs : Paired old.key.value new.key.value low low_too before afterwards
    differ : new ≡ old → map to_ascii_lowercase r.name ≡ map to_ascii_lowercase name

  pub same_name : (route : Option (List ℕ)) (b : Bool) (one other : List ℕ) → map to_ascii_lowercase (cond b (route_below route other) other) ≡ map to_ascii_lowercase (cond b (route_below route one) one) → map to_ascii_lowercase one ≡ map to_ascii_lowercase other
  same_name route false one other h = sym h
  same_name None true one other h = sym h
  same_name (Some path) true one other h =
      let tails = same_rest (map to_ascii_lowercase path) (map to_ascii_lowercase (byte "/" ∷ other)) (map to_ascii_lowercase (byte "/" ∷ one)) (sym (lower_append path (byte "/" ∷ other)) ∙ h ∙ lower_append path (byte "/" ∷ one)) in
      let both : map to_ascii_lowercase other ≡ map to_ascii_lowercase one = cc in
      sym both

  pub renames : (e : List Create) (last : ℕ) (rs : List Record) → AreAscending last rs → (r : Record) → Contains rs r → r.id ≡ id → Renames r (claims_from e rs) (claims_from e (map (renamed id name) rs))
  renames e last [] h r is own = absurd (nowhere r is)
  renames e last (q ∷ rs) h r is own = go (nat_eq q.id id) refl (λ there. renames (e ++ claim_of_record e q ∷ []) q.id rs h.1 r there own)
    where
      here_it : nat_eq q.id id ≡ true → q ≡ r
      here_it same = elim (here_or_later q rs r is) [
        | inl e ↦ e
        | inr there ↦ (let lt = above_all q.id rs h.1 r there in let at : q.id ≡ id = (Decides-eqb q.id id).0 same in absurd (omega (arith, lt, at, own)))
      ]

      beyond : nat_eq q.id id ≡ false → Contains rs r
      beyond apart = elim (here_or_later q rs r is) [
        | inl e ↦ (let both : true ≡ false = sym ((Decides-eqb q.id id).1 (ap (λ (x : Record). x.id) e ∙ own)) ∙ apart in absurd cc)
        | inr there ↦ there
      ]

      go : (b : Bool) → nat_eq q.id id ≡ b → (Contains rs r → Renames r (claims_from (e ++ claim_of_record e q ∷ []) rs) (claims_from (e ++ claim_of_record e q ∷ []) (map (renamed id name) rs))) →
          Renames r (claims_from (e ++ claim_of_record e q ∷ []) rs) (claims_from (e ++ claim_of_record e (cond b (record q { name = name }) q) ∷ []) (map (renamed id name) rs))
      go false same rest = rest (beyond same)
      go true same rest =
          let c = claim_of_record e q in
          let d = claim_of_record e (record q { name = name }) in
          let low = lower_twice (text_of e q) in
          let low_too = lower_twice (text_of e (record q { name = name })) in
          let at : q.id ≡ id = (Decides-eqb q.id id).0 same in
          subst (λ xs. Renames r (claims_from (e ++ c ∷ []) rs) (claims_from (e ++ d ∷ []) xs)) (sym (none_renamed q.id rs (omega (arith, at)) h.1)) (record {
            old = c;
            new = d;
            in_old = claims_stay (e ++ c ∷ []) rs c (Contains-push e c);
            in_new = claims_stay (e ++ d ∷ []) rs d (Contains-push e d);
            row = refl;
            low = low;
            low_too = low_too;
            pairs = paired_all c.key.value d.key.value low low_too (e ++ c ∷ []) (e ++ d ∷ []) rs
                (paired_push c.key.value d.key.value low low_too e e c d (paired_same c.key.value d.key.value low low_too e)
                (inr (record { origin = refl; subject = refl; bucket = refl; rest = []; old = sym (append-nil c.key.value); new = sym (append-nil d.key.value) })));
            differ = λ e_same. subst (λ (x : Record). map to_ascii_lowercase x.name ≡ map to_ascii_lowercase name) (here_it same)
                (same_name (route_of e q.parent) (continues_route q.kind) q.name name (ap (λ (x : Create). x.key.value) e_same));
          })

module _ (tree : Tree) (known : List Range) (fits : TreeFits tree known) (apart : AreApart (claims_of tree)) (id : ℕ) (name : List ℕ) (second : AreAscending 0 (changed_by tree (Rename id name) known).records)
    (r : Record) (is : Contains tree.records r) (own : r.id ≡ id) (other_name : map to_ascii_lowercase r.name ≡ map to_ascii_lowercase name → ⊥) where
  abbrev pub otherwise : Tree
  otherwise = changed_by tree (Rename id name) known

  pub named : Renames id name r (claims_of tree) (claims_of otherwise)
  unfolding claims_of
  named = renames id name [] 0 tree.records fits.ascending r is own

  abbrev pub Pair : Create → Type 0
  Pair x = (y : Create) × Contains (claims_of tree) y × Rel named.old.key.value named.new.key.value named.low named.low_too y x

  pub renamed_apart : MadeApart tree otherwise
  renamed_apart c d ic gc idd gd same =
      let pair = pair_of named.old.key.value named.new.key.value named.low named.low_too (claims_of tree) (claims_of otherwise) named.pairs c ic in
      let too = pair_of named.old.key.value named.new.key.value named.low named.low_too (claims_of tree) (claims_of otherwise) named.pairs d idd in
      go pair too pair.2 too.2
    where
      go : (pair : Pair c) (too : Pair d) → Rel named.old.key.value named.new.key.value named.low named.low_too pair.0 c → Rel named.old.key.value named.new.key.value named.low named.low_too too.0 d → c ≡ d
      go pair too (inl e) f = old_is_among (claims_of tree) c (subst (Contains (claims_of tree)) (sym e) pair.1) gc
      go pair too (inr moved) (inl f) = old_is_among (claims_of tree) d (subst (Contains (claims_of tree)) (sym f) too.1) gd
      go pair too (inr a) (inr b) =
          let values : c.key.value ≡ d.key.value = ap (λ (k : ClaimKey). k.value) same in
          let rests : a.rest ≡ b.rest = same_rest named.new.key.value a.rest b.rest (sym a.new ∙ values ∙ b.new) in
          let olds : pair.0.key.value ≡ too.0.key.value = a.old ∙ ap (λ x. named.old.key.value ++ x) rests ∙ sym b.old in
          let buckets : pair.0.key.bucket ≡ too.0.key.bucket = sym a.bucket ∙ ap (λ (k : ClaimKey). k.bucket) same ∙ b.bucket in
          let keys : pair.0.key ≡ too.0.key = λ i. record { bucket = buckets i; value = olds i } in
          let one : pair.0 ≡ too.0 = apart pair.0 too.0 pair.1 too.1 keys in
          let rows : c.origin.row ≡ d.origin.row = ap (λ o. o.row) a.origin ∙ ap (λ (x : Create). x.origin.row) one ∙ ap (λ o. o.row) (sym b.origin) in
          one_row 0 (claims_of otherwise) (tree_rises otherwise second) c d ic idd rows

  pub renamed_some : HasSome tree otherwise
  renamed_some = elim (stands_or_not (claims_of tree) named.new) [
    | inl stands ↦ absurd (other_name (named.differ (one_row 0 (claims_of tree) (tree_rises tree fits.ascending) named.new named.old stands named.in_old named.row)))
    | inr gone ↦ some_create (operations_between (claims_of tree) (claims_of otherwise)) named.new (is_created (claims_of tree) (claims_of otherwise) named.new named.in_new gone)
  ]
