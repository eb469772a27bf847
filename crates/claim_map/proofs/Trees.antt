-- A change of a tree that fits the ranges of its cell leaves one that does, and further ranges change nothing of that.
use Rattle.std.proofs.Common.{◌≡◌, ◌≢◌, inl, inr, ℕ, suc, ◌+◌, ◌-◌, ◌<◌, ◌≤◌, Bool, true, false, not, cond, nat_eq, nat_lt, List, [], ◌∷◌, ◌++◌, length, map, Option, Some, None, option_map, refl, sym, ◌∙◌, ap, subst, arith}
use Rattle.std.specs.Prelude.{filter}
use Rattle.std.specs.Option.{option_map_or}
use Rattle.std.specs.List.{Contains, list_any, find, slice_get}
use Rattle.std.proofs.lemmas.Bool.Decides.{Decides-eqb, nat_tests}
use Rattle.std.proofs.lemmas.List.Elements.{Contains-push_cases}
use Rattle.std.proofs.lemmas.Option.{same_Some}
use Rattle.cells_base.proofs.Members.{here_or_later, nowhere, here, later, of_filter, of_map}
use Rattle.cells_base.proofs.Truth.{neither}
use Rattle.claim_types.specs.declared.cell.Range.{Range}
use Rattle.claim_types.specs.declared.record.Kind.{Kind}
use Rattle.claim_types.specs.declared.record.Kind.TheVariants.{Organization, Group, Project, User, Key, Address, Domain}
use Rattle.claim_types.specs.declared.record.Record.{Record}
use Rattle.claim_types.specs.declared.record.Change.TheVariants.{Rename, Remove}
use Rattle.claim_map.specs.State.{Tree, empty_tree}
use Rattle.claim_map.specs.Ranges.{last_end}
use Rattle.claim_map.specs.Records.{range_size, id_at, next_id, with_record, renamed, changed_by}
use Rattle.claim_types.specs.declared.rule.Rule.{Rule}
use Rattle.claim_types.specs.declared.rule.Rule.TheVariants.{NoSuchRecord, WrongKind}
use Rattle.claim_map.specs.Rules.{where_true, record_at, may_stand_below, place_rule}
use Rattle.claim_map.specs.Claims.{claims_of}
use Rattle.claim_map.specs.Trees.{AreRising, AreAscending, AreKeys, TreeFits}
use Rattle.claim_map.proofs.Stable.{id_stays}
use Rattle.claim_map.proofs.Found.{Contains-found}
use Rattle.cells_base.proofs.Finds.{find_passes, find_push}

-- identifiers in rising ranges
pub id_above : (last : ℕ) (rs : List Range) (n x : ℕ) → AreRising last rs → id_at n rs ≡ Some x → last < x
id_above last [] n x rising h = absurd cc
id_above last (r ∷ rs) n x rising h = go (nat_lt n (range_size r)) (λ rest. id_above r.high rs (n - range_size r) x rising.2 rest) h
  where
    go : (b : Bool) → (id_at (n - range_size r) rs ≡ Some x → r.high < x) → cond b (Some (r.low + n)) (id_at (n - range_size r) rs) ≡ Some x → last < x
    go true rest is = let same : r.low + n ≡ x = same_Some _ _ is in let lt = rising.0 in omega (arith, same, lt)
    go false rest is = let lt = rising.0 in let le = rising.1 in let beyond = rest is in omega (arith, lt, le, beyond)

pub ids_rise : (last : ℕ) (rs : List Range) (m n x y : ℕ) → AreRising last rs → m < n → id_at m rs ≡ Some x → id_at n rs ≡ Some y → x < y
ids_rise last [] m n x y rising lt hx hy = absurd cc
ids_rise last (r ∷ rs) m n x y rising lt hx hy =
    go (nat_lt m (range_size r)) refl (nat_lt n (range_size r)) refl (λ more restx resty. ids_rise r.high rs (m - range_size r) (n - range_size r) x y rising.2 more restx resty) hx hy
  where
    size_is : range_size r ≡ r.high + 1 - r.low
    size_is = refl

    within : (k : ℕ) → nat_lt k (range_size r) ≡ true → r.low + k ≤ r.high
    within k h = let le = rising.1 in let lt : k < range_size r = grind (arith, nat_tests, h) in omega (arith, le, lt, size_is)

    outside : (k : ℕ) → nat_lt k (range_size r) ≡ false → range_size r ≤ k
    outside k h = grind (arith, nat_tests, h)

    go : (b : Bool) → nat_lt m (range_size r) ≡ b → (d : Bool) → nat_lt n (range_size r) ≡ d →
        (m - range_size r < n - range_size r → id_at (m - range_size r) rs ≡ Some x → id_at (n - range_size r) rs ≡ Some y → x < y) →
        cond b (Some (r.low + m)) (id_at (m - range_size r) rs) ≡ Some x → cond d (Some (r.low + n)) (id_at (n - range_size r) rs) ≡ Some y → x < y
    go true isb true isd rest hx hy = let ex : r.low + m ≡ x = same_Some _ _ hx in let ey : r.low + n ≡ y = same_Some _ _ hy in omega (arith, ex, ey, lt)
    go true isb false isd rest hx hy = let ex : r.low + m ≡ x = same_Some _ _ hx in let fits = within m isb in let beyond = id_above r.high rs (n - range_size r) y rising.2 hy in omega (arith, ex, fits, beyond)
    go false isb true isd rest hx hy = let le = outside m isb in let more : n < range_size r = grind (arith, nat_tests, isd) in absurd (omega (arith, le, more, lt))
    go false isb false isd rest hx hy = let le = outside m isb in let more : m - range_size r < n - range_size r = omega (arith, le, lt) in rest more hx hy

-- records in ascending order
lower : (a b : ℕ) (rs : List Record) → a ≤ b → AreAscending b rs → AreAscending a rs
lower a b [] le h = tt
lower a b (r ∷ rs) le h = let lt = h.0 in (omega (arith, le, lt), h.1)

pub ascending_push : (last : ℕ) (rs : List Record) (r : Record) → AreAscending last rs → last < r.id → ((q : Record) → Contains rs q → q.id < r.id) → AreAscending last (rs ++ r ∷ [])
ascending_push last [] r h lt all = (lt, tt)
ascending_push last (q ∷ qs) r h lt all = (h.0, ascending_push q.id qs r h.1 (all q (here q qs)) (λ p is. all p (later q qs p is)))

pub ascending_filter : (p : Record → Bool) (last : ℕ) (rs : List Record) → AreAscending last rs → AreAscending last (filter p rs)
ascending_filter p last [] h = tt
ascending_filter p last (r ∷ rs) h = go (p r) (ascending_filter p r.id rs h.1)
  where
    go : (b : Bool) → AreAscending r.id (filter p rs) → AreAscending last (cond b (r ∷ filter p rs) (filter p rs))
    go true rest = (h.0, rest)
    go false rest = let lt = h.0 in lower last r.id (filter p rs) (omega (arith, lt)) rest

module _ (id : ℕ) (name : List ℕ) where
  pub same_id : (r : Record) → (renamed id name r).id ≡ r.id
  same_id r = go (nat_eq r.id id)
    where
      go : (b : Bool) → (cond b (record r { name = name }) r).id ≡ r.id
      go true = refl
      go false = refl

  pub same_kind : (r : Record) → (renamed id name r).kind ≡ r.kind
  same_kind r = go (nat_eq r.id id)
    where
      go : (b : Bool) → (cond b (record r { name = name }) r).kind ≡ r.kind
      go true = refl
      go false = refl

  pub same_parent : (r : Record) → (renamed id name r).parent ≡ r.parent
  same_parent r = go (nat_eq r.id id)
    where
      go : (b : Bool) → (cond b (record r { name = name }) r).parent ≡ r.parent
      go true = refl
      go false = refl

  pub ascending_renamed : (last : ℕ) (rs : List Record) → AreAscending last rs → AreAscending last (map (renamed id name) rs)
  ascending_renamed last [] h = tt
  ascending_renamed last (r ∷ rs) h = (subst (λ n. last < n) (sym (same_id r)) h.0, subst (λ n. AreAscending n (map (renamed id name) rs)) (sym (same_id r)) (ascending_renamed r.id rs h.1))

  find_renamed : (parent : ℕ) (rs : List Record) → find (λ (r : Record). nat_eq r.id parent) (map (renamed id name) rs) ≡ option_map (renamed id name) (find (λ (r : Record). nat_eq r.id parent) rs)
  find_renamed parent [] = refl
  find_renamed parent (r ∷ rs) =
      ap (λ n. cond (nat_eq n parent) (Some (renamed id name r)) (find (λ (q : Record). nat_eq q.id parent) (map (renamed id name) rs))) (same_id r)
      ∙ ap (λ o. cond (nat_eq r.id parent) (Some (renamed id name r)) o) (find_renamed parent rs) ∙ turned (nat_eq r.id parent) r (find (λ (q : Record). nat_eq q.id parent) rs)
    where
      turned : (b : Bool) (r : Record) (o : Option Record) → cond b (Some (renamed id name r)) (option_map (renamed id name) o) ≡ option_map (renamed id name) (cond b (Some r) o)
      turned true r o = refl
      turned false r o = refl

  placed_renamed : (kind : Kind) (parent : ℕ) (o : Option Record) → place_rule kind parent (option_map (renamed id name) o) ≡ place_rule kind parent o
  placed_renamed Organization parent None = refl
  placed_renamed Organization parent (Some r) = refl
  placed_renamed Group parent None = refl
  placed_renamed Group parent (Some r) = ap (λ k. where_true (not (may_stand_below Group k)) WrongKind) (same_kind r)
  placed_renamed Project parent None = refl
  placed_renamed Project parent (Some r) = ap (λ k. where_true (not (may_stand_below Project k)) WrongKind) (same_kind r)
  placed_renamed User parent None = refl
  placed_renamed User parent (Some r) = ap (λ k. where_true (not (may_stand_below User k)) WrongKind) (same_kind r)
  placed_renamed Key parent None = refl
  placed_renamed Key parent (Some r) = ap (λ k. where_true (not (may_stand_below Key k)) WrongKind) (same_kind r)
  placed_renamed Address parent None = refl
  placed_renamed Address parent (Some r) = ap (λ k. where_true (not (may_stand_below Address k)) WrongKind) (same_kind r)
  placed_renamed Domain parent None = refl
  placed_renamed Domain parent (Some r) = ap (λ k. where_true (not (may_stand_below Domain k)) WrongKind) (same_kind r)

-- a record is an organization below nothing, or stands below a record that is there
pub data Stands (kind : Kind) (parent : ℕ) (found : Option Record) : Type 0 where
  alone : parent ≡ 0 → ((o : Option Record) → place_rule kind parent o ≡ None) → Stands kind parent found
  under : (r : Record) → found ≡ Some r → Stands kind parent found

not_zero : (n : ℕ) (b : Bool) (rule : Rule) → nat_eq n 0 ≡ b → where_true (not b) rule ≡ None → nat_eq n 0 ≡ true
not_zero n true rule is h = is
not_zero n false rule is h = absurd cc

alone_at : (parent : ℕ) (found : Option Record) → nat_eq parent 0 ≡ true → Stands Organization parent found
alone_at parent found is = alone ((Decides-eqb parent 0).0 is) each
  where
    each : (o : Option Record) → place_rule Organization parent o ≡ None
    each None = ap (λ b. where_true (not b) NoSuchRecord) is
    each (Some r) = ap (λ b. where_true (not b) WrongKind) is

pub stands_where : (kind : Kind) (parent : ℕ) (found : Option Record) → place_rule kind parent found ≡ None → Stands kind parent found
stands_where Organization parent None h = alone_at parent None (not_zero parent (nat_eq parent 0) NoSuchRecord refl h)
stands_where Organization parent (Some q) h = alone_at parent (Some q) (not_zero parent (nat_eq parent 0) WrongKind refl h)
stands_where Group parent None h = absurd cc
stands_where Group parent (Some r) h = under r refl
stands_where Project parent None h = absurd cc
stands_where Project parent (Some r) h = under r refl
stands_where User parent None h = absurd cc
stands_where User parent (Some r) h = under r refl
stands_where Key parent None h = absurd cc
stands_where Key parent (Some r) h = under r refl
stands_where Address parent None h = absurd cc
stands_where Address parent (Some r) h = under r refl
stands_where Domain parent None h = absurd cc
stands_where Domain parent (Some r) h = under r refl

-- where what is found is found still, the record stands as before
placed_still : (kind : Kind) (parent : ℕ) (found found' : Option Record) → ((r : Record) → found ≡ Some r → found' ≡ Some r) → place_rule kind parent found ≡ None → place_rule kind parent found' ≡ None
placed_still kind parent found found' kept h = go (stands_where kind parent found h)
  where
    go : Stands kind parent found → place_rule kind parent found' ≡ None
    go (alone zero_is none) = none found'
    go (under r is) = ap (place_rule kind parent) (kept r is ∙ sym is) ∙ h

-- a record that is not removed is found as before
find_filter : (id parent : ℕ) → parent ≢ id → (rs : List Record) (q : Record) → find (λ (r : Record). nat_eq r.id parent) rs ≡ Some q → find (λ (r : Record). nat_eq r.id parent) (filter (λ (r : Record). not (nat_eq r.id id)) rs) ≡ Some q
find_filter id parent apart [] q h = absurd cc
find_filter id parent apart (x ∷ xs) q h = go (nat_eq x.id id) refl (nat_eq x.id parent) refl (find_filter id parent apart xs q) h
  where
    go : (b : Bool) → nat_eq x.id id ≡ b → (d : Bool) → nat_eq x.id parent ≡ d → (find (λ (r : Record). nat_eq r.id parent) xs ≡ Some q → find (λ (r : Record). nat_eq r.id parent) (filter (λ (r : Record). not (nat_eq r.id id)) xs) ≡ Some q) →
        cond d (Some x) (find (λ (r : Record). nat_eq r.id parent) xs) ≡ Some q →
        find (λ (r : Record). nat_eq r.id parent) (cond (not b) (x ∷ filter (λ (r : Record). not (nat_eq r.id id)) xs) (filter (λ (r : Record). not (nat_eq r.id id)) xs)) ≡ Some q
    go true isb true isd rest h = absurd (apart (sym ((Decides-eqb x.id parent).0 isd) ∙ (Decides-eqb x.id id).0 isb))
    go true isb false isd rest h = rest h
    go false isb true isd rest h = ap (λ e. cond e (Some x) (find (λ (r : Record). nat_eq r.id parent) (filter (λ (r : Record). not (nat_eq r.id id)) xs))) isd ∙ h
    go false isb false isd rest h = ap (λ e. cond e (Some x) (find (λ (r : Record). nat_eq r.id parent) (filter (λ (r : Record). not (nat_eq r.id id)) xs))) isd ∙ rest h

pub no_child : (id : ℕ) (rs : List Record) (r : Record) → list_any (λ (q : Record). nat_eq q.parent id) rs ≡ false → Contains rs r → r.parent ≢ id
no_child id [] r h is same = nowhere r is
no_child id (x ∷ xs) r h is same =
    let parts = neither (nat_eq x.parent id) (list_any (λ (q : Record). nat_eq q.parent id) xs) h in
    elim (here_or_later x xs r is) [
      | inl e ↦ let both : true ≡ false = sym ((Decides-eqb x.parent id).1 (ap (λ (q : Record). q.parent) e ∙ same)) ∙ parts.0 in cc
      | inr rest ↦ no_child id xs r parts.1 rest same
    ]

-- a further range begins past the last one
rising_push : (last : ℕ) (x : Range) (xs : List Range) (r : Range) → AreRising last (x ∷ xs) → last_end (x ∷ xs) < r.low → r.low ≤ r.high → AreRising last ((x ∷ xs) ++ r ∷ [])
rising_push last x [] r rising lt le = (rising.0, rising.1, (lt, le, tt))
rising_push last x (y ∷ ys) r rising lt le =
    let places : length (x ∷ y ∷ ys) - 1 ≡ suc (length (y ∷ ys) - 1) = omega arith in
    let same : last_end (x ∷ y ∷ ys) ≡ last_end (y ∷ ys) = ap (λ n. option_map_or (λ (q : Range). q.high) (slice_get (x ∷ y ∷ ys) n) 0) places in
    (rising.0, rising.1, rising_push x.high y ys r rising.2 (subst (λ n. n < r.low) same lt) le)

rising_more : (known : List Range) (r : Range) → AreRising 0 known → last_end known < r.low → r.low ≤ r.high → AreRising 0 (known ++ r ∷ [])
rising_more [] r rising lt le = (omega (arith, lt), le, tt)
rising_more (x ∷ xs) r rising lt le = rising_push 0 x xs r rising lt le

-- more ranges
pub fits_more : (tree : Tree) (known : List Range) (r : Range) → TreeFits tree known → last_end known < r.low → r.low ≤ r.high → TreeFits tree (known ++ r ∷ [])
fits_more tree known r fits lt le = record {
  rising = rising_more known r fits.rising lt le;
  used_known = λ n used. let found = fits.used_known n used in (found.0, id_stays n known (r ∷ []) found.0 found.1);
  ids = λ q is. let found = fits.ids q is in (found.0, found.1, id_stays found.0 known (r ∷ []) q.id found.2);
  ascending = fits.ascending;
  placed = fits.placed;
  above = fits.above;
  keys = fits.keys;
}

module _ (tree : Tree) (known : List Range) (fits : TreeFits tree known) where
  -- one more record, with the next identifier
  module _ (kind : Kind) (parent : ℕ) (name : List ℕ) (id : ℕ) (next : next_id tree known ≡ Some id) (placed : place_rule kind parent (record_at tree parent) ≡ None) where
    new : Record
    new = record { id = id; kind = kind; parent = parent; name = name }

    pub all_below : (q : Record) → Contains tree.records q → q.id < id
    all_below q is = let found = fits.ids q is in ids_rise 0 known found.0 tree.used q.id id fits.rising found.1 found.2 next

    positive : 0 < id
    positive = id_above 0 known tree.used id fits.rising next

    parent_below : parent < id
    parent_below = go (stands_where kind parent (record_at tree parent) placed)
      where
        go : Stands kind parent (record_at tree parent) → parent < id
        go (alone zero_is same) = omega (arith, zero_is, positive)
        go (under r is) =
            let same : r.id ≡ parent = (Decides-eqb r.id parent).0 (find_passes (λ (q : Record). nat_eq q.id parent) tree.records r is) in
            let lt = all_below r (Contains-found (λ (q : Record). nat_eq q.id parent) tree.records r is) in
            omega (arith, same, lt)

    still_found : (p : ℕ) (r : Record) → record_at tree p ≡ Some r → record_at (with_record tree (Some id) kind parent name) p ≡ Some r
    still_found p r is = find_push (λ (q : Record). nat_eq q.id p) tree.records (record { id = id; kind = kind; parent = parent; name = name }) r is

    pub created_ascending : AreAscending 0 (with_record tree (Some id) kind parent name).records
    created_ascending = ascending_push 0 tree.records (record { id = id; kind = kind; parent = parent; name = name }) fits.ascending positive all_below

    pub created_fits : AreKeys (claims_of (with_record tree (Some id) kind parent name)) → TreeFits (with_record tree (Some id) kind parent name) known
    created_fits keys = record {
      keys = keys;
      rising = fits.rising;
      used_known = λ n lt. used (nat_eq n tree.used) n lt refl;
      ids = λ q is. elim (Contains-push_cases tree.records (record { id = id; kind = kind; parent = parent; name = name }) q is) [
        | inl old ↦ let found = fits.ids q old in let lt = found.1 in (found.0, omega (arith, lt), found.2)
        | inr e ↦ (tree.used, omega arith, next ∙ ap (λ (r : Record). Some r.id) e)
      ];
      ascending = created_ascending;
      placed = λ q is. elim (Contains-push_cases tree.records (record { id = id; kind = kind; parent = parent; name = name }) q is) [
        | inl old ↦ placed_still q.kind q.parent (record_at tree q.parent) (record_at (with_record tree (Some id) kind parent name) q.parent) (still_found q.parent) (fits.placed q old)
        | inr e ↦ subst (λ (r : Record). place_rule r.kind r.parent (record_at (with_record tree (Some id) kind parent name) r.parent) ≡ None) e
            (placed_still kind parent (record_at tree parent) (record_at (with_record tree (Some id) kind parent name) parent) (still_found parent) placed)
      ];
      above = λ q is. elim (Contains-push_cases tree.records (record { id = id; kind = kind; parent = parent; name = name }) q is) [
        | inl old ↦ fits.above q old
        | inr e ↦ subst (λ (r : Record). r.parent < r.id) e parent_below
      ];
    }
      where
        used : (b : Bool) (n : ℕ) → n < tree.used + 1 → nat_eq n tree.used ≡ b → (i : ℕ) × (id_at n known ≡ Some i)
        used true n lt is = (id, ap (λ m. id_at m known) ((Decides-eqb n tree.used).0 is) ∙ next)
        used false n lt is = let less : n < tree.used = grind (arith, nat_tests, lt, is) in fits.used_known n less

  pub renamed_ascending : (id : ℕ) (name : List ℕ) → AreAscending 0 (changed_by tree (Rename id name) known).records
  renamed_ascending id name = ascending_renamed id name 0 tree.records fits.ascending

  pub renamed_fits : (id : ℕ) (name : List ℕ) → AreKeys (claims_of (changed_by tree (Rename id name) known)) → TreeFits (changed_by tree (Rename id name) known) known
  renamed_fits id name keys = record {
    keys = keys;
    rising = fits.rising;
    used_known = fits.used_known;
    ids = λ q is. let found = of_map (renamed id name) tree.records q is in let old = fits.ids found.0 found.1 in (old.0, old.1, old.2 ∙ ap Some (sym (same_id id name found.0) ∙ ap (λ (r : Record). r.id) found.2));
    ascending = renamed_ascending id name;
    placed = λ q is.
        let found = of_map (renamed id name) tree.records q is in
        let old : place_rule found.0.kind found.0.parent (find (λ (r : Record). nat_eq r.id found.0.parent) (map (renamed id name) tree.records)) ≡ None =
        ap (place_rule found.0.kind found.0.parent) (find_renamed id name found.0.parent tree.records) ∙ placed_renamed id name found.0.kind found.0.parent (record_at tree found.0.parent) ∙ fits.placed found.0 found.1 in
        let kind : found.0.kind ≡ q.kind = sym (same_kind id name found.0) ∙ ap (λ (r : Record). r.kind) found.2 in
        let parent : found.0.parent ≡ q.parent = sym (same_parent id name found.0) ∙ ap (λ (r : Record). r.parent) found.2 in
        subst (λ k. place_rule k q.parent (find (λ (r : Record). nat_eq r.id q.parent) (map (renamed id name) tree.records)) ≡ None) kind
        (subst (λ p. place_rule found.0.kind p (find (λ (r : Record). nat_eq r.id p) (map (renamed id name) tree.records)) ≡ None) parent old);
    above = λ q is.
        let found = of_map (renamed id name) tree.records q is in
        let lt = fits.above found.0 found.1 in
        let own : found.0.id ≡ q.id = sym (same_id id name found.0) ∙ ap (λ (r : Record). r.id) found.2 in
        let parent : found.0.parent ≡ q.parent = sym (same_parent id name found.0) ∙ ap (λ (r : Record). r.parent) found.2 in
        omega (arith, lt, own, parent);
  }

  pub removed_ascending : (id : ℕ) → AreAscending 0 (changed_by tree (Remove id) known).records
  removed_ascending id = ascending_filter (λ (r : Record). not (nat_eq r.id id)) 0 tree.records fits.ascending

  pub removed_fits : (id : ℕ) → list_any (λ (q : Record). nat_eq q.parent id) tree.records ≡ false → AreKeys (claims_of (changed_by tree (Remove id) known)) → TreeFits (changed_by tree (Remove id) known) known
  removed_fits id childless keys =
      let kept : (q : Record) → Contains (filter (λ (r : Record). not (nat_eq r.id id)) tree.records) q → Contains tree.records q = λ q is. (of_filter (λ (r : Record). not (nat_eq r.id id)) tree.records q is).0 in
      record {
        rising = fits.rising;
        used_known = fits.used_known;
        ids = λ q is. fits.ids q (kept q is);
        ascending = removed_ascending id;
        keys = keys;
        placed = λ q is. placed_still q.kind q.parent (record_at tree q.parent) (record_at (changed_by tree (Remove id) known) q.parent)
            (λ r found. find_filter id q.parent (no_child id tree.records q childless (kept q is)) tree.records r found) (fits.placed q (kept q is));
        above = λ q is. fits.above q (kept q is);
      }

-- a tree without a record fits, where nothing is known
pub empty_fits : TreeFits empty_tree []
unfolding claims_of
empty_fits = record {
  rising = tt;
  used_known = λ n lt. absurd (omega (arith, lt));
  ids = λ r is. absurd (nowhere r is);
  ascending = tt;
  placed = λ r is. absurd (nowhere r is);
  above = λ r is. absurd (nowhere r is);
  keys = λ c is. absurd (nowhere c is);
}
