-- What is known of the leases that name keys is what a search through the open leases finds.
use Rattle.std.proofs.Common.{◌≡◌, ◌≢◌, inl, inr, ◌+◌, Bool, true, false, not, ◌&&◌, ◌||◌, cond, List, [], ◌∷◌, ◌++◌, length, Option, Some, None, option_map, refl, sym, ◌∙◌, ap, subst, arith}
use Rattle.std.specs.List.{find, list_all, Contains, AllPairs}
use Rattle.std.specs.FinMap as fin
use Rattle.std.specs.FinMap.{FinMap, entries}
use Rattle.std.proofs.lemmas.List.{length-append, get_or_append_left, get_or-append-add}
use Rattle.cells_base.proofs.Truth.{not_picked, or_split, or_first, or_second, not_true}
use Rattle.cells_base.proofs.Maps.{each_passes, inserted, removed, insert_same, insert_other, remove_other}
use Rattle.cells_base.proofs.Entries.{get-found}
use Rattle.cells_base.proofs.Members.{here_or_later, nowhere, here, later}
use Rattle.claim_types.specs.Order.{key_cmp, key_eq, lease_cmp}
use Rattle.claim_types.specs.Operations.{keys_of}
use Rattle.claim_types.specs.declared.key.ClaimKey.{ClaimKey}
use Rattle.claim_types.specs.declared.lease.LeaseId.{LeaseId}
use Rattle.claim_types.specs.declared.operations.Operations.{Operations}
use Rattle.claim_types.proofs.Equal.{Decides-key}
use Rattle.claim_types.proofs.Ordered.{leases_total, leases_exact}
use Rattle.claim_map.specs.Verdict.{names, lease_naming}
use Rattle.lease_core.specs.Kept.{AreNamed, created_keys, is_among, without_names}
use Rattle.lease_core.proofs.Noted.{get_without_names, among_append}

all_others : {X : Type 0} (p : X → Bool) (xs : List X) → find p xs ≡ None → list_all (λ x. not (p x)) xs ≡ true
all_others p [] h = refl
all_others p (x ∷ xs) h =
    let parts = not_picked (p x) x (find p xs) h in
    ap (λ b. not b && list_all (λ y. not (p y)) xs) parts.0 ∙ all_others p xs parts.1

passed : {X : Type 0} (p : X → Bool) (x : X) (rest : Option X) (e : X) (later : rest ≡ Some e → p e ≡ true) (b : Bool) → p x ≡ b → cond b (Some x) rest ≡ Some e → p e ≡ true
passed p x rest e later true is h = let same : x ≡ e = cc in subst (λ y. p y ≡ true) same is
passed p x rest e later false is h = later h

passes : {X : Type 0} (p : X → Bool) (xs : List X) (e : X) → find p xs ≡ Some e → p e ≡ true
passes p [] e h = cc
passes p (x ∷ xs) e h = passed p x (find p xs) e (passes p xs e) (p x) refl h

both_ways : (b : Bool) → b ≡ true → not b ≡ true → ⊥
both_ways true h g = cc
both_ways false h g = cc

same_value : {A : Type 0} (x y : A) → Some x ≡ Some y → x ≡ y
same_value x y e = cc

-- a key that is among these stands there
pub among_contains : (keys : List ClaimKey) (q : ClaimKey) → is_among keys q ≡ true → Contains keys q
among_contains [] q h = absurd cc
among_contains (k ∷ ks) q h = elim (or_split (key_eq k q) (is_among ks q) h) [
  | inl same ↦ subst (λ z. Contains (k ∷ ks) z) ((Decides-key k q).0 same) (here k ks)
  | inr rest ↦ later k ks q (among_contains ks q rest)
]

pub contains_among : (keys : List ClaimKey) (q : ClaimKey) → Contains keys q → is_among keys q ≡ true
contains_among [] q h = absurd (nowhere q h)
contains_among (k ∷ ks) q h = elim (here_or_later k ks q h) [
  | inl same ↦ or_first (key_eq k q) (is_among ks q) ((Decides-key k q).1 same)
  | inr rest ↦ or_second (key_eq k q) (is_among ks q) (contains_among ks q rest)
]

-- where no key stands twice, none stands in the front and behind it
pub stands_once : (front behind : List ClaimKey) → AllPairs (λ a b. a ≢ b) (front ++ behind) → (q : ClaimKey) → is_among front q ≡ true → is_among behind q ≡ false
stands_once front behind distinct q in_front = not_true (is_among behind q) (λ in_behind.
    let i = among_contains front q in_front in
    let j = among_contains behind q in_behind in
    distinct i.0 (length front + j.0) q (omega (arith, i.1)) (omega (arith, i.1, j.1, length-append front behind))
    (get_or_append_left front behind q i.0 i.1 ∙ i.2 ∙ sym (get_or-append-add front behind j.0 q ∙ j.2)))

-- the same names, and so the same facts
pub renamed : (f g : ClaimKey → Option LeaseId) (open_leases : FinMap lease_cmp Operations) → ((k : ClaimKey) → g k ≡ f k) → AreNamed f open_leases → AreNamed g open_leases
renamed f g open_leases same are = record {
  sound = λ k l is. are.sound k l (sym (same k) ∙ is);
  complete = λ l ops k is named. same k ∙ are.complete l ops k is named;
}

module _ (named : ClaimKey → Option LeaseId) (open_leases : FinMap lease_cmp Operations) (are : AreNamed named open_leases) where
  no_name : (k : ClaimKey) → find (λ (e : LeaseId × Operations). names e.1 k) (entries open_leases) ≡ None → (n : Option LeaseId) → named k ≡ n → None ≡ n
  no_name k none None is = refl
  no_name k none (Some l) is =
      let s = are.sound k l is in
      absurd (both_ways (names s.0 k) s.2 (each_passes (λ (ops : Operations). not (names ops k)) open_leases l s.0 (all_others (λ (e : LeaseId × Operations). names e.1 k) (entries open_leases) none) s.1))

  by : (k : ClaimKey) (o : Option (LeaseId × Operations)) → find (λ (e : LeaseId × Operations). names e.1 k) (entries open_leases) ≡ o → option_map (λ (e : LeaseId × Operations). e.0) o ≡ named k
  by k None none = no_name k none (named k) refl
  by k (Some e) is = sym (are.complete e.0 e.1 k (get-found leases_total open_leases (λ (e : LeaseId × Operations). names e.1 k) e is) (passes (λ (e : LeaseId × Operations). names e.1 k) (entries open_leases) e is))

  pub naming : (k : ClaimKey) → lease_naming open_leases k ≡ named k
  naming k = by k (find (λ (e : LeaseId × Operations). names e.1 k) (entries open_leases)) refl

  -- a key in no open lease is named by none
  pub unnamed : (ops : Operations) → ((key : ClaimKey) → Contains (keys_of ops) key → (other : LeaseId) (theirs : Operations) → fin.get open_leases other ≡ Some theirs → Contains (keys_of theirs) key → ⊥)
      → (k : ClaimKey) → names ops k ≡ true → named k ≡ None
  unnamed ops unleased k mine = go (named k) refl
    where
      go : (n : Option LeaseId) → named k ≡ n → n ≡ None
      go None is = refl
      go (Some l) is = let s = are.sound k l is in absurd (unleased k (among_contains (keys_of ops) k mine) l s.0 s.1 (among_contains (keys_of s.0) k s.2))

  -- a lease is opened whose keys nobody names
  module _ (lease : LeaseId) (ops : Operations) (closed : fin.get open_leases lease ≡ None) (free : (k : ClaimKey) → names ops k ≡ true → named k ≡ None) where
    abbrev named_opened : ClaimKey → Option LeaseId
    named_opened k = cond (names ops k) (Some lease) (named k)

    not_closed : (l : LeaseId) (o : Operations) → fin.get open_leases l ≡ Some o → l ≢ lease
    not_closed l o is e = let h : None ≡ Some o = sym closed ∙ ap (fin.get open_leases) (sym e) ∙ is in cc

    pub opened : AreNamed named_opened (fin.insert open_leases lease ops)
    opened = record {
      sound = λ k l is. at k l (names ops k) refl is;
      complete = λ l o k is named_here. elim (inserted leases_total leases_exact open_leases lease ops l o is) [
        | inl new ↦ ap (λ b. cond b (Some lease) (named k)) (ap (λ (x : Operations). names x k) new.1 ∙ named_here) ∙ ap (λ (x : LeaseId). Some x) (sym new.0)
        | inr old ↦ older k l (names ops k) refl (are.complete l o k old.1 named_here)
      ];
    }
      where
        at : (k : ClaimKey) (l : LeaseId) (b : Bool) → names ops k ≡ b → cond b (Some lease) (named k) ≡ Some l → (o : Operations) × (fin.get (fin.insert open_leases lease ops) l ≡ Some o) × (names o k ≡ true)
        at k l true yes_named is = let same : lease ≡ l = cc in (ops, ap (fin.get (fin.insert open_leases lease ops)) (sym same) ∙ insert_same leases_total leases_exact open_leases lease ops, yes_named)
        at k l false other is = let s = are.sound k l is in (s.0, insert_other leases_total leases_exact open_leases lease ops l (not_closed l s.0 s.1) ∙ s.1, s.2)

        older : (k : ClaimKey) (l : LeaseId) (b : Bool) → names ops k ≡ b → named k ≡ Some l → cond b (Some lease) (named k) ≡ Some l
        older k l true is h = let no : None ≡ Some l = sym (free k is) ∙ h in cc
        older k l false is h = h

  -- a lease is closed
  module _ (lease : LeaseId) (ops : Operations) (open_with : fin.get open_leases lease ≡ Some ops) where
    abbrev named_closed : ClaimKey → Option LeaseId
    named_closed k = cond (names ops k) None (named k)

    pub closed : AreNamed named_closed (fin.remove open_leases lease)
    closed = record {
      sound = λ k l is. at k l (names ops k) refl is;
      complete = λ l o k is named_here. let old = removed leases_total leases_exact open_leases lease l o is in
          older l k (names ops k) refl (are.complete l o k old.1 named_here) old.0;
    }
      where
        at : (k : ClaimKey) (l : LeaseId) (b : Bool) → names ops k ≡ b → cond b None (named k) ≡ Some l → (o : Operations) × (fin.get (fin.remove open_leases lease) l ≡ Some o) × (names o k ≡ true)
        at k l true yes_named is = cc
        at k l false other is =
            let s = are.sound k l is in
            let apart : l ≢ lease = λ e. let os : s.0 ≡ ops = same_value s.0 ops (sym s.1 ∙ ap (fin.get open_leases) e ∙ open_with) in let f : true ≡ false = sym s.2 ∙ ap (λ (x : Operations). names x k) os ∙ other in cc in
            (s.0, remove_other leases_total leases_exact open_leases lease l apart ∙ s.1, s.2)

        older : (l : LeaseId) (k : ClaimKey) (b : Bool) → names ops k ≡ b → named k ≡ Some l → l ≢ lease → cond b None (named k) ≡ Some l
        older l k true mine h apart = absurd (apart (same_value l lease (sym h ∙ are.complete lease ops k open_with mine)))
        older l k false mine h apart = h

-- the names of a lease that was forgotten: of its creates, and of its destroys before
forgotten_at : (a b : Bool) (o : Option LeaseId) → cond a None (cond b None o) ≡ cond (a || b) None o
forgotten_at true b o = refl
forgotten_at false b o = refl

pub get_forgotten : (ops : Operations) (named : FinMap key_cmp LeaseId) (k : ClaimKey) → fin.get (without_names (created_keys ops.creates) (without_names ops.destroys named)) k ≡ cond (names ops k) None (fin.get named k)
get_forgotten ops named k =
    get_without_names (created_keys ops.creates) (without_names ops.destroys named) k ∙ ap (cond (is_among (created_keys ops.creates) k) None) (get_without_names ops.destroys named k)
    ∙ forgotten_at (is_among (created_keys ops.creates) k) (is_among ops.destroys k) (fin.get named k) ∙ ap (λ b. cond b None (fin.get named k)) (sym (among_append (created_keys ops.creates) ops.destroys k))

-- names that were given and taken again are as they were
pub as_before : (ops : Operations) (old cur : FinMap key_cmp LeaseId) → ((k : ClaimKey) → names ops k ≡ true → fin.get old k ≡ None) → ((k : ClaimKey) → is_among (keys_of ops) k ≡ false → fin.get cur k ≡ fin.get old k)
    → (k : ClaimKey) → fin.get (without_names (created_keys ops.creates) (without_names ops.destroys cur)) k ≡ fin.get old k
as_before ops old cur free others k = get_forgotten ops cur k ∙ at (names ops k) refl
  where
    at : (b : Bool) → names ops k ≡ b → cond b None (fin.get cur k) ≡ fin.get old k
    at true mine = sym (free k mine)
    at false other = others k other
