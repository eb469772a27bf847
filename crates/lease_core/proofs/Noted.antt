-- The steps of the loops that note and forget the claims of a lease.
use Rattle.std.proofs.Common.{◌≡◌, ◌≢◌, ◌⊎◌, inl, inr, ℕ, ◌+◌, ◌<◌, Bool, true, false, not, ◌||◌, ◌&&◌, cond, List, [], ◌∷◌, ◌++◌, length, drop, get_or, Option, Some, None, is_some, refl, sym, ◌∙◌, ap, subst, rules}
use Rattle.std.specs.Prelude.{IsSome, Result, Ok, Err, OnOk}
use Rattle.std.specs.List.{Contains}
use Rattle.std.specs.FinMap as fin
use Rattle.std.specs.FinMap.{FinMap}
use Rattle.std.specs.FinSet as set
use Rattle.std.specs.FinSet.{FinSet, contains-insert, contains-remove}
use Rattle.std.specs.Ordering.{eq_by_cmp}
use Rattle.std.proofs.lemmas.List.{at_drop_more}
use Rattle.std.proofs.lemmas.List.Folds.{list_any-append}
use Rattle.std.proofs.lemmas.List.Elements.{Contains-get_or}
use Rattle.cells_base.proofs.Truth.{neither, or_first, or_second, true_or_false}
use Rattle.cells_base.proofs.Maps.{insert_same, insert_other, remove_same, remove_other, same_or_other, no_tie, tie_itself}
use Rattle.cells_base.proofs.Members.{here_or_later, nowhere}
use Rattle.claim_types.specs.Order.{key_cmp, key_eq}
use Rattle.claim_types.specs.declared.key.ClaimKey.{ClaimKey}
use Rattle.claim_types.specs.declared.lease.LeaseId.{LeaseId}
use Rattle.claim_types.specs.declared.lease.Holding.{Holding}
use Rattle.claim_types.specs.declared.operations.Create.{Create}
use Rattle.claim_types.proofs.Equal.{Decides-key}
use Rattle.claim_types.proofs.Ordered.{keys_total, keys_exact}
use Rattle.key_table.specs.Parts.{KeyParts, with_holder}
use Rattle.lease_core.specs.declared.rows.RowKey.{RowKey}
use Rattle.lease_core.specs.Rows.{row_cmp, row_of, row_of_create}
use Rattle.lease_core.specs.Kept.{is_among, with_names, without_names, KeepsNames, KeepsRows, KeepsHeld, IsKnown}
use Rattle.lease_core.proofs.RowOrder.{rows_total, rows_exact}

-- what is left of a list before a step
pub drop_here : {X : Type 0} (items : List X) (i : ℕ) (x : X) → i < length items → x ≡ get_or items i x → drop i items ≡ x ∷ drop (i + 1) items
drop_here {X} items i x lt is = at_drop_more (λ (l : List X). l) items i x lt ∙ ap (λ (y : X). y ∷ drop (i + 1) items) (sym is)

pub stands_there : {X : Type 0} (items : List X) (i : ℕ) (x : X) → i < length items → x ≡ get_or items i x → Contains items x
stands_there items i x lt is = subst (λ y. Contains items y) (sym is) (Contains-get_or items i x lt)

pub other_key : (x q : ClaimKey) → key_eq x q ≡ false → q ≢ x
other_key x q h e = let both : true ≡ false = sym ((Decides-key x q).1 (sym e)) ∙ h in cc

pub same_key : (x q : ClaimKey) → key_eq x q ≡ true → x ≡ q
same_key x q h = (Decides-key x q).0 h

-- keys that are named on the way
module _ (lease : LeaseId) (all rest : List ClaimKey) (x : ClaimKey) (cur start : FinMap key_cmp LeaseId) where
  pub others_more : ((q : ClaimKey) → is_among all q ≡ false → (is_among (x ∷ rest) q ≡ false) × (fin.get cur q ≡ fin.get start q))
      → (q : ClaimKey) → is_among all q ≡ false → (is_among rest q ≡ false) × (fin.get (fin.insert cur x lease) q ≡ fin.get start q)
  others_more so_far q h =
      let here = so_far q h in
      let apart = neither (key_eq x q) (is_among rest q) here.0 in
      (apart.1, insert_other keys_total keys_exact cur x lease q (other_key x q apart.0) ∙ here.1)

-- what names there are once these keys are named by a lease, or by none
pub get_with_names : (lease : LeaseId) (keys : List ClaimKey) (named : FinMap key_cmp LeaseId) (q : ClaimKey) → fin.get (with_names lease keys named) q ≡ cond (is_among keys q) (Some lease) (fin.get named q)
get_with_names lease [] named q = refl
get_with_names lease (k ∷ ks) named q = get_with_names lease ks (fin.insert named k lease) q ∙ at (true_or_false (key_eq k q))
  where
    flat : (b : Bool) → cond b (Some lease) (Some lease) ≡ Some lease
    flat true = refl
    flat false = refl

    at : (key_eq k q ≡ true) ⊎ (key_eq k q ≡ false) → cond (is_among ks q) (Some lease) (fin.get (fin.insert named k lease) q) ≡ cond (key_eq k q || is_among ks q) (Some lease) (fin.get named q)
    at (inl same) = ap (cond (is_among ks q) (Some lease)) (ap (fin.get (fin.insert named k lease)) (sym (same_key k q same)) ∙ insert_same keys_total keys_exact named k lease) ∙ flat (is_among ks q) ∙ ap (λ b. cond (b || is_among ks q) (Some lease) (fin.get named q)) (sym same)
    at (inr other) = ap (cond (is_among ks q) (Some lease)) (insert_other keys_total keys_exact named k lease q (other_key k q other)) ∙ ap (λ b. cond (b || is_among ks q) (Some lease) (fin.get named q)) (sym other)

abbrev no_lease : Option LeaseId
no_lease = None

pub get_without_names : (keys : List ClaimKey) (named : FinMap key_cmp LeaseId) (q : ClaimKey) → fin.get (without_names keys named) q ≡ cond (is_among keys q) None (fin.get named q)
get_without_names [] named q = refl
get_without_names (k ∷ ks) named q = get_without_names ks (fin.remove named k) q ∙ at (true_or_false (key_eq k q))
  where
    flat : (b : Bool) → cond b None None ≡ no_lease
    flat true = refl
    flat false = refl

    at : (key_eq k q ≡ true) ⊎ (key_eq k q ≡ false) → cond (is_among ks q) None (fin.get (fin.remove named k) q) ≡ cond (key_eq k q || is_among ks q) None (fin.get named q)
    at (inl same) = ap (cond (is_among ks q) None) (ap (fin.get (fin.remove named k)) (sym (same_key k q same)) ∙ remove_same keys_total keys_exact named k) ∙ flat (is_among ks q) ∙ ap (λ b. cond (b || is_among ks q) None (fin.get named q)) (sym same)
    at (inr other) = ap (cond (is_among ks q) None) (remove_other keys_total keys_exact named k q (other_key k q other)) ∙ ap (λ b. cond (b || is_among ks q) None (fin.get named q)) (sym other)

-- names and places are kept in one step after another
pub with_names_append : (lease : LeaseId) (ks ls : List ClaimKey) (named : FinMap key_cmp LeaseId) → with_names lease (ks ++ ls) named ≡ with_names lease ls (with_names lease ks named)
with_names_append lease [] ls named = refl
with_names_append lease (k ∷ ks) ls named = with_names_append lease ks ls (fin.insert named k lease)

pub among_append : (ks ls : List ClaimKey) (q : ClaimKey) → is_among (ks ++ ls) q ≡ (is_among ks q || is_among ls q)
among_append ks ls q = list_any-append (λ k. key_eq k q) ks ls

pub keeps_both : (ks ls : List ClaimKey) (old mid new : FinMap key_cmp LeaseId) → KeepsNames ks old mid → KeepsNames ls mid new → KeepsNames (ks ++ ls) old new
keeps_both ks ls old mid new first second q h = let apart = neither (is_among ks q) (is_among ls q) (sym (among_append ks ls q) ∙ h) in second q apart.1 ∙ first q apart.0

pub keeps_first : (ks ls : List ClaimKey) (old new : FinMap key_cmp LeaseId) → KeepsNames ks old new → KeepsNames (ks ++ ls) old new
keeps_first ks ls old new first q h = first q (neither (is_among ks q) (is_among ls q) (sym (among_append ks ls q) ∙ h)).0

-- a key that is known stays so once another is claimed
pub known_more : (keys : KeyParts) (x k : ClaimKey) (h : Holding) → IsKnown keys k → IsKnown (with_holder keys x h) k
known_more keys x k h known = elim (same_or_other keys_total keys_exact k x) [
  | inl e ↦ inr (subst (λ z. IsSome (fin.get (fin.insert keys.holder x h) z)) (sym e) (subst IsSome (sym (insert_same keys_total keys_exact keys.holder x h)) (search rules)))
  | inr apart ↦ elim known [
    | inl named ↦ inl (subst IsSome (sym (remove_other keys_total keys_exact keys.named x k apart)) named)
    | inr held ↦ inr (subst IsSome (sym (insert_other keys_total keys_exact keys.holder x h k apart)) held)
  ]
]

-- places
pub added : (rows : FinSet row_cmp) (r : RowKey) → set.contains (set.insert rows r) r ≡ true
added rows r = contains-insert rows_total rows r r ∙ or_first (eq_by_cmp row_cmp r r) (set.contains rows r) (tie_itself rows_total rows_exact r)

pub still_there : (rows : FinSet row_cmp) (r q : RowKey) → set.contains rows q ≡ true → set.contains (set.insert rows r) q ≡ true
still_there rows r q h = contains-insert rows_total rows r q ∙ or_second (eq_by_cmp row_cmp q r) (set.contains rows q) h

pub not_taken : (rows : FinSet row_cmp) (r q : RowKey) → q ≢ r → set.contains rows q ≡ true → set.contains (set.remove rows r) q ≡ true
not_taken rows r q apart h = contains-remove rows_total rows r q ∙ ap (λ b. not b && set.contains rows q) (no_tie rows_total rows_exact q r apart) ∙ h

module _ (rows : FinSet row_cmp) (cell : ℕ) (rest : List Create) (x : Create) where
  pub added_more : (place : RowKey) → place ≡ row_of_create cell x → (c : Create) → Contains (x ∷ rest) c ⊎ (set.contains rows (row_of_create cell c) ≡ true) → Contains rest c ⊎ (set.contains (set.insert rows place) (row_of_create cell c) ≡ true)
  added_more place is c (inl c_in) = elim (here_or_later x rest c c_in) [
    | inl e ↦ inr (subst (λ z. set.contains (set.insert rows place) (row_of_create cell z) ≡ true) e (subst (λ p. set.contains (set.insert rows p) (row_of_create cell x) ≡ true) (sym is) (added rows (row_of_create cell x))))
    | inr later ↦ inl later
  ]
  added_more place is c (inr there) = inr (still_there rows place (row_of_create cell c) there)

pub all_added : (rows : FinSet row_cmp) (cell : ℕ) (c : Create) → Contains [] c ⊎ (set.contains rows (row_of_create cell c) ≡ true) → set.contains rows (row_of_create cell c) ≡ true
all_added rows cell c (inl none) = absurd (nowhere c none)
all_added rows cell c (inr there) = there

-- the place of one key goes
module _ (rows : FinSet row_cmp) (place : RowKey) where
  pub other_rows : KeepsRows (place.key ∷ []) rows (set.remove rows place)
  other_rows row apart there = not_taken rows place row (λ e. other_key place.key row.key (neither (key_eq place.key row.key) false apart).0 (ap (λ (r : RowKey). r.key) e)) there

  pub held_rows : (holder : FinMap key_cmp Holding) → fin.get holder place.key ≡ None → KeepsHeld holder rows (set.remove rows place)
  held_rows holder unheld k h is there = not_taken rows place (row_of k h) (λ e. let both : None ≡ Some h = sym unheld ∙ ap (fin.get holder) (sym (ap (λ (r : RowKey). r.key) e)) ∙ is in absurd cc) there

-- places that are kept on the way
pub keeps_rows_more : (all rest : List ClaimKey) (x : ClaimKey) (start cur new : FinSet row_cmp) → ((q : ClaimKey) → is_among all q ≡ false → is_among (x ∷ rest) q ≡ false) → KeepsRows all start cur → KeepsRows (x ∷ []) cur new → KeepsRows all start new
keeps_rows_more all rest x start cur new among so_far step row apart there =
    let here = neither (key_eq x row.key) (is_among rest row.key) (among row.key apart) in
    step row (ap (λ b. b || false) here.0) (so_far row apart there)

pub rest_among : (all rest : List ClaimKey) (x : ClaimKey) → ((q : ClaimKey) → is_among all q ≡ false → is_among (x ∷ rest) q ≡ false) → (q : ClaimKey) → is_among all q ≡ false → is_among rest q ≡ false
rest_among all rest x among q h = (neither (key_eq x q) (is_among rest q) (among q h)).1

pub no_some : {A : Type 0} (o : Option A) → is_some o ≡ false → o ≡ None
no_some None h = refl
no_some (Some x) h = cc

pub on_ok : {A B P Q : Type 0} (r : Result A B) → OnOk r P → (P → Q) → OnOk r Q
on_ok (Ok x) p f = f p
on_ok (Err e) p f = p
