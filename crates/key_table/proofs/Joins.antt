-- A joined map's look-ups and changes are those of the table of the bucket.
use Rattle.std.proofs.Common.{◌≡◌, ◌⊎◌, inl, inr, ℕ, false, cond, List, [], ◌∷◌, ◌++◌, map, Option, Some, None, refl, sym, ◌∙◌, ap, subst}
use Rattle.std.specs.Prelude.{IsSome, Result, Ok, Err, OnOk}
use Rattle.std.specs.Ordering.{nat_cmp, eq_by_cmp}
use Rattle.std.specs.Cmp.Lexicographic.{slice_cmp, nat_list_cmp_total}
use Rattle.std.specs.FinMap.{FinMap, find, entries, get-empty, get-entries, get-from_entries, get-insert, get-remove, same_map}
use Rattle.std.specs.FinMap as map
use Rattle.claim_types.specs.Order.{key_cmp}
use Rattle.claim_types.specs.declared.key.Bucket.{Bucket}
use Rattle.claim_types.specs.declared.key.Bucket.TheVariants.{OrganizationPath, Route, Address, SshKey, PagesDomain}
use Rattle.claim_types.specs.declared.key.ClaimKey.{ClaimKey}
use Rattle.claim_types.proofs.Ordered.{keys_total, keys_exact}
use Rattle.key_table.specs.Joined.{Five, of_bucket, keyed, keyed_entries, joined}

same_bucket : (b : Bucket) (u t : List ℕ) → eq_by_cmp key_cmp (record { bucket = b; value = u }) (record { bucket = b; value = t }) ≡ eq_by_cmp (slice_cmp nat_cmp) u t
same_bucket OrganizationPath u t = refl
same_bucket Route u t = refl
same_bucket Address u t = refl
same_bucket SshKey u t = refl
same_bucket PagesDomain u t = refl

module _ {V : Type 0} where
  -- entries of another bucket are passed over
  over : (b : Bucket) (q : ClaimKey) (apart : (t : List ℕ) → eq_by_cmp key_cmp q (record { bucket = b; value = t }) ≡ false)
      (es : List (List ℕ × V)) (rest : List (ClaimKey × V)) → find key_cmp q (map (keyed b) es ++ rest) ≡ find key_cmp q rest
  over b q apart [] rest = refl
  over b q apart (e ∷ es) rest = ap (λ r. cond r (Some e.1) (find key_cmp q (map (keyed b) es ++ rest))) (apart e.0) ∙ over b q apart es rest

  over_last : (b : Bucket) (q : ClaimKey) (apart : (t : List ℕ) → eq_by_cmp key_cmp q (record { bucket = b; value = t }) ≡ false)
      (es : List (List ℕ × V)) → find key_cmp q (map (keyed b) es) ≡ None
  over_last b q apart [] = refl
  over_last b q apart (e ∷ es) = ap (λ r. cond r (Some e.1) (find key_cmp q (map (keyed b) es))) (apart e.0) ∙ over_last b q apart es

  -- and those of the same are sought by their texts
  within : (b : Bucket) (q : ClaimKey) (same : (t : List ℕ) → eq_by_cmp key_cmp q (record { bucket = b; value = t }) ≡ eq_by_cmp (slice_cmp nat_cmp) q.value t)
      (es : List (List ℕ × V)) (rest : List (ClaimKey × V)) → find key_cmp q rest ≡ None → find key_cmp q (map (keyed b) es ++ rest) ≡ find (slice_cmp nat_cmp) q.value es
  within b q same [] rest none = none
  within b q same (e ∷ es) rest none = ap (λ r. cond r (Some e.1) (find key_cmp q (map (keyed b) es ++ rest))) (same e.0) ∙ ap (cond (eq_by_cmp (slice_cmp nat_cmp) q.value e.0) (Some e.1)) (within b q same es rest none)

  within_last : (b : Bucket) (q : ClaimKey) (same : (t : List ℕ) → eq_by_cmp key_cmp q (record { bucket = b; value = t }) ≡ eq_by_cmp (slice_cmp nat_cmp) q.value t)
      (es : List (List ℕ × V)) → find key_cmp q (map (keyed b) es) ≡ find (slice_cmp nat_cmp) q.value es
  within_last b q same [] = refl
  within_last b q same (e ∷ es) = ap (λ r. cond r (Some e.1) (find key_cmp q (map (keyed b) es))) (same e.0) ∙ ap (cond (eq_by_cmp (slice_cmp nat_cmp) q.value e.0) (Some e.1)) (within_last b q same es)

  abbrev items : Five V → Bucket → List (List ℕ × V)
  items s b = entries (of_bucket s b)

  abbrev behind4 : Five V → List (ClaimKey × V)
  behind4 s = keyed_entries s PagesDomain

  abbrev behind3 : Five V → List (ClaimKey × V)
  behind3 s = keyed_entries s SshKey ++ behind4 s

  abbrev behind2 : Five V → List (ClaimKey × V)
  behind2 s = keyed_entries s Address ++ behind3 s

  abbrev behind1 : Five V → List (ClaimKey × V)
  behind1 s = keyed_entries s Route ++ behind2 s

  sought : (s : Five V) (b : Bucket) (t : List ℕ) → find key_cmp (record { bucket = b; value = t }) (keyed_entries s OrganizationPath ++ behind1 s) ≡ find (slice_cmp nat_cmp) t (items s b)
  sought s OrganizationPath t =
      let q : ClaimKey = record { bucket = OrganizationPath; value = t } in
      within OrganizationPath q (λ _. refl) (items s OrganizationPath) (behind1 s) (over Route q (λ _. refl) (items s Route) (behind2 s) ∙ over Address q (λ _. refl) (items s Address) (behind3 s) ∙ over SshKey q (λ _. refl) (items s SshKey) (behind4 s) ∙ over_last PagesDomain q (λ _. refl) (items s PagesDomain))
  sought s Route t =
      let q : ClaimKey = record { bucket = Route; value = t } in
      over OrganizationPath q (λ _. refl) (items s OrganizationPath) (behind1 s) ∙ within Route q (λ _. refl) (items s Route) (behind2 s) (over Address q (λ _. refl) (items s Address) (behind3 s) ∙ over SshKey q (λ _. refl) (items s SshKey) (behind4 s) ∙ over_last PagesDomain q (λ _. refl) (items s PagesDomain))
  sought s Address t =
      let q : ClaimKey = record { bucket = Address; value = t } in
      over OrganizationPath q (λ _. refl) (items s OrganizationPath) (behind1 s) ∙ over Route q (λ _. refl) (items s Route) (behind2 s) ∙ within Address q (λ _. refl) (items s Address) (behind3 s) (over SshKey q (λ _. refl) (items s SshKey) (behind4 s) ∙ over_last PagesDomain q (λ _. refl) (items s PagesDomain))
  sought s SshKey t =
      let q : ClaimKey = record { bucket = SshKey; value = t } in
      over OrganizationPath q (λ _. refl) (items s OrganizationPath) (behind1 s) ∙ over Route q (λ _. refl) (items s Route) (behind2 s) ∙ over Address q (λ _. refl) (items s Address) (behind3 s) ∙ within SshKey q (λ _. refl) (items s SshKey) (behind4 s) (over_last PagesDomain q (λ _. refl) (items s PagesDomain))
  sought s PagesDomain t =
      let q : ClaimKey = record { bucket = PagesDomain; value = t } in
      over OrganizationPath q (λ _. refl) (items s OrganizationPath) (behind1 s) ∙ over Route q (λ _. refl) (items s Route) (behind2 s) ∙ over Address q (λ _. refl) (items s Address) (behind3 s) ∙ over SshKey q (λ _. refl) (items s SshKey) (behind4 s) ∙ within_last PagesDomain q (λ _. refl) (items s PagesDomain)

  pub get_joined : (s : Five V) (b : Bucket) (t : List ℕ) → map.get (joined s) (record { bucket = b; value = t }) ≡ map.get (of_bucket s b) t
  get_joined s b t = get-from_entries keys_total (keyed_entries s OrganizationPath ++ behind1 s) (record { bucket = b; value = t }) ∙ sought s b t ∙ sym (get-entries (of_bucket s b) t)

  module _ (s : Five V) (a : s.organization_paths ≡ map.empty) (b : s.routes ≡ map.empty) (c : s.addresses ≡ map.empty) (d : s.ssh_keys ≡ map.empty) (e : s.pages_domains ≡ map.empty) where
    none : (k : Bucket) (t : List ℕ) → map.get (of_bucket s k) t ≡ None
    none OrganizationPath t = ap (λ m. map.get m t) a ∙ get-empty (slice_cmp nat_cmp) t
    none Route t = ap (λ m. map.get m t) b ∙ get-empty (slice_cmp nat_cmp) t
    none Address t = ap (λ m. map.get m t) c ∙ get-empty (slice_cmp nat_cmp) t
    none SshKey t = ap (λ m. map.get m t) d ∙ get-empty (slice_cmp nat_cmp) t
    none PagesDomain t = ap (λ m. map.get m t) e ∙ get-empty (slice_cmp nat_cmp) t

    pub empty_joined : joined s ≡ map.empty
    empty_joined = same_map keys_total keys_exact _ _ (λ q. get_joined s q.bucket q.value ∙ none q.bucket q.value ∙ sym (get-empty key_cmp q))

module _ {V : Type 0} where
  -- another table for a bucket
  abbrev pub with_table : Five V → Bucket → FinMap (slice_cmp nat_cmp) V → Five V
  with_table s OrganizationPath m = record s { organization_paths = m }
  with_table s Route m = record s { routes = m }
  with_table s Address m = record s { addresses = m }
  with_table s SshKey m = record s { ssh_keys = m }
  with_table s PagesDomain m = record s { pages_domains = m }

  its_table : (s : Five V) (b : Bucket) (m : FinMap (slice_cmp nat_cmp) V) → of_bucket (with_table s b m) b ≡ m
  its_table s OrganizationPath m = refl
  its_table s Route m = refl
  its_table s Address m = refl
  its_table s SshKey m = refl
  its_table s PagesDomain m = refl

  -- two buckets are one, or the table of the one is not the other's and no two of their keys tie
  one_or_other : (b c : Bucket) → (c ≡ b) ⊎ (((s : Five V) (m : FinMap (slice_cmp nat_cmp) V) → of_bucket (with_table s b m) c ≡ of_bucket s c)
      × ((u t : List ℕ) → eq_by_cmp key_cmp (record { bucket = c; value = u }) (record { bucket = b; value = t }) ≡ false))
  one_or_other OrganizationPath OrganizationPath = inl refl
  one_or_other OrganizationPath Route = inr (λ _ _. refl, λ _ _. refl)
  one_or_other OrganizationPath Address = inr (λ _ _. refl, λ _ _. refl)
  one_or_other OrganizationPath SshKey = inr (λ _ _. refl, λ _ _. refl)
  one_or_other OrganizationPath PagesDomain = inr (λ _ _. refl, λ _ _. refl)
  one_or_other Route OrganizationPath = inr (λ _ _. refl, λ _ _. refl)
  one_or_other Route Route = inl refl
  one_or_other Route Address = inr (λ _ _. refl, λ _ _. refl)
  one_or_other Route SshKey = inr (λ _ _. refl, λ _ _. refl)
  one_or_other Route PagesDomain = inr (λ _ _. refl, λ _ _. refl)
  one_or_other Address OrganizationPath = inr (λ _ _. refl, λ _ _. refl)
  one_or_other Address Route = inr (λ _ _. refl, λ _ _. refl)
  one_or_other Address Address = inl refl
  one_or_other Address SshKey = inr (λ _ _. refl, λ _ _. refl)
  one_or_other Address PagesDomain = inr (λ _ _. refl, λ _ _. refl)
  one_or_other SshKey OrganizationPath = inr (λ _ _. refl, λ _ _. refl)
  one_or_other SshKey Route = inr (λ _ _. refl, λ _ _. refl)
  one_or_other SshKey Address = inr (λ _ _. refl, λ _ _. refl)
  one_or_other SshKey SshKey = inl refl
  one_or_other SshKey PagesDomain = inr (λ _ _. refl, λ _ _. refl)
  one_or_other PagesDomain OrganizationPath = inr (λ _ _. refl, λ _ _. refl)
  one_or_other PagesDomain Route = inr (λ _ _. refl, λ _ _. refl)
  one_or_other PagesDomain Address = inr (λ _ _. refl, λ _ _. refl)
  one_or_other PagesDomain SshKey = inr (λ _ _. refl, λ _ _. refl)
  one_or_other PagesDomain PagesDomain = inl refl

  -- a change of one bucket's table
  module _ (s : Five V) (b : Bucket) (t : List ℕ) (m : FinMap (slice_cmp nat_cmp) V) where
    abbrev key : ClaimKey
    key = record { bucket = b; value = t }

    abbrev new : Five V
    new = with_table s b m

    changed : (w : Option V) → ((u : List ℕ) → map.get m u ≡ cond (eq_by_cmp (slice_cmp nat_cmp) u t) w (map.get (of_bucket s b) u))
        → (c : Bucket) (u : List ℕ) → map.get (joined new) (record { bucket = c; value = u }) ≡ cond (eq_by_cmp key_cmp (record { bucket = c; value = u }) key) w (map.get (joined s) (record { bucket = c; value = u }))
    changed w at c u = elim (one_or_other b c) [
      | inl here ↦ subst (λ c. map.get (joined new) (record { bucket = c; value = u }) ≡ cond (eq_by_cmp key_cmp (record { bucket = c; value = u }) key) w (map.get (joined s) (record { bucket = c; value = u }))) (sym here)
          (get_joined new b u ∙ ap (λ x. map.get x u) (its_table s b m) ∙ at u ∙ sym (ap (λ r. cond r w (map.get (joined s) (record { bucket = b; value = u }))) (same_bucket b u t) ∙ ap (cond (eq_by_cmp (slice_cmp nat_cmp) u t) w) (get_joined s b u)))
      | inr other ↦ get_joined new c u ∙ ap (λ x. map.get x u) (other.0 s m) ∙ sym (ap (λ r. cond r w (map.get (joined s) (record { bucket = c; value = u }))) (other.1 u t) ∙ get_joined s c u)
    ]

    insert_joined : (v : V) → m ≡ map.insert (of_bucket s b) t v → joined new ≡ map.insert (joined s) key v
    insert_joined v is = same_map keys_total keys_exact _ _ (λ q. changed (Some v) (λ u. ap (λ x. map.get x u) is ∙ get-insert nat_list_cmp_total (of_bucket s b) t v u) q.bucket q.value ∙ sym (get-insert keys_total (joined s) key v q))

    remove_joined : m ≡ map.remove (of_bucket s b) t → joined new ≡ map.remove (joined s) key
    remove_joined is = same_map keys_total keys_exact _ _ (λ q. changed None (λ u. ap (λ x. map.get x u) is ∙ get-remove nat_list_cmp_total (of_bucket s b) t u) q.bucket q.value ∙ sym (get-remove keys_total (joined s) key q))

  -- what a call on the table of a bucket came to, for the whole that is `old`
  module _ (s : Five V) (old : FinMap key_cmp V) (view_is : joined s ≡ old) (b key_bucket : Bucket) (is : key_bucket ≡ b) (t : List ℕ) where
    pub got : (r : Option V) → r ≡ map.get (of_bucket s b) t → r ≡ map.get old (record { bucket = key_bucket; value = t })
    got r h = h ∙ sym (get_joined s b t) ∙ ap (λ x. map.get x (record { bucket = b; value = t })) view_is ∙ ap (λ c. map.get old (record { bucket = c; value = t })) (sym is)

    pub is_there : IsSome (map.get old (record { bucket = key_bucket; value = t })) → IsSome (map.get (of_bucket s b) t)
    is_there h = subst IsSome (sym (got (map.get (of_bucket s b) t) refl)) h

    pub put : (m : FinMap (slice_cmp nat_cmp) V) (v : V) → m ≡ map.insert (of_bucket s b) t v → joined (with_table s b m) ≡ map.insert old (record { bucket = key_bucket; value = t }) v
    put m v h = insert_joined s b t m v h ∙ ap (λ x. map.insert x (record { bucket = b; value = t }) v) view_is ∙ ap (λ c. map.insert old (record { bucket = c; value = t }) v) (sym is)

    pub taken : (m : FinMap (slice_cmp nat_cmp) V) → m ≡ map.remove (of_bucket s b) t → joined (with_table s b m) ≡ map.remove old (record { bucket = key_bucket; value = t })
    taken m h = remove_joined s b t m h ∙ ap (λ x. map.remove x (record { bucket = b; value = t })) view_is ∙ ap (λ c. map.remove old (record { bucket = c; value = t })) (sym is)

pub on_ok : {A B P Q : Type 0} (r : Result A B) → OnOk r P → (P → Q) → OnOk r Q
on_ok (Ok x) p f = f p
on_ok (Err e) p f = p
