-- A tree stays whole where its index follows the operations of a change.
use Rattle.std.proofs.Common.{◌≡◌, ◌≢◌, ◌⊎◌, inl, inr, ℕ, ◌+◌, ◌<◌, Bool, true, false, ◌||◌, cond, List, [], ◌∷◌, ◌++◌, map, length, Option, Some, None, option_map, is_some, refl, sym, ◌∙◌, ap, subst, arith}
use Rattle.std.specs.Prelude.{filter}
use Rattle.std.specs.List.{Contains, find}
use Rattle.std.specs.FinMap as map
use Rattle.claim_types.specs.Order.{key_cmp}
use Rattle.claim_types.specs.Keys.{key_of}
use Rattle.claim_types.specs.declared.key.ClaimKey.{ClaimKey}
use Rattle.claim_types.specs.declared.operations.Create.{Create}
use Rattle.claim_types.specs.declared.operations.Operations.{Operations}
use Rattle.claim_types.specs.declared.record.Record.{Record}
use Rattle.claim_map.specs.Records.{renamed}
use Rattle.claim_map.specs.Trees.{AreAscending, AreApart}
use Rattle.claim_map.specs.Claims.{claims_from, operations_between}
use Rattle.claim_map.specs.Rules.{is_refused}
use Rattle.claim_map.proofs.Trees.{same_id, same_parent}
use Rattle.record_tree.specs.Kept.{AreAbove}
use Rattle.record_tree.specs.Fresh.{fresh}
use Rattle.record_tree.specs.Indexed.{IsWhole}
use Rattle.record_tree.specs.Follows.{MayFollow}
use Rattle.record_tree.specs.Refusals.{claimant, any_refused, first_taken}
use Rattle.record_tree.specs.Unique.{AreFree, IsSame, IsSameBut, without, with_claims, index_after}
use Rattle.std.proofs.Common.{get_or, drop}
use Rattle.std.proofs.lemmas.List.{at_drop_more}
use Rattle.claim_types.proofs.Ordered.{keys_total, keys_exact}
use Rattle.cells_base.proofs.Maps.{insert_other}
use Rattle.record_tree.proofs.Indexes.{old_or_fresh, own_keys_after, indexed_after, claims_key, no_claim, removed_key, left_key}
use Rattle.claim_types.specs.declared.rule.Rule.TheVariants.{TakenHere}
use Rattle.cells_base.proofs.Members.{nowhere, here_or_later, of_map, in_map}

-- keys that were not taken are free, and keys that were not refused are read
pub all_free : (index : map.FinMap key_cmp ℕ) (creates : List Create) → first_taken index creates ≡ None → AreFree creates index
all_free index [] none c h = absurd (nowhere c h)
all_free index (d ∷ cs) none c h = at (map.get index d.key) refl none (λ rest more. all_free index cs rest c more) (here_or_later d cs c h)
  where
    at : (o : Option ℕ) → map.get index d.key ≡ o → option_map (λ (x : Create). TakenHere x.key) (cond (is_some o) (Some d) (find (λ (x : Create). is_some (map.get index x.key)) cs)) ≡ None →
        (first_taken index cs ≡ None → Contains cs c → map.get index c.key ≡ None) → (d ≡ c) ⊎ Contains cs c → map.get index c.key ≡ None
    at None is none rest (inl e) = subst (λ (x : Create). map.get index x.key ≡ None) e is
    at None is none rest (inr more) = rest none more
    at (Some id) is none rest other = absurd cc

pub all_read : (creates : List Create) → any_refused creates ≡ false → (c : Create) → Contains creates c → is_refused (key_of c.key.bucket c.key.value) ≡ false
all_read [] none c h = absurd (nowhere c h)
all_read (d ∷ cs) none c h = at (is_refused (key_of d.key.bucket d.key.value)) refl none (λ rest more. all_read cs rest c more) (here_or_later d cs c h)
  where
    at : (b : Bool) → is_refused (key_of d.key.bucket d.key.value) ≡ b → (b || any_refused cs) ≡ false → (any_refused cs ≡ false → Contains cs c → is_refused (key_of c.key.bucket c.key.value) ≡ false) → (d ≡ c) ⊎ Contains cs c →
        is_refused (key_of c.key.bucket c.key.value) ≡ false
    at true is none rest other = absurd cc
    at false is none rest (inl e) = subst (λ (x : Create). is_refused (key_of x.key.bucket x.key.value) ≡ false) e is
    at false is none rest (inr more) = rest none more

module _ (records : List Record) (index : map.FinMap key_cmp ℕ) (whole : IsWhole records index) (after : List Record) where
  pub whole_after : (ops : Operations) → ops ≡ operations_between (claims_from [] records) (claims_from [] after) → AreAscending 0 after → AreAbove after →
      AreFree ops.creates index → AreApart ops.creates → any_refused ops.creates ≡ false → IsWhole after (index_after ops index)
  unfolding operations_between
  whole_after ops is ascending above free own read = record {
    ascending = ascending;
    above = above;
    indexed = λ key. ap (λ (o : Operations). map.get (index_after o index) key) is
        ∙ indexed_after (claims_from [] records) (claims_from [] after) whole.own index own_now free_now whole.indexed key;
    own = own_now;
    read = λ c h. elim (old_or_fresh (claims_from [] records) (claims_from [] after) c h) [
      | inl old ↦ whole.read c old
      | inr new ↦ all_read ops.creates read c (subst (λ (o : Operations). Contains o.creates c) (sym is) new)
    ];
  }
    where
      free_now : (c : Create) → Contains (fresh (claims_from [] records) (claims_from [] after)) c → claimant (claims_from [] records) c.key ≡ None
      free_now c h = sym (whole.indexed c.key) ∙ free c (subst (λ (o : Operations). Contains o.creates c) (sym is) h)

      own_now : AreApart (claims_from [] after)
      own_now = own_keys_after (claims_from [] records) (claims_from [] after) whole.own free_now (subst (λ (o : Operations). AreApart o.creates) is own)

-- parents stay lower
pub above_push : (rs : List Record) (r : Record) → AreAbove rs → r.parent < r.id → AreAbove (rs ++ r ∷ [])
above_push [] r above lt = (lt, tt)
above_push (q ∷ rs) r above lt = (above.0, above_push rs r above.1 lt)

pub above_renamed : (id : ℕ) (name : List ℕ) (rs : List Record) → AreAbove rs → AreAbove (map (renamed id name) rs)
above_renamed id name [] above = tt
above_renamed id name (r ∷ rs) above =
    let parent = same_parent id name r in let own = same_id id name r in let lt = above.0 in
    (omega (arith, parent, own, lt), above_renamed id name rs above.1)

pub above_filter : (p : Record → Bool) (rs : List Record) → AreAbove rs → AreAbove (filter p rs)
above_filter p [] above = tt
above_filter p (r ∷ rs) above = go (p r) (above_filter p rs above.1)
  where
    go : (b : Bool) → AreAbove (filter p rs) → AreAbove (cond b (r ∷ filter p rs) (filter p rs))
    go true rest = (above.0, rest)
    go false rest = rest

-- an index that gives the same serves as well
pub whole_same : (records : List Record) (index other : map.FinMap key_cmp ℕ) → IsWhole records index → IsSame index other → IsWhole records other
whole_same records index other whole same = record { ascending = whole.ascending; above = whole.above; indexed = λ key. same key ∙ whole.indexed key; own = whole.own; read = whole.read }

-- a step that puts one of these claims
pub same_but_put : (claims : List Create) (first index next : map.FinMap key_cmp ℕ) (i : ℕ) (c : Create) → i < length claims → c ≡ get_or claims i c → next ≡ map.insert index c.key c.origin.row → IsSameBut claims first index → IsSameBut claims first next
same_but_put claims first index next i c lt is e same key apart =
    ap (λ m. map.get m key) e ∙ insert_other keys_total keys_exact index c.key c.origin.row key (apart c (i, lt, sym is)) ∙ same key apart

has_key : (claims : List Create) (key : ClaimKey) → ((c : Create) × Contains claims c × (key ≡ c.key)) ⊎ ((c : Create) → Contains claims c → key ≢ c.key)
has_key claims key = elim (claims_key claims key) [
  | inl none ↦ inr (λ c h e. no_claim claims key c none h (sym e))
  | inr found ↦ inl (found.0, found.1, sym found.2)
]

-- what was put is taken back
pub same_again : (claims : List Create) (first put : map.FinMap key_cmp ℕ) → AreFree claims first → IsSameBut claims first put → IsSame first (without (map (λ (c : Create). c.key) claims) put)
same_again claims first put free same key = elim (has_key claims key) [
  | inl found ↦ removed_key (map (λ (c : Create). c.key) claims) put key (subst (λ k. Contains (map (λ (c : Create). c.key) claims) k) (sym found.2) (in_map (λ (c : Create). c.key) claims found.0 found.1))
      ∙ sym (free found.0 found.1) ∙ ap (map.get first) (sym found.2)
  | inr apart ↦ left_key (map (λ (c : Create). c.key) claims) put key (λ k h e. let other = of_map (λ (c : Create). c.key) claims k h in apart other.0 other.1 (e ∙ sym other.2)) ∙ same key apart
]

-- the same step, of what is put
pub put_on : (claims : List Create) (goal index next : map.FinMap key_cmp ℕ) (i : ℕ) (c : Create) → i < length claims → c ≡ get_or claims i c → next ≡ map.insert index c.key c.origin.row →
    with_claims (drop i claims) index ≡ goal → with_claims (drop (i + 1) claims) next ≡ goal
put_on claims goal index next i c lt is e so_far =
    ap (with_claims (drop (i + 1) claims)) e
    ∙ ap (λ (x : Create). with_claims (drop (i + 1) claims) (map.insert index x.key x.origin.row)) is
    ∙ sym (at_drop_more (λ xs. with_claims xs index) claims i c lt) ∙ so_far

pub whole_follows : (records after : List Record) (index : map.FinMap key_cmp ℕ) (ops : Operations) → IsWhole records index → MayFollow records after ops → IsWhole after (index_after ops index)
whole_follows records after index ops whole may =
    whole_after records index whole after ops may.is may.ascending may.above (λ c h. whole.indexed c.key ∙ may.free c h) may.own may.read

pub follows_free : (records after : List Record) (index : map.FinMap key_cmp ℕ) (ops : Operations) → IsWhole records index → MayFollow records after ops → AreFree ops.creates index
follows_free records after index ops whole may c h = whole.indexed c.key ∙ may.free c h

-- as a method knows it: of records that are seen as these
module _ (seen records : List Record) (index next : map.FinMap key_cmp ℕ) (whole : IsWhole records index) (is_seen : records ≡ seen) (now after : List Record) (ops : Operations) where
  pub whole_then : now ≡ after → next ≡ index_after ops index → MayFollow seen after ops → IsWhole now next
  whole_then e i may =
      subst (λ rs. IsWhole rs next) (sym e) (subst (IsWhole after) (sym i)
      (whole_follows records after index ops whole (subst (λ rs. MayFollow rs after ops) (sym is_seen) may)))

  pub whole_still : now ≡ records → IsSame index next → IsWhole now next
  whole_still e same = subst (λ rs. IsWhole rs next) (sym e) (whole_same records index next whole same)

  pub free_then : MayFollow seen after ops → AreFree ops.creates index
  free_then may = follows_free records after index ops whole (subst (λ rs. MayFollow rs after ops) (sym is_seen) may)
