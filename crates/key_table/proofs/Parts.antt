-- What a change of a key's state is for the two maps.
use Rattle.std.proofs.Common.{◌≡◌, Option, Some, None, List, ℕ, refl, sym, ◌∙◌, ap, subst, rules}
use Rattle.std.specs.Prelude.{IsSome}
use Rattle.std.specs.FinMap as map
use Rattle.std.specs.FinMap.{FinMap, get-empty, same_map}
use Rattle.claim_types.specs.Order.{key_cmp}
use Rattle.claim_types.specs.declared.key.ClaimKey.{ClaimKey}
use Rattle.claim_types.specs.declared.lease.LeaseId.{LeaseId}
use Rattle.claim_types.specs.declared.lease.Holding.{Holding}
use Rattle.claim_types.proofs.Ordered.{keys_total, keys_exact}
use Rattle.key_table.specs.declared.keys.KeyState.{KeyState}
use Rattle.key_table.specs.Picked.{picked}
use Rattle.key_table.specs.Parts.{KeyParts, no_keys, parts_of, with_name, without_name, with_holder, without_key}
use Rattle.key_table.proofs.Picked.{what_gives, get_picked, picked_some, picked_none, picked_same, picked_less, picked_without}

abbrev holder_of : KeyState → Option Holding
holder_of s = s.holder

abbrev named_of : KeyState → Option LeaseId
named_of s = s.named

-- what a state says of a key
abbrev holder_in : Option KeyState → Option Holding
holder_in o = what_gives holder_of o

pub holder_there : (states : FinMap key_cmp KeyState) (k : ClaimKey) → map.get (parts_of states).holder k ≡ holder_in (map.get states k)
holder_there states k = get_picked keys_total holder_of states k

pub named_there : (states : FinMap key_cmp KeyState) (k : ClaimKey) → map.get (parts_of states).named k ≡ what_gives named_of (map.get states k)
named_there states k = get_picked keys_total named_of states k

no_value : {A : Type 0} (o : Option A) → IsSome o → o ≡ None → ⊥
no_value None h e = cc
no_value (Some x) h e = cc

some_state : (o : Option KeyState) → IsSome (what_gives named_of o) → IsSome o
some_state None h = h
some_state (Some s) h = search rules

pub named_is_there : (states : FinMap key_cmp KeyState) (k : ClaimKey) → IsSome (map.get (parts_of states).named k) → IsSome (map.get states k)
named_is_there states k h = some_state (map.get states k) (subst IsSome (named_there states k) h)

pub of_none : parts_of map.empty ≡ no_keys
of_none = λ i. record {
  holder = same_map keys_total keys_exact (picked holder_of map.empty) map.empty (λ q. get_picked keys_total holder_of map.empty q ∙ ap (what_gives holder_of) (get-empty key_cmp q) ∙ sym (get-empty key_cmp q)) i;
  named = same_map keys_total keys_exact (picked named_of map.empty) map.empty (λ q. get_picked keys_total named_of map.empty q ∙ ap (what_gives named_of) (get-empty key_cmp q) ∙ sym (get-empty key_cmp q)) i;
}

module _ (states : FinMap key_cmp KeyState) (k : ClaimKey) where
  abbrev with_state : Option Holding → Option LeaseId → FinMap key_cmp KeyState
  with_state h n = map.insert states k (record { holder = h; named = n })

  named : (h : Option Holding) (l : LeaseId) → h ≡ map.get (parts_of states).holder k → parts_of (with_state h (Some l)) ≡ with_name (parts_of states) k l
  named h l is = λ i. record {
    holder = picked_same keys_total holder_of keys_exact states k (record { holder = h; named = Some l }) (is ∙ holder_there states k) i;
    named = picked_some keys_total named_of keys_exact states k (record { holder = h; named = Some l }) l refl i;
  }

  unnamed : (h : Option Holding) → h ≡ map.get (parts_of states).holder k → parts_of (with_state h None) ≡ without_name (parts_of states) k
  unnamed h is = λ i. record {
    holder = picked_same keys_total holder_of keys_exact states k (record { holder = h; named = None }) (is ∙ holder_there states k) i;
    named = picked_none keys_total named_of keys_exact states k (record { holder = h; named = None }) refl i;
  }

  dropped : map.get (parts_of states).holder k ≡ None → parts_of (map.remove states k) ≡ without_name (parts_of states) k
  dropped is = λ i. record {
    holder = picked_less keys_total holder_of keys_exact states k (sym (holder_there states k) ∙ is) i;
    named = picked_without keys_total named_of keys_exact states k i;
  }

  claimed : (h : Holding) → parts_of (with_state (Some h) None) ≡ with_holder (parts_of states) k h
  claimed h = λ i. record {
    holder = picked_some keys_total holder_of keys_exact states k (record { holder = Some h; named = None }) h refl i;
    named = picked_none keys_total named_of keys_exact states k (record { holder = Some h; named = None }) refl i;
  }

  released : parts_of (map.remove states k) ≡ without_key (parts_of states) k
  released = λ i. record {
    holder = picked_without keys_total holder_of keys_exact states k i;
    named = picked_without keys_total named_of keys_exact states k i;
  }

-- what a call on the states came to, for the whole that is `old`, where the key was named by its bucket and a copy of its value
module _ (states : FinMap key_cmp KeyState) (old : KeyParts) (view_is : parts_of states ≡ old) (key : ClaimKey) (v : List ℕ) (same : v ≡ key.value) where
  abbrev pub copied_key : ClaimKey
  copied_key = record { bucket = key.bucket; value = v }

  one_key : copied_key ≡ key
  one_key = λ i. record { bucket = key.bucket; value = same i }

  pub sought : (o : Option KeyState) → o ≡ map.get states copied_key → (map.get old.holder key ≡ what_gives holder_of o) × (map.get old.named key ≡ what_gives named_of o)
  sought o is =
      let at : o ≡ map.get states key = is ∙ ap (map.get states) one_key in
      (ap (λ (p : KeyParts). map.get p.holder key) (sym view_is) ∙ holder_there states key ∙ ap (what_gives holder_of) (sym at), ap (λ (p : KeyParts). map.get p.named key) (sym view_is) ∙ named_there states key ∙ ap (what_gives named_of) (sym at))

  pub has_entry : IsSome (map.get old.named key) → IsSome (map.get states copied_key)
  has_entry h = subst (λ k. IsSome (map.get states k)) (sym one_key) (named_is_there states key (subst (λ (p : KeyParts). IsSome (map.get p.named key)) (sym view_is) h))

  pub has_held : IsSome (map.get old.holder key) → IsSome (map.get states copied_key)
  has_held there = held (map.get states copied_key) refl
    where
      held : (o : Option KeyState) → map.get states copied_key ≡ o → IsSome o
      held None none = absurd (no_value (map.get old.holder key) there (sought None (sym none)).0)
      held (Some s) some = search rules

  holds : (h : Option Holding) → h ≡ map.get old.holder key → h ≡ map.get (parts_of states).holder key
  holds h is = is ∙ ap (λ (p : KeyParts). map.get p.holder key) (sym view_is)

  pub then_named : (new : FinMap key_cmp KeyState) (h : Option Holding) (l : LeaseId) → h ≡ map.get old.holder key → new ≡ map.insert states copied_key (record { holder = h; named = Some l }) → parts_of new ≡ with_name old key l
  then_named new h l is put = ap parts_of (put ∙ ap (λ k. map.insert states k (record { holder = h; named = Some l })) one_key) ∙ named states key h l (holds h is) ∙ ap (λ (p : KeyParts). with_name p key l) view_is

  pub then_unnamed : (new : FinMap key_cmp KeyState) (h : Option Holding) → h ≡ map.get old.holder key → new ≡ map.insert states copied_key (record { holder = h; named = None }) → parts_of new ≡ without_name old key
  then_unnamed new h is put = ap parts_of (put ∙ ap (λ k. map.insert states k (record { holder = h; named = None })) one_key) ∙ unnamed states key h (holds h is) ∙ ap (λ (p : KeyParts). without_name p key) view_is

  pub then_dropped : (new : FinMap key_cmp KeyState) → None ≡ map.get old.holder key → new ≡ map.remove states copied_key → parts_of new ≡ without_name old key
  then_dropped new is less = ap parts_of (less ∙ ap (map.remove states) one_key) ∙ dropped states key (sym (holds None is)) ∙ ap (λ (p : KeyParts). without_name p key) view_is

  pub then_claimed : (new : FinMap key_cmp KeyState) (h : Holding) → new ≡ map.insert states copied_key (record { holder = Some h; named = None }) → parts_of new ≡ with_holder old key h
  then_claimed new h put = ap parts_of (put ∙ ap (λ k. map.insert states k (record { holder = Some h; named = None })) one_key) ∙ claimed states key h ∙ ap (λ (p : KeyParts). with_holder p key h) view_is

  pub then_released : (new : FinMap key_cmp KeyState) → new ≡ map.remove states copied_key → parts_of new ≡ without_key old key
  then_released new less = ap parts_of (less ∙ ap (map.remove states) one_key) ∙ released states key ∙ ap (λ (p : KeyParts). without_key p key) view_is
