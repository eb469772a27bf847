-- Whether a key of some operations stood earlier among them.
use Rattle.std.proofs.Common.{◌≡◌, ℕ, ◌+◌, ◌-◌, ◌<◌, ◌≤◌, true, false, ◌||◌, cond, List, [], ◌∷◌, ◌++◌, map, length, take, length-append, drop, get_or, Some, sym, ◌∙◌, ap, subst, arith}
use Rattle.std.specs.List.{list_any}
use Rattle.std.proofs.lemmas.List.{take-append-le, take-map, take_more, at_drop_more, length-take-le, length-map}
use Rattle.std.proofs.lemmas.List.Folds.{list_any-append}
use Rattle.std.proofs.Math.Seq.{take-append-add}
use Rattle.claim_types.specs.Order.{key_eq}
use Rattle.claim_types.specs.Operations.{keys_of}
use Rattle.claim_types.specs.declared.key.ClaimKey.{ClaimKey}
use Rattle.claim_types.specs.declared.operations.Create.{Create}
use Rattle.claim_types.specs.declared.operations.Operations.{Operations}
use Rattle.claim_map.specs.Verdict.{first_repeated}
use Rattle.lease_core.proofs.Named.{list_any-map}

module _ (ops : Operations) (index : ℕ) (key : ClaimKey) where
  -- the keys before a place among the creates are those of creates
  pub before_created : index ≤ length ops.creates → list_any (λ (c : Create). key_eq c.key key) (take index ops.creates) ≡ list_any (λ k. key_eq k key) (take index (keys_of ops))
  before_created le =
      list_any-map (λ (c : Create). c.key) (λ k. key_eq k key) (take index ops.creates)
      ∙ ap (list_any (λ k. key_eq k key)) (sym (take-map (λ (c : Create). c.key) index ops.creates) ∙ sym (take-append-le index (map (λ (c : Create). c.key) ops.creates) ops.destroys (subst (λ n. index ≤ n) (sym (length-map ops.creates (λ (c : Create). c.key))) le)))

  -- and those before a place among the destroys are all of the creates', and then destroyed ones
  before_destroyed : length ops.creates ≤ index → (list_any (λ (c : Create). key_eq c.key key) ops.creates || list_any (λ k. key_eq k key) (take (index - length ops.creates) ops.destroys)) ≡ list_any (λ k. key_eq k key) (take index (keys_of ops))
  before_destroyed le =
      let created = map (λ (c : Create). c.key) ops.creates in
      let same : length created + (index - length ops.creates) ≡ index = omega (arith, length-map ops.creates (λ (c : Create). c.key)) in
      ap (λ b. b || list_any (λ k. key_eq k key) (take (index - length ops.creates) ops.destroys)) (list_any-map (λ (c : Create). c.key) (λ k. key_eq k key) ops.creates)
      ∙ sym (list_any-append (λ k. key_eq k key) created (take (index - length ops.creates) ops.destroys))
      ∙ ap (list_any (λ k. key_eq k key)) (sym (take-append-add created ops.destroys (index - length ops.creates)) ∙ ap (λ n. take n (created ++ ops.destroys)) same)

  pub created_before : length ops.creates ≤ index → true ≡ list_any (λ (c : Create). key_eq c.key key) ops.creates → true ≡ list_any (λ k. key_eq k key) (take index (keys_of ops))
  created_before le h = ap (λ b. b || list_any (λ k. key_eq k key) (take (index - length ops.creates) ops.destroys)) h ∙ before_destroyed le

  pub destroyed_before : length ops.creates ≤ index → false ≡ list_any (λ (c : Create). key_eq c.key key) ops.creates → list_any (λ k. key_eq k key) (take (index - length ops.creates) ops.destroys) ≡ list_any (λ k. key_eq k key) (take index (keys_of ops))
  destroyed_before le h = ap (λ b. b || list_any (λ k. key_eq k key) (take (index - length ops.creates) ops.destroys)) h ∙ before_destroyed le

-- the steps of a scan that has found no key twice below i
module _ (keys : List ClaimKey) (i : ℕ) (so_far : first_repeated (take i keys) (drop i keys) ≡ first_repeated [] keys) where
  module _ (x : ClaimKey) (lt : i < length keys) (is : x ≡ get_or keys i x) where
    at_here : first_repeated (take i keys) (x ∷ drop (i + 1) keys) ≡ first_repeated [] keys
    at_here = ap (λ y. first_repeated (take i keys) (y ∷ drop (i + 1) keys)) is ∙ sym (at_drop_more (first_repeated (take i keys)) keys i x lt) ∙ so_far

    pub repeated_here : true ≡ list_any (λ k. key_eq k x) (take i keys) → Some i ≡ first_repeated [] keys
    repeated_here h =
        ap Some (sym (length-take-le i keys (omega arith)))
        ∙ ap (λ b. cond b (Some (length (take i keys))) (first_repeated (take i keys ++ x ∷ []) (drop (i + 1) keys))) h
        ∙ at_here

    pub not_here : false ≡ list_any (λ k. key_eq k x) (take i keys) → first_repeated (take (i + 1) keys) (drop (i + 1) keys) ≡ first_repeated [] keys
    not_here h =
        ap (λ l. first_repeated l (drop (i + 1) keys)) (take_more keys i x lt ∙ ap (λ y. take i keys ++ y ∷ []) (sym is))
        ∙ ap (λ b. cond b (Some (length (take i keys))) (first_repeated (take i keys ++ x ∷ []) (drop (i + 1) keys))) h
        ∙ at_here

pub keys_count : (ops : Operations) → length (keys_of ops) ≡ length ops.creates + length ops.destroys
keys_count ops = grind (arith, length-map, length-append)
