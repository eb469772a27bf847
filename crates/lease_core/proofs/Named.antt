-- Which keys operations name.
use Rattle.std.proofs.Common.{◌≡◌, Bool, true, false, ◌||◌, List, [], ◌∷◌, map, refl, sym, ◌∙◌, ap}
use Rattle.std.specs.List.{list_any}
use Rattle.std.proofs.lemmas.List.Folds.{list_any-append}
use Rattle.claim_types.specs.Order.{key_eq}
use Rattle.claim_types.specs.declared.key.ClaimKey.{ClaimKey}
use Rattle.claim_types.specs.declared.operations.Create.{Create}
use Rattle.claim_types.specs.declared.operations.Operations.{Operations}
use Rattle.claim_map.specs.Verdict.{names}

pub list_any-map : {A B : Type 0} (f : A → B) (p : B → Bool) (xs : List A) → list_any (λ x. p (f x)) xs ≡ list_any p (map f xs)
list_any-map f p [] = refl
list_any-map f p (x ∷ xs) = ap (λ b. p (f x) || b) (list_any-map f p xs)

-- a key that no create has is named where it is destroyed
module _ (ops : Operations) (key : ClaimKey) where
  in_parts : names ops key ≡ (list_any (λ (c : Create). key_eq c.key key) ops.creates || list_any (λ k. key_eq k key) ops.destroys)
  in_parts = list_any-append (λ k. key_eq k key) (map (λ (c : Create). c.key) ops.creates) ops.destroys
      ∙ ap (λ b. b || list_any (λ k. key_eq k key) ops.destroys) (sym (list_any-map (λ (c : Create). c.key) (λ k. key_eq k key) ops.creates))

  pub is_created : true ≡ list_any (λ (c : Create). key_eq c.key key) ops.creates → true ≡ names ops key
  is_created h = sym (in_parts ∙ ap (λ b. b || list_any (λ k. key_eq k key) ops.destroys) (sym h))

  pub not_created : false ≡ list_any (λ (c : Create). key_eq c.key key) ops.creates → list_any (λ k. key_eq k key) ops.destroys ≡ names ops key
  not_created h = sym (in_parts ∙ ap (λ b. b || list_any (λ k. key_eq k key) ops.destroys) (sym h))
