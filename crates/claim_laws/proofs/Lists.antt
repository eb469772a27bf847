-- What stands among operations.
use Rattle.std.proofs.Common.{◌≡◌, ℕ, zero, suc, ◌+◌, ◌<◌, ◌⊎◌, inl, inr, List, [], ◌∷◌, ◌++◌, map, length, get_or, refl, sym, ◌∙◌, ap, arith}
use Rattle.std.specs.List.{Contains}
use Rattle.std.proofs.lemmas.List.Elements.{Contains-append_left, Contains-append_right}
use Rattle.cells_base.proofs.Members.{in_map}
use Rattle.claim_types.specs.Operations.{keys_of, AreWellFormed}
use Rattle.claim_types.specs.declared.key.ClaimKey.{ClaimKey}
use Rattle.claim_types.specs.declared.operations.Create.{Create}
use Rattle.claim_types.specs.declared.operations.Operations.{Operations}

-- the keys of operations
pub created_key : (ops : Operations) (c : Create) → Contains ops.creates c → Contains (keys_of ops) c.key
created_key ops c h = Contains-append_left (map (λ (x : Create). x.key) ops.creates) ops.destroys c.key (in_map (λ (x : Create). x.key) ops.creates c h)

pub destroyed_key : (ops : Operations) (key : ClaimKey) → Contains ops.destroys key → Contains (keys_of ops) key
destroyed_key ops key h = Contains-append_right (map (λ (x : Create). x.key) ops.creates) ops.destroys key h

-- well-formed operations name no key twice
module _ (ops : Operations) (fine : AreWellFormed ops) where
  creates_before : (cs : List Create) (i : ℕ) (c : Create) (d : ClaimKey) → i < length cs → get_or cs i c ≡ c → get_or (map (λ (x : Create). x.key) cs ++ ops.destroys) i d ≡ c.key
  creates_before [] i c d lt is = absurd (omega (arith, lt))
  creates_before (x ∷ xs) zero c d lt is = ap (λ (y : Create). y.key) is
  creates_before (x ∷ xs) (suc i) c d lt is = creates_before xs i c d (omega (arith, lt)) is

  destroys_behind : (cs : List Create) (i : ℕ) (k d : ClaimKey) → i < length ops.destroys → get_or ops.destroys i k ≡ k → get_or (map (λ (x : Create). x.key) cs ++ ops.destroys) (length cs + i) d ≡ get_or ops.destroys i d
  destroys_behind [] i k d lt is = let first : length {A = Create} [] + i ≡ i = omega arith in ap (λ n. get_or ops.destroys n d) first
  destroys_behind (x ∷ xs) i k d lt is =
      let next : length (x ∷ xs) + i ≡ suc (length xs + i) = omega arith in
      ap (λ n. get_or (x.key ∷ (map (λ (y : Create). y.key) xs ++ ops.destroys)) n d) next ∙ destroys_behind xs i k d lt is

  in_all : (cs : List Create) (i : ℕ) → i < length cs → i < length (map (λ (x : Create). x.key) cs ++ ops.destroys)
  in_all [] i lt = absurd (omega (arith, lt))
  in_all (x ∷ xs) zero lt = omega arith
  in_all (x ∷ xs) (suc i) lt = let rest = in_all xs i (omega (arith, lt)) in omega (arith, rest)

  behind_all : (cs : List Create) (i : ℕ) → i < length ops.destroys → length cs + i < length (map (λ (x : Create). x.key) cs ++ ops.destroys)
  behind_all [] i lt = omega (arith, lt)
  behind_all (x ∷ xs) i lt = let rest = behind_all xs i lt in omega (arith, rest)

  order : (i j : ℕ) → (i ≡ j) ⊎ ((i < j) ⊎ (j < i))
  order zero zero = inl refl
  order zero (suc j) = inr (inl (omega arith))
  order (suc i) zero = inr (inr (omega arith))
  order (suc i) (suc j) = elim (order i j) [ inl e ↦ inl (ap suc e) | inr (inl lt) ↦ inr (inl (omega (arith, lt))) | inr (inr gt) ↦ inr (inr (omega (arith, gt))) ]

  pub one_create : (c d : Create) → Contains ops.creates c → Contains ops.creates d → c.key ≡ d.key → c ≡ d
  one_create c d hc hd same = elim (order hc.0 hd.0) [
    | inl e ↦ sym hc.2 ∙ get_or_default ops.creates hc.0 c d hc.1 ∙ ap (λ n. get_or ops.creates n d) e ∙ hd.2
    | inr (inl lt) ↦ absurd (fine.distinct hc.0 hd.0 c.key lt (in_all ops.creates hd.0 hd.1) (creates_before ops.creates hc.0 c c.key hc.1 hc.2 ∙ same ∙ sym (creates_before ops.creates hd.0 d c.key hd.1 hd.2)))
    | inr (inr gt) ↦ absurd (fine.distinct hd.0 hc.0 c.key gt (in_all ops.creates hc.0 hc.1) (creates_before ops.creates hd.0 d c.key hd.1 hd.2 ∙ sym same ∙ sym (creates_before ops.creates hc.0 c c.key hc.1 hc.2)))
  ]
    where
      get_or_default : {X : Type 0} (xs : List X) (i : ℕ) (x y : X) → i < length xs → get_or xs i x ≡ get_or xs i y
      get_or_default [] i x y lt = absurd (omega (arith, lt))
      get_or_default (z ∷ zs) zero x y lt = refl
      get_or_default (z ∷ zs) (suc i) x y lt = get_or_default zs i x y (omega (arith, lt))

  pub not_both : (c : Create) → Contains ops.creates c → Contains ops.destroys c.key → ⊥
  not_both c hc hd =
      let before : hc.0 < length ops.creates + hd.0 = omega (arith, hc.1) in
      fine.distinct hc.0 (length ops.creates + hd.0) c.key before (behind_all ops.creates hd.0 hd.1)
      (creates_before ops.creates hc.0 c c.key hc.1 hc.2 ∙ sym hd.2 ∙ sym (destroys_behind ops.creates hd.0 c.key c.key hd.1 hd.2))
