-- The claims that a rename creates have keys of their own.
use Rattle.std.proofs.Common.{◌≡◌, ◌≢◌, inl, inr, ℕ, ◌+◌, ◌<◌, true, false, nat_eq, List, [], ◌∷◌, ◌++◌, length, take, drop, get_or, refl, sym, ◌∙◌, ap, subst}
use Rattle.std.specs.List.{Contains}
use Rattle.std.specs.Cmp.Lexicographic.{bytes_decides, pointwise}
use Rattle.std.proofs.lemmas.List.{take-append-drop, at_drop_more}
use Rattle.claim_types.specs.declared.operations.Create.{Create}
use Rattle.claim_types.specs.declared.operations.Operations.{Operations}
use Rattle.claim_types.specs.declared.record.Record.{Record}
use Rattle.claim_map.specs.Trees.{AreAscending, AreApart}
use Rattle.claim_map.specs.Claims.{text_of, claim_of_record, claims_from}
use Rattle.record_tree.specs.Between.{between_renamed}
use Rattle.record_tree.specs.Moved.{Moved, moved_among}
use Rattle.record_tree.proofs.Moves.{lower}
use Rattle.record_tree.proofs.Whole.{claims_append, renamed_walked, rename_operations}
use Rattle.record_tree.proofs.Creates.{same_operations}
use Rattle.record_tree.proofs.Prefixes.{ArePairs, pairs_among, own_keys_moved}
use Rattle.record_tree.proofs.Indexes.{fresh_split}
use Rattle.cells_base.proofs.Members.{nowhere, here_or_later}
use Rattle.cells_base.proofs.Truth.{true_or_false}

pub none_own : AreApart []
none_own c d hc hd same = absurd (nowhere c hc)

pub one_own : (x : Create) → AreApart (x ∷ [])
one_own x c d hc hd same = elim (here_or_later x [] c hc) [
  | inl e ↦ elim (here_or_later x [] d hd) [ inl f ↦ sym e ∙ f | inr rest ↦ absurd (nowhere d rest) ]
  | inr rest ↦ absurd (nowhere c rest)
]

append_nil : (xs : List ℕ) → xs ++ [] ≡ xs
append_nil [] = refl
append_nil (x ∷ xs) = ap (λ ys. x ∷ ys) (append_nil xs)

module _ (front rest : List Record) (r : Record) (up : AreAscending 0 (front ++ (r ∷ rest))) (name : List ℕ) (own : AreApart (claims_from [] (front ++ (r ∷ rest)))) where
  abbrev e : List Create
  e = claims_from [] front

  abbrev q : Record
  q = record r { name = name }

  abbrev m : Moved
  m = moved_among (record { before = claim_of_record e r ∷ []; afterwards = claim_of_record e q ∷ [] }) rest

  own_moved : lower r.name ≢ lower name → AreApart m.afterwards
  own_moved apart = own_keys_moved (text_of e r) (text_of e q) m.before m.afterwards pairs
      (λ c d hc hd. own c d (in_before c hc) (in_before d hd))
    where
      pairs : ArePairs (text_of e r) (text_of e q) m.before m.afterwards
      pairs = pairs_among (text_of e r) (text_of e q) (record { before = claim_of_record e r ∷ []; afterwards = claim_of_record e q ∷ [] }) rest
          (record { rest = []; small = refl; was = sym (append_nil (lower (text_of e r))); is = sym (append_nil (lower (text_of e q))); bucket = refl; subject = refl; origin = refl }, tt)

      in_before : (c : Create) → Contains m.before c → Contains (claims_from [] (front ++ (r ∷ rest))) c
      in_before c h = subst (λ cs. Contains cs c) (sym (claims_append [] front (r ∷ rest)))
          (fresh_split (claims_from e (q ∷ rest)) (claims_from e (r ∷ rest)) c (subst (λ cs. Contains cs c) (sym (renamed_walked front rest r up name apart).old) h)).0

  pub own_renamed : AreApart (between_renamed (front ++ (r ∷ rest)) r.id name).creates
  own_renamed = elim (true_or_false (pointwise nat_eq (lower r.name) (lower name))) [
    | inl same ↦ subst (λ (o : Operations). AreApart o.creates) (sym (same_operations front rest r up name ((bytes_decides (lower r.name) (lower name)).0 same))) none_own
    | inr other ↦
        let apart : lower r.name ≢ lower name = λ h. (let both : true ≡ false = sym ((bytes_decides (lower r.name) (lower name)).1 h) ∙ other in cc) in
        subst (λ (o : Operations). AreApart o.creates) (sym (rename_operations front rest r up name apart)) (own_moved apart)
  ]

pub own_in_place : (records : List Record) (at : ℕ) (r : Record) → AreAscending 0 records → at < length records → r ≡ get_or records at r → (name : List ℕ) → AreApart (claims_from [] records) → AreApart (between_renamed records r.id name).creates
own_in_place records at r ascending within is name own =
    subst (λ xs. AreApart (between_renamed xs r.id name).creates) (sym parted)
    (own_renamed (take at records) (drop (at + 1) records) r (subst (AreAscending 0) parted ascending) name (subst (λ xs. AreApart (claims_from [] xs)) parted own))
  where
    parted : records ≡ take at records ++ (r ∷ drop (at + 1) records)
    parted =
        sym (take-append-drop at records)
        ∙ ap (λ xs. take at records ++ xs) (at_drop_more (λ xs. xs) records at r within ∙ ap (λ x. x ∷ drop (at + 1) records) (sym is))
