-- What is fresh where claims in order of their records grow at the end.
use Rattle.std.proofs.Common.{◌≡◌, ◌≢◌, ℕ, ◌<◌, ◌≤◌, Bool, true, false, not, ◌||◌, cond, List, [], ◌∷◌, ◌++◌, refl, sym, ◌∙◌, ap, arith}
use Rattle.std.proofs.lemmas.List.Elements.{filter-append}
use Rattle.std.proofs.lemmas.List.Folds.{list_any-append}
use Rattle.claim_types.specs.Order.{create_eq}
use Rattle.claim_types.specs.declared.operations.Create.{Create}
use Rattle.claim_types.proofs.Equal.{Decides-create}
use Rattle.claim_map.specs.Claims.{is_among}
use Rattle.record_tree.specs.Fresh.{fresh, UpTo}
use Rattle.cells_base.proofs.Truth.{not_true}

pub up_to_push : (last : ℕ) (cs : List Create) (c : Create) → UpTo last cs → c.origin.row ≤ last → UpTo last (cs ++ c ∷ [])
up_to_push last [] c up le = (le, tt)
up_to_push last (d ∷ cs) c up le = (up.0, up_to_push last cs c up.1 le)

pub up_to_more : (last more : ℕ) (cs : List Create) → last ≤ more → UpTo last cs → UpTo more cs
up_to_more last more [] le up = tt
up_to_more last more (c ∷ cs) le up = let first = up.0 in (omega (arith, le, first), up_to_more last more cs le up.1)

-- claims of two records differ
pub other_row : (a b : Create) → a.origin.row ≢ b.origin.row → create_eq a b ≡ false
other_row a b apart = not_true (create_eq a b) (λ h. apart (ap (λ (c : Create). c.origin.row) ((Decides-create a b).0 h)))

pub eq_itself : (a : Create) → create_eq a a ≡ true
eq_itself a = (Decides-create a a).1 refl

below_apart : (m n : ℕ) → m < n → m ≢ n
below_apart m n lt e = omega (arith, lt, e)

above_apart : (m n : ℕ) → m < n → n ≢ m
above_apart m n lt e = omega (arith, lt, e)

or_false : (b : Bool) → (b || false) ≡ b
or_false true = refl
or_false false = refl

-- a claim of a later record is not among these
pub not_among : (last : ℕ) (cs : List Create) (c : Create) → UpTo last cs → last < c.origin.row → is_among cs c ≡ false
not_among last [] c up lt = refl
not_among last (d ∷ cs) c up lt =
    let le = up.0 in
    let apart : d.origin.row ≢ c.origin.row = below_apart d.origin.row c.origin.row (omega (arith, le, lt)) in
    ap (λ b. b || is_among cs c) (other_row d c apart) ∙ not_among last cs c up.1 lt

-- a claim of a later record changes nothing for earlier ones
among_push : (last : ℕ) (cs : List Create) (c d : Create) → d.origin.row ≤ last → last < c.origin.row → is_among (cs ++ c ∷ []) d ≡ is_among cs d
among_push last cs c d le lt =
    list_any-append (λ (x : Create). create_eq x d) cs (c ∷ [])
    ∙ ap (λ b. is_among cs d || (b || false)) (other_row c d (above_apart d.origin.row c.origin.row (omega (arith, le, lt))))
    ∙ or_false (is_among cs d)

front_stays : (last : ℕ) (before : List Create) (c : Create) (afterwards : List Create) → UpTo last afterwards → last < c.origin.row → fresh (before ++ c ∷ []) afterwards ≡ fresh before afterwards
front_stays last before c [] up lt = refl
front_stays last before c (d ∷ ds) up lt =
    ap (λ b. cond (not b) (d ∷ fresh (before ++ c ∷ []) ds) (fresh (before ++ c ∷ []) ds)) (among_push last before c d up.0 lt)
    ∙ ap (λ xs. cond (not (is_among before d)) (d ∷ xs) xs) (front_stays last before c ds up.1 lt)

-- one claim more on both sides, of one record
pub fresh_push : (last : ℕ) (before afterwards : List Create) (c d : Create) → UpTo last before → UpTo last afterwards → last < c.origin.row → last < d.origin.row →
    fresh (before ++ c ∷ []) (afterwards ++ d ∷ []) ≡ fresh before afterwards ++ cond (create_eq c d) [] (d ∷ [])
fresh_push last before afterwards c d up up' lt lt' =
    filter-append (λ (x : Create). not (is_among (before ++ c ∷ []) x)) afterwards (d ∷ [])
    ∙ ap (λ xs. xs ++ cond (not (is_among (before ++ c ∷ []) d)) (d ∷ []) []) (front_stays last before c afterwards up' lt)
    ∙ ap (λ b. fresh before afterwards ++ cond (not b) (d ∷ []) []) own
    ∙ ap (λ xs. fresh before afterwards ++ xs) (turned (create_eq c d))
  where
    own : is_among (before ++ c ∷ []) d ≡ create_eq c d
    own = list_any-append (λ (x : Create). create_eq x d) before (c ∷ [])
        ∙ ap (λ b. b || (create_eq c d || false)) (not_among last before d up lt')
        ∙ or_false (create_eq c d)

    turned : (b : Bool) → cond (not b) (d ∷ []) [] ≡ cond b [] (d ∷ [])
    turned true = refl
    turned false = refl

-- one claim more afterwards alone
pub fresh_one : (last : ℕ) (before afterwards : List Create) (d : Create) → UpTo last before → last < d.origin.row → fresh before (afterwards ++ d ∷ []) ≡ fresh before afterwards ++ d ∷ []
fresh_one last before afterwards d up lt =
    filter-append (λ (x : Create). not (is_among before x)) afterwards (d ∷ [])
    ∙ ap (λ b. fresh before afterwards ++ cond (not b) (d ∷ []) []) (not_among last before d up lt)

-- nothing of the same claims is fresh, nor where more are before
pub fresh_none : (front cs rest : List Create) → fresh (front ++ (cs ++ rest)) cs ≡ []
fresh_none front [] rest = refl
fresh_none front (c ∷ cs) rest =
    ap (λ b. cond (not b) (c ∷ fresh (front ++ (c ∷ (cs ++ rest))) cs) (fresh (front ++ (c ∷ (cs ++ rest))) cs)) among
    ∙ ap (λ xs. fresh xs cs) (sym (push front c (cs ++ rest)))
    ∙ fresh_none (front ++ c ∷ []) cs rest
  where
    push : (xs : List Create) (x : Create) (ys : List Create) → (xs ++ x ∷ []) ++ ys ≡ xs ++ (x ∷ ys)
    push [] x ys = refl
    push (y ∷ xs) x ys = ap (λ zs. y ∷ zs) (push xs x ys)

    or_true : (b : Bool) → (b || true) ≡ true
    or_true true = refl
    or_true false = refl

    among : is_among (front ++ (c ∷ (cs ++ rest))) c ≡ true
    among = list_any-append (λ (x : Create). create_eq x c) front (c ∷ (cs ++ rest))
        ∙ ap (λ b. is_among front c || (b || is_among (cs ++ rest) c)) (eq_itself c) ∙ or_true (is_among front c)

append_nil : (cs : List Create) → cs ++ [] ≡ cs
append_nil [] = refl
append_nil (c ∷ cs) = ap (λ xs. c ∷ xs) (append_nil cs)

pub fresh_same : (cs : List Create) → fresh cs cs ≡ []
fresh_same cs = ap (λ xs. fresh xs cs) (sym (append_nil cs)) ∙ fresh_none [] cs []

pub fresh_front : (cs rest : List Create) → fresh (cs ++ rest) cs ≡ []
fresh_front cs rest = fresh_none [] cs rest
