-- A configuration that is read without a fault is legal.
use Rattle.std.proofs.Common.{◌≡◌, ℕ, ℤ, pos, negsuc, suc, ◌≤◌, Bool, true, false, ◌&&◌, cond, nat_lt, List, [], ◌∷◌, length, Option, Some, None, is_none, option_map, unwrap_or, option_and_then, refl, sym, ◌∙◌, ap, arith}
use Rattle.std.specs.Prelude.{IsTrue, IfSome}
use Rattle.std.specs.List.{list_all, filter_map, cons_option}
use Rattle.std.proofs.lemmas.Grind.{common_steps}
use Rattle.std.proofs.lemmas.Option.{same_Some}
use Rattle.toml.specs.Data.{Data}
use Rattle.cells_base.specs.Options.{◌or_else◌}
use Rattle.claim_types.specs.declared.cell.Cell.{Cell}
use Rattle.claim_types.specs.declared.limits.TheConstants.{GREATEST_CELL, GREATEST_IDENTIFIER}
use Rattle.cell_registry.specs.declared.limits.TheConstants.{CELLS, DEFAULT_THRESHOLD, GREATEST_THRESHOLD}
use Rattle.cell_registry.specs.declared.fault.Name.TheVariants.{Id, Prefix, Width}
use Rattle.cell_registry.specs.declared.fault.RegistryFault.TheVariants.{TooManyCells, BadValue}
use Rattle.cell_registry.specs.Bounds.{is_within, is_prefix, is_cell, is_registry, repeated_id, overlapping}
use Rattle.cell_registry.specs.Reading.{integer_at, text_at, between, prefix_of, id_in, prefix_in, width_in, cell_with, cell_in, bad_in, first_found, too_many, missing, bad_value, value_fault, cells_fault, registry_of}

-- neither of two is there
neither : {A : Type 0} (x y : Option A) → (x or_else y) ≡ None → (x ≡ None) × (y ≡ None)
neither (Some a) y h = absurd cc
neither None y h = (refl, h)

not_mapped : {A B : Type 0} (f : A → B) (x : Option A) → option_map f x ≡ None → x ≡ None
not_mapped f (Some a) h = absurd cc
not_mapped f None h = refl

-- what was read within bounds is within them
within_if : (b : Bool) (n m : ℕ) → cond b (Some n) None ≡ Some m → (b ≡ true) × (n ≡ m)
within_if true n m h = (refl, same_Some n m h)
within_if false n m h = absurd cc

between-within : (low high : ℕ) (z : ℤ) (n : ℕ) → between low high z ≡ Some n → is_within low high n ≡ true
between-within low high (pos m) n h = let w = within_if (is_within low high m) m n h in ap (is_within low high) (sym w.1) ∙ w.0
between-within low high (negsuc m) n h = absurd cc

read-within : (low high : ℕ) (z : Option ℤ) (n : ℕ) → option_and_then (between low high) z ≡ Some n → is_within low high n ≡ true
read-within low high (Some z) n h = between-within low high z n h
read-within low high None n h = absurd cc

prefix_if : (b : Bool) (s t : List ℕ) → cond b (Some s) None ≡ Some t → (b ≡ true) × (s ≡ t)
prefix_if true s t h = (refl, same_Some s t h)
prefix_if false s t h = absurd cc

read-prefix : (z : Option (List ℕ)) (text : List ℕ) → option_and_then prefix_of z ≡ Some text → is_prefix text ≡ true
read-prefix (Some s) text h = let w = prefix_if (is_prefix s) s text h in ap is_prefix (sym w.1) ∙ w.0
read-prefix None text h = absurd cc

-- each cell that was read is legal
both_true : (a b c : Bool) → a ≡ true → b ≡ true → c ≡ true → (a && b && c) ≡ true
both_true a b c p q r = ap (λ x. x && b && c) p ∙ ap (λ x. x && c) q ∙ r

cell-legal : (id : Option ℕ) (prefix : Option (List ℕ)) (width : Option ℕ) → ((n : ℕ) → id ≡ Some n → is_within 1 GREATEST_CELL n ≡ true) → ((t : List ℕ) → prefix ≡ Some t → is_prefix t ≡ true) → ((n : ℕ) → width ≡ Some n → is_within 1 GREATEST_IDENTIFIER n ≡ true)
    → (rest : List Cell) → list_all is_cell rest ≡ true → list_all is_cell (cons_option (cell_with id prefix width) rest) ≡ true
cell-legal (Some i) (Some p) (Some w) a b c rest h = ap (λ x. x && list_all is_cell rest) (both_true _ _ _ (a i refl) (b p refl) (c w refl)) ∙ h
cell-legal (Some i) (Some p) None a b c rest h = h
cell-legal (Some i) None width a b c rest h = h
cell-legal None prefix width a b c rest h = h

cells-legal : (ds : List Data) → list_all is_cell (filter_map cell_in ds) ≡ true
cells-legal [] = refl
cells-legal (d ∷ ds) =
    cell-legal (id_in d) (prefix_in d) (width_in d)
    (read-within 1 GREATEST_CELL (integer_at Id d)) (read-prefix (text_at Prefix d)) (read-within 1 GREATEST_IDENTIFIER (integer_at Width d))
    (filter_map cell_in ds) (cells-legal ds)

-- a cell that is not bad is read
none_of : (a b c : Bool) → cond a (Some Id) (cond b (Some Prefix) (cond c (Some Width) None)) ≡ None → (a ≡ false) × (b ≡ false) × (c ≡ false)
none_of true b c h = absurd cc
none_of false true c h = absurd cc
none_of false false true h = absurd cc
none_of false false false h = (refl, refl, refl)

cell-read : (id : Option ℕ) (prefix : Option (List ℕ)) (width : Option ℕ) → (is_none id ≡ false) × (is_none prefix ≡ false) × (is_none width ≡ false) → (rest : List Cell) → length (cons_option (cell_with id prefix width) rest) ≡ suc (length rest)
cell-read (Some i) (Some p) (Some w) h rest = refl
cell-read (Some i) (Some p) None h rest = absurd (let e = h.2 in cc)
cell-read (Some i) None width h rest = absurd (let e = h.1 in cc)
cell-read None prefix width h rest = absurd (let e = h.0 in cc)

cells-read : (ds : List Data) → first_found bad_in ds ≡ None → length (filter_map cell_in ds) ≡ length ds
cells-read [] h = refl
cells-read (d ∷ ds) h =
    let parts = neither (bad_in d) (first_found bad_in ds) h in
    cell-read (id_in d) (prefix_in d) (width_in d) (none_of (is_none (id_in d)) (is_none (prefix_in d)) (is_none (width_in d)) parts.0) (filter_map cell_in ds)
    ∙ ap (λ (n : ℕ). suc n) (cells-read ds parts.1)

few : (n : ℕ) → cond (nat_lt CELLS n) (Some TooManyCells) None ≡ None → n ≤ CELLS
few n h = grind (arith, common_steps)

some : (ds : List Data) → missing ds ≡ None → 1 ≤ length ds
some [] h = absurd cc
some (d ∷ ds) h = omega arith

-- the threshold is legal where there is no bad value, and no cell is bad
none-bad : (threshold : Option ℕ) (ds : List Data) → bad_value threshold ds ≡ None → first_found bad_in ds ≡ None
none-bad None ds h = absurd cc
none-bad (Some t) ds h = not_mapped BadValue (first_found bad_in ds) h

threshold-legal : (threshold : Option ℕ) (ds : List Data) → bad_value threshold ds ≡ None → IfSome threshold (λ n. IsTrue (is_within 1 GREATEST_THRESHOLD n)) → is_within 1 GREATEST_THRESHOLD (unwrap_or threshold DEFAULT_THRESHOLD) ≡ true
threshold-legal None ds h bound = absurd cc
threshold-legal (Some t) ds h bound = bound

all_within : (n : ℕ) → 1 ≤ n → n ≤ CELLS → is_within 1 CELLS n ≡ true
all_within n least most = grind (arith, common_steps)

all_true : {a b c d e : Bool} → a ≡ true → b ≡ true → c ≡ true → d ≡ true → e ≡ true → (a && b && c && d && e) ≡ true
all_true {a} {b} {c} {d} {e} p q r s t = ap (λ x. x && b && c && d && e) p ∙ ap (λ x. x && c && d && e) q ∙ ap (λ x. x && d && e) r ∙ ap (λ x. x && e) s ∙ t

-- a legal cell's ranges are not empty
width_if : (a : Bool) (w : ℕ) → (a && is_within 1 GREATEST_IDENTIFIER w) ≡ true → 1 ≤ w
width_if true w h = grind (arith, common_steps)
width_if false w h = absurd cc

pub wide : (c : Cell) → is_cell c ≡ true → 1 ≤ c.width
wide c h = width_if (is_within 1 GREATEST_CELL c.id && is_prefix c.prefix) c.width h

pub legal : (threshold : Option ℕ) (ds : List Data) → IfSome threshold (λ n. IsTrue (is_within 1 GREATEST_THRESHOLD n)) → value_fault threshold ds ≡ None → cells_fault (filter_map cell_in ds) ≡ None → is_registry (registry_of threshold ds) ≡ true
legal threshold ds bound values cells =
    let count = neither (too_many ds) (missing ds or_else bad_value threshold ds) values in
    let members = neither (missing ds) (bad_value threshold ds) count.1 in
    let clashes = neither (repeated_id [] (filter_map cell_in ds)) (overlapping (filter_map cell_in ds)) cells in
    let all : length (filter_map cell_in ds) ≡ length ds = cells-read ds (none-bad threshold ds members.1) in
    let most : length ds ≤ CELLS = few (length ds) count.0 in
    let least : 1 ≤ length ds = some ds members.0 in
    all_true
    (all_within (length (filter_map cell_in ds)) (omega arith) (omega arith)) (cells-legal ds)
    (ap is_none clashes.0) (ap is_none clashes.1)
    (threshold-legal threshold ds members.1 bound)
