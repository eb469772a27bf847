-- A part that was read is the part that was spelled, and what was spelled is read again, whatever follows.
use Rattle.std.proofs.Common.{◌≡◌, ℕ, zero, suc, ◌+◌, ◌^◌, ◌<◌, ◌≤◌, Bool, true, false, cond, eqb, ltb, ◌⊎◌, List, [], ◌∷◌, ◌++◌, length, get_or, take, drop, Option, Some, None, refl, sym, ap, subst, ◌∙◌, append_assoc, arith, inl, inr}
use Rattle.std.specs.Int.{Width, w16, w32, w64, byte_len, from_be_bytes, to_be_bytes}
use Rattle.std.specs.List.{flat_map, AllByRecursion}
use Rattle.std.proofs.lemmas.Bool.{cases_lt, ltb-false, le-ltb, eqb-true}
use Rattle.std.proofs.lemmas.List.{take_at, drop_at, take-append-drop, length-append, length-take, get_or-drop, get_or-take, get_or_past}
use Rattle.std.proofs.lemmas.List.Concat.{flat_map-cons}
use Rattle.std.proofs.lemmas.Nat.{be_bytes_2, be_bytes_4, be_bytes_8, from_be_bytes-to_be_bytes_2, from_be_bytes-to_be_bytes_4, from_be_bytes-to_be_bytes_8}
use Rattle.std.proofs.lemmas.Option.{cond_some}
use Rattle.entry_codec.specs.Spelling.{text_bytes, list_bytes}
use Rattle.entry_codec.specs.Reading.{◌>>=◌, Part, both, converted, mapped, tagged, coded, nothing, byte_at, bytes_at, number_at, text_at, repeated, list_at}

abbrev pub IsBytes : List ℕ → Type 0
IsBytes bytes = (i : ℕ) → get_or bytes i 0 < 256

IsBytes-drop : (n : ℕ) (bytes : List ℕ) → IsBytes bytes → IsBytes (drop n bytes)
IsBytes-drop n bytes h i = rw get_or-drop (h (n + i))

IsBytes-take : (n : ℕ) (bytes : List ℕ) → IsBytes bytes → IsBytes (take n bytes)
IsBytes-take n bytes h i =
    elim (cases_lt i n) [
      | inl lt ↦ rw (get_or-take n bytes i 0 lt) (h i)
      | inr le ↦ rw (get_or_past (take n bytes) i 0 (omega (arith, length-take n bytes))) (omega arith)
    ]

pub IsBytes-rest : (b : ℕ) (bytes : List ℕ) → IsBytes (b ∷ bytes) → IsBytes bytes
IsBytes-rest b bytes h i = h (suc i)

-- the value of a step that found one
pub bind_some : {A B : Type 0} (o : Option A) (f : A → Option B) (y : B) → (o >>= f) ≡ Some y → (x : A) × (o ≡ Some x) × (f x ≡ Some y)
bind_some (Some x) f y e = (x, refl, e)
bind_some None f y e = absurd cc

pub bind_is : {A B : Type 0} (o : Option A) (f : A → Option B) (x : A) → o ≡ Some x → (o >>= f) ≡ f x
bind_is o f x e = ap (λ o. o >>= f) e

abbrev found : {A : Type 0} → A → Option A
found x = Some x

pub some_is : {A : Type 0} (x y : A) → found x ≡ found y → x ≡ y
some_is x y e = cc

-- what was taken from the front
pub record Takes (bytes text rest : List ℕ) : Type 0 where
  pub parts : bytes ≡ text ++ rest
  pub rest_fits : IsBytes rest

pub Takes-then : (a x b y c : List ℕ) → Takes a x b → Takes b y c → Takes a (x ++ y) c
Takes-then a x b y c p q = record { parts = p.parts ∙ ap (λ (t : List ℕ). x ++ t) q.parts ∙ sym (append_assoc x y c); rest_fits = q.rest_fits }

pub Takes-behind : (n : ℕ) (bytes text rest : List ℕ) → Takes bytes text rest → Takes (n ∷ bytes) (n ∷ text) rest
Takes-behind n bytes text rest p = record { parts = ap (λ (t : List ℕ). n ∷ t) p.parts; rest_fits = p.rest_fits }

pub record IsPart {A : Type 0} (spell : A → List ℕ) (Fits : A → Type 0) (part : Part A) : Type 0 where
  pub takes : (bytes : List ℕ) (x : A × List ℕ) → IsBytes bytes → part bytes ≡ Some x → Takes bytes (spell x.0) x.1 × Fits x.0
  pub again : (a : A) (rest : List ℕ) → Fits a → part (spell a ++ rest) ≡ Some (a, rest)

-- ---- bytes and numbers

byte_takes : (bytes : List ℕ) (x : ℕ × List ℕ) → IsBytes bytes → byte_at bytes ≡ Some x → Takes bytes (x.0 ∷ []) x.1 × Unit {0}
byte_takes [] x fits e = absurd cc
byte_takes (b ∷ rest) x fits e = subst (λ (y : ℕ × List ℕ). Takes (b ∷ rest) (y.0 ∷ []) y.1 × Unit {0}) (some_is (b, rest) x e) (record { parts = refl; rest_fits = IsBytes-rest b rest fits }, tt)

pub byte-IsPart : IsPart (λ b. b ∷ []) (λ b. Unit {0}) byte_at
byte-IsPart = record { takes = byte_takes; again = λ b rest fits. refl }

-- a test that did not fail
not_none : {A : Type 0} (b : Bool) (x y : A) → cond b None (Some x) ≡ Some y → (b ≡ false) × (x ≡ y)
not_none true x y e = absurd cc
not_none false x y e = (refl, cc)

pub bytes_take : (n : ℕ) (bytes : List ℕ) (x : List ℕ × List ℕ) → IsBytes bytes → bytes_at n bytes ≡ Some x → Takes bytes x.0 x.1 × (length x.0 ≡ n) × IsBytes x.0
unfolding bytes_at
bytes_take n bytes x fits e =
    let g = not_none (ltb (length bytes) n) (take n bytes, drop n bytes) x e in
    let long : n ≤ length bytes = ltb-false _ _ g.0 in
    subst (λ (y : List ℕ × List ℕ). Takes bytes y.0 y.1 × (length y.0 ≡ n) × IsBytes y.0) g.1
    (record { parts = sym (take-append-drop n bytes); rest_fits = IsBytes-drop n bytes fits }, omega (arith, length-take n bytes), IsBytes-take n bytes fits)

pub bytes_again : (n : ℕ) (text rest : List ℕ) → length text ≡ n → bytes_at n (text ++ rest) ≡ Some (text, rest)
unfolding bytes_at
bytes_again n text rest len =
    let long : ltb (length (text ++ rest)) n ≡ false = le-ltb _ _ (omega (arith, length-append text rest)) in
    rw (long, take_at text rest n len, drop_at text rest n len) refl

pub bytes-IsPart : (n : ℕ) → IsPart (λ text. text) (λ text. length text ≡ n) (bytes_at n)
bytes-IsPart n = record { takes = λ bytes x fits e. let t = bytes_take n bytes x fits e in (t.0, t.1); again = bytes_again n }

pub record IsWide (w : Width) (limit : ℕ) : Type 0 where
  pub len : (n : ℕ) → length (to_be_bytes w n) ≡ byte_len w
  pub back : (bytes : List ℕ) → length bytes ≡ byte_len w → IsBytes bytes → to_be_bytes w (from_be_bytes w bytes) ≡ bytes
  pub again : (n : ℕ) → n < limit → from_be_bytes w (to_be_bytes w n) ≡ n
  pub below : (bytes : List ℕ) → IsBytes bytes → from_be_bytes w bytes < limit

pub wide16 : IsWide w16 (2 ^ 16)
wide16 = record {
  len = λ n. refl;
  back = λ bytes len fits. be_bytes_2 bytes _ len fits refl;
  again = λ n lt. from_be_bytes-to_be_bytes_2 n lt;
  below = λ bytes fits. omega (arith, fits 0, fits 1);
}

pub wide32 : IsWide w32 (2 ^ 32)
wide32 = record {
  len = λ n. refl;
  back = λ bytes len fits. be_bytes_4 bytes _ len fits refl;
  again = λ n lt. from_be_bytes-to_be_bytes_4 n lt;
  below = λ bytes fits. omega (arith, fits 0, fits 1, fits 2, fits 3);
}

pub wide64 : IsWide w64 (2 ^ 64)
wide64 = record {
  len = λ n. refl;
  back = λ bytes len fits. be_bytes_8 bytes _ len fits refl;
  again = λ n lt. from_be_bytes-to_be_bytes_8 n lt;
  below = λ bytes fits. omega (arith, fits 0, fits 1, fits 2, fits 3, fits 4, fits 5, fits 6, fits 7);
}

number_takes : (w : Width) (limit : ℕ) → IsWide w limit → (bytes : List ℕ) (x : ℕ × List ℕ) → IsBytes bytes → number_at w bytes ≡ Some x → Takes bytes (to_be_bytes w x.0) x.1 × (x.0 < limit)
unfolding number_at
number_takes w limit wide bytes x fits e =
    let b = bind_some (bytes_at (byte_len w) bytes) (λ b. Some (from_be_bytes w b.0, b.1)) x e in
    let t = bytes_take (byte_len w) bytes b.0 fits b.1 in
    subst (λ (y : ℕ × List ℕ). Takes bytes (to_be_bytes w y.0) y.1 × (y.0 < limit)) (some_is (from_be_bytes w b.0.0, b.0.1) x b.2)
    (subst (λ (text : List ℕ). Takes bytes text b.0.1) (sym (wide.back b.0.0 t.1 t.2)) t.0, wide.below b.0.0 t.2)

number_again : (w : Width) (limit : ℕ) → IsWide w limit → (n : ℕ) (rest : List ℕ) → n < limit → number_at w (to_be_bytes w n ++ rest) ≡ Some (n, rest)
unfolding number_at
number_again w limit wide n rest lt =
    bind_is (bytes_at (byte_len w) (to_be_bytes w n ++ rest)) (λ b. Some (from_be_bytes w b.0, b.1)) (to_be_bytes w n, rest) (bytes_again (byte_len w) (to_be_bytes w n) rest (wide.len n))
    ∙ ap (λ (m : ℕ). Some (m, rest)) (wide.again n lt)

pub number-IsPart : (w : Width) (limit : ℕ) → IsWide w limit → IsPart (to_be_bytes w) (λ n. n < limit) (number_at w)
number-IsPart w limit wide = record { takes = number_takes w limit wide; again = number_again w limit wide }

-- ---- texts

text_takes : (bytes : List ℕ) (x : List ℕ × List ℕ) → IsBytes bytes → text_at bytes ≡ Some x → Takes bytes (text_bytes x.0) x.1 × (length x.0 < 256)
unfolding text_at
text_takes [] x fits e = absurd cc
text_takes (n ∷ rest) x fits e =
    let t = bytes_take n rest x (IsBytes-rest n rest fits) e in
    (subst (λ (k : ℕ). Takes (n ∷ rest) (k ∷ x.0) x.1) (sym t.1) (Takes-behind n rest x.0 x.1 t.0), omega (arith, t.1, fits 0))

text_again : (text rest : List ℕ) → length text < 256 → text_at (text_bytes text ++ rest) ≡ Some (text, rest)
unfolding text_at
text_again text rest lt = bytes_again (length text) text rest refl

pub text-IsPart : IsPart text_bytes (λ text. length text < 256) text_at
text-IsPart = record { takes = text_takes; again = text_again }

-- ---- one part behind another

module _ {A B : Type 0} {f : A → List ℕ} {F : A → Type 0} {first : Part A} {g : B → List ℕ} {G : B → Type 0} {second : Part B} (p : IsPart f F first) (q : IsPart g G second) where
  both_takes : (bytes : List ℕ) (x : (A × B) × List ℕ) → IsBytes bytes → both first second bytes ≡ Some x → Takes bytes (f x.0.0 ++ g x.0.1) x.1 × (F x.0.0 × G x.0.1)
  both_takes bytes x fits e =
      let a = bind_some (first bytes) (λ a. second a.1 >>= λ b. Some ((a.0, b.0), b.1)) x e in
      let b = bind_some (second a.0.1) (λ b. Some ((a.0.0, b.0), b.1)) x a.2 in
      let ta = p.takes bytes a.0 fits a.1 in
      let tb = q.takes a.0.1 b.0 ta.0.rest_fits b.1 in
      let made : (A × B) × List ℕ = ((a.0.0, b.0.0), b.0.1) in
      subst (λ (y : (A × B) × List ℕ). Takes bytes (f y.0.0 ++ g y.0.1) y.1 × (F y.0.0 × G y.0.1)) (some_is made x b.2)
      (Takes-then bytes (f a.0.0) a.0.1 (g b.0.0) b.0.1 ta.0 tb.0, (ta.1, tb.1))

  both_again : (x : A × B) (rest : List ℕ) → F x.0 × G x.1 → both first second ((f x.0 ++ g x.1) ++ rest) ≡ Some (x, rest)
  both_again x rest fits =
      ap (both first second) (append_assoc (f x.0) (g x.1) rest)
      ∙ bind_is (first (f x.0 ++ (g x.1 ++ rest))) (λ a. second a.1 >>= λ b. Some ((a.0, b.0), b.1)) (x.0, g x.1 ++ rest) (p.again x.0 (g x.1 ++ rest) fits.0)
      ∙ bind_is (second (g x.1 ++ rest)) (λ b. Some ((x.0, b.0), b.1)) (x.1, rest) (q.again x.1 rest fits.1)

  pub both-IsPart : IsPart (λ x. f x.0 ++ g x.1) (λ x. F x.0 × G x.1) (both first second)
  both-IsPart = record { takes = both_takes; again = both_again }

-- ---- values of parts

-- what c makes of a part is spelled as the part is, and fits where it does
pub record Converts {A B : Type 0} (f : A → List ℕ) (F : A → Type 0) (c : A → Option B) (g : B → List ℕ) (G : B → Type 0) : Type 0 where
  pub back : (a : A) (b : B) → F a → c a ≡ Some b → (f a ≡ g b) × G b
  pub forth : (b : B) → G b → (a : A) × (c a ≡ Some b) × F a × (f a ≡ g b)

module _ {A B : Type 0} {f : A → List ℕ} {F : A → Type 0} {part : Part A} {c : A → Option B} {g : B → List ℕ} {G : B → Type 0} (p : IsPart f F part) (v : Converts f F c g G) where
  converted_takes : (bytes : List ℕ) (x : B × List ℕ) → IsBytes bytes → converted c part bytes ≡ Some x → Takes bytes (g x.0) x.1 × G x.0
  converted_takes bytes x fits e =
      let a = bind_some (part bytes) (λ a. c a.0 >>= λ b. Some (b, a.1)) x e in
      let b = bind_some (c a.0.0) (λ b. Some (b, a.0.1)) x a.2 in
      let t = p.takes bytes a.0 fits a.1 in
      let is = v.back a.0.0 b.0 t.1 b.1 in
      subst (λ (y : B × List ℕ). Takes bytes (g y.0) y.1 × G y.0) (some_is (b.0, a.0.1) x b.2)
      (subst (λ (text : List ℕ). Takes bytes text a.0.1) is.0 t.0, is.1)

  converted_again : (b : B) (rest : List ℕ) → G b → converted c part (g b ++ rest) ≡ Some (b, rest)
  converted_again b rest fits =
      let a = v.forth b fits in
      ap (λ (text : List ℕ). converted c part (text ++ rest)) (sym a.3)
      ∙ bind_is (part (f a.0 ++ rest)) (λ a. c a.0 >>= λ b. Some (b, a.1)) (a.0, rest) (p.again a.0 rest a.2)
      ∙ bind_is (c a.0) (λ b. Some (b, rest)) b a.1

  pub converted-IsPart : IsPart g G (converted c part)
  converted-IsPart = record { takes = converted_takes; again = converted_again }

-- what passes a test
pub test-Converts : {A : Type 0} {f : A → List ℕ} {F : A → Type 0} {G : A → Type 0} (test : A → Bool) → ((a : A) → F a → test a ≡ true → G a) → ((a : A) → G a → F a × (test a ≡ true)) → Converts f F (λ a. cond (test a) (Some a) None) f G
test-Converts {A} {f} {F} {G} test told tells = record {
  back = λ a b fits e. let is = cond_some (test a) a b e in (ap f is.1, subst G is.1 (told a fits is.0));
  forth = λ a fits. let both = tells a fits in (a, ap (λ (b : Bool). cond b (Some a) None) both.1, both.0, refl);
}

-- the same bytes seen as another value
module _ {A B : Type 0} {f : A → List ℕ} {F : A → Type 0} {part : Part A} (to : A → B) (from : B → A) (g : B → List ℕ) (G : B → Type 0) (p : IsPart f F part)
    (around : (b : B) → to (from b) ≡ b) (spells : (a : A) → f a ≡ g (to a)) (fits_to : (a : A) → F a → G (to a)) (fits_from : (b : B) → G b → F (from b)) where
  mapped_takes : (bytes : List ℕ) (x : B × List ℕ) → IsBytes bytes → mapped to part bytes ≡ Some x → Takes bytes (g x.0) x.1 × G x.0
  mapped_takes bytes x fits e =
      let a = bind_some (part bytes) (λ a. Some (to a.0, a.1)) x e in
      let t = p.takes bytes a.0 fits a.1 in
      subst (λ (y : B × List ℕ). Takes bytes (g y.0) y.1 × G y.0) (some_is (to a.0.0, a.0.1) x a.2)
      (subst (λ (text : List ℕ). Takes bytes text a.0.1) (spells a.0.0) t.0, fits_to a.0.0 t.1)

  mapped_again : (b : B) (rest : List ℕ) → G b → mapped to part (g b ++ rest) ≡ Some (b, rest)
  mapped_again b rest fits =
      let same : g b ≡ f (from b) = sym (spells (from b) ∙ ap g (around b)) in
      ap (λ (text : List ℕ). mapped to part (text ++ rest)) same
      ∙ bind_is (part (f (from b) ++ rest)) (λ a. Some (to a.0, a.1)) (from b, rest) (p.again (from b) rest (fits_from b fits))
      ∙ ap (λ (y : B). Some (y, rest)) (around b)

  pub mapped-IsPart : IsPart g G (mapped to part)
  mapped-IsPart = record { takes = mapped_takes; again = mapped_again }

-- ---- lists

module _ {A : Type 0} {f : A → List ℕ} {F : A → Type 0} {part : Part A} (p : IsPart f F part) where
  repeated_take : (n : ℕ) (bytes : List ℕ) (x : List A × List ℕ) → IsBytes bytes → repeated part n bytes ≡ Some x → Takes bytes (flat_map f x.0) x.1 × (length x.0 ≡ n) × AllByRecursion F x.0
  unfolding repeated
  repeated_take zero bytes x fits e =
      subst (λ (y : List A × List ℕ). Takes bytes (flat_map f y.0) y.1 × (length y.0 ≡ 0) × AllByRecursion F y.0) (some_is ([], bytes) x e) (record { parts = refl; rest_fits = fits }, refl, tt)
  repeated_take (suc n) bytes x fits e =
      let a = bind_some (part bytes) (λ a. repeated part n a.1 >>= λ b. Some (a.0 ∷ b.0, b.1)) x e in
      let b = bind_some (repeated part n a.0.1) (λ b. Some (a.0.0 ∷ b.0, b.1)) x a.2 in
      let ta = p.takes bytes a.0 fits a.1 in
      let tb = repeated_take n a.0.1 b.0 ta.0.rest_fits b.1 in
      let made : List A × List ℕ = (a.0.0 ∷ b.0.0, b.0.1) in
      subst (λ (y : List A × List ℕ). Takes bytes (flat_map f y.0) y.1 × (length y.0 ≡ suc n) × AllByRecursion F y.0) (some_is made x b.2)
      (rw flat_map-cons (Takes-then bytes (f a.0.0) a.0.1 (flat_map f b.0.0) b.0.1 ta.0 tb.0), ap suc tb.1, (ta.1, tb.2))

  repeated_again : (xs : List A) (rest : List ℕ) → AllByRecursion F xs → repeated part (length xs) (flat_map f xs ++ rest) ≡ Some (xs, rest)
  unfolding repeated
  repeated_again [] rest fits = refl
  repeated_again (x ∷ xs) rest fits =
      let regrouped : flat_map f (x ∷ xs) ++ rest ≡ f x ++ (flat_map f xs ++ rest) = ap (λ (t : List ℕ). t ++ rest) (flat_map-cons f x xs) ∙ append_assoc (f x) (flat_map f xs) rest in
      ap (repeated part (suc (length xs))) regrouped
      ∙ bind_is (part (f x ++ (flat_map f xs ++ rest))) (λ a. repeated part (length xs) a.1 >>= λ b. Some (a.0 ∷ b.0, b.1)) (x, flat_map f xs ++ rest) (p.again x (flat_map f xs ++ rest) fits.0)
      ∙ bind_is (repeated part (length xs) (flat_map f xs ++ rest)) (λ b. Some (x ∷ b.0, b.1)) (xs, rest) (repeated_again xs rest fits.1)

  list_takes : (bytes : List ℕ) (x : List A × List ℕ) → IsBytes bytes → list_at part bytes ≡ Some x → Takes bytes (list_bytes f x.0) x.1 × ((length x.0 < 256) × AllByRecursion F x.0)
  unfolding list_at
  list_takes [] x fits e = absurd cc
  list_takes (n ∷ rest) x fits e =
      let t = repeated_take n rest x (IsBytes-rest n rest fits) e in
      (subst (λ (k : ℕ). Takes (n ∷ rest) (k ∷ flat_map f x.0) x.1) (sym t.1) (Takes-behind n rest (flat_map f x.0) x.1 t.0), (omega (arith, t.1, fits 0), t.2))

  list_again : (xs : List A) (rest : List ℕ) → (length xs < 256) × AllByRecursion F xs → list_at part (list_bytes f xs ++ rest) ≡ Some (xs, rest)
  unfolding list_at
  list_again xs rest fits = repeated_again xs rest fits.1

  pub list-IsPart : IsPart (list_bytes f) (λ xs. (length xs < 256) × AllByRecursion F xs) (list_at part)
  list-IsPart = record { takes = list_takes; again = list_again }

-- ---- parts behind a first byte

-- what a part reads behind the first byte n is spelled with it
pub record Arm {B : Type 0} (g : B → List ℕ) (G : B → Type 0) (n : ℕ) (part : Part B) : Type 0 where
  pub takes : (rest : List ℕ) (x : B × List ℕ) → IsBytes rest → part rest ≡ Some x → Takes (n ∷ rest) (g x.0) x.1 × G x.0

-- and so what each of these reads behind its first byte
pub record Arms {B : Type 0} (g : B → List ℕ) (G : B → Type 0) (parts : ℕ → Part B) : Type 0 where
  pub takes : (n : ℕ) (rest : List ℕ) (x : B × List ℕ) → IsBytes rest → parts n rest ≡ Some x → Takes (n ∷ rest) (g x.0) x.1 × G x.0

pub mapped-Arm : {A B : Type 0} {f : A → List ℕ} {F : A → Type 0} {part : Part A} {g : B → List ℕ} {G : B → Type 0} (n : ℕ) (to : A → B) → IsPart f F part → ((a : A) → n ∷ f a ≡ g (to a)) → ((a : A) → F a → G (to a)) → Arm g G n (mapped to part)
mapped-Arm {A} {B} {f} {F} {part} {g} {G} n to p spells fits_to = record {
  takes = λ rest x fits e.
      let a = bind_some (part rest) (λ a. Some (to a.0, a.1)) x e in
      let t = p.takes rest a.0 fits a.1 in
      subst (λ (y : B × List ℕ). Takes (n ∷ rest) (g y.0) y.1 × G y.0) (some_is (to a.0.0, a.0.1) x a.2)
      (subst (λ (text : List ℕ). Takes (n ∷ rest) text a.0.1) (spells a.0.0) (Takes-behind n rest (f a.0.0) a.0.1 t.0), fits_to a.0.0 t.1);
}

chosen : {A : Type 0} (b : Bool) (x y z : A) → cond b x y ≡ z → ((b ≡ true) × (x ≡ z)) ⊎ ((b ≡ false) × (y ≡ z))
chosen true x y z e = inl (refl, e)
chosen false x y z e = inr (refl, e)

pub nothing-Arms : {B : Type 0} {g : B → List ℕ} {G : B → Type 0} → Arms g G nothing
nothing-Arms = record { takes = λ n rest x fits e. absurd cc }

pub coded-Arms : {B : Type 0} {g : B → List ℕ} {G : B → Type 0} {code : ℕ} {part : Part B} {others : ℕ → Part B} → Arm g G code part → Arms g G others → Arms g G (coded code part others)
coded-Arms {B} {g} {G} {code} {part} {others} arm arms = record {
  takes = λ n rest x fits e.
      elim (chosen (eqb n code) (part rest) (others n rest) (Some x) e) [
        | inl here ↦ subst (λ (m : ℕ). Takes (m ∷ rest) (g x.0) x.1 × G x.0) (sym (eqb-true n code here.0)) (arm.takes rest x fits here.1)
        | inr below ↦ arms.takes n rest x fits below.1
      ];
}

pub tagged_takes : {B : Type 0} {g : B → List ℕ} {G : B → Type 0} {parts : ℕ → Part B} → Arms g G parts → (bytes : List ℕ) (x : B × List ℕ) → IsBytes bytes → tagged parts bytes ≡ Some x → Takes bytes (g x.0) x.1 × G x.0
tagged_takes arms [] x fits e = absurd cc
tagged_takes arms (n ∷ rest) x fits e = arms.takes n rest x (IsBytes-rest n rest fits) e
