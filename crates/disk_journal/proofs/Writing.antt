-- What a write behind the closed gate, and one of the gate, leave of a journal.
use Rattle.std.proofs.Common.{◌≡◌, ◌≢◌, ◌⊎◌, inl, inr, ℕ, ◌+◌, List, [], ◌∷◌, ◌++◌, length, take, drop, get_or, refl, sym, ◌∙◌, ap, subst, arith, append_assoc, length-append, take-append-drop}
use Rattle.std.proofs.lemmas.List.{take_at, drop_at, drop_more, take_all, drop_all, append-nil}
use Rattle.std.proofs.lemmas.Bool.{cases_eq}
use Rattle.disk_journal.specs.Disk.{Holds, Torn}
use Rattle.disk_journal.specs.Journal.{header, framed, IsBody, AreRecords, IsJournal}
use Rattle.disk_journal.specs.declared.limits.TheConstants.{HEADER_BYTES}

pub length-framed : (body : List ℕ) → length (framed body) ≡ 4 + length body
length-framed body = omega arith

-- records of the same bodies are equally long, whatever their gates
pub records_length : (bodies : List (List ℕ)) (fa fb : List ℕ) → AreRecords fa bodies → AreRecords fb bodies → length fa ≡ length fb
records_length [] fa fb a b = ap length (a ∙ sym b)
records_length (body ∷ bodies) fa fb a b =
    omega (
      arith,
      records_length bodies a.1 b.1 a.5 b.5,
      ap length a.4,
      ap length b.4,
      length-append (framed body) a.1,
      length-append (framed body) b.1,
    )

-- one more record at the end
pub records_push : (front : List ℕ) (bodies : List (List ℕ)) (gate : ℕ) (body : List ℕ) → AreRecords front bodies → gate ≢ 0 → IsBody body → AreRecords (front ++ gate ∷ framed body) (bodies ++ body ∷ [])
records_push front [] gate body empty is_open fits = (gate, [], is_open, fits, ap (λ (l : List ℕ). l ++ gate ∷ framed body) empty ∙ sym (append-nil (gate ∷ framed body)), refl)
records_push front (b ∷ bodies) gate body records is_open fits =
    let rest = records.1 in (
      records.0,
      rest ++ gate ∷ framed body,
      records.2,
      records.3,
      ap (λ (l : List ℕ). l ++ gate ∷ framed body) records.4 ∙ ap (λ (l : List ℕ). records.0 ∷ l) (append_assoc (framed b) rest (gate ∷ framed body)),
      records_push rest bodies gate body records.5 is_open fits,
    )

module _ (front : List ℕ) (bodies : List (List ℕ)) (records : AreRecords front bodies) (g : ℕ) (long : 16 + length front ≡ g) where
  abbrev whole : List ℕ
  whole = header ++ front

  length-whole : length whole ≡ g
  length-whole = omega (arith, long)

  length-rest : length (whole ++ 0 ∷ []) ≡ g + 1
  length-rest = omega (arith, length-append whole (0 ∷ []), length-whole)

  -- the closed gate stands in each outcome of the first write
  torn_at : (n : ℕ) (rest c : List ℕ) → Torn (g + 1) n (header ++ front ++ 0 ∷ rest) c → IsJournal c bodies
  torn_at n rest c torn =
      let start : take (g + 1) c ≡ whole ++ 0 ∷ [] = torn.before ∙ ap (take (g + 1)) (sym (append_assoc whole (0 ∷ []) rest)) ∙ take_at (whole ++ 0 ∷ []) rest (g + 1) length-rest in
      (front, drop (g + 1) c, records, sym (take-append-drop (g + 1) c) ∙ ap (λ (l : List ℕ). l ++ drop (g + 1) c) start ∙ append_assoc whole (0 ∷ []) (drop (g + 1) c))

  pub written_behind : (bytes c : List ℕ) → Holds (header ++ front ++ 0 ∷ []) (g + 1) bytes c → c ≡ header ++ front ++ 0 ∷ bytes
  written_behind bytes c holds =
      holds
      ∙ ap (λ (l : List ℕ). l ++ bytes ++ drop (g + 1 + length bytes) (whole ++ 0 ∷ [])) (take_all (g + 1) (whole ++ 0 ∷ []) (omega (arith, length-rest)))
      ∙ ap (λ (l : List ℕ). (whole ++ 0 ∷ []) ++ bytes ++ l) (drop_all (g + 1 + length bytes) (whole ++ 0 ∷ []) (omega (arith, length-rest)))
      ∙ append-nil ((whole ++ 0 ∷ []) ++ bytes)
      ∙ append_assoc whole (0 ∷ []) bytes

  start_of : (tail : List ℕ) → take g (whole ++ 0 ∷ tail) ≡ whole
  start_of tail = take_at whole (0 ∷ tail) g length-whole

  rest_of : (tail : List ℕ) → drop (g + 1) (whole ++ 0 ∷ tail) ≡ tail
  rest_of tail = ap (drop (g + 1)) (sym (append_assoc whole (0 ∷ []) tail)) ∙ drop_at (whole ++ 0 ∷ []) tail (g + 1) length-rest

  -- after the write of the gate some byte stands there, and all else as before
  pub torn_gate : (tail c : List ℕ) → Torn g 1 (header ++ front ++ 0 ∷ tail) c → (gate : ℕ) × (c ≡ header ++ front ++ gate ∷ tail)
  torn_gate tail c torn =
      let long_tail : length (whole ++ 0 ∷ tail) ≡ g + 1 + length tail = omega (arith, length-append whole (0 ∷ tail), length-whole) in
      let rest : drop g c ≡ get_or c g 0 ∷ tail = drop_more c g 0 (omega (arith, torn.no_shorter)) ∙ ap (λ (l : List ℕ). get_or c g 0 ∷ l) (torn.after ∙ rest_of tail) in
      (get_or c g 0, sym (take-append-drop g c) ∙ ap (λ (l : List ℕ). l ++ drop g c) (torn.before ∙ start_of tail) ∙ ap (λ (l : List ℕ). whole ++ l) rest)

  pub written_gate : (tail c : List ℕ) → Holds (header ++ front ++ 0 ∷ tail) g (1 ∷ []) c → c ≡ header ++ front ++ 1 ∷ tail
  written_gate tail c holds =
      holds
      ∙ ap (λ (l : List ℕ). l ++ (1 ∷ []) ++ drop (g + 1) (whole ++ 0 ∷ tail)) (start_of tail)
      ∙ ap (λ (l : List ℕ). whole ++ (1 ∷ []) ++ l) (rest_of tail)
      ∙ append_assoc whole (1 ∷ []) tail

  -- the bytes with one more record
  pub longer : (gate : ℕ) (body rest : List ℕ) → header ++ front ++ gate ∷ (framed body ++ rest) ≡ header ++ (front ++ gate ∷ framed body) ++ rest
  longer gate body rest =
      sym (append_assoc whole (gate ∷ framed body) rest) ∙ ap (λ (l : List ℕ). l ++ rest) (append_assoc header front (gate ∷ framed body))

  -- a whole record behind any gate counts or it does not
  pub any_gate : (gate : ℕ) (body c : List ℕ) → IsBody body → c ≡ header ++ front ++ gate ∷ (framed body ++ 0 ∷ []) → IsJournal c bodies ⊎ IsJournal c (bodies ++ body ∷ [])
  any_gate gate body c fits is = elim (cases_eq gate 0) [
    | inl closed ↦ inl (front, framed body ++ 0 ∷ [], records, is ∙ ap (λ n. whole ++ n ∷ (framed body ++ 0 ∷ [])) closed)
    | inr is_open ↦ inr (front ++ gate ∷ framed body, [], records_push front bodies gate body records is_open fits, is ∙ longer gate body (0 ∷ []))
  ]

-- what the first write leaves of a journal whose records end there has the same bodies
pub torn_behind : (front : List ℕ) (bodies : List (List ℕ)) → AreRecords front bodies → (g : ℕ) → HEADER_BYTES + length front ≡ g → (n : ℕ) (old c : List ℕ) → IsJournal old bodies → Torn (g + 1) n old c → IsJournal c bodies
torn_behind front bodies records g long n old c j torn =
    torn_at j.0 bodies j.2 g (omega (arith, long, records_length bodies front j.0 records j.2)) n j.1 c (subst (λ b. Torn (g + 1) n b c) j.3 torn)
