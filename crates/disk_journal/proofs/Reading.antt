-- Reading the records of a journal, and that its bytes have one meaning.
use Rattle.std.proofs.Common.{◌≡◌, ◌≢◌, ◌⊎◌, inl, inr, ℕ, zero, suc, ◌+◌, ◌-◌, ◌≤◌, ◌<◌, List, [], ◌∷◌, ◌++◌, length, take, drop, get_or, refl, sym, ◌∙◌, ap, subst, arith, append_assoc, length-append, length-take, length-drop, take-append-drop}
use Rattle.std.specs.Int.{w32, to_be_bytes, from_be_bytes}
use Rattle.std.proofs.lemmas.Nat.{from_be_bytes-to_be_bytes_4, be_bytes_4}
use Rattle.std.proofs.lemmas.List.{take_at, drop_at, drop_more, take_more, take_rest}
use Rattle.disk_journal.specs.Disk.{Image}
use Rattle.disk_journal.specs.Journal.{header, framed, IsBody, AreRecords, IsJournal, IsRecord, IsRefused, EndsAt, HasBodies}
use Rattle.disk_journal.proofs.Writing.{records_push, longer, length-framed}

one_length : (n m : ℕ) → n ≤ 65536 → m ≤ 65536 → to_be_bytes w32 n ≡ to_be_bytes w32 m → n ≡ m
one_length n m small small2 same =
    sym (from_be_bytes-to_be_bytes_4 n (omega arith)) ∙ ap (from_be_bytes w32) same ∙ from_be_bytes-to_be_bytes_4 m (omega arith)

-- of two framed bodies that begin the same bytes each is the other
frames_same : (a b x y : List ℕ) → IsBody a → IsBody b → framed a ++ x ≡ framed b ++ y → (a ≡ b) × (x ≡ y)
frames_same a b x y fits fits2 same =
    let lengths : length a ≡ length b = one_length (length a) (length b) fits.1 fits2.1 (ap (take 4) same) in
    let rest : a ++ x ≡ b ++ y = ap (drop 4) same in (
      sym (take_at a x (length a) refl) ∙ ap (take (length a)) rest ∙ take_at b y (length a) (sym lengths),
      sym (drop_at a x (length a) refl) ∙ ap (drop (length a)) rest ∙ drop_at b y (length a) (sym lengths),
    )

-- a record's bytes, and what stands behind them
split : (gate : ℕ) (body rest behind : List ℕ) (bytes : List ℕ) → bytes ≡ gate ∷ framed body ++ rest → bytes ++ behind ≡ gate ∷ (framed body ++ (rest ++ behind))
split gate body rest behind bytes is = ap (λ (l : List ℕ). l ++ behind) is ∙ ap (λ (l : List ℕ). gate ∷ l) (append_assoc (framed body) rest behind)

heads : (a b : ℕ) (x y : List ℕ) → a ∷ x ≡ b ∷ y → (a ≡ b) × (x ≡ y)
heads a b x y same = (cc, cc)

-- records and a gate behind them begin with a gate
starts : (front : List ℕ) (gate : ℕ) (rest : List ℕ) → (next : ℕ) × (more : List ℕ) × (front ++ gate ∷ rest ≡ next ∷ more)
starts [] gate rest = (gate, rest, refl)
starts (x ∷ front) gate rest = (x, front ++ gate ∷ rest, refl)

pub same_records : (ps qs : List (List ℕ)) (fa fb ra rb : List ℕ) → AreRecords fa ps → AreRecords fb qs → fa ++ 0 ∷ ra ≡ fb ++ 0 ∷ rb → ps ≡ qs
same_records [] [] fa fb ra rb a b same = refl
same_records [] (y ∷ qs) fa fb ra rb a b same =
    let one = heads 0 b.0 ra _ (sym (ap (λ (l : List ℕ). l ++ 0 ∷ ra) a) ∙ same ∙ split b.0 y b.1 (0 ∷ rb) fb b.4) in absurd (b.2 (sym one.0))
same_records (x ∷ ps) [] fa fb ra rb a b same =
    let one = heads 0 a.0 rb _ (sym (ap (λ (l : List ℕ). l ++ 0 ∷ rb) b) ∙ sym same ∙ split a.0 x a.1 (0 ∷ ra) fa a.4) in absurd (a.2 (sym one.0))
same_records (x ∷ ps) (y ∷ qs) fa fb ra rb a b same =
    let one = heads a.0 b.0 _ _ (sym (split a.0 x a.1 (0 ∷ ra) fa a.4) ∙ same ∙ split b.0 y b.1 (0 ∷ rb) fb b.4) in
    let both = frames_same x y (a.1 ++ 0 ∷ ra) (b.1 ++ 0 ∷ rb) a.3 b.3 one.1 in
    let rest = same_records ps qs a.1 b.1 ra rb a.5 b.5 both.1 in
    ap (λ (l : List ℕ). l ∷ ps) both.0 ∙ ap (λ (ls : List (List ℕ)). y ∷ ls) rest

-- behind the header
past_header : (x y : List ℕ) → header ++ x ≡ header ++ y → x ≡ y
past_header x y same = ap (drop 16) same

pub one_meaning : (bytes : List ℕ) (ps qs : List (List ℕ)) → IsJournal bytes ps → IsJournal bytes qs → ps ≡ qs
one_meaning bytes ps qs a b =
    same_records ps qs a.0 b.0 a.1 b.1 a.2 b.2 (past_header _ _ (sym (a.3 ∙ append_assoc header a.0 (0 ∷ a.1)) ∙ b.3 ∙ append_assoc header b.0 (0 ∷ b.1)))

-- a place where the records break off is none of a journal
broken_elsewhere : (ps qs : List (List ℕ)) (fa fb : List ℕ) (gate : ℕ) (behind rb : List ℕ) → gate ≢ 0 → ((body : List ℕ) → IsRecord body behind → ⊥)
    → AreRecords fa ps → AreRecords fb qs → fa ++ gate ∷ behind ≡ fb ++ 0 ∷ rb → ⊥
broken_elsewhere [] [] fa fb gate behind rb is_open none a b same =
    let one = heads gate 0 behind rb (sym (ap (λ (l : List ℕ). l ++ gate ∷ behind) a) ∙ same ∙ ap (λ (l : List ℕ). l ++ 0 ∷ rb) b) in is_open one.0
broken_elsewhere [] (y ∷ qs) fa fb gate behind rb is_open none a b same =
    let one = heads gate b.0 behind _ (sym (ap (λ (l : List ℕ). l ++ gate ∷ behind) a) ∙ same ∙ split b.0 y b.1 (0 ∷ rb) fb b.4) in
    let next = starts b.1 0 rb in
    none y (b.3, (next.0, next.1, one.1 ∙ ap (λ (l : List ℕ). framed y ++ l) next.2))
broken_elsewhere (x ∷ ps) [] fa fb gate behind rb is_open none a b same =
    let one = heads 0 a.0 rb _ (sym (ap (λ (l : List ℕ). l ++ 0 ∷ rb) b) ∙ sym same ∙ split a.0 x a.1 (gate ∷ behind) fa a.4) in a.2 (sym one.0)
broken_elsewhere (x ∷ ps) (y ∷ qs) fa fb gate behind rb is_open none a b same =
    let one = heads a.0 b.0 _ _ (sym (split a.0 x a.1 (gate ∷ behind) fa a.4) ∙ same ∙ split b.0 y b.1 (0 ∷ rb) fb b.4) in
    let both = frames_same x y (a.1 ++ gate ∷ behind) (b.1 ++ 0 ∷ rb) a.3 b.3 one.1 in
    broken_elsewhere ps qs a.1 b.1 gate behind rb is_open none a.5 b.5 both.1

length_record : (gate : ℕ) (body rest fa : List ℕ) → fa ≡ gate ∷ framed body ++ rest → length fa ≡ 5 + length body + length rest
length_record gate body rest fa is = omega (arith, ap length is, length-append (framed body) rest, length-framed body)

-- two places where the records break off are one
broken_once : (ps qs : List (List ℕ)) (fa fb : List ℕ) (g h : ℕ) (behind behind2 : List ℕ) → ((body : List ℕ) → IsRecord body behind → ⊥) → ((body : List ℕ) → IsRecord body behind2 → ⊥)
    → AreRecords fa ps → AreRecords fb qs → fa ++ g ∷ behind ≡ fb ++ h ∷ behind2 → length fa ≡ length fb
broken_once [] [] fa fb g h behind behind2 none none2 a b same = ap length (a ∙ sym b)
broken_once [] (y ∷ qs) fa fb g h behind behind2 none none2 a b same =
    let one = heads g b.0 behind _ (sym (ap (λ (l : List ℕ). l ++ g ∷ behind) a) ∙ same ∙ split b.0 y b.1 (h ∷ behind2) fb b.4) in
    let next = starts b.1 h behind2 in
    absurd (none y (b.3, (next.0, next.1, one.1 ∙ ap (λ (l : List ℕ). framed y ++ l) next.2)))
broken_once (x ∷ ps) [] fa fb g h behind behind2 none none2 a b same =
    let one = heads h a.0 behind2 _ (sym (ap (λ (l : List ℕ). l ++ h ∷ behind2) b) ∙ sym same ∙ split a.0 x a.1 (g ∷ behind) fa a.4) in
    let next = starts a.1 g behind in
    absurd (none2 x (a.3, (next.0, next.1, one.1 ∙ ap (λ (l : List ℕ). framed x ++ l) next.2)))
broken_once (x ∷ ps) (y ∷ qs) fa fb g h behind behind2 none none2 a b same =
    let one = heads a.0 b.0 _ _ (sym (split a.0 x a.1 (g ∷ behind) fa a.4) ∙ same ∙ split b.0 y b.1 (h ∷ behind2) fb b.4) in
    let both = frames_same x y (a.1 ++ g ∷ behind) (b.1 ++ h ∷ behind2) a.3 b.3 one.1 in
    let rest = broken_once ps qs a.1 b.1 g h behind behind2 none none2 a.5 b.5 both.1 in
    omega (arith, rest, ap length both.0, length_record a.0 x a.1 fa a.4, length_record b.0 y b.1 fb b.4)

-- what begins with the header and one byte more
begins : (bytes front : List ℕ) (gate : ℕ) (rest : List ℕ) → bytes ≡ header ++ front ++ gate ∷ rest → ((length bytes < 17) ⊎ (take 16 bytes ≢ header)) → ⊥
begins bytes front gate rest is (inl short) = omega (arith, ap length is, length-append (header ++ front) (gate ∷ rest), length-append header front, short)
begins bytes front gate rest is (inr other) = other (ap (take 16) is)

pub no_journal : (bytes : List ℕ) (at : ℕ) (bodies : List (List ℕ)) → IsRefused bytes at → IsJournal bytes bodies → ⊥
no_journal bytes at bodies (inl (zero_at, other)) j = begins bytes j.0 0 j.1 j.3 other
no_journal bytes at bodies (inr b) j =
    broken_elsewhere b.bodies bodies b.front j.0 b.gate b.behind j.1 b.is_open b.no_record b.records j.2
    (past_header _ _ (sym (b.file ∙ append_assoc header b.front (b.gate ∷ b.behind)) ∙ j.3 ∙ append_assoc header j.0 (0 ∷ j.1)))

pub one_place : (bytes : List ℕ) (a b : ℕ) → IsRefused bytes a → IsRefused bytes b → a ≡ b
one_place bytes a b (inl (za, oa)) (inl (zb, ob)) = za ∙ sym zb
one_place bytes a b (inl (za, oa)) (inr x) = absurd (begins bytes x.front x.gate x.behind x.file oa)
one_place bytes a b (inr x) (inl (zb, ob)) = absurd (begins bytes x.front x.gate x.behind x.file ob)
one_place bytes a b (inr x) (inr y) =
    let same = broken_once x.bodies y.bodies x.front y.front x.gate y.gate x.behind y.behind x.no_record y.no_record x.records y.records
    (past_header _ _ (sym (x.file ∙ append_assoc header x.front (x.gate ∷ x.behind)) ∙ y.file ∙ append_assoc header y.front (y.gate ∷ y.behind))) in
    omega (arith, same, x.long, y.long)

-- the first bytes, up to this gate, are the header and the records of these bodies
pub record IsReadUpTo (bytes : List ℕ) (gate : ℕ) (bodies : List (List ℕ)) : Type 0 where
  pub front : List ℕ
  pub records : AreRecords front bodies
  pub long : 16 + length front ≡ gate
  pub start : take gate bytes ≡ header ++ front
  pub within : gate < length bytes

pub read_start : (bytes : List ℕ) → 16 < length bytes → take 16 bytes ≡ header → IsReadUpTo bytes 16 []
read_start bytes lt is = record { front = []; records = refl; long = refl; start = is; within = lt }

module _ (bytes : List ℕ) (gate : ℕ) (bodies : List (List ℕ)) (read : IsReadUpTo bytes gate bodies) where
  whole : bytes ≡ header ++ read.front ++ get_or bytes gate 0 ∷ drop (gate + 1) bytes
  whole = sym (take-append-drop gate bytes) ∙ ap (λ (l : List ℕ). l ++ drop gate bytes) read.start ∙ ap (λ (l : List ℕ). header ++ read.front ++ l) (drop_more bytes gate 0 read.within)

  pub read_broken : get_or bytes gate 0 ≢ 0 → ((body : List ℕ) → IsRecord body (drop (gate + 1) bytes) → ⊥) → IsRefused bytes gate
  read_broken is_open none = inr (record {
    bodies = bodies;
    front = read.front;
    gate = get_or bytes gate 0;
    behind = drop (gate + 1) bytes;
    records = read.records;
    long = read.long;
    file = whole;
    is_open = is_open;
    no_record = none;
  })

  pub read_end : get_or bytes gate 0 ≡ 0 → IsJournal bytes bodies
  read_end closed = (read.front, drop (gate + 1) bytes, read.records, whole ∙ ap (λ g. header ++ read.front ++ g ∷ drop (gate + 1) bytes) closed)

  pub read_rest : get_or bytes gate 0 ≡ 0 → EndsAt (take (gate + 1) bytes) gate bodies
  read_rest closed = record {
    front = read.front;
    records = read.records;
    long = read.long;
    file = take_more bytes gate 0 read.within ∙ ap (λ (l : List ℕ). l ++ get_or bytes gate 0 ∷ []) read.start ∙ ap (λ g. header ++ read.front ++ g ∷ []) closed;
  }

  pub read_more : (body : List ℕ) → get_or bytes gate 0 ≢ 0 → IsRecord body (drop (gate + 1) bytes) → IsReadUpTo bytes (gate + (5 + length body)) (bodies ++ body ∷ [])
  read_more body is_open (fits, (next, rest, is)) =
      let g = get_or bytes gate 0 in
      let front2 : List ℕ = read.front ++ g ∷ framed body in
      let split2 : bytes ≡ header ++ front2 ++ next ∷ rest = whole ∙ ap (λ (l : List ℕ). header ++ read.front ++ g ∷ l) is ∙ longer read.front bodies read.records gate read.long g body (next ∷ rest) in
      let long2 : 16 + length front2 ≡ gate + (5 + length body) = omega (arith, read.long, length-append read.front (g ∷ framed body), length-framed body) in
      let long3 : length (header ++ front2) ≡ gate + (5 + length body) = omega (arith, long2, length-append header front2) in
      record {
        front = front2;
        records = records_push read.front bodies g body read.records is_open fits;
        long = long2;
        start = ap (take (gate + (5 + length body))) split2 ∙ take_at (header ++ front2) (next ∷ rest) (gate + (5 + length body)) long3;
        within = omega (arith, ap length split2, length-append (header ++ front2) (next ∷ rest), long3);
      }

-- the four bytes of a length, read
module _ (a b c d : ℕ) (rest : List ℕ) where
  abbrev pub length_of : ℕ
  length_of = from_be_bytes w32 (a ∷ b ∷ c ∷ d ∷ [])

  parts : (body : List ℕ) → IsRecord body (a ∷ b ∷ c ∷ d ∷ rest) → (length_of ≡ length body) × (length body < length rest)
  parts body (fits, (next, more, is)) =
      let head : a ∷ b ∷ c ∷ d ∷ [] ≡ to_be_bytes w32 (length body) = ap (take 4) is in
      let tail : rest ≡ body ++ next ∷ more = ap (drop 4) is in
      (ap (from_be_bytes w32) head ∙ from_be_bytes-to_be_bytes_4 (length body) (omega (arith, fits.1)), omega (arith, ap length tail, length-append body (next ∷ more)))

  pub no_body : ((length_of ≡ 0) ⊎ ((65536 < length_of) ⊎ (length rest ≤ length_of))) → (body : List ℕ) → IsRecord body (a ∷ b ∷ c ∷ d ∷ rest) → ⊥
  no_body (inl none) body is = let p = parts body is in omega (arith, p.0, is.0.0)
  no_body (inr (inl long)) body is = let p = parts body is in omega (arith, p.0, is.0.1)
  no_body (inr (inr short)) body is = let p = parts body is in omega (arith, p.0, p.1)

  pub a_body : ((i : ℕ) → get_or (a ∷ b ∷ c ∷ d ∷ []) i 0 < 256) → 1 ≤ length_of → length_of ≤ 65536 → length_of < length rest → IsRecord (take length_of rest) (a ∷ b ∷ c ∷ d ∷ rest)
  a_body bytes low high short =
      let long : length (take length_of rest) ≡ length_of = omega (arith, length-take length_of rest) in
      let head : to_be_bytes w32 length_of ≡ a ∷ b ∷ c ∷ d ∷ [] = be_bytes_4 (a ∷ b ∷ c ∷ d ∷ []) length_of refl bytes refl in
      let tail : rest ≡ take length_of rest ++ get_or rest length_of 0 ∷ drop (length_of + 1) rest = sym (take-append-drop length_of rest) ∙ ap (λ (l : List ℕ). take length_of rest ++ l) (drop_more rest length_of 0 short) in (
        (omega (arith, long, low), omega (arith, long, high)),
        (
          get_or rest length_of 0,
          drop (length_of + 1) rest,
          ap (λ (l : List ℕ). a ∷ b ∷ c ∷ d ∷ l) tail
              ∙ ap (λ (l : List ℕ). l ++ (take length_of rest ++ get_or rest length_of 0 ∷ drop (length_of + 1) rest)) (sym head ∙ ap (to_be_bytes w32) (sym long))
              ∙ sym (append_assoc (to_be_bytes w32 (length (take length_of rest))) (take length_of rest) (get_or rest length_of 0 ∷ drop (length_of + 1) rest)),
        ),
      )

four : (behind : List ℕ) → 4 ≤ length behind → behind ≡ get_or behind 0 0 ∷ get_or behind 1 0 ∷ get_or behind 2 0 ∷ get_or behind 3 0 ∷ drop 4 behind
four [] le = absurd (omega arith)
four (a ∷ []) le = absurd (omega arith)
four (a ∷ b ∷ []) le = absurd (omega arith)
four (a ∷ b ∷ c ∷ []) le = absurd (omega arith)
four (a ∷ b ∷ c ∷ d ∷ rest) le = refl

pub body_here : (behind : List ℕ) (n : ℕ) → 4 ≤ length behind → ((i : ℕ) → get_or behind i 0 < 256) → n ≡ from_be_bytes w32 (get_or behind 0 0 ∷ get_or behind 1 0 ∷ get_or behind 2 0 ∷ get_or behind 3 0 ∷ [])
    → 1 ≤ n → n ≤ 65536 → n < length behind - 4 → IsRecord (take n (take (length behind - 4) (drop 4 behind))) behind
body_here behind n le bytes is low high short =
    let a = get_or behind 0 0 in
    let b = get_or behind 1 0 in
    let c = get_or behind 2 0 in
    let d = get_or behind 3 0 in
    let small : (i : ℕ) → get_or (a ∷ b ∷ c ∷ d ∷ []) i 0 < 256 = λ i. small_of a b c d (bytes 0) (bytes 1) (bytes 2) (bytes 3) i in
    let fits : length_of a b c d (drop 4 behind) < length (drop 4 behind) = omega (arith, is, length-drop 4 behind) in
    let found = a_body a b c d (drop 4 behind) small (omega (arith, is)) (omega (arith, is)) fits in
    let P : List ℕ → ℕ → Type 0 = λ rest m. IsRecord (take m rest) behind in
    let here : P (drop 4 behind) (from_be_bytes w32 (a ∷ b ∷ c ∷ d ∷ [])) = subst (IsRecord (take (length_of a b c d (drop 4 behind)) (drop 4 behind))) (sym (four behind le)) found in
    subst (λ rest. P rest n) (sym (take_rest behind 4)) (subst (P (drop 4 behind)) (sym is) here)
  where
    small_of : (a b c d : ℕ) → a < 256 → b < 256 → c < 256 → d < 256 → (i : ℕ) → get_or (a ∷ b ∷ c ∷ d ∷ []) i 0 < 256
    small_of a b c d sa sb sc sd zero = sa
    small_of a b c d sa sb sc sd (suc zero) = sb
    small_of a b c d sa sb sc sd (suc (suc zero)) = sc
    small_of a b c d sa sb sc sd (suc (suc (suc zero))) = sd
    small_of a b c d sa sb sc sd (suc (suc (suc (suc i)))) = omega arith

-- a journal has one list of bodies in any files
pub one_list : (img : Image) (file : ℕ) (ps qs : List (List ℕ)) → HasBodies img file ps → HasBodies img file qs → ps ≡ qs
one_list img file ps qs a b = one_meaning (img file) ps qs a b
