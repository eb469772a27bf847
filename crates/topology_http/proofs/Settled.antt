-- What was read of a front stays.
use Rattle.std.proofs.Common.{◌≡◌, ℕ, ◌<◌, ◌≤◌, ◌+◌, ◌-◌, Bool, true, false, List, [], ◌++◌, length, take, drop, sym, ap, ◌∙◌, refl, arith, subst, ⊎_elim, inl, inr, if◌then◌else◌, Result, Ok, Err, nat_lt, nat_le, codes}
use Rattle.std.specs.Prelude.{slice_range}
use Rattle.std.proofs.lemmas.List.{take-append-le, take_all, length-append, append-nil, drop-append-le, length-drop}
use Rattle.std.proofs.Math.Seq.{take-append-add}
use Rattle.std.proofs.lemmas.Bool.{ltb-false, le-ltb, leb-false, cases_lt}
use Rattle.topology_http.specs.Messages.{Parts, ◌>>=◌, message_with, message_behind, length_behind, message_after, values, first_of}
use Rattle.topology_http.specs.Settles.{Settles}
use Rattle.httparse.specs.Grammar.{Field}
use Rattle.topology_http.specs.declared.fault.HttpFault.{HttpFault}
use Rattle.topology_http.specs.declared.fault.HttpFault.TheVariants.{Partial, BadHead, Chunked, NoLength, TooLarge, NoSuchPath, Memory}
use Rattle.topology_http.specs.declared.limits.TheConstants.{HEAD_BYTES, HEAD_FIELDS}
use Rattle.topology_http.specs.Heads.{Head, HeadAnswer, Whole, Unfinished, Refused}

module _ {H : Type 0} (Reads : List ℕ → H → List ℕ → Type 0) (fields : H → List Field) (of : H → Head)
    (unique : (buf : List ℕ) (h k : H) (r q : List ℕ) → Reads buf h r → Reads buf k q → (h ≡ k) × (r ≡ q))
    (append : (buf : List ℕ) (h : H) (rest more : List ℕ) → Reads buf h rest → Reads (buf ++ more) h (rest ++ more)) where
  abbrev pub Says : List ℕ → HeadAnswer → Type 0
  Says buf (Whole head) = (h : H) × (rest : List ℕ) × Reads buf h rest × (length (fields h) ≤ HEAD_FIELDS) × (head ≡ of h)
  Says buf Unfinished = (h : H) (rest : List ℕ) → ¬ (Reads buf h rest)
  Says buf Refused = (more : List ℕ) (h : H) (rest : List ℕ) → Reads (buf ++ more) h rest → HEAD_FIELDS < length (fields h)

  -- a front that is a head is answered with that head
  pub whole : (buf : List ℕ) (h : H) (rest : List ℕ) → Reads buf h rest → length (fields h) ≤ HEAD_FIELDS
      → (answer : HeadAnswer) → Says buf answer → answer ≡ Whole (of h)
  whole buf h rest reads few (Whole head) says =
      ap Whole (says.4 ∙ ap of (unique buf says.0 h says.1 rest says.2 reads).0)
  whole buf h rest reads few Unfinished says = absurd (says h rest reads)
  whole buf h rest reads few Refused says = let over = says [] h (rest ++ []) (append buf h rest [] reads) in absurd (omega arith)

  pub whole_stays : (buf more : List ℕ) (head : Head) → Says buf (Whole head) → (answer : HeadAnswer) → Says (buf ++ more) answer → answer ≡ Whole head
  whole_stays buf more head says answer later =
      whole (buf ++ more) says.0 (says.1 ++ more) (append buf says.0 says.1 more says.2) says.3 answer later ∙ ap Whole (sym says.4)

  pub refused_stays : (buf more : List ℕ) → Says buf Refused → (head : Head) → ¬ (Says (buf ++ more) (Whole head))
  refused_stays buf more says head later = let over = says more later.0 later.1 later.2 in absurd (omega (arith, over, later.3))

  pub none_yet : (buf : List ℕ) → Says buf Unfinished → (head : Head) → ¬ (Says buf (Whole head))
  none_yet buf says head later = says later.0 later.1 later.2

-- ---- the first bytes, and more

rest_of : (n k : ℕ) → k < n → n ≡ k + (n - k)
rest_of n k lt = omega arith

pub front_grows : (n : ℕ) (bytes more : List ℕ) → (m : List ℕ) × (take n (bytes ++ more) ≡ take n bytes ++ m)
front_grows n bytes more = ⊎_elim
    (λ lt. (
      take (n - length bytes) more,
      ap (λ k. take k (bytes ++ more)) (rest_of n (length bytes) lt) ∙ take-append-add bytes more (n - length bytes) ∙ ap (λ front. front ++ take (n - length bytes) more) (sym (take_all n bytes (omega arith))),
    ))
    (λ le. ([], take-append-le n bytes more le ∙ sym (append-nil (take n bytes))))
    (cases_lt (length bytes) n)

pub slice_stays : (bytes more : List ℕ) (from to : ℕ) → from ≤ to → to ≤ length bytes → slice_range (bytes ++ more) from to ≡ slice_range bytes from to
slice_stays bytes more from to ordered within =
    ap (take (to - from)) (drop-append-le from bytes more (omega arith)) ∙ take-append-le (to - from) (drop from bytes) more (rw (length-drop from bytes) (omega arith))

-- ---- what follows a head

same_fault : (e : HttpFault) → Settles (Err e) (Err e)
same_fault Partial = tt
same_fault BadHead = inl refl
same_fault Chunked = refl
same_fault NoLength = refl
same_fault (TooLarge n) = refl
same_fault NoSuchPath = refl
same_fault Memory = refl

settles_if : (a b : Bool) (m later : Parts) → (a ≡ false → b ≡ false) → (a ≡ false → later ≡ m)
    → Settles (if a then Err Partial else Ok m) (if b then Err Partial else Ok later)
settles_if true b m later still same = tt
settles_if false b m later still same = rw (still refl, same refl) refl

message_settles : (head : Head) (bytes more : List ℕ) (x : Result ℕ HttpFault)
    → Settles (x >>= message_with head bytes) (x >>= message_with head (bytes ++ more))
unfolding message_with
message_settles head bytes more (Err e) = same_fault e
message_settles head bytes more (Ok n) = settles_if (nat_lt (length bytes) (head.size + n)) (nat_lt (length (bytes ++ more)) (head.size + n)) _ _
    (λ enough. le-ltb (length (bytes ++ more)) (head.size + n) (rw (length-append bytes more) (omega (arith, ltb-false (length bytes) (head.size + n) enough))))
    (λ enough. ap (λ body. record { first = head.first; cookie = first_of (values (codes "cookie") head.fields); body = body; used = head.size + n })
    (slice_stays bytes more head.size (head.size + n) (omega arith) (ltb-false (length bytes) (head.size + n) enough)))

-- ---- the two sides

waits : (test : Bool) → Settles (Err BadHead) (if test then Err Partial else Err BadHead)
waits true = inr refl
waits false = inl refl

module _ {H : Type 0} (Reads : List ℕ → H → List ℕ → Type 0) (fields : H → List Field) (of : H → Head)
    (unique : (buf : List ℕ) (h k : H) (r q : List ℕ) → Reads buf h r → Reads buf k q → (h ≡ k) × (r ≡ q))
    (append : (buf : List ℕ) (h : H) (rest more : List ℕ) → Reads buf h rest → Reads (buf ++ more) h (rest ++ more))
    (bytes more : List ℕ) where
  abbrev Heard : List ℕ → HeadAnswer → Type 0
  Heard bytes answer = Says Reads fields of unique append (take HEAD_BYTES bytes) answer

  full : (answer : HeadAnswer) (test : Bool) → nat_le (length bytes) HEAD_BYTES ≡ test → Heard bytes Unfinished → Heard (bytes ++ more) answer
      → Settles (if test then Err Partial else Err BadHead) (message_after answer (bytes ++ more))
  full answer true is says later = tt
  full (Whole head) false is says later =
      absurd (none_yet Reads fields of unique append (take HEAD_BYTES bytes) says head
      (subst (λ front. Says Reads fields of unique append front (Whole head)) (take-append-le HEAD_BYTES bytes more (omega (arith, leb-false (length bytes) HEAD_BYTES is))) later))
  full Unfinished false is says later = waits (nat_le (length (bytes ++ more)) HEAD_BYTES)
  full Refused false is says later = inl refl

  pub settles : (answer other : HeadAnswer) → Heard bytes answer → Heard (bytes ++ more) other
      → Settles (message_after answer bytes) (message_after other (bytes ++ more))
  settles (Whole head) other says later =
      let grown = front_grows HEAD_BYTES bytes more in
      let same = whole_stays Reads fields of unique append (take HEAD_BYTES bytes) grown.0 head says other
      (subst (λ front. Says Reads fields of unique append front other) grown.1 later) in
      subst (λ answer. Settles (message_behind head bytes) (message_after answer (bytes ++ more))) (sym same)
      (message_settles head bytes more (length_behind head))
  settles Unfinished other says later = full other (nat_le (length bytes) HEAD_BYTES) refl says later
  settles Refused (Whole head) says later =
      let grown = front_grows HEAD_BYTES bytes more in
      absurd (refused_stays Reads fields of unique append (take HEAD_BYTES bytes) grown.0 says head
      (subst (λ front. Says Reads fields of unique append front (Whole head)) grown.1 later))
  settles Refused Unfinished says later = waits (nat_le (length (bytes ++ more)) HEAD_BYTES)
  settles Refused Refused says later = inl refl
