-- What was written is read again.
use Rattle.std.proofs.Common.{◌≡◌, ℕ, ◌<◌, ◌≤◌, ◌+◌, ◌-◌, true, false, ◌&&◌, nat_le, List, [], ◌∷◌, ◌++◌, length, take, drop, reverse, sym, ap, ◌∙◌, refl, arith, ⊎_elim, Result, Ok, Err, Some, None, append_assoc, codes, IsTrue, decimal, IfOk}
use Rattle.std.specs.Prelude.{slice_range}
use Rattle.std.specs.List.{list_all, All}
use Rattle.std.specs.Char.{is_ascii_digit, digit_value}
use Rattle.std.specs.Str.Parse.{digits_value, AllDigits}
use Rattle.std.proofs.lemmas.Bool.{le-ltb, lt-ltb, le-leb, leb-true, cases_lt, and_from}
use Rattle.std.proofs.lemmas.Int.Digits.{digits_value-lt}
use Rattle.std.proofs.Math.Nat.{pow-le-pow_right}
use Rattle.topology_http.proofs.Router.{and_left, and_right}
use Rattle.std.proofs.lemmas.Bool.Decides.{nat_tests}
use Rattle.std.proofs.lemmas.Fmt.{length-decimal-le, decimal_is_IsNumeral}
use Rattle.std.proofs.lemmas.List.{length-append, append-nil}
use Rattle.std.proofs.lemmas.List.Elements.{All-cons, All-nil, All-head, All-weaker}
use Rattle.std.proofs.lemmas.List.Sums.{AllPass-from_list_all}
use Rattle.std.proofs.Math.Seq.{take-append-add, drop-append_seam, take-append_seam}
use Rattle.claim_types.specs.declared.limits.TheConstants.{BODY}
use Rattle.httparse.specs.Grammar.{IsField, RequestHead, IsRequestHead, ReadsRequest, print_request, ResponseHead, IsResponseHead, ReadsResponse, print_response, skip_ows, is_ows, is_value_byte, trim_ows, AllPass, is_token_byte, IsToken}
use Rattle.httparse.proofs.TrimLemmas.{trim_ows_space, AllPass-reverse}
use Rattle.httparse.proofs.GrammarLemmas.{print_request-append, request_unique, ReadsRequest-append, print_response-append, response_unique, ReadsResponse-append}
use Rattle.topology_http.specs.declared.limits.TheConstants.{HEAD_BYTES}
use Rattle.topology_http.specs.declared.fault.HttpFault.{HttpFault}
use Rattle.topology_http.specs.declared.message.Side.TheVariants.{Request, Response}
use Rattle.topology_http.specs.Heads.{Head, Asked, Answered, of_request, of_response}
use Rattle.topology_http.specs.Messages.{Parts, values, first_of, number_in, length_behind, length_of_body, message_with, message_behind, message_after, IsReadAs, ◌>>=◌}
use Rattle.topology_http.specs.Written.{phrase_of, reply_head_text, reply_text, written_reply, request_text, request_head_text, written_request, head_fields, field_of, content_type, content_length, connection}
use Rattle.topology_http.specs.Fits.{IsAddress, IsCode, CodesAre}
use Rattle.topology_http.proofs.Settled.{whole}
use Rattle.topology_http.proofs.Sides.{request_says, response_says}

-- ---- decimal lengths

digit_in : (c : ℕ) → digit_value c < 10 → is_ascii_digit c ≡ true
digit_in c small = grind (arith, nat_tests)

digits_in : (text : List ℕ) → AllDigits 10 text → list_all is_ascii_digit text ≡ true
digits_in [] all = refl
digits_in (c ∷ cs) all = and_from _ _ (digit_in c all.0) (digits_in cs all.1)

pub number_of_decimal : (n : ℕ) → n ≤ BODY → number_in (decimal n) ≡ Some n
unfolding number_in
number_of_decimal n small =
    let numeral = decimal_is_IsNumeral n (omega arith) in
    let short = length-decimal-le 5 n (omega arith) (omega arith) (omega arith) in
    rw (lt-ltb 0 (length (decimal n)) numeral.0.0, le-leb (length (decimal n)) 19 (omega arith), digits_in (decimal n) numeral.0.1, numeral.1) refl

digit_visible : (c : ℕ) → is_ascii_digit c ≡ true → (is_ows c ≡ false) × (is_value_byte c ≡ true)
digit_visible c digit = grind (arith, nat_tests)

digits_start : (text : List ℕ) → AllPass is_ascii_digit text → skip_ows text ≡ text
digits_start [] all = refl
digits_start (c ∷ cs) all = rw (digit_visible c (All-head (λ b. IsTrue (is_ascii_digit b)) c cs all)).0 refl

decimal_digits : (n : ℕ) → n ≤ BODY → AllPass is_ascii_digit (decimal n)
decimal_digits n small = AllPass-from_list_all is_ascii_digit (decimal n) (digits_in (decimal n) (decimal_is_IsNumeral n (omega arith)).0.1)

pub trimmed_decimal : (n : ℕ) → n ≤ BODY → trim_ows (32 ∷ decimal n) ≡ decimal n
trimmed_decimal n small =
    let all = decimal_digits n small in
    trim_ows_space (decimal n) (digits_start (decimal n) all) (digits_start (reverse (decimal n)) (AllPass-reverse is_ascii_digit (decimal n) all))

pub decimal_value : (n : ℕ) → n ≤ BODY → AllPass is_value_byte (decimal n)
decimal_value n small = All-weaker (λ b. is_ascii_digit b ≡ true) (λ b. is_value_byte b ≡ true) (λ b digit. (digit_visible b digit).1) (decimal n) (decimal_digits n small)

-- ---- heads

-- both texts with the brackets to the right
as_written : (a p b e c n t l d k x : List ℕ)
    → (a ++ p ++ b ++ e) ++ (c ++ n ++ e) ++ ((t ++ e) ++ (l ++ d ++ e) ++ (k ++ e) ++ ([] ++ e)) ++ x
    ≡ a ++ (p ++ (b ++ (e ++ (c ++ (n ++ (e ++ (t ++ (e ++ (l ++ (d ++ (e ++ (k ++ (e ++ (e ++ x))))))))))))))
as_written a p b e c n t l d k x = simp append_assoc

as_section : (e c n t l d k x : List ℕ)
    → ((((c ++ n) ++ e) ++ ((t ++ e) ++ (((l ++ d) ++ e) ++ ((k ++ e) ++ [])))) ++ e) ++ x
    ≡ c ++ (n ++ (e ++ (t ++ (e ++ (l ++ (d ++ (e ++ (k ++ (e ++ (e ++ x))))))))))
as_section e c n t l d k x = simp (append_assoc, append-nil)

pub regroup : (path host body : List ℕ) → request_text path host body ≡ print_request (written_request path host (length body)) ++ body
unfolding request_text
regroup path host body =
    let end = 13 ∷ 10 ∷ [] in
    let d = decimal (length body) in
    as_written (codes "POST ") path (codes " HTTP/1.1") end (codes "Host: ") host (codes "Content-Type: application/json") (codes "Content-Length: ") d (codes "Connection: close") body
    ∙ sym (print_request-append (written_request path host (length body)) body
    ∙ ap (λ s. codes "POST " ++ (path ++ (codes " HTTP/1.1" ++ (end ++ s))))
    (as_section end (codes "Host: ") host (codes "Content-Type: application/json") (codes "Content-Length: ") d (codes "Connection: close") body))

pub length_written : (path host : List ℕ) (n : ℕ) → n ≤ BODY → length_behind (of_request (written_request path host n)) ≡ Ok n
unfolding length_of_body values
length_written path host n small = rw (trimmed_decimal n small, number_of_decimal n small, le-ltb BODY n small) refl

as_formatted : (a p b e c n t l d k x : List ℕ)
    → (a ++ (p ++ ((b ++ e ++ c) ++ (n ++ ((e ++ t ++ e ++ l) ++ (d ++ (e ++ k ++ e ++ e))))))) ++ x
    ≡ a ++ (p ++ (b ++ (e ++ (c ++ (n ++ (e ++ (t ++ (e ++ (l ++ (d ++ (e ++ (k ++ (e ++ (e ++ x))))))))))))))
as_formatted a p b e c n t l d k x = simp append_assoc

-- the head as it is formatted, and the body
pub one_text : (path host body : List ℕ) → request_head_text path host (length body) ++ body ≡ request_text path host body
unfolding request_text
one_text path host body =
    let end = 13 ∷ 10 ∷ [] in
    let d = decimal (length body) in
    as_formatted (codes "POST ") path (codes " HTTP/1.1") end (codes "Host: ") host (codes "Content-Type: application/json") (codes "Content-Length: ") d (codes "Connection: close") body
    ∙ sym (as_written (codes "POST ") path (codes " HTTP/1.1") end (codes "Host: ") host (codes "Content-Type: application/json") (codes "Content-Length: ") d (codes "Connection: close") body)

-- ---- a written head is a head of the grammar

literal_token : (text : List ℕ) → 0 < length text → list_all is_token_byte text ≡ true → IsToken text
literal_token text some pass = (some, AllPass-from_list_all is_token_byte text pass)

pub literal_value : (text : List ℕ) → list_all is_value_byte text ≡ true → AllPass is_value_byte text
literal_value text pass = AllPass-from_list_all is_value_byte text pass

value_behind_space : (value : List ℕ) → AllPass is_value_byte value → AllPass is_value_byte (32 ∷ value)
value_behind_space value pass = All-cons (λ b. IsTrue (is_value_byte b)) 32 value refl pass

named : (name value : List ℕ) → IsToken name → AllPass is_value_byte value → IsField (field_of name value)
named name value token pass = record { name = token; raw = value_behind_space value pass }

is_type : IsField content_type
unfolding is_token_byte
is_type = named (codes "Content-Type") (codes "application/json") (literal_token (codes "Content-Type") (omega arith) refl) (literal_value (codes "application/json") refl)

is_length : (n : ℕ) → n ≤ BODY → IsField (content_length n)
unfolding is_token_byte
is_length n small = named (codes "Content-Length") (decimal n) (literal_token (codes "Content-Length") (omega arith) refl) (decimal_value n small)

is_connection : IsField connection
unfolding is_token_byte
is_connection = named (codes "Connection") (codes "close") (literal_token (codes "Connection") (omega arith) refl) (literal_value (codes "close") refl)

is_host : (host : List ℕ) → AllPass is_value_byte host → IsField (field_of (codes "Host") host)
unfolding is_token_byte
is_host host pass = named (codes "Host") host (literal_token (codes "Host") (omega arith) refl) pass

is_post : IsToken (codes "POST")
unfolding is_token_byte
is_post = literal_token (codes "POST") (omega arith) refl

pub fields_are : (n : ℕ) → n ≤ BODY → All IsField (head_fields n)
fields_are n small =
    All-cons IsField content_type (content_length n ∷ connection ∷ []) is_type
    (All-cons IsField (content_length n) (connection ∷ []) (is_length n small)
    (All-cons IsField connection [] is_connection (All-nil IsField)))

pub is_head : (path host : List ℕ) (n : ℕ) → IsAddress path host → n ≤ BODY → IsRequestHead (written_request path host n)
is_head path host n address small = record {
  method = is_post;
  target = (address.some, address.path_bytes);
  target_text = address.path_text;
  minor = omega arith;
  fields = All-cons IsField (field_of (codes "Host") host) (head_fields n) (is_host host address.host_bytes) (fields_are n small);
}

-- ---- its length

lengths : (a p b e c n t l d k x : List ℕ)
    → length (a ++ (p ++ (b ++ (e ++ (c ++ (n ++ (e ++ (t ++ (e ++ (l ++ (d ++ (e ++ (k ++ (e ++ (e ++ x)))))))))))))))
    ≡ length a + (length p + (length b + (length e + (length c + (length n + (length e + (length t + (length e + (length l + (length d + (length e + (length k + (length e + (length e + length x))))))))))))))
lengths a p b e c n t l d k x = simp length-append

pub head_fits : (path host body : List ℕ) → length path + length host ≤ 1000 → length body ≤ BODY
    → length (print_request (written_request path host (length body))) ≤ HEAD_BYTES
head_fits path host body short small =
    let end = 13 ∷ 10 ∷ [] in
    let d = decimal (length body) in
    let text =
    ap length (print_request-append (written_request path host (length body)) body
    ∙ ap (λ s. codes "POST " ++ (path ++ (codes " HTTP/1.1" ++ (end ++ s))))
    (as_section end (codes "Host: ") host (codes "Content-Type: application/json") (codes "Content-Length: ") d (codes "Connection: close") body))
    ∙ lengths (codes "POST ") path (codes " HTTP/1.1") end (codes "Host: ") host (codes "Content-Type: application/json") (codes "Content-Length: ") d (codes "Connection: close") body in
    omega (arith, text, length-append (print_request (written_request path host (length body))) body, length-decimal-le 5 (length body) (omega arith) (omega arith) (omega arith))

-- ---- the message

pub message_with_is : (head : Head) (front body rest : List ℕ) → head.size ≡ length front
    → message_with head (front ++ (body ++ rest)) (length body)
    ≡ Ok (record { first = head.first; cookie = first_of (values (codes "cookie") head.fields); body = body; used = head.size + length body })
unfolding message_with
message_with_is head front body rest size =
    let whole_length : length (front ++ (body ++ rest)) ≡ length front + (length body + length rest) = length-append front (body ++ rest) ∙ ap (λ k. length front + k) (length-append body rest) in
    let slice : slice_range (front ++ (body ++ rest)) head.size (head.size + length body) ≡ body =
    ap (λ at. slice_range (front ++ (body ++ rest)) at (at + length body)) size
    ∙ ap (λ k. take k (drop (length front) (front ++ (body ++ rest)))) (omega arith)
    ∙ ap (take (length body)) (drop-append_seam front (body ++ rest))
    ∙ take-append_seam body rest in
    rw (le-ltb (length (front ++ (body ++ rest))) (head.size + length body) (omega (arith, whole_length, size)))
    (ap (λ b. Ok (record { first = head.first; cookie = first_of (values (codes "cookie") head.fields); body = b; used = head.size + length body })) slice)

split : (n k : ℕ) → k ≤ n → n ≡ k + (n - k)
split n k le = omega arith

no_cookie : (path host : List ℕ) (n : ℕ) → first_of (values (codes "cookie") (of_request (written_request path host n)).fields) ≡ None
unfolding values
no_cookie path host n = refl

module _ (path host body rest : List ℕ) (address : IsAddress path host) (small : length body ≤ BODY) where
  abbrev head : RequestHead
  head = written_request path host (length body)

  abbrev size : ℕ
  size = length (print_request head)

  fits : size ≤ HEAD_BYTES
  fits = head_fits path host body address.short small

  text : request_text path host body ++ rest ≡ print_request head ++ (body ++ rest)
  text = ap (λ t. t ++ rest) (regroup path host body) ∙ append_assoc (print_request head) body rest

  reads : ReadsRequest (take HEAD_BYTES (request_text path host body ++ rest)) head (take (HEAD_BYTES - size) (body ++ rest))
  reads = (
    is_head path host (length body) address small,
    ap (take HEAD_BYTES) text
        ∙ ap (λ k. take k (print_request head ++ (body ++ rest))) (split HEAD_BYTES size fits)
        ∙ take-append-add (print_request head) (body ++ rest) (HEAD_BYTES - size),
  )

  pub request_back : (r : Result Parts HttpFault) → IsReadAs Request (request_text path host body ++ rest) r
      → r ≡ Ok (record { first = Asked (codes "POST") path; cookie = None; body = body; used = length (request_text path host body) })
  request_back r a =
      let answer = whole ReadsRequest (λ h. h.fields) of_request request_unique ReadsRequest-append _ head _ reads (omega arith) a.0 (request_says _ a.0 a.1) in
      let used : size + length body ≡ length (request_text path host body) = sym (ap length (regroup path host body) ∙ length-append (print_request head) body) in
      a.2 ∙ ap (λ x. message_after x (request_text path host body ++ rest)) answer
      ∙ ap (λ bytes. message_behind (of_request head) bytes) text
      ∙ ap (λ n. n >>= message_with (of_request head) (print_request head ++ (body ++ rest))) (length_written path host (length body) small)
      ∙ message_with_is (of_request head) (print_request head) body rest refl
      ∙ ap (λ u. Ok (record { first = Asked (codes "POST") path; cookie = first_of (values (codes "cookie") (of_request head).fields); body = body; used = u })) used
      ∙ ap (λ c. Ok (record { first = Asked (codes "POST") path; cookie = c; body = body; used = length (request_text path host body) })) (no_cookie path host (length body))

-- ---- replies

reply_as_written : (a g s p e t l d k x : List ℕ)
    → (a ++ g ++ s ++ p ++ e) ++ ((t ++ e) ++ (l ++ d ++ e) ++ (k ++ e) ++ ([] ++ e)) ++ x
    ≡ a ++ (g ++ (s ++ (p ++ (e ++ (t ++ (e ++ (l ++ (d ++ (e ++ (k ++ (e ++ (e ++ x))))))))))))
reply_as_written a g s p e t l d k x = simp append_assoc

reply_as_section : (e t l d k x : List ℕ)
    → ((t ++ e) ++ (((l ++ d) ++ e) ++ ((k ++ e) ++ [])) ++ e) ++ x
    ≡ t ++ (e ++ (l ++ (d ++ (e ++ (k ++ (e ++ (e ++ x)))))))
reply_as_section e t l d k x = simp (append_assoc, append-nil)

reply_lengths : (a g s p e t l d k x : List ℕ)
    → length (a ++ (g ++ (s ++ (p ++ (e ++ (t ++ (e ++ (l ++ (d ++ (e ++ (k ++ (e ++ (e ++ x)))))))))))))
    ≡ length a + (length g + (length s + (length p + (length e + (length t + (length e + (length l + (length d + (length e + (length k + (length e + (length e + length x))))))))))))
reply_lengths a g s p e t l d k x = simp length-append

reply_printed : (code : ℕ) (body : List ℕ) → print_response (written_reply code (length body)) ++ body
    ≡ codes "HTTP/1.1 " ++ (decimal code ++ (codes " " ++ (phrase_of code ++ (13 ∷ 10 ∷ [] ++ (codes "Content-Type: application/json" ++ (13 ∷ 10 ∷ [] ++ (codes "Content-Length: " ++ (decimal (length body) ++ (13 ∷ 10 ∷ [] ++ (codes "Connection: close" ++ (13 ∷ 10 ∷ [] ++ (13 ∷ 10 ∷ [] ++ body))))))))))))
reply_printed code body =
    let end = 13 ∷ 10 ∷ [] in
    print_response-append (written_reply code (length body)) body
    ∙ ap (λ s. codes "HTTP/1.1 " ++ (decimal code ++ (codes " " ++ (phrase_of code ++ (end ++ s)))))
    (reply_as_section end (codes "Content-Type: application/json") (codes "Content-Length: ") (decimal (length body)) (codes "Connection: close") body)

pub reply_regroup : (code : ℕ) (body : List ℕ) → reply_text code body ≡ print_response (written_reply code (length body)) ++ body
unfolding reply_text
reply_regroup code body =
    reply_as_written (codes "HTTP/1.1 ") (decimal code) (codes " ") (phrase_of code) (13 ∷ 10 ∷ []) (codes "Content-Type: application/json") (codes "Content-Length: ") (decimal (length body)) (codes "Connection: close") body
    ∙ sym (reply_printed code body)

reply_as_formatted : (a g s p e t l d k x : List ℕ)
    → (a ++ (g ++ (s ++ (p ++ ((e ++ t ++ e ++ l) ++ (d ++ (e ++ k ++ e ++ e))))))) ++ x
    ≡ a ++ (g ++ (s ++ (p ++ (e ++ (t ++ (e ++ (l ++ (d ++ (e ++ (k ++ (e ++ (e ++ x))))))))))))
reply_as_formatted a g s p e t l d k x = simp append_assoc

pub one_reply_text : (code : ℕ) (body : List ℕ) → reply_head_text code (phrase_of code) (length body) ++ body ≡ reply_text code body
unfolding reply_text
one_reply_text code body =
    let end = 13 ∷ 10 ∷ [] in
    let d = decimal (length body) in
    reply_as_formatted (codes "HTTP/1.1 ") (decimal code) (codes " ") (phrase_of code) end (codes "Content-Type: application/json") (codes "Content-Length: ") d (codes "Connection: close") body
    ∙ sym (reply_as_written (codes "HTTP/1.1 ") (decimal code) (codes " ") (phrase_of code) end (codes "Content-Type: application/json") (codes "Content-Length: ") d (codes "Connection: close") body)

module _ {E : Type 0} where
  pub reply_joined : (code n : ℕ) (phrase front body : List ℕ) (result : Result (List ℕ) E) → n ≡ code → phrase ≡ phrase_of code
      → front ≡ reply_head_text n phrase (length body) → IfOk result (λ text. text ≡ front ++ body) → IfOk result (λ text. text ≡ reply_text code body)
  reply_joined code n phrase front body (Ok t) is_code is_phrase is_head is_text =
      is_text
      ∙ ap (λ h. h ++ body) (is_head ∙ ap (λ k. reply_head_text k phrase (length body)) is_code ∙ ap (λ p. reply_head_text code p (length body)) is_phrase)
      ∙ one_reply_text code body
  reply_joined code n phrase front body (Err e) is_code is_phrase is_head is_text = tt

reply_is_head : (code n : ℕ) → IsCode code → n ≤ BODY → IsResponseHead (written_reply code n)
reply_is_head code n is small = record { minor = omega arith; digits = is.digits; reason = is.phrase; fields = fields_are n small }

reply_fits : (code : ℕ) (body : List ℕ) → IsCode code → length body ≤ BODY → length (print_response (written_reply code (length body))) ≤ HEAD_BYTES
reply_fits code body is small =
    let text = ap length (reply_printed code body)
    ∙ reply_lengths (codes "HTTP/1.1 ") (decimal code) (codes " ") (phrase_of code) (13 ∷ 10 ∷ []) (codes "Content-Type: application/json") (codes "Content-Length: ") (decimal (length body)) (codes "Connection: close") body in
    omega (arith, text, is.digits.0, is.short, length-append (print_response (written_reply code (length body))) body, length-decimal-le 5 (length body) (omega arith) (omega arith) (omega arith))

reply_length : (code n : ℕ) → n ≤ BODY → length_behind (of_response (written_reply code n)) ≡ Ok n
unfolding length_of_body values
reply_length code n small = rw (trimmed_decimal n small, number_of_decimal n small, le-ltb BODY n small) refl

reply_no_cookie : (code n : ℕ) → first_of (values (codes "cookie") (of_response (written_reply code n)).fields) ≡ None
unfolding values
reply_no_cookie code n = refl

module _ (code : ℕ) (body rest : List ℕ) (is : IsCode code) (small : length body ≤ BODY) where
  abbrev answer_head : ResponseHead
  answer_head = written_reply code (length body)

  abbrev answer_size : ℕ
  answer_size = length (print_response answer_head)

  answer_text : reply_text code body ++ rest ≡ print_response answer_head ++ (body ++ rest)
  answer_text = ap (λ t. t ++ rest) (reply_regroup code body) ∙ append_assoc (print_response answer_head) body rest

  answer_reads : ReadsResponse (take HEAD_BYTES (reply_text code body ++ rest)) answer_head (take (HEAD_BYTES - answer_size) (body ++ rest))
  answer_reads = (
    reply_is_head code (length body) is small,
    ap (take HEAD_BYTES) answer_text
        ∙ ap (λ k. take k (print_response answer_head ++ (body ++ rest))) (split HEAD_BYTES answer_size (reply_fits code body is small))
        ∙ take-append-add (print_response answer_head) (body ++ rest) (HEAD_BYTES - answer_size),
  )

  pub reply_back : (r : Result Parts HttpFault) → IsReadAs Response (reply_text code body ++ rest) r
      → r ≡ Ok (record { first = Answered code; cookie = None; body = body; used = length (reply_text code body) })
  reply_back r a =
      let answer = whole ReadsResponse (λ h. h.fields) of_response response_unique ReadsResponse-append _ answer_head _ answer_reads (omega arith) a.0 (response_says _ a.0 a.1) in
      let used : answer_size + length body ≡ length (reply_text code body) = sym (ap length (reply_regroup code body) ∙ length-append (print_response answer_head) body) in
      a.2 ∙ ap (λ x. message_after x (reply_text code body ++ rest)) answer
      ∙ ap (λ bytes. message_behind (of_response answer_head) bytes) answer_text
      ∙ ap (λ n. n >>= message_with (of_response answer_head) (print_response answer_head ++ (body ++ rest))) (reply_length code (length body) small)
      ∙ message_with_is (of_response answer_head) (print_response answer_head) body rest refl
      ∙ ap (λ u. Ok (record { first = Answered (digits_value 10 (decimal code)); cookie = first_of (values (codes "cookie") (of_response answer_head).fields); body = body; used = u })) used
      ∙ ap (λ c. Ok (record { first = Answered (digits_value 10 (decimal code)); cookie = c; body = body; used = length (reply_text code body) })) (reply_no_cookie code (length body))
      ∙ ap (λ s. Ok (record { first = Answered s; cookie = None; body = body; used = length (reply_text code body) })) is.value

-- ---- the codes that are answered

three_digits : (code : ℕ) → 100 ≤ code → code < 1000 → length (decimal code) ≡ 3
three_digits code low high =
    let numeral = decimal_is_IsNumeral code (omega arith) in
    let most = length-decimal-le 3 code (omega arith) (omega arith) (omega arith) in
    let value = digits_value-lt 10 (decimal code) numeral.0.1 in
    ⊎_elim (λ lt. omega arith) (λ le. absurd (omega (arith, numeral.1, value, pow-le-pow_right {n = 10} (omega arith) {i = length (decimal code)} {j = 2} le))) (cases_lt 2 (length (decimal code)))

code_is : (code : ℕ) → 100 ≤ code → code < 1000
    → list_all is_value_byte (phrase_of code) && nat_le (length (phrase_of code)) 100 ≡ true → IsCode code
code_is code low high phrase =
    let numeral = decimal_is_IsNumeral code (omega arith) in
    record {
      digits = (three_digits code low high, AllPass-from_list_all is_ascii_digit (decimal code) (digits_in (decimal code) numeral.0.1));
      value = numeral.1;
      phrase = AllPass-from_list_all is_value_byte (phrase_of code) (and_left _ _ phrase);
      short = leb-true (length (phrase_of code)) 100 (and_right _ _ phrase);
    }

pub codes_are : CodesAre
codes_are = (
  code_is 200 (omega arith) (omega arith) refl,
  code_is 400 (omega arith) (omega arith) refl,
  code_is 404 (omega arith) (omega arith) refl,
  code_is 409 (omega arith) (omega arith) refl,
  code_is 413 (omega arith) (omega arith) refl,
  code_is 421 (omega arith) (omega arith) refl,
  code_is 501 (omega arith) (omega arith) refl,
  code_is 503 (omega arith) (omega arith) refl,
)
