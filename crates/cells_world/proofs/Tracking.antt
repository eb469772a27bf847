-- A request whose reply a line waits for, as events go by: it is on its way, or a reply to it is, until one is handed over.
use Rattle.std.proofs.Common.{◌≡◌, ◌≢◌, ◌⊎◌, inl, inr, ℕ, zero, suc, ◌+◌, ◌≤◌, ◌<◌, Bool, true, false, cond, nat_eq, List, [], ◌∷◌, ◌++◌, length, map, drop, Some, refl, sym, ◌∙◌, ap, subst, length-append, arith}
use Rattle.std.specs.List.{AllByRecursion, Contains, slice_get}
use Rattle.std.specs.FinMap.{nat_cmp-IsAntisymmetric}
use Rattle.std.specs.Cmp.{nat_cmp_total}
use Rattle.std.proofs.Math.Seq.{drop-append_seam}
use Rattle.std.proofs.lemmas.Bool.Decides.{Decides-eqb}
use Rattle.std.proofs.lemmas.List.{append-nil}
use Rattle.std.proofs.lemmas.List.Elements.{Contains-append_left, Contains-append_right}
use Rattle.std.proofs.lemmas.Option.{slice_get_within, same_Some}
use Rattle.cells_base.proofs.Maps.{same_or_other}
use Rattle.cells_base.proofs.Members.{here, later, here_or_later, nowhere}
use Rattle.cells_base.proofs.Truth.{not_true}
use Rattle.cells_edge.specs.declared.wire.Packet.{Packet as WirePacket}
use Rattle.claim_types.specs.declared.message.Request.{Request}
use Rattle.claim_types.specs.declared.message.Reply.{Reply}
use Rattle.claim_map.specs.Due.{due}
use Rattle.claim_map.specs.Legal.{Message, ask, answer}
use Rattle.claim_map.specs.Registry.{Registry}
use Rattle.claim_map.specs.State.{ClaimMap}
use Rattle.claim_laws.specs.Acts.{packet_of}
use Rattle.claim_laws.specs.Events.{Event, asks, requests, reconciles, hands, cuts, restarts, strays, happens, run}
use Rattle.claim_laws.specs.World.{Packet, World}
use Rattle.claim_laws.proofs.Traces.{get_last, length_push}
use Rattle.cells_world.specs.Course.{after_event, after_message, after_packet, course_behind}
use Rattle.cells_world.specs.OnWay.{GivenFor, sent_between}
use Rattle.cells_world.specs.Packets.{spelled, spelled_from}
use Rattle.cells_world.specs.World.{IsHandOver}
use Rattle.cells_world.specs.declared.course.Course.{Course}
use Rattle.cells_world.specs.declared.course.Course.TheVariants.{Awaits}
use Rattle.cells_world.proofs.Lossless.{AllCome}
use Rattle.cells_world.proofs.Further.{event_grows, place_left, place_right, place_cases, stays}
use Rattle.cells_world.proofs.Handing.{asks_from, asked_sends, heard_sends, requests_of, answer_to}

pub same_place : (m n : ℕ) (p q : Packet) → spelled m p ≡ spelled n q → m ≡ n
same_place m n p q is = let tags : m + 1 ≡ n + 1 = ap (λ (x : WirePacket). x.leg.tag) is in omega (arith, tags)

pub sent_is : (v u : World) (ps : List Packet) → u.sent ≡ v.sent ++ ps → sent_between v u ≡ spelled_from (length v.sent) ps
sent_is v u ps is = ap (λ (s : List Packet). spelled_from (length v.sent) (drop (length v.sent) s)) is ∙ ap (spelled_from (length v.sent)) (drop-append_seam v.sent ps)

pub spelled_in : (k : ℕ) (ps : List Packet) (i : ℕ) (p : Packet) → slice_get ps i ≡ Some p → Contains (spelled_from k ps) (spelled (k + i) p)
spelled_in k [] i p at = absurd cc
spelled_in k (q ∷ ps) zero p at =
    let same : q ≡ p = cc in
    let place : k ≡ k + zero = omega arith in
    subst (λ n. Contains (spelled_from k (q ∷ ps)) (spelled n p)) place (subst (λ x. Contains (spelled_from k (q ∷ ps)) (spelled k x)) same (here (spelled k q) (spelled_from (k + 1) ps)))
spelled_in k (q ∷ ps) (suc i) p at =
    let place : (k + 1) + i ≡ k + suc i = omega arith in
    later (spelled k q) (spelled_from (k + 1) ps) (spelled (k + suc i) p) (subst (λ n. Contains (spelled_from (k + 1) ps) (spelled n p)) place (spelled_in (k + 1) ps i p at))

-- each packet answers one that was sent before it, if any
abbrev pub AnswersBefore : World → Type 0
AnswersBefore v = (n : ℕ) (p : Packet) → slice_get v.sent n ≡ Some p → p.answers ≤ n

before_on : (v u : World) (ps : List Packet) → u.sent ≡ v.sent ++ ps → AnswersBefore v → ((i : ℕ) (p : Packet) → slice_get ps i ≡ Some p → p.answers ≤ length v.sent + i) → AnswersBefore u
before_on v u ps is before new n p at = elim (place_cases v.sent ps n p (ap (λ s. slice_get s n) (sym is) ∙ at)) [
  | inl old ↦ before n p old
  | inr more ↦ let few = new more.0 p more.2 in let place = more.1 in omega (arith, few, place)
]

module _ (registry : Registry) (k : ℕ) (asked : Request) where
  abbrev pub IsReplyTo : Packet → Type 0
  IsReplyTo p = (s : ClaimMap) × (p.message ≡ answer (due registry s asked).reply)

  -- the request, or a reply to it
  abbrev Coming : World → List WirePacket → Type 0
  Coming v packets = Contains packets (spelled k (packet_of asked)) ⊎ ((n : ℕ) × (p : Packet) × (slice_get v.sent n ≡ Some p) × (p.answers ≡ k + 1) × Contains packets (spelled n p))

  -- The request was sent in this place; what answers it is a reply to it; and it or one of these is on its way.
  pub record Tracks (v : World) (packets : List WirePacket) : Type 0 where
    pub before : AnswersBefore v
    pub stands : slice_get v.sent k ≡ Some (packet_of asked)
    pub replies : (n : ℕ) (p : Packet) → slice_get v.sent n ≡ Some p → p.answers ≡ k + 1 → IsReplyTo p
    pub coming : Coming v packets

  -- it was sent last
  pub tracks_last : (v : World) (packets : List WirePacket) → AnswersBefore v → slice_get v.sent k ≡ Some (packet_of asked) → length v.sent ≡ k + 1 → Contains packets (spelled k (packet_of asked)) → Tracks v packets
  tracks_last v packets before stands last there = record {
    before = before;
    stands = stands;
    replies = λ n p at is. (let within = slice_get_within v.sent n p at in let few = before n p at in absurd (omega (arith, within, few, is, last)));
    coming = inl there;
  }

  none_left : (v : World) → Tracks v [] → ⊥
  none_left v tracks = elim tracks.coming [ inl there ↦ nowhere (spelled k (packet_of asked)) there | inr there ↦ nowhere (spelled there.0 there.1) there.4 ]

  module _ (v : World) (packets : List WirePacket) (tracks : Tracks v packets) (given rest : List WirePacket) (cut : packets ≡ given ++ rest) where
    remains : (x y : WirePacket) → given ≡ x ∷ [] → Contains packets y → x ≢ y → Contains rest y
    remains x y one there apart = elim (here_or_later x rest y (subst (λ xs. Contains xs y) (cut ∙ ap (λ g. g ++ rest) one) there)) [ inl same ↦ absurd (apart same) | inr more ↦ more ]

    -- what was sent more answers what was sent before, and what of it answers the request is a reply to it
    goes_on : (u : World) (ps : List Packet) → u.sent ≡ v.sent ++ ps → ((i : ℕ) (p : Packet) → slice_get ps i ≡ Some p → (p.answers ≤ length v.sent) × (p.answers ≡ k + 1 → IsReplyTo p)) →
        Coming u (rest ++ sent_between v u) → Tracks u (rest ++ sent_between v u)
    goes_on u ps is new coming = record {
      before = before_on v u ps is tracks.before (λ i p at. let few = (new i p at).0 in omega (arith, few));
      stands = ap (λ s. slice_get s k) is ∙ place_left v.sent ps k (packet_of asked) tracks.stands;
      replies = λ n p at answers. elim (place_cases v.sent ps n p (ap (λ s. slice_get s n) (sym is) ∙ at)) [
        | inl old ↦ tracks.replies n p old answers
        | inr more ↦ (new more.0 p more.2).1 answers
      ];
      coming = coming;
    }

    -- what was on its way still is
    still : (u : World) (ps : List Packet) → u.sent ≡ v.sent ++ ps → (Contains packets (spelled k (packet_of asked)) → Contains rest (spelled k (packet_of asked))) →
        ((n : ℕ) (p : Packet) → slice_get v.sent n ≡ Some p → p.answers ≡ k + 1 → Contains packets (spelled n p) → Contains rest (spelled n p)) → Coming u (rest ++ sent_between v u)
    still u ps is first second = elim tracks.coming [
      | inl there ↦ inl (Contains-append_left rest (sent_between v u) (spelled k (packet_of asked)) (first there))
      | inr there ↦ inr (
        there.0,
        there.1,
        ap (λ s. slice_get s there.0) is ∙ place_left v.sent ps there.0 there.1 there.2,
        there.3,
        Contains-append_left rest (sent_between v u) (spelled there.0 there.1) (second there.0 there.1 there.2 there.3 there.4),
      )
    ]

    -- a packet that nobody here sent
    strayed : GivenFor v.sent given strays → Tracks (happens registry v strays) (rest ++ sent_between v (happens registry v strays))
    unfolding happens
    strayed other =
        let u : World = happens registry v strays in
        let same : u.sent ≡ v.sent ++ [] = sym (append-nil v.sent) in
        goes_on u [] same (λ i p at. absurd cc)
        (still u [] same
        (λ there. remains other.0 (spelled k (packet_of asked)) other.1 there (λ is. other.2 k (packet_of asked) tracks.stands (sym is)))
        (λ n p at answers there. remains other.0 (spelled n p) other.1 there (λ is. other.2 n p at (sym is))))

    module _ (n : ℕ) (p : Packet) (at : slice_get v.sent n ≡ Some p) (one : given ≡ spelled n p ∷ []) where
      abbrev u : World
      u = happens registry v (hands n)

      -- a request
      module _ (request : Request) (is : p.message ≡ ask request) where
        abbrev reply : Packet
        reply = answer_to registry v n request

        grown : u.sent ≡ v.sent ++ reply ∷ []
        grown = asked_sends registry v n p request at is

        said : n ≡ k → IsReplyTo reply
        said same =
            let packet : p ≡ packet_of asked = same_Some p (packet_of asked) (sym at ∙ ap (slice_get v.sent) same ∙ tracks.stands) in
            let messages : ask request ≡ ask asked = sym is ∙ ap (λ (x : Packet). x.message) packet in
            let requested : request ≡ asked = cc in
            (v.claims, ap (λ r. answer (due registry v.claims r).reply) requested)

        comes_now : n ≡ k → Coming u (rest ++ sent_between v u)
        comes_now same =
            let place : length v.sent ≡ length v.sent + 0 = omega arith in
            let last : slice_get (v.sent ++ reply ∷ []) (length v.sent) ≡ Some reply = ap (slice_get (v.sent ++ reply ∷ [])) place ∙ place_right v.sent (reply ∷ []) 0 in
            let there : Contains (spelled_from (length v.sent) (reply ∷ [])) (spelled (length v.sent) reply) = here (spelled (length v.sent) reply) [] in
            inr (
              length v.sent,
              reply,
              ap (λ s. slice_get s (length v.sent)) grown ∙ last,
              ap (λ m. m + 1) same,
              Contains-append_right rest (sent_between v u) (spelled (length v.sent) reply) (subst (λ xs. Contains xs (spelled (length v.sent) reply)) (sym (sent_is v u (reply ∷ []) grown)) there),
            )

        comes_later : n ≢ k → Coming u (rest ++ sent_between v u)
        comes_later apart = still u (reply ∷ []) grown
            (λ there. remains (spelled n p) (spelled k (packet_of asked)) one there (λ same. apart (same_place n k p (packet_of asked) same)))
            (λ m q q_at answers there. remains (spelled n p) (spelled m q) one there (λ same.
            let place : n ≡ m = same_place n m p q same in
            let packet : p ≡ q = same_Some p q (sym at ∙ ap (slice_get v.sent) place ∙ q_at) in
            let told = tracks.replies m q q_at answers in
            let both : ask request ≡ answer (due registry told.0 asked).reply = sym is ∙ ap (λ (x : Packet). x.message) packet ∙ told.1 in
            cc))

        asked_goes : Tracks u (rest ++ sent_between v u)
        asked_goes = goes_on u (reply ∷ []) grown
            (λ i q q_at. only_reply i q q_at)
            (elim (same_or_other nat_cmp_total nat_cmp-IsAntisymmetric n k) [ inl same ↦ comes_now same | inr apart ↦ comes_later apart ])
          where
            only_reply : (i : ℕ) (q : Packet) → slice_get (reply ∷ []) i ≡ Some q → (q.answers ≤ length v.sent) × (q.answers ≡ k + 1 → IsReplyTo q)
            only_reply zero q q_at =
                let same = same_Some reply q q_at in
                let within = slice_get_within v.sent n p at in
                subst (λ (x : Packet). (x.answers ≤ length v.sent) × (x.answers ≡ k + 1 → IsReplyTo x)) same (omega (arith, within), λ answers. said (omega (arith, answers)))
            only_reply (suc i) q q_at = absurd cc

        asked_waits : after_event u.sent (hands n) (Awaits (k + 1)) ≡ Awaits (k + 1)
        asked_waits =
            ap (λ o. after_packet (k + 1) n o (length u.sent)) (stays (event_grows registry v (hands n)).sent n p at)
            ∙ ap (λ m. cond (nat_eq p.answers (k + 1)) (after_message (k + 1) n m (length u.sent)) (Awaits (k + 1))) is
            ∙ either (nat_eq p.answers (k + 1)) (Awaits (k + 1))
          where
            either : (b : Bool) (c : Course) → cond b c c ≡ c
            either true c = refl
            either false c = refl

      -- a reply to another request
      module _ (reply : Reply) (is : p.message ≡ answer reply) (other : p.answers ≢ k + 1) where
        heard_goes : Tracks u (rest ++ sent_between v u)
        heard_goes = goes_on u (map packet_of (requests_of registry v reply)) grown
            (λ i q q_at. let from = asks_from (requests_of registry v reply) i q q_at in subst (λ (x : Packet). (x.answers ≤ length v.sent) × (x.answers ≡ k + 1 → IsReplyTo x)) from.2 (omega arith, λ answers. absurd (omega (arith, answers))))
            (still u (map packet_of (requests_of registry v reply)) grown
            (λ there. remains (spelled n p) (spelled k (packet_of asked)) one there (λ same.
            let place : n ≡ k = same_place n k p (packet_of asked) same in
            let packet : p ≡ packet_of asked = same_Some p (packet_of asked) (sym at ∙ ap (slice_get v.sent) place ∙ tracks.stands) in
            let both : answer reply ≡ ask asked = sym is ∙ ap (λ (x : Packet). x.message) packet in
            cc))
            (λ m q q_at answers there. remains (spelled n p) (spelled m q) one there (λ same.
            let place : n ≡ m = same_place n m p q same in
            let packet : p ≡ q = same_Some p q (sym at ∙ ap (slice_get v.sent) place ∙ q_at) in
            other (ap (λ (x : Packet). x.answers) packet ∙ answers))))
          where
            grown : u.sent ≡ v.sent ++ map packet_of (requests_of registry v reply)
            grown = heard_sends registry v n p reply at is

        heard_waits : after_event u.sent (hands n) (Awaits (k + 1)) ≡ Awaits (k + 1)
        heard_waits =
            ap (λ o. after_packet (k + 1) n o (length u.sent)) (stays (event_grows registry v (hands n)).sent n p at)
            ∙ ap (λ b. cond b (after_message (k + 1) n p.message (length u.sent)) (Awaits (k + 1))) (not_true (nat_eq p.answers (k + 1)) (λ t. other ((Decides-eqb p.answers (k + 1)).0 t)))

  -- The reply comes: what is true of each world where it is handed over, by what is true as long as it is not, is true behind these events.
  module _ (Keeps : World → Type 0) (Holds : World → Course → Type 0) (bound : ℕ)
      (keeps : (v : World) (packets : List WirePacket) → Tracks v packets → Keeps v → (e : Event) → IsHandOver e → ((n : ℕ) (p : Packet) → e ≡ hands n → slice_get v.sent n ≡ Some p → p.answers ≢ k + 1) → Keeps (happens registry v e))
      (comes : (v : World) (packets rest : List WirePacket) (n : ℕ) (p : Packet) (es : List Event) → Tracks v packets → Keeps v → slice_get v.sent n ≡ Some p → p.answers ≡ k + 1 → IsReplyTo p → length es < bound → AllByRecursion IsHandOver es →
      AllCome registry (happens registry v (hands n)) (rest ++ sent_between v (happens registry v (hands n))) es [] →
      Holds (run registry es (happens registry v (hands n))) (course_behind registry (happens registry v (hands n)) (after_event (happens registry v (hands n)).sent (hands n) (Awaits (k + 1))) es)) where
    handed : (v : World) (packets : List WirePacket) (n : ℕ) (es : List Event) → Tracks v packets → Keeps v → length es < bound → AllByRecursion IsHandOver es → AllCome registry v packets (hands n ∷ es) [] →
        ((more : List WirePacket) → Tracks (happens registry v (hands n)) more → Keeps (happens registry v (hands n)) → AllCome registry (happens registry v (hands n)) more es [] → Holds (run registry es (happens registry v (hands n))) (course_behind registry (happens registry v (hands n)) (Awaits (k + 1)) es)) →
        Holds (run registry (hands n ∷ es) v) (course_behind registry v (Awaits (k + 1)) (hands n ∷ es))
    handed v packets n es tracks keep few hand_over all again = go all.3.0.message refl
      where
        on : Tracks (happens registry v (hands n)) (all.1 ++ sent_between v (happens registry v (hands n))) → after_event (happens registry v (hands n)).sent (hands n) (Awaits (k + 1)) ≡ Awaits (k + 1) → all.3.0.answers ≢ k + 1 →
            Holds (run registry (hands n ∷ es) v) (course_behind registry v (Awaits (k + 1)) (hands n ∷ es))
        on tracks_on waits other = subst (λ c. Holds (run registry es (happens registry v (hands n))) (course_behind registry (happens registry v (hands n)) c es)) (sym waits)
            (again (all.1 ++ sent_between v (happens registry v (hands n))) tracks_on (keeps v packets tracks keep (hands n) tt (λ m q is at answers.
            let place : n ≡ m = cc in
            let packet : all.3.0 ≡ q = same_Some all.3.0 q (sym all.3.1 ∙ ap (slice_get v.sent) place ∙ at) in
            other (ap (λ (x : Packet). x.answers) packet ∙ answers))) all.4)

        go : (m : Message) → all.3.0.message ≡ m → Holds (run registry (hands n ∷ es) v) (course_behind registry v (Awaits (k + 1)) (hands n ∷ es))
        go (ask request) is = elim (same_or_other nat_cmp_total nat_cmp-IsAntisymmetric all.3.0.answers (k + 1)) [
          | inl same ↦ let said = tracks.replies n all.3.0 all.3.1 same in let both : ask request ≡ answer (due registry said.0 asked).reply = sym is ∙ said.1 in absurd cc
          | inr other ↦ on (asked_goes v packets tracks all.0 all.1 all.2 n all.3.0 all.3.1 all.3.2 request is) (asked_waits v packets tracks all.0 all.1 all.2 n all.3.0 all.3.1 all.3.2 request is) other
        ]
        go (answer reply) is = elim (same_or_other nat_cmp_total nat_cmp-IsAntisymmetric all.3.0.answers (k + 1)) [
          | inl same ↦ comes v packets all.1 n all.3.0 es tracks keep all.3.1 same (tracks.replies n all.3.0 all.3.1 same) few hand_over all.4
          | inr other ↦ on (heard_goes v packets tracks all.0 all.1 all.2 n all.3.0 all.3.1 all.3.2 reply is other) (heard_waits v packets tracks all.0 all.1 all.2 n all.3.0 all.3.1 all.3.2 reply is other) other
        ]

    pub reply_comes : (v : World) (packets : List WirePacket) (es : List Event) → Tracks v packets → Keeps v → length es ≤ bound → AllByRecursion IsHandOver es → AllCome registry v packets es [] → Holds (run registry es v) (course_behind registry v (Awaits (k + 1)) es)
    reply_comes v packets [] tracks keep few hand_over all = absurd (none_left v (subst (Tracks v) (sym all) tracks))
    reply_comes v packets (strays ∷ es) tracks keep few hand_over all =
        reply_comes (happens registry v strays) (all.1 ++ sent_between v (happens registry v strays)) es (strayed v packets tracks all.0 all.1 all.2 all.3) (keeps v packets tracks keep strays tt (λ n p is. absurd cc)) (omega (arith, few)) hand_over.1 all.4
    reply_comes v packets (hands n ∷ es) tracks keep few hand_over all =
        handed v packets n es tracks keep (omega (arith, few)) hand_over.1 all (λ more tracks_on keep_on come. reply_comes (happens registry v (hands n)) more es tracks_on keep_on (omega (arith, few)) hand_over.1 come)
    reply_comes v packets (asks cell change now ∷ es) tracks keep few hand_over all = absurd hand_over.0
    reply_comes v packets (requests request ∷ es) tracks keep few hand_over all = absurd hand_over.0
    reply_comes v packets (reconciles cell now ∷ es) tracks keep few hand_over all = absurd hand_over.0
    reply_comes v packets (cuts n stands ∷ es) tracks keep few hand_over all = absurd hand_over.0
    reply_comes v packets (restarts node ∷ es) tracks keep few hand_over all = absurd hand_over.0

-- requests were sent, this one last
pub last_tracks : (registry : Registry) (v u : World) (ps : List Packet) (asked : Request) (packets : List WirePacket) → AnswersBefore v → u.sent ≡ v.sent ++ (ps ++ packet_of asked ∷ []) → ((i : ℕ) (p : Packet) → slice_get ps i ≡ Some p → p.answers ≡ 0) →
    ((x : WirePacket) → Contains (sent_between v u) x → Contains packets x) → Tracks registry (length v.sent + length ps) asked u packets × (length u.sent ≡ (length v.sent + length ps) + 1)
last_tracks registry v u ps asked packets before is none there = (tracks_last registry (length v.sent + length ps) asked u packets (before_on v u (ps ++ packet_of asked ∷ []) is before answers_none) stands longer comes, longer)
  where
    answers_none : (i : ℕ) (p : Packet) → slice_get (ps ++ packet_of asked ∷ []) i ≡ Some p → p.answers ≤ length v.sent + i
    answers_none i p at = elim (place_cases ps (packet_of asked ∷ []) i p at) [
      | inl old ↦ let zero_is = none i p old in omega (arith, zero_is)
      | inr last ↦ one last.0 last.2
    ]
      where
        one : (j : ℕ) → slice_get (packet_of asked ∷ []) j ≡ Some p → p.answers ≤ length v.sent + i
        one zero is_last = let same = same_Some (packet_of asked) p is_last in let none_is : 0 ≡ p.answers = ap (λ (x : Packet). x.answers) same in omega (arith, none_is)
        one (suc j) is_last = absurd cc

    stands : slice_get u.sent (length v.sent + length ps) ≡ Some (packet_of asked)
    stands = ap (λ s. slice_get s (length v.sent + length ps)) is ∙ place_right v.sent (ps ++ packet_of asked ∷ []) (length ps) ∙ get_last ps (packet_of asked)

    longer : length u.sent ≡ (length v.sent + length ps) + 1
    longer = let all = ap length is in let both = length-append v.sent (ps ++ packet_of asked ∷ []) in let more = length_push ps (packet_of asked) in omega (arith, all, both, more)

    comes : Contains packets (spelled (length v.sent + length ps) (packet_of asked))
    comes = there (spelled (length v.sent + length ps) (packet_of asked)) (subst (λ xs. Contains xs (spelled (length v.sent + length ps) (packet_of asked))) (sym (sent_is v u (ps ++ packet_of asked ∷ []) is))
        (spelled_in (length v.sent) (ps ++ packet_of asked ∷ []) (length ps) (packet_of asked) (get_last ps (packet_of asked))))
