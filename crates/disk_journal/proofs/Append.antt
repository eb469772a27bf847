-- The four calls of an append, over the disks before and after each.
use Rattle.std.proofs.Common.{◌≡◌, ◌≢◌, ◌⊎◌, inl, ℕ, ◌+◌, List, [], ◌∷◌, ◌++◌, length, refl, sym, ◌∙◌, subst, arith, length-append}
use Rattle.std.specs.Prelude.{Result, Ok, Err, OnErr}
use Rattle.disk_journal.specs.Disk.{NoMore, Only, Steps, SameEverywhere, Holds, Torn}
use Rattle.disk_journal.specs.Moments.{LeftOnly}
use Rattle.disk_journal.specs.Journal.{header, framed, IsBody, IsJournal, JournalState, EndsAt}
use Rattle.disk_journal.specs.Effects.{IsSettled, IsAppending, IsBodyInDoubt}
use Rattle.disk_journal.specs.declared.disk.Disk.{Ghosts}
use Rattle.disk_journal.proofs.Moments.{Goes, OnlyNow, SeenMayStay, started, goes_on}
use Rattle.disk_journal.proofs.Settled.{settled_content}
use Rattle.disk_journal.proofs.Writing.{length-framed, records_push, torn_behind, written_behind, torn_gate, written_gate, longer, any_gate}

-- what holds whatever was answered
pub on_err : {T E P : Type 0} (result : Result T E) → P → OnErr result P
on_err (Ok x) p = tt
on_err (Err e) p = p

module _ {D : Type 0} (g : Ghosts D) (only_now : OnlyNow g) (seen_may_stay : SeenMayStay g)
    (opened journal : JournalState) (same_journal : opened ≡ journal) (bodies : List (List ℕ)) (body : List ℕ) (fits : IsBody body) (d0 : D) (at_start : IsSettled g d0 journal bodies) where
  abbrev file : ℕ
  file = opened.file

  abbrev gate : ℕ
  gate = opened.gate

  s : IsSettled g d0 opened bodies
  s = subst (λ j. IsSettled g d0 j bodies) (sym same_journal) at_start

  abbrev tail : List ℕ
  tail = framed body ++ 0 ∷ []

  abbrev Either : List ℕ → Type 0
  Either c = IsJournal c bodies ⊎ IsJournal c (bodies ++ body ∷ [])

  -- up to this disk each crash left the bodies or these with the new one, and so does one now
  pub record Run (d : D) : Type 0 where
    pub so_far : LeftOnly g d0 d (IsAppending g d0 file bodies body)
    pub own : (c : List ℕ) → g.may_leave d file c → Either c
    pub others : (q : ℕ) → q ≢ file → (c : List ℕ) → g.may_leave d q c → g.may_leave d0 q c

  step : (d new : D) → Run d → Goes g d new → ((c : List ℕ) → g.may_leave new file c → Either c) → ((q : ℕ) → q ≢ file → (c : List ℕ) → g.may_leave new q c → g.may_leave d q c) → Run new
  step d new run time own others = record {
    so_far = goes_on g d0 d new _ run.so_far time (λ img is. record { own = own (img file) (is file); others = λ q apart. run.others q apart (img q) (others q apart (img q) (is q)) });
    own = own;
    others = λ q apart c may. run.others q apart c (others q apart c may);
  }

  same : (d new : D) → Run d → Goes g d new → NoMore (g.may_leave d) (g.may_leave new) → Run new
  same d new run time less = step d new run time (λ c may. run.own c (less file c may)) (λ q apart c may. less q c may)

  -- what a run says of the journal as the caller knows it
  pub during : (d : D) → Run d → LeftOnly g d0 d (IsAppending g d0 journal.file bodies body)
  during d run = subst (λ j. LeftOnly g d0 d (IsAppending g d0 j.file bodies body)) same_journal run.so_far

  pub in_doubt : (d : D) → Run d → IsBodyInDoubt g d journal.file bodies body
  in_doubt d run = subst (λ j. IsBodyInDoubt g d j.file bodies body) same_journal (record { left = λ img own. run.own (img file) (own file refl); read = run.own (g.seen d file) (seen_may_stay d file) })

  begun : Run d0
  begun =
      let own : (c : List ℕ) → g.may_leave d0 file c → Either c = (λ c may. inl (settled_content g d0 opened bodies s c may)) in
      record {
        so_far = started g d0 _ only_now (λ img is. record { own = own (img file) (is file); others = λ q other. is q });
        own = own;
        others = λ q apart c may. may;
      }

  staged : (c : List ℕ) → Holds (g.seen d0 file) (gate + 1) tail c → c ≡ header ++ s.ends.front ++ 0 ∷ tail
  staged c holds = written_behind s.ends.front bodies s.ends.records gate s.ends.long tail c (subst (λ f. Holds f (gate + 1) tail c) s.ends.file holds)

  -- the record behind the closed gate
  module _ (d1 : D) (n : ℕ) (time1 : Goes g d0 d1) (crash1 : Steps file (Torn (gate + 1) n) (g.may_leave d0) (g.may_leave d1)) where
    pub written : Run d1
    written = step d0 d1 begun time1 (λ c may.
        let from = crash1.this c may in
        inl (torn_behind s.ends.front bodies s.ends.records gate s.ends.long n from.0 c (settled_content g d0 opened bodies s from.0 from.1) from.2)) crash1.others

    module _ (d2 : D) (time2 : Goes g d1 d2) (crash2 : NoMore (g.may_leave d1) (g.may_leave d2)) where
      pub synced : Run d2
      synced = same d1 d2 written time2 crash2

      -- the gate, once the record is on the disk
      module _ (holds : Holds (g.seen d0 file) (gate + 1) tail (g.seen d1 file)) (durable2 : Only (g.seen d1 file) (g.may_leave d2 file))
          (d3 : D) (time3 : Goes g d2 d3) (crash3 : Steps file (Torn gate 1) (g.may_leave d2) (g.may_leave d3)) where
        pub gated : Run d3
        gated = step d2 d3 synced time3 (λ c may.
            let from = crash3.this c may in
            let torn = subst (λ f. Torn gate 1 f c) (durable2 from.0 from.1 ∙ staged (g.seen d1 file) holds) from.2 in
            let left = torn_gate s.ends.front bodies s.ends.records gate s.ends.long tail c torn in
            any_gate s.ends.front bodies s.ends.records gate s.ends.long left.0 body c fits left.1) crash3.others

        pub finished : (d4 : D) → Goes g d3 d4 → NoMore (g.may_leave d3) (g.may_leave d4) → Run d4
        finished d4 time4 crash4 = same d3 d4 gated time4 crash4

  -- and then the new record is on the disk
  pub settled : (d1 d2 d3 d4 : D) (new : JournalState) → new.file ≡ file → new.gate ≡ gate + 5 + length body → Holds (g.seen d0 file) (gate + 1) tail (g.seen d1 file)
      → SameEverywhere (g.seen d1) (g.seen d2) → Holds (g.seen d2 file) gate (1 ∷ []) (g.seen d3 file) → SameEverywhere (g.seen d3) (g.seen d4) → Only (g.seen d3 file) (g.may_leave d4 file)
      → IsSettled g d4 new (bodies ++ body ∷ [])
  settled d1 d2 d3 d4 new same_file is_gate holds same gated same_after durable =
      let is_open = written_gate s.ends.front bodies s.ends.records gate s.ends.long tail (g.seen d3 file)
      (subst (λ f. Holds f gate (1 ∷ []) (g.seen d3 file)) (same file ∙ staged (g.seen d1 file) holds) gated) in
      let ends : EndsAt (g.seen d4 file) new.gate (bodies ++ body ∷ []) = record {
        front = s.ends.front ++ 1 ∷ framed body;
        records = records_push s.ends.front bodies 1 body s.ends.records (omega arith) fits;
        long = omega (arith, is_gate, s.ends.long, length-append s.ends.front (1 ∷ framed body), length-framed body);
        file = same_after file ∙ is_open ∙ longer s.ends.front bodies s.ends.records gate s.ends.long 1 body (0 ∷ []);
      } in
      record {
        ends = subst (λ f. EndsAt (g.seen d4 f) new.gate (bodies ++ body ∷ [])) (sym same_file) ends;
        durable = λ img own. (ends.front, [], ends.records, left (img new.file) (own new.file refl) ∙ ends.file);
      }
    where
      left : (c : List ℕ) → g.may_leave d4 new.file c → c ≡ g.seen d4 file
      left c may = durable c (subst (λ f. g.may_leave d4 f c) same_file may) ∙ sym (same_after file)
