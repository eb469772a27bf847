-- The calls of an opening, and those that make a journal, over the disks before and after each.
use Rattle.std.proofs.Common.{◌≡◌, ◌≢◌, ◌≤◌, ◌<◌, ℕ, ◌+◌, List, [], ◌∷◌, ◌++◌, length, take, drop, refl, sym, ◌∙◌, ap, subst, arith, append_assoc, take-append-drop}
use Rattle.std.proofs.lemmas.List.{take-take, take_all, nil_from_length}
use Rattle.disk_journal.specs.Disk.{Image, IsImage, NoMore, Only, Steps, Holds, Torn, Cut}
use Rattle.disk_journal.specs.Moments.{LeftOnly, Stays}
use Rattle.disk_journal.specs.Journal.{header, fresh, IsJournal, HasBodies, EndsAt}
use Rattle.disk_journal.specs.Effects.{IsInUse, IsMaking, IsOpening, IsShortened, IsTrimmed}
use Rattle.disk_journal.specs.declared.disk.Disk.{Ghosts}
use Rattle.disk_journal.proofs.Moments.{Goes, OnlyNow, SeenMayStay, started, goes_on, joined, weakened}
use Rattle.disk_journal.proofs.Reading.{one_meaning}

-- what a cut behind the closed gate leaves has the same bodies
pub cut_keeps : (bytes c : List ℕ) (gate : ℕ) (bodies : List (List ℕ)) → EndsAt (take (gate + 1) bytes) gate bodies → gate < length bytes → Cut (gate + 1) bytes c → IsJournal c bodies
cut_keeps bytes c gate bodies ends within cut =
    let long : gate + 1 ≤ length c = omega (arith, cut.no_shorter) in
    let front : take (gate + 1) c ≡ header ++ ends.front ++ 0 ∷ [] = ap (take (gate + 1)) (sym cut.front) ∙ take-take (gate + 1) (length c) bytes long ∙ ends.file in (
      ends.front,
      drop (gate + 1) c,
      ends.records,
      sym (take-append-drop (gate + 1) c) ∙ ap (λ (l : List ℕ). l ++ drop (gate + 1) c) front ∙ append_assoc (header ++ ends.front) (0 ∷ []) (drop (gate + 1) c),
    )

whole : (n : ℕ) (c : List ℕ) → Cut n c c
whole n c = record { no_shorter = omega arith; front = take_all (length c) c (omega arith) }

-- files that stay are trimmed
trimmed_same : (file : ℕ) (img : Image) → IsTrimmed file img img
trimmed_same file img = record {
  bodies = λ bodies has. has;
  no_journal = λ none q own. refl;
  fronts = λ q own. (length (img q), sym (take_all (length (img q)) (img q) (omega arith)));
}

-- a journal that was cut behind its closed gate is trimmed
trimmed_cut : (file : ℕ) (from img : Image) (bodies : List (List ℕ)) → HasBodies from file bodies → IsJournal (img file) bodies → take (length (img file)) (from file) ≡ img file → IsTrimmed file from img
trimmed_cut file from img bodies had has front = record {
  bodies = λ others other. subst (HasBodies img file) (sym (one_meaning (from file) others bodies other had)) has;
  no_journal = λ none q own. absurd (none bodies had);
  fronts = λ q own. (length (img file), subst (λ f. img f ≡ take (length (img file)) (from f)) (sym own) (sym front));
}

module _ {D : Type 0} (g : Ghosts D) (only_now : OnlyNow g) (seen_may_stay : SeenMayStay g) (file : ℕ) (d0 : D) where
  -- calls that change nothing
  abbrev Same : Image → Type 0
  Same = IsImage (g.may_leave d0)

  pub record Idle (d : D) : Type 0 where
    pub so_far : LeftOnly g d0 d Same
    pub less : NoMore (g.may_leave d0) (g.may_leave d)

  pub idle : Idle d0
  idle = record { so_far = started g d0 Same only_now (λ img is. is); less = λ q c may. may }

  pub idle_more : (d new : D) → Idle d → Goes g d new → NoMore (g.may_leave d) (g.may_leave new) → Idle new
  idle_more d new run time less =
      let more : NoMore (g.may_leave d0) (g.may_leave new) = (λ q c may. run.less q c (less q c may)) in
      record { so_far = goes_on g d0 d new Same run.so_far time (λ img is q. more q (img q) (is q)); less = more }

  -- a cut and a sync
  module _ (size : ℕ) (d1 : D) (time1 : Goes g d0 d1) (crash1 : Steps file (Cut size) (g.may_leave d0) (g.may_leave d1)) where
    abbrev Short : Image → Type 0
    Short = IsShortened g d0 file size

    shortened : (img : Image) → IsImage (g.may_leave d1) img → Short img
    shortened img is = record { this = crash1.this (img file) (is file); others = λ q other. crash1.others q other (img q) (is q) }

    pub during_cut : LeftOnly g d0 d1 Short
    during_cut = goes_on g d0 d0 d1 Short (started g d0 Short only_now (λ img is. record { this = (img file, is file, whole size (img file)); others = λ q other. is q })) time1 shortened

    pub during_trim : (d2 : D) → Goes g d1 d2 → NoMore (g.may_leave d1) (g.may_leave d2) → LeftOnly g d0 d2 Short
    during_trim d2 time2 crash2 = goes_on g d0 d1 d2 Short during_cut time2 (λ img is. shortened img (λ q. crash2 q (img q) (is q)))

  -- an opening: the bytes are read, and then cut
  as_before : (img : Image) → Same img → IsOpening g d0 file img
  as_before img is = record { from = img; might = is; own = trimmed_same file img; others = λ q other. is q }

  pub during_read : (d1 : D) → LeftOnly g d0 d1 Same → LeftOnly g d0 d1 (IsOpening g d0 file)
  during_read d1 run = weakened g d0 d1 Same (IsOpening g d0 file) run as_before

  pub reads_same : (d1 : D) → ((q : ℕ) → Stays g q d0 d1) → IsTrimmed file (g.seen d0) (g.seen d1)
  reads_same d1 stays = record {
    bodies = λ bodies has. subst (λ bytes. IsJournal bytes bodies) (sym (stays file).reads) has;
    no_journal = λ none q own. (stays q).reads;
    fronts = λ q own. (length (g.seen d0 q), (stays q).reads ∙ sym (take_all (length (g.seen d0 q)) (g.seen d0 q) (omega arith)));
  }

  module _ (d1 : D) (run1 : LeftOnly g d0 d1 Same) (stays1 : (q : ℕ) → Stays g q d0 d1) (durable1 : Only (g.seen d0 file) (g.may_leave d1 file))
      (bytes : List ℕ) (is : bytes ≡ g.seen d0 file) (gate : ℕ) (bodies : List (List ℕ)) (journal : IsJournal bytes bodies) (ends : EndsAt (take (gate + 1) bytes) gate bodies) (within : gate < length bytes)
      (d2 : D) (run2 : LeftOnly g d1 d2 (IsShortened g d1 file (gate + 1))) (crash2 : Steps file (Cut (gate + 1)) (g.may_leave d1) (g.may_leave d2)) where
    had : HasBodies (g.seen d0) file bodies
    had = subst (λ b. IsJournal b bodies) is journal

    trimmed : (img : Image) → (d : List ℕ) × g.may_leave d1 file d × Cut (gate + 1) d (img file) → IsTrimmed file (g.seen d0) img
    trimmed img from =
        let cut : Cut (gate + 1) (g.seen d0 file) (img file) = subst (λ b. Cut (gate + 1) b (img file)) (durable1 from.0 from.1) from.2 in
        trimmed_cut file (g.seen d0) img bodies had (cut_keeps bytes (img file) gate bodies ends within (subst (λ b. Cut (gate + 1) b (img file)) (sym is) cut)) cut.front

    pub kept : IsTrimmed file (g.seen d0) (g.seen d2)
    kept = trimmed (g.seen d2) (crash2.this (g.seen d2 file) (seen_may_stay d2 file))

    cut_opens : (img : Image) → IsShortened g d1 file (gate + 1) img → IsOpening g d0 file img
    cut_opens img now = record {
      from = g.seen d0;
      might = seen_may_stay d0;
      own = trimmed img now.this;
      others = λ q other. (stays1 q).leaves (img q) (now.others q other);
    }

    pub during_open : LeftOnly g d0 d2 (IsOpening g d0 file)
    during_open = joined g d0 d1 d2 Same (IsShortened g d1 file (gate + 1)) (IsOpening g d0 file) run1 run2 as_before cut_opens

  -- a journal is made
  abbrev Makes : Image → Type 0
  Makes = IsMaking g d0 file

  pub during_size : (d1 : D) → Goes g d0 d1 → NoMore (g.may_leave d0) (g.may_leave d1) → LeftOnly g d0 d1 Makes
  during_size d1 time1 crash1 = let run = idle_more d0 d1 idle time1 crash1 in weakened g d0 d1 Same Makes run.so_far (λ img is. record { in_use = λ used q own. is q; others = λ q other. is q })

  -- a file of which a read gives nothing is not in use
  pub not_in_use : length (g.seen d0 file) ≡ 0 → IsInUse g file d0 → ⊥
  not_in_use none (q, own, some) = some (subst (λ f. g.seen d0 f ≡ []) (sym own) (nil_from_length (g.seen d0 file) none))

  module _ (d1 : D) (time1 : Goes g d0 d1) (crash1 : NoMore (g.may_leave d0) (g.may_leave d1)) (none : length (g.seen d0 file) ≡ 0)
      (n : ℕ) (d2 : D) (time2 : Goes g d1 d2) (crash2 : Steps file (Torn 0 n) (g.may_leave d1) (g.may_leave d2)) where
    makes : (img : Image) → ((q : ℕ) → q ≢ file → g.may_leave d2 q (img q)) → Makes img
    makes img is = record {
      in_use = λ used. absurd (not_in_use none used);
      others = λ q other. crash1 q (img q) (crash2.others q other (img q) (is q other));
    }

    pub during_fresh : LeftOnly g d0 d2 Makes
    during_fresh = goes_on g d0 d1 d2 Makes (during_size d1 time1 crash1) time2 (λ img is. makes img (λ q other. is q))

    pub during_make : (d3 : D) → Goes g d2 d3 → NoMore (g.may_leave d2) (g.may_leave d3) → LeftOnly g d0 d3 Makes
    during_make d3 time3 crash3 = goes_on g d0 d2 d3 Makes during_fresh time3 (λ img is. makes img (λ q other. crash3 q (img q) (is q)))

-- the bytes of a journal that was made
pub made : (none seen2 seen3 : List ℕ) → length none ≡ 0 → Holds none 0 fresh seen2 → seen3 ≡ seen2 → seen3 ≡ fresh
made none seen2 seen3 empty holds same = same ∙ holds ∙ ap (λ (l : List ℕ). fresh ++ drop 17 l) (nil_from_length none empty)
