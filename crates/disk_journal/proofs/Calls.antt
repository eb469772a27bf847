-- What the calls of a disk in memory do to what a read gives and to what a crash may leave.
use Rattle.std.proofs.Common.{◌≡◌, inl, inr, Bool, true, false, cond, ℕ, zero, suc, ◌+◌, ◌-◌, ◌≤◌, ◌<◌, min, max, List, [], ◌∷◌, ◌++◌, length, take, drop, get_or, replicate, refl, sym, ◌∙◌, ap, subst, arith, length-append, length-take, length-drop}
use Rattle.std.proofs.lemmas.List.{get_or-take, get_or-drop, get_or_append_left, get_or-append_right, get_or-replicate, length-replicate, same_lists, take_at, take_all, get_or_default}
use Rattle.std.proofs.lemmas.Bool.{cases_lt, cases_eq}
use Rattle.disk_journal.specs.Disk.{Image, Only, Torn, Cut, Steps, Progresses}
use Rattle.disk_journal.specs.Memory.{FileState, DiskState, IsCall, IsSteady, Works, IsConsistent, IsLeft, MayLeave, overlaid, written_at, cut_to, flushed, state_of, place_of, can_write, next_fate, called, faulted}
use Rattle.disk_journal.specs.Failing.{fate_at, passes, does_work, one_more}
use Rattle.disk_journal.specs.declared.failing.Fate.{Fate}
use Rattle.disk_journal.specs.declared.failing.Fate.TheVariants.{Passes, FailsDone, FailsIdle}
use Rattle.disk_journal.specs.declared.limits.TheConstants.{FILE_BYTES}
use Rattle.std.specs.Prelude.{Result, Ok, Err, OnOk, OnErr, is_ok, is_some, nat_le, ◌&&◌, IsTrue, if◌then◌else◌}
use Rattle.std.proofs.lemmas.Bool.Decides.{nat_tests}
use Rattle.disk_journal.proofs.Overlaid.{length-overlaid, overlaid_before, overlaid_behind}

torn_overlaid : (at : ℕ) (bytes old : List ℕ) → at ≤ length old → Torn at (length bytes) old (overlaid at bytes old)
torn_overlaid at bytes old le =
    let long = length-overlaid at bytes old le in
    record {
      before = same_lists _ _ (omega (arith, long, length-take at old, length-take at (overlaid at bytes old))) (λ k d lt.
          let below : k < at = omega (arith, length-take at (overlaid at bytes old)) in
          get_or-take at (overlaid at bytes old) k d below ∙ overlaid_before at bytes old le k d below ∙ sym (get_or-take at old k d below));
      after = same_lists _ _ (omega (arith, long, length-drop (at + length bytes) old, length-drop (at + length bytes) (overlaid at bytes old))) (λ k d lt.
          get_or-drop (at + length bytes) (overlaid at bytes old) k d ∙ overlaid_behind at bytes old le (at + length bytes + k) d (omega arith) ∙ sym (get_or-drop (at + length bytes) old k d));
      no_shorter = omega (arith, long);
      no_longer = omega (arith, long);
    }

torn_none : (at n : ℕ) (c : List ℕ) → Torn at n c c
torn_none at n c = record { before = refl; after = refl; no_shorter = omega arith; no_longer = omega arith }

-- a content with the synced byte at each place that was not written
abbrev restored : List Bool → List ℕ → List ℕ → List ℕ
restored [] synced c = []
restored (w ∷ written) synced [] = []
restored (w ∷ written) synced (b ∷ c) = cond w b (get_or synced 0 0) ∷ restored written (drop 1 synced) c

length-restored : (written : List Bool) (synced c : List ℕ) → length (restored written synced c) ≡ min (length written) (length c)
length-restored [] synced c = omega arith
length-restored (w ∷ written) synced [] = omega arith
length-restored (w ∷ written) synced (b ∷ c) = omega (arith, length-restored written (drop 1 synced) c)

restored_at : (written : List Bool) (synced c : List ℕ) (k d : ℕ) → k < length written → k < length c → get_or (restored written synced c) k d ≡ cond (get_or written k false) (get_or c k d) (get_or synced k 0)
restored_at [] synced c k d in_written in_c = absurd (omega arith)
restored_at (w ∷ written) synced [] k d in_written in_c = absurd (omega arith)
restored_at (w ∷ written) synced (b ∷ c) zero d in_written in_c = refl
restored_at (w ∷ written) synced (b ∷ c) (suc k) d in_written in_c =
    restored_at written (drop 1 synced) c k d (omega arith) (omega arith) ∙ ap (λ s. cond (get_or written k false) (get_or c k d) s) (get_or-drop 1 synced k 0 ∙ ap (λ i. get_or synced i 0) (let is : 1 + k ≡ suc k = omega arith in is))

-- where a place was not written, the restored byte is as last synced
restored_kept : (b : Bool) (x s : ℕ) → b ≡ false → cond b x s ≡ s
restored_kept true x s h = cc
restored_kept false x s h = refl

restored_same : (b : Bool) (x s : ℕ) → (b ≡ false → x ≡ s) → cond b x s ≡ x
restored_same true x s h = refl
restored_same false x s h = sym (h refl)

-- what a crash may leave after a write comes from what it might have left before it
module _ (s : FileState) (at : ℕ) (bytes : List ℕ) (is : IsConsistent s) (le : at ≤ length s.seen) (c : List ℕ) (left : IsLeft (written_at at bytes s) c) where
  abbrev n : ℕ
  n = length bytes

  abbrev marks : List Bool
  marks = replicate n true

  abbrev d : List ℕ
  d = restored s.written s.synced c

  long_d : length d ≡ min (length s.written) (length c)
  long_d = length-restored s.written s.synced c

  long_marks : length marks ≡ n
  long_marks = length-replicate n true

  at_written : at ≤ length s.written
  at_written = omega (arith, is.most, le)

  long_written : length (overlaid at marks s.written) ≡ max (length s.written) (at + n)
  long_written = omega (arith, long_marks, length-overlaid at marks s.written at_written)

  fits : length c ≤ max (length s.written) (at + n)
  fits = omega (arith, left.most, long_written)

  same_at : (k e : ℕ) → k < length s.written → k < length c → (get_or s.written k false ≡ false → get_or c k 0 ≡ get_or s.synced k 0) → get_or d k e ≡ get_or c k e
  same_at k e in_written in_c kept =
      restored_at s.written s.synced c k e in_written in_c ∙ restored_same (get_or s.written k false) (get_or c k e) (get_or s.synced k 0) (λ unwritten. get_or_default c k e 0 in_c ∙ kept unwritten)

  was_left : IsLeft s d
  was_left = record {
    least = omega (arith, long_d, left.least, is.least, is.most);
    most = omega (arith, long_d);
    kept = λ k lt unwritten. restored_at s.written s.synced c k 0 (omega (arith, long_d)) (omega (arith, long_d)) ∙ restored_kept (get_or s.written k false) (get_or c k 0) (get_or s.synced k 0) unwritten;
  }

  torn_from : Torn at n d c
  torn_from = record {
    before = same_lists _ _ (omega (arith, long_d, at_written, length-take at d, length-take at c)) (λ k e lt.
        let below : k < at = omega (arith, length-take at c) in
        let in_c : k < length c = omega (arith, length-take at c) in
        get_or-take at c k e below ∙ sym (get_or-take at d k e below ∙ same_at k e (omega (arith, at_written)) in_c (λ unwritten. left.kept k in_c (overlaid_before at marks s.written at_written k false below ∙ unwritten))));
    after = same_lists _ _ (omega (arith, long_d, fits, length-drop (at + n) d, length-drop (at + n) c)) (λ k e lt.
        let in_c : at + n + k < length c = omega (arith, length-drop (at + n) c) in
        get_or-drop (at + n) c k e ∙ sym (get_or-drop (at + n) d k e ∙ same_at (at + n + k) e (omega (arith, fits)) in_c (λ unwritten. left.kept (at + n + k) in_c (overlaid_behind at marks s.written at_written (at + n + k) false (omega (arith, long_marks)) ∙ unwritten))));
    no_shorter = omega (arith, long_d);
    no_longer = omega (arith, long_d, fits);
  }

from_write : (s : FileState) (at : ℕ) (bytes : List ℕ) → IsConsistent s → at ≤ length s.seen → (c : List ℕ) → MayLeave (written_at at bytes s) c → (d : List ℕ) × MayLeave s d × Torn at (length bytes) d c
from_write s at bytes is le c (inl seen) = (s.seen, inl refl, subst (Torn at (length bytes) s.seen) (sym seen) (torn_overlaid at bytes s.seen le))
from_write s at bytes is le c (inr left) = (d s at bytes is le c left, inr (was_left s at bytes is le c left), torn_from s at bytes is le c left)

-- and after a cut
module _ (s : FileState) (n : ℕ) (is : IsConsistent s) (c : List ℕ) (left : IsLeft (cut_to n s) c) (short : length c < s.low) where
  abbrev rest : List ℕ
  rest = take (s.low - length c) (drop (length c) s.synced)

  long_rest : length rest ≡ s.low - length c
  long_rest = omega (arith, length-take (s.low - length c) (drop (length c) s.synced), length-drop (length c) s.synced, is.low_synced)

  extended : IsLeft s (c ++ rest)
  extended = record {
    least = omega (arith, long_rest, length-append c rest);
    most = omega (arith, long_rest, length-append c rest, is.least, is.most);
    kept = λ k lt unwritten. elim (cases_lt k (length c)) [
      | inl lt_c ↦ get_or_append_left c rest 0 k lt_c ∙ left.kept k lt_c unwritten
      | inr ge ↦ get_or-append_right c rest (length c) k 0 refl ge
          ∙ get_or-take (s.low - length c) (drop (length c) s.synced) (k - length c) 0 (omega (arith, long_rest, length-append c rest))
          ∙ get_or-drop (length c) s.synced (k - length c) 0
          ∙ ap (λ i. get_or s.synced i 0) (let i : length c + (k - length c) ≡ k = omega arith in i)
    ];
  }

  cut_from : Cut n (c ++ rest) c
  cut_from = record { no_shorter = omega (arith, left.least, long_rest, length-append c rest); front = take_at c rest (length c) refl }

from_cut : (s : FileState) (n : ℕ) → IsConsistent s → n ≤ length s.seen → (c : List ℕ) → MayLeave (cut_to n s) c → (d : List ℕ) × MayLeave s d × Cut n d c
from_cut s n is le c (inl seen) =
    let long : length (take n s.seen) ≡ n = omega (arith, length-take n s.seen) in
    let whole : Cut n s.seen (take n s.seen) = record { no_shorter = omega (arith, long); front = ap (λ k. take k s.seen) long } in
    (s.seen, inl refl, subst (Cut n s.seen) (sym seen) whole)
from_cut s n is le c (inr left) = elim (cases_lt (length c) s.low) [
  | inl short ↦ (c ++ rest s n is c left short, inr (extended s n is c left short), cut_from s n is c left short)
  | inr ge ↦ (c, inr (record { least = ge; most = left.most; kept = left.kept }), record { no_shorter = omega arith; front = take_all (length c) c (omega arith) })
]

-- and after a sync there is one content
pub from_flush : (s : FileState) (c : List ℕ) → MayLeave (flushed s) c → c ≡ s.seen
from_flush s c (inl seen) = seen
from_flush s c (inr left) =
    let long = length-replicate (length s.seen) false in
    same_lists c s.seen (omega (arith, left.least, left.most, long)) (λ k d lt.
    get_or_default c k d 0 lt ∙ left.kept k lt (get_or-replicate (length s.seen) k false false (omega (arith, left.most, long))) ∙ get_or_default s.seen k 0 d (omega (arith, left.most, long)))

abbrev pub seen_of : List FileState → Image
seen_of files f = (state_of files f).seen

abbrev pub outcomes_of : List FileState → ℕ → List ℕ → Type 0
outcomes_of files f = MayLeave (state_of files f)

module _ (file : ℕ) where
  pub write_steps : (b : Bool) (old new : List FileState) (at : ℕ) (bytes : List ℕ) → Works b file (written_at at bytes) old new → (IsTrue b → IsConsistent (state_of old file)) → at ≤ length (seen_of old file) → Steps file (Torn at (length bytes)) (outcomes_of old) (outcomes_of new)
  write_steps true old new at bytes changes is le = record {
    this = λ c may. from_write (state_of old file) at bytes (is refl) le c (subst (λ s. MayLeave s c) changes.this may);
    others = λ g apart c may. subst (λ s. MayLeave s c) (changes.others g apart) may;
  }
  write_steps false old new at bytes same is le = record {
    this = λ c may. (c, subst (λ files. outcomes_of files file c) same may, torn_none at (length bytes) c);
    others = λ g apart c may. subst (λ files. outcomes_of files g c) same may;
  }

  pub cut_steps : (b : Bool) (old new : List FileState) (n : ℕ) → Works b file (cut_to n) old new → (IsTrue b → IsConsistent (state_of old file)) → n ≤ length (seen_of old file) → Steps file (Cut n) (outcomes_of old) (outcomes_of new)
  cut_steps true old new n changes is le = record {
    this = λ c may. from_cut (state_of old file) n (is refl) le c (subst (λ s. MayLeave s c) changes.this may);
    others = λ g apart c may. subst (λ s. MayLeave s c) (changes.others g apart) may;
  }
  cut_steps false old new n same is le = record {
    this = λ c may. (c, subst (λ files. outcomes_of files file c) same may, record { no_shorter = omega arith; front = take_all (length c) c (omega arith) });
    others = λ g apart c may. subst (λ files. outcomes_of files g c) same may;
  }

  -- a sync leaves no more of any file
  pub flush_less : (b : Bool) (old new : List FileState) → Works b file flushed old new → (g : ℕ) (c : List ℕ) → outcomes_of new g c → outcomes_of old g c
  flush_less true old new changes g c may = elim (cases_eq g file) [
    | inl here ↦ subst (λ f. outcomes_of old f c) (sym here) (inl (from_flush (state_of old file) c (subst (λ s. MayLeave s c) changes.this (subst (λ f. outcomes_of new f c) here may))))
    | inr apart ↦ subst (λ s. MayLeave s c) (changes.others g apart) may
  ]
  flush_less false old new same g c may = subst (λ files. outcomes_of files g c) same may

-- A call leaves the disk as steady as it was, where its step keeps the room and makes no file too long.
module _ (file : ℕ) (step : FileState → FileState) (keeps_room : (s : FileState) → (step s).room ≡ s.room) where
  steady_file : (b : Bool) (old new : List FileState) → Works b file step old new → (IsTrue b → length (seen_of old file) ≤ FILE_BYTES → length (step (state_of old file)).seen ≤ FILE_BYTES)
      → (q n : ℕ) → n ≤ (state_of old q).room → length (seen_of old q) ≤ FILE_BYTES → is_some (place_of old q) ≡ true
      → (is_some (place_of new q) ≡ true) × (n ≤ (state_of new q).room) × (length (seen_of new q) ≤ FILE_BYTES)
  steady_file true old new changes within q n room size has = elim (cases_eq q file) [
    | inl here ↦ subst P (sym here) (
      ap is_some (changes.places file) ∙ subst (λ f. is_some (place_of old f) ≡ true) here has,
      omega (arith, ap (λ (s : FileState). s.room) changes.this, keeps_room (state_of old file), subst (λ f. n ≤ (state_of old f).room) here room),
      subst (λ (s : FileState). length s.seen ≤ FILE_BYTES) (sym changes.this) (within refl (subst (λ f. length (seen_of old f) ≤ FILE_BYTES) here size)),
    )
    | inr apart ↦ (
      ap is_some (changes.places q) ∙ has,
      subst (λ (s : FileState). n ≤ s.room) (sym (changes.others q apart)) room,
      subst (λ (s : FileState). length s.seen ≤ FILE_BYTES) (sym (changes.others q apart)) size,
    )
  ]
    where
      P : ℕ → Type 0
      P f = (is_some (place_of new f) ≡ true) × (n ≤ (state_of new f).room) × (length (seen_of new f) ≤ FILE_BYTES)
  steady_file false old new same within q n room size has = (
    ap (λ files. is_some (place_of files q)) same ∙ has,
    subst (λ files. n ≤ (state_of files q).room) (sym same) room,
    subst (λ files. length (seen_of files q) ≤ FILE_BYTES) (sym same) size,
  )

  steady_rest : (passed : Bool) (old new : DiskState) → new ≡ (if passed then called new.files old else faulted file (called new.files old)) → (new.failing ≡ old.failing) × (new.calls ≡ one_more old.calls)
  steady_rest true old new is = (ap (λ (d : DiskState). d.failing) is, ap (λ (d : DiskState). d.calls) is)
  steady_rest false old new is = (ap (λ (d : DiskState). d.failing) is, ap (λ (d : DiskState). d.calls) is)

  pub keeps_steady : (can passed : Bool) (old new : DiskState) → IsCall file can step old new passed → (IsTrue can → length (seen_of old.files file) ≤ FILE_BYTES → length (step (state_of old.files file)).seen ≤ FILE_BYTES)
      → (q n : ℕ) → IsSteady old q n → IsSteady new q n
  keeps_steady can passed old new call within q n steady =
      let rest = steady_rest passed old new call.rest in
      let files = steady_file (does_work (next_fate old) can) old.files new.files call.work (λ works. within (able (next_fate old) works)) q n steady.room steady.within steady.has in
      record {
        calls = λ k later. ap (λ failing. fate_at failing k) rest.0 ∙ steady.calls k (omega (arith, later, rest.1));
        has = files.0;
        room = files.1;
        size = steady.size;
        within = files.2;
      }
    where
      able : (fate : Fate) → IsTrue (does_work fate can) → IsTrue can
      able Passes works = works
      able FailsDone works = works
      able FailsIdle works = cc

  -- and it passes, where it ends within what the disk is steady for
  pub progress : {T E : Type 0} (end : ℕ) (can : Bool) (old new : DiskState) (result : Result T E) → IsCall file can step old new (is_ok result)
      → (IsTrue can → length (seen_of old.files file) ≤ FILE_BYTES → length (step (state_of old.files file)).seen ≤ FILE_BYTES)
      → ((n : ℕ) → end ≤ n → IsSteady old file n → can ≡ true) → Progresses file end (IsSteady old) (IsSteady new) result
  progress end can old new result call within enough = record {
    passes = λ n le steady. no_error result (call.answer ∙ ap (λ fate. passes fate can) (steady.calls (one_more old.calls) (omega arith)) ∙ enough n le steady);
    keeps = keeps_steady can (is_ok result) old new call within;
  }
    where
      no_error : {T E : Type 0} (result : Result T E) → is_ok result ≡ true → OnErr result ⊥
      no_error (Ok x) ok = tt
      no_error (Err e) ok = cc

-- a write passes that ends within the room
pub enough_room : (old : DiskState) (file end n : ℕ) → end ≤ n → IsSteady old file n → can_write old.files file end ≡ true
enough_room old file end n le steady =
    let small : nat_le end FILE_BYTES ≡ true = (let at : end ≤ FILE_BYTES = omega (arith, steady.size) in grind (arith, nat_tests)) in
    let fits : nat_le end (state_of old.files file).room ≡ true = (let at : end ≤ (state_of old.files file).room = omega (arith, steady.room) in grind (arith, nat_tests)) in
    ap (λ a. a && nat_le end FILE_BYTES && nat_le end (state_of old.files file).room) steady.has ∙ ap (λ b. true && b && nat_le end (state_of old.files file).room) small ∙ fits

-- and makes no file too long
pub written_within : (old : DiskState) (file at : ℕ) (bytes : List ℕ) → at ≤ length (seen_of old.files file) → IsTrue (can_write old.files file (at + length bytes)) → length (seen_of old.files file) ≤ FILE_BYTES → length (overlaid at bytes (seen_of old.files file)) ≤ FILE_BYTES
written_within old file at bytes le can size = omega (arith, length-overlaid at bytes (seen_of old.files file) le, small (is_some (place_of old.files file)) can, size)
  where
    small : (b : Bool) → IsTrue (b && nat_le (at + length bytes) FILE_BYTES && nat_le (at + length bytes) (state_of old.files file).room) → at + length bytes ≤ FILE_BYTES
    small true h = grind (arith, nat_tests)
    small false h = cc

-- after a sync that passed a crash leaves what a read gave
pub flush_only : {T E : Type 0} (file : ℕ) (old new : List FileState) (fate : Fate) (result : Result T E) → is_ok result ≡ passes fate true → Works (does_work fate true) file flushed old new → OnOk result (Only (seen_of old file) (outcomes_of new file))
flush_only file old new fate (Err e) is work = tt
flush_only file old new Passes (Ok x) is changes = λ c may. from_flush (state_of old file) c (subst (λ s. MayLeave s c) changes.this may)
flush_only file old new FailsDone (Ok x) is changes = cc
flush_only file old new FailsIdle (Ok x) is changes = cc
