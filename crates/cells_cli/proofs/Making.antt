-- Files that are asked for and made, one after the other.
use Rattle.std.proofs.Common.{◌≡◌, ◌≢◌, ℕ, ◌+◌, ◌<◌, List, [], ◌∷◌, ◌++◌, length, take, get_or, Some, Ok, Err, append_assoc, inl, inr, refl, sym, ◌∙◌, ap, subst}
use Rattle.std.specs.List.{All, Contains, slice_get}
use Rattle.std.proofs.lemmas.List.{append-nil, take_more}
use Rattle.std.proofs.lemmas.List.Elements.{All-more, All-weaker, All-take, All-get_or, All-contains, All-contains_itself, Contains-get_or, Contains-append_left, Contains-push}
use Rattle.std.proofs.lemmas.Option.{slice_get-get_or}
use Rattle.cells_edge.specs.Edge.{IsPrefix}
use Rattle.cells_edge.specs.declared.sink.Sink.{Ghosts as SinkGhosts}
use Rattle.disk_journal.specs.Disk.{Image}
use Rattle.disk_journal.specs.Journal.{IsJournal, fresh}
use Rattle.disk_journal.specs.Moments.{Stays, StaysEverywhere}
use Rattle.disk_journal.specs.declared.disk.Disk.{Ghosts}
use Rattle.disk_journal.proofs.Settled.{stays_on as stays_join}
use Rattle.cells_cli.specs.Files.{AreDistinct, IsFree, IsMade, IsTold, made_line, made_lines}
use Rattle.cells_cli.specs.Making.{Outcome, AreStops, AreAnswered, IsFresh, IsSaid, IsCause, IsMadeOr, AreFreshOr, LeavesBy}
use Rattle.cells_cli.specs.declared.init.InitStop.{InitStop}
use Rattle.cells_cli.specs.declared.init.InitStop.TheVariants.{InUse, Disk, WriteFault, Memory}

-- The lines of files.

lines_push : (files : List ℕ) (file : ℕ) → made_lines (files ++ file ∷ []) ≡ made_lines files ++ made_line file
lines_push [] file = append-nil (made_line file)
lines_push (f ∷ fs) file = ap (λ (l : List ℕ). made_line f ++ l) (lines_push fs file) ∙ sym (append_assoc (made_line f) (made_lines fs) (made_line file))

module _ (files : List ℕ) (i : ℕ) (lt : i < length files) where
  pub lines_more : made_lines (take (i + 1) files) ≡ made_lines (take i files) ++ made_line (get_or files i 0)
  lines_more = ap made_lines (take_more files i 0 lt) ∙ lines_push (take i files) (get_or files i 0)

  -- one line more
  pub said_more : (old mid now bytes : List ℕ) → mid ≡ old ++ made_lines (take i files) → now ≡ mid ++ bytes → bytes ≡ made_line (get_or files i 0) → now ≡ old ++ made_lines (take (i + 1) files)
  said_more old mid now bytes so_far put line =
      put ∙ ap (λ (l : List ℕ). l ++ bytes) so_far ∙ append_assoc old (made_lines (take i files)) bytes
      ∙ ap (λ (l : List ℕ). old ++ (made_lines (take i files) ++ l)) line ∙ ap (λ (l : List ℕ). old ++ l) (sym lines_more)

  module _ (old mid now bytes : List ℕ) (so_far : mid ≡ old ++ made_lines (take i files)) (put : now ≡ mid ++ bytes) where
    abbrev IsAll : InitStop → Type 0
    IsAll stop = (x : List ℕ) × IsTold files (Err stop) x × (now ≡ old ++ x)

    nothing_more : bytes ≡ [] → now ≡ old ++ made_lines (take i files)
    nothing_more none = put ∙ ap (λ (l : List ℕ). mid ++ l) none ∙ append-nil mid ∙ so_far

    here : (f : ℕ) → f ≡ get_or files i 0 → slice_get files i ≡ Some f
    here f is = slice_get-get_or files i 0 lt ∙ ap Some (sym is)

    front : IsPrefix bytes (made_line (get_or files i 0)) → IsAll WriteFault
    front is = (
      made_lines (take i files) ++ bytes,
      (i + 1, (is.0, lines_more ∙ ap (λ (l : List ℕ). made_lines (take i files) ++ l) is.1 ∙ sym (append_assoc (made_lines (take i files)) bytes is.0))),
      put ∙ ap (λ (l : List ℕ). l ++ bytes) so_far ∙ append_assoc old (made_lines (take i files)) bytes,
    )

    -- what is told where the next file was not made
    pub told_stop : {W D : Type 0} (w : SinkGhosts W) (d : Ghosts D) (out out_now : W) (disk disk_now : D) (stop : InitStop) → IsSaid (get_or files i 0) (Err stop) bytes → IsCause w d (get_or files i 0) out out_now disk disk_now (Err stop) → IsAll stop
    told_stop w d out out_now disk disk_now (InUse f size) said cause = (made_lines (take i files), (i, inl (here f cause), refl), nothing_more said)
    told_stop w d out out_now disk disk_now (Disk f) said cause = (made_lines (take i files), (i, inl (here f cause.0), refl), nothing_more said)
    told_stop w d out out_now disk disk_now Memory said cause = (made_lines (take i files), (i, refl), nothing_more said)
    told_stop w d out out_now disk disk_now WriteFault said cause = front said

-- a fresh journal has no body
is_made : (img : Image) (file : ℕ) → img file ≡ fresh → IsMade img file
is_made img file is = record { size = ap (λ (l : List ℕ). length l) is; bodies = subst (λ (l : List ℕ). IsJournal l []) (sym is) ([], [], refl, refl) }

-- What stays.

module _ {D : Type 0} (d : Ghosts D) where
  pub stays_on : (a b c : D) → StaysEverywhere d a b → StaysEverywhere d b c → StaysEverywhere d a c
  stays_on a b c ab bc t q = stays_join d q a b c (ab t q) (bc t q)

  -- a file that is free later was free before
  pub free_before : (a b : D) (file : ℕ) → Stays d file a b → IsFree (d.seen b) file → IsFree (d.seen a) file
  free_before a b file same free = ap (λ (l : List ℕ). length l) (sym same.reads) ∙ free

  fresh_still : (a b : D) (file : ℕ) → Stays d file a b → IsFresh d a file → IsFresh d b file
  fresh_still a b file same is = record { read = same.reads ∙ is.read; left = λ c h. is.left c (same.leaves c h) }

  module _ (files : List ℕ) (old mid new : D) (i : ℕ) (others : (q : ℕ) → (Contains (take i files) q → ⊥) → Stays d q old mid) where
    -- files that are not among all are not among the first
    pub others_so_far : (q : ℕ) → (Contains files q → ⊥) → Stays d q old mid
    others_so_far q out = others q (λ among. out (All-contains (Contains files) (take i files) q (All-take (Contains files) i files (All-contains_itself files)) among))

    module _ (lt : i < length files) (elsewhere : (q : ℕ) → (q ≡ get_or files i 0 → ⊥) → Stays d q mid new) where
      pub others_more : (q : ℕ) → (Contains (take (i + 1) files) q → ⊥) → Stays d q old new
      others_more q out =
          let more = take_more files i 0 lt in
          stays_join d q old mid new
          (others q (λ among. out (subst (λ (l : List ℕ). Contains l q) (sym more) (Contains-append_left (take i files) (get_or files i 0 ∷ []) q among))))
          (elsewhere q (λ same. out (subst (λ (l : List ℕ). Contains l q) (sym more) (subst (λ (x : ℕ). Contains (take i files ++ get_or files i 0 ∷ []) x) (sym same) (Contains-push (take i files) (get_or files i 0))))))

      pub others_all : (q : ℕ) → (Contains files q → ⊥) → Stays d q old new
      others_all q out = stays_join d q old mid new (others_so_far q out) (elsewhere q (λ same. out (subst (λ (x : ℕ). Contains files x) (sym same) (Contains-get_or files i 0 lt))))

      module _ (distinct : AreDistinct files) where
        pub made_more : All (IsFresh d mid) (take i files) → IsFresh d new (get_or files i 0) → All (IsFresh d new) (take (i + 1) files)
        made_more made fresh =
            All-more (IsFresh d new) files i 0 lt
            (λ k x less.
            fresh_still mid new (get_or (take i files) k x)
            (elsewhere (get_or (take i files) k x) (λ same. distinct i lt (subst (λ (y : ℕ). Contains (take i files) y) same (Contains-get_or (take i files) k x less))))
            (made k x less))
            fresh

        -- a file that was free, and is not yet made, is not in use
        pub not_in_use : All (IsFree (d.seen old)) files → length (d.seen mid (get_or files i 0)) ≢ 0 → ⊥
        not_in_use free in_use =
            let same = others (get_or files i 0) (distinct i lt) in
            in_use (ap (λ (l : List ℕ). length l) same.reads ∙ All-get_or (IsFree (d.seen old)) files i 0 lt free)

        pub fresh_or : (stop : InitStop) → All (IsFree (d.seen old)) files → IsMadeOr d (get_or files i 0) mid new (Err stop) → AreFreshOr d files new (Err stop)
        fresh_or (InUse f size) free is = not_in_use free is
        fresh_or (Disk f) free is = tt
        fresh_or Memory free is = tt
        fresh_or WriteFault free is = tt

  -- Asking for all, and then making all.

  module _ (files : List ℕ) (old mid new : D) where
    -- nothing is told where asking stopped
    pub asked_told : (written : List ℕ) (stop : InitStop) → AreStops d files old mid (Err stop) → (x : List ℕ) × IsTold files (Err stop) x × (written ≡ written ++ x)
    asked_told written (InUse f size) among = ([], (0, inr (refl, among), refl), sym (append-nil written))
    asked_told written (Disk f) stops = ([], (0, inr (refl, stops.0), refl), sym (append-nil written))
    asked_told written WriteFault stops = absurd stops
    asked_told written Memory stops = absurd stops

    pub asked_leaves : {W : Type 0} (out : W) (stop : InitStop) → AreAnswered d files old (Err stop) → ((q : ℕ) → Stays d q old mid) → LeavesBy d files out out old mid (Err stop)
    asked_leaves out (InUse f size) first stays = record { first = first; stays = stays; unsaid = refl }
    asked_leaves out (Disk f) first stays = tt
    asked_leaves out WriteFault first stays = tt
    asked_leaves out Memory first stays = tt

    -- the other files stay while all are asked for and then made
    pub others_on : ((q : ℕ) → Stays d q old mid) → ((q : ℕ) → (Contains files q → ⊥) → Stays d q mid new) → (q : ℕ) → (Contains files q → ⊥) → Stays d q old new
    others_on stays others q out = stays_join d q old mid new (stays q) (others q out)

    pub made_leaves : {W : Type 0} (out out_now : W) (result : Outcome) → All (IsFree (d.seen old)) files → AreFreshOr d files new result → ((q : ℕ) → (Contains files q → ⊥) → Stays d q old new) → LeavesBy d files out out_now old new result
    made_leaves out out_now (Ok done) free made others = record {
      free = free;
      read = All-weaker (IsFresh d new) (IsMade (d.seen new)) (λ file is. is_made (d.seen new) file is.read) files made;
      left = λ img is. All-weaker (IsFresh d new) (IsMade img) (λ file fresh. is_made img file (fresh.left (img file) (is file))) files made;
      others = others;
    }
    made_leaves out out_now (Err (InUse f size)) free made others = absurd made
    made_leaves out out_now (Err (Disk f)) free made others = tt
    made_leaves out out_now (Err WriteFault) free made others = tt
    made_leaves out out_now (Err Memory) free made others = tt
