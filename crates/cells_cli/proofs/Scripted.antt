-- The lines of a script, done one after another.
use Rattle.std.proofs.Common.{◌≡◌, inl, inr, ◌||◌, ℕ, ◌+◌, ◌<◌, Bool, true, false, cond, nat_lt, nat_le, IsTrue, List, [], ◌∷◌, ◌++◌, length, Option, Some, None, refl, sym, ◌∙◌, ap, subst, append_assoc, arith}
use Rattle.std.proofs.lemmas.Bool.Decides.{nat_tests}
use Rattle.std.proofs.lemmas.List.{append-nil}
use Rattle.cells_edge.specs.Streams.{WritesAll, WritesFront}
use Rattle.cells_edge.specs.declared.sink.Sink.{Ghosts as SinkGhosts}
use Rattle.cells_edge.specs.declared.wire.Wire.{Ghosts as WireGhosts}
use Rattle.disk_journal.specs.declared.disk.Disk.{Ghosts as DiskGhosts}
use Rattle.disk_journal.proofs.Moments.{OnlyNow}
use Rattle.claim_map.specs.Bounds.{AreCells}
use Rattle.cells_script.specs.Lines.{line_of}
use Rattle.cells_script.specs.declared.limits.TheConstants.{LINE_BYTES}
use Rattle.cells_world.specs.Cluster.{IsReady}
use Rattle.cells_world.specs.World.{At}
use Rattle.cells_cli.specs.Doing.{AreFirst, Does, EndsBy, SoFar, status_of, status_of_cluster, stop_of}
use Rattle.cells_cli.specs.Lines.{first_refused}
use Rattle.cells_cli.specs.Refused.{Refuses}
use Rattle.cells_cli.specs.Script.{Numbered, done_with, is_skipped, line_refused, lines_done, reading_behind, reading_of, reading_with, refused_with}
use Rattle.cells_cli.specs.Told.{Item, Telling, broken_text, items_text, numbered, numbered_broken, telling_text}
use Rattle.cells_cli.specs.Went.{Went}
use Rattle.cells_cli.specs.declared.lines.LineFault.{LineFault}
use Rattle.cells_cli.specs.declared.lines.LineFault.TheVariants.{TooLong, TooMany, Read}
use Rattle.cells_cli.specs.declared.lines.TheConstants.{LINES}
use Rattle.cells_cli.specs.declared.reading.Reading.{Reading}
use Rattle.cells_cli.specs.declared.reading.Reading.TheVariants.{Skipped, Wanted, Refused}
use Rattle.cells_cli.specs.declared.status.Status.{Status}
use Rattle.cells_cli.specs.declared.status.Status.TheVariants.{End, Memory, ReadFault, Script, WriteFault}
use Rattle.cells_cli.specs.declared.up.UpStop.{UpStop}
use Rattle.cells_cli.specs.declared.up.UpStop.TheVariants.{Script as ScriptStop, ReadFault as ReadStop, WriteFault as WriteStop, Memory as MemoryStop, Cluster as ClusterStop}
use Rattle.cells_cli.proofs.Doing.{all_written, cluster_apart, cluster_ended, ends_behind, ends_there, to_first}
use Rattle.cells_cli.proofs.Refusals.{here_or_behind}
use Rattle.cells_cli.proofs.Telling.{numbered_append, telling_append}
use Rattle.cells_cli.proofs.Went.{went_nowhere, went_on}

-- what one line gives is a front of what it gives with those behind it
behind_of : (number : ℕ) (r : Reading) (rest : List Numbered) → (behind : List Numbered) × (done_with number r [] ++ behind ≡ done_with number r rest)
behind_of number Skipped rest = (rest, refl)
behind_of number (Wanted line) rest = (rest, refl)
behind_of number Refused rest = ([], refl)

-- a line that is not refused
passed : (number : ℕ) (r : Reading) (rest : List Numbered) (later : Option ℕ) → refused_with number r None ≡ None → (done_with number r [] ++ rest ≡ done_with number r rest) × (refused_with number r later ≡ later)
passed number Skipped rest later h = (refl, refl)
passed number (Wanted line) rest later h = (refl, refl)
passed number Refused rest later h = absurd cc

-- one that is
stopped_here : (number : ℕ) (r : Reading) (rest : List Numbered) (later : Option ℕ) (k : ℕ) → refused_with number r None ≡ Some k → (done_with number r [] ≡ done_with number r rest) × (refused_with number r later ≡ Some k)
stopped_here number Skipped rest later k h = absurd cc
stopped_here number (Wanted line) rest later k h = absurd cc
stopped_here number Refused rest later k h = (refl, h)

-- some first ones of one line's, behind those before
first_more : (before more here behind all wanted : List Numbered) → AreFirst more here → here ++ behind ≡ all → before ++ all ≡ wanted → AreFirst (before ++ more) wanted
first_more before more here behind all wanted first cut is =
    (first.0 ++ behind, append_assoc before more (first.0 ++ behind) ∙ ap (λ (l : List Numbered). before ++ l) (sym (append_assoc more first.0 behind) ∙ ap (λ (l : List Numbered). l ++ behind) first.1 ∙ cut) ∙ is)

-- what is ahead where a line is refused without having been given
abbrev pub RefusesAhead : ℕ → List (List ℕ) → LineFault → Type 0
RefusesAhead given ahead (TooLong line) = (line_refused given ahead ≡ Some line) × (lines_done given ahead ≡ [])
RefusesAhead given ahead TooMany = (line_refused given ahead ≡ Some (LINES + 1)) × (lines_done given ahead ≡ [])
RefusesAhead given ahead Read = Unit {0}

module _ {W D N : Type 0} (w : SinkGhosts W) (d : DiskGhosts D) (n : WireGhosts N) (shown : Option ℕ) (tells : Bool) (wanted : List Numbered) (refused : Option ℕ) where
  -- before any line
  pub so_far_start : (a : At D N) (out : W) (lines : List (List ℕ)) → OnlyNow d → IsReady d a.disk a.cluster → (IsTrue tells → lines_done 0 lines ≡ wanted) → (IsTrue tells → line_refused 0 lines ≡ refused) → SoFar w d n shown tells wanted refused 0 lines a a out out
  so_far_start a out lines only_now ready wants refuses = record {
    items = [];
    went = went_nowhere d n shown a only_now ready;
    lines = wants;
    refuses = refuses;
    written = λ t. sym (append-nil (w.written out));
  }

  module _ (given : ℕ) (text : List ℕ) (rest : List (List ℕ)) (a b c : At D N) (out mid out_now : W) (so : SoFar w d n shown tells wanted refused given (text ∷ rest) a b out mid) (few : given < LINES) (configured : AreCells a.cluster.registry) where
    reading_is : reading_behind given text ≡ reading_of text
    reading_is = let test : nat_le LINES given ≡ false = grind (arith, nat_tests) in ap (λ t. cond t Refused (reading_of text)) test

    lines_at : IsTrue tells → numbered so.items ++ done_with (given + 1) (reading_of text) (lines_done (given + 1) rest) ≡ wanted
    lines_at t = ap (λ r. numbered so.items ++ done_with (given + 1) r (lines_done (given + 1) rest)) (sym reading_is) ∙ so.lines t

    refuses_at : IsTrue tells → refused_with (given + 1) (reading_of text) (line_refused (given + 1) rest) ≡ refused
    refuses_at t = ap (λ r. refused_with (given + 1) r (line_refused (given + 1) rest)) (sym reading_is) ∙ so.refuses t

    abbrev DoesHere : Status → Type 0
    DoesHere status = Does w d n shown true (done_with (given + 1) (reading_of text) []) (refused_with (given + 1) (reading_of text) None) b c mid out_now status

    abbrev ends_joined : (told : Telling) (status : Status) → EndsBy d n shown told b c status → EndsBy d n shown (record { items = so.items ++ told.items; broken = told.broken }) a c status
    ends_joined told status end = ends_behind d n shown so.items told a b c status configured so.went end

    -- the text of a line behind that of those before it
    module _ (told : Telling) where
      abbrev joined : Telling
      joined = record { items = so.items ++ told.items; broken = told.broken }

      written_all : WritesAll w mid out_now (telling_text told) → WritesAll w out out_now (telling_text joined)
      written_all all t =
          all t ∙ ap (λ (x : List ℕ). x ++ telling_text told) (so.written t) ∙ append_assoc (w.written out) (items_text so.items) (telling_text told)
          ∙ ap (λ (x : List ℕ). w.written out ++ x) (sym (telling_append so.items told.items told.broken))

      written_front : WritesFront w mid out_now (telling_text told) → WritesFront w out out_now (telling_text joined)
      written_front front t =
          let p = front t in (
            items_text so.items ++ p.0,
            (p.1.0, telling_append so.items told.items told.broken ∙ ap (λ (x : List ℕ). items_text so.items ++ x) p.1.1 ∙ sym (append_assoc (items_text so.items) p.0 p.1.0)),
            p.2 ∙ ap (λ (x : List ℕ). x ++ p.0) (so.written t) ∙ append_assoc (w.written out) (items_text so.items) p.0,
          )

      first_joined : IsTrue tells → (last : List Numbered) → AreFirst (numbered told.items ++ last) (done_with (given + 1) (reading_of text) []) → AreFirst (numbered (so.items ++ told.items) ++ last) wanted
      first_joined t last first =
          let behind = behind_of (given + 1) (reading_of text) (lines_done (given + 1) rest) in
          subst (λ (l : List Numbered). AreFirst l wanted) (sym (ap (λ (l : List Numbered). l ++ last) (numbered_append so.items told.items) ∙ append_assoc (numbered so.items) (numbered told.items) last))
          (first_more (numbered so.items) (numbered told.items ++ last) (done_with (given + 1) (reading_of text) []) behind.0 (done_with (given + 1) (reading_of text) (lines_done (given + 1) rest)) wanted first behind.1 (lines_at t))

    -- the line that came behind, behind those before
    next_joined : {status : Status} (does : DoesHere status) → IsTrue tells → AreFirst (numbered (so.items ++ does.told.items) ++ does.end.last) wanted
    next_joined does t = first_joined does.told t does.end.last (does.next refl)

    -- a line more was answered
    pub so_far_more : DoesHere End → SoFar w d n shown tells wanted refused (given + 1) rest a c out out_now
    so_far_more does =
        let lines = does.lines refl in
        let r = reading_of text in
        let past = passed (given + 1) r (lines_done (given + 1) rest) (line_refused (given + 1) rest) lines.0 in
        record {
          items = so.items ++ does.told.items;
          went = subst (λ x. Went d n shown a (so.items ++ does.told.items) x) (does.end.between tt) (went_on d n shown a b does.end.here so.items does.told.items configured so.went does.end.went);
          lines = λ t.
              ap (λ (l : List Numbered). l ++ lines_done (given + 1) rest) (numbered_append so.items does.told.items ∙ ap (λ (l : List Numbered). numbered so.items ++ l) lines.2)
              ∙ append_assoc (numbered so.items) (done_with (given + 1) r []) (lines_done (given + 1) rest)
              ∙ ap (λ (l : List Numbered). numbered so.items ++ l) past.0 ∙ lines_at t;
          refuses = λ t. sym past.1 ∙ refuses_at t;
          written = λ t.
              written_all does.told does.written t
              ∙ ap (λ (x : List ℕ). w.written out ++ x) (ap (λ br. items_text (so.items ++ does.told.items) ++ broken_text br) lines.1 ∙ append-nil (items_text (so.items ++ does.told.items)));
        }

    -- the run ended at a line
    pub ended_here : (stop : UpStop) → DoesHere (status_of stop) → Does w d n shown tells wanted refused a c out out_now (status_of stop)
    ended_here (ScriptStop k) does =
        let lines = does.lines refl in
        let r = reading_of text in
        let here = stopped_here (given + 1) r (lines_done (given + 1) rest) (line_refused (given + 1) rest) k lines.0 in
        record {
          told = joined does.told;
          end = ends_joined does.told (Script k) does.end;
          next = λ t. next_joined does t;
          lines = λ t. (sym (refuses_at t) ∙ here.1, lines.1, numbered_append so.items does.told.items ∙ ap (λ (l : List Numbered). numbered so.items ++ l) (lines.2 ∙ here.0) ∙ lines_at t);
          written = written_all does.told does.written;
        }
    ended_here ReadStop does =
        let lines = does.lines refl in
        let r = reading_of text in
        let behind = behind_of (given + 1) r (lines_done (given + 1) rest) in
        record {
          told = joined does.told;
          end = ends_joined does.told ReadFault does.end;
          next = λ t. next_joined does t;
          lines = λ t. (
            lines.0,
            subst (λ (l : List Numbered). AreFirst l wanted) (sym (numbered_append so.items does.told.items))
                (first_more (numbered so.items) (numbered does.told.items) (done_with (given + 1) r []) behind.0 (done_with (given + 1) r (lines_done (given + 1) rest)) wanted lines.1 behind.1 (lines_at t)),
          );
          written = written_all does.told does.written;
        }
    ended_here WriteStop does = record {
      told = joined does.told;
      end = ends_joined does.told WriteFault does.end;
      lines = λ t. first_joined does.told t (numbered_broken does.told.broken) (does.lines refl);
      next = λ t. next_joined does t;
      written = written_front does.told does.written;
    }
    ended_here MemoryStop does = record {
      told = joined does.told;
      end = ends_joined does.told Memory does.end;
      lines = λ t. first_joined does.told t (numbered_broken does.told.broken) (does.lines refl);
      next = λ t. next_joined does t;
      written = written_all does.told does.written;
    }
    ended_here (ClusterStop error) does =
        let own = status_of_cluster error in
        let here = done_with (given + 1) (reading_of text) [] in
        cluster_ended w d n shown tells wanted refused a c out out_now (joined does.told) error (ends_joined does.told own does.end)
        (λ t. first_joined does.told t (numbered_broken does.told.broken) (to_first here (refused_with (given + 1) (reading_of text) None) does.told own (does.lines refl)))
        (λ t. next_joined does t)
        (written_all does.told (all_written w does.told mid out_now own (cluster_apart error) does.written))

  -- the lines ahead are these
  pub so_far_ahead : (given : ℕ) (ahead now : List (List ℕ)) (a b : At D N) (out mid : W) → SoFar w d n shown tells wanted refused given ahead a b out mid → (IsTrue tells → ahead ≡ now) → SoFar w d n shown tells wanted refused given now a b out mid
  so_far_ahead given ahead now a b out mid so same = record {
    items = so.items;
    went = so.went;
    lines = λ t. ap (λ ls. numbered so.items ++ lines_done given ls) (sym (same t)) ∙ so.lines t;
    refuses = λ t. ap (line_refused given) (sym (same t)) ∙ so.refuses t;
    written = so.written;
  }

  -- no line is left
  pub ended_all : (given : ℕ) (ahead : List (List ℕ)) (a b : At D N) (out mid : W) → SoFar w d n shown tells wanted refused given ahead a b out mid → IsReady d b.disk b.cluster → (IsTrue tells → ahead ≡ []) → Does w d n shown tells wanted refused a b out mid End
  ended_all given ahead a b out mid so ready none = record {
    told = record { items = so.items; broken = None };
    end = ends_there d n shown so.items a b End ready so.went (λ file is. cc);
    lines = λ t. (
      sym (so.refuses t) ∙ ap (line_refused given) (none t),
      refl,
      sym (append-nil (numbered so.items)) ∙ ap (λ ls. numbered so.items ++ lines_done given ls) (sym (none t)) ∙ so.lines t,
    );
    next = λ t. (lines_done given ahead, ap (λ (l : List Numbered). l ++ lines_done given ahead) (append-nil (numbered so.items)) ∙ so.lines t);
    written = λ t. so.written t ∙ ap (λ (x : List ℕ). w.written out ++ x) (sym (append-nil (items_text so.items)));
  }

  -- the lines were given no further
  pub ended_between : (given : ℕ) (ahead : List (List ℕ)) (a b : At D N) (out mid : W) → SoFar w d n shown tells wanted refused given ahead a b out mid → IsReady d b.disk b.cluster → (fault : LineFault) → (IsTrue tells → RefusesAhead given ahead fault) → Does w d n shown tells wanted refused a b out mid (status_of (stop_of fault))
  ended_between given ahead a b out mid so ready (TooLong line) why = record {
    told = record { items = so.items; broken = None };
    end = ends_there d n shown so.items a b (Script line) ready so.went (λ file is. cc);
    lines = λ t. (
      sym (so.refuses t) ∙ (why t).0,
      refl,
      sym (append-nil (numbered so.items)) ∙ ap (λ (l : List Numbered). numbered so.items ++ l) (sym (why t).1) ∙ so.lines t,
    );
    next = λ t. (lines_done given ahead, ap (λ (l : List Numbered). l ++ lines_done given ahead) (append-nil (numbered so.items)) ∙ so.lines t);
    written = λ t. so.written t ∙ ap (λ (x : List ℕ). w.written out ++ x) (sym (append-nil (items_text so.items)));
  }
  ended_between given ahead a b out mid so ready TooMany why = record {
    told = record { items = so.items; broken = None };
    end = ends_there d n shown so.items a b (Script (LINES + 1)) ready so.went (λ file is. cc);
    lines = λ t. (
      sym (so.refuses t) ∙ (why t).0,
      refl,
      sym (append-nil (numbered so.items)) ∙ ap (λ (l : List Numbered). numbered so.items ++ l) (sym (why t).1) ∙ so.lines t,
    );
    next = λ t. (lines_done given ahead, ap (λ (l : List Numbered). l ++ lines_done given ahead) (append-nil (numbered so.items)) ∙ so.lines t);
    written = λ t. so.written t ∙ ap (λ (x : List ℕ). w.written out ++ x) (sym (append-nil (items_text so.items)));
  }
  ended_between given ahead a b out mid so ready Read why = record {
    told = record { items = so.items; broken = None };
    end = ends_there d n shown so.items a b ReadFault ready so.went (λ file is. cc);
    lines = λ t. (refl, (lines_done given ahead, so.lines t));
    next = λ t. (lines_done given ahead, ap (λ (l : List Numbered). l ++ lines_done given ahead) (append-nil (numbered so.items)) ∙ so.lines t);
    written = λ t. so.written t ∙ ap (λ (x : List ℕ). w.written out ++ x) (sym (append-nil (items_text so.items)));
  }

-- a line that is refused has a number behind those given
later_than : (limit given : ℕ) (lines : List (List ℕ)) (k : ℕ) → first_refused limit given lines ≡ Some k → given < k
later_than limit given [] k h = absurd cc
later_than limit given (l ∷ ls) k h =
    elim (here_or_behind (nat_lt limit (length l) || nat_le LINES given) (given + 1) k (first_refused limit (given + 1) ls) h) [
      | inl now ↦ (let is = now.1 in omega (arith, is))
      | inr rest ↦ (let more = later_than limit (given + 1) ls k rest.1 in omega (arith, more))
    ]

-- a line that is too long, or behind too many
either_refused : (long many : Bool) (other : Reading) → (long || many) ≡ true → cond many Refused (cond long Refused other) ≡ Refused
either_refused true true other h = refl
either_refused true false other h = refl
either_refused false true other h = refl
either_refused false false other h = absurd cc

over_refused : (given : ℕ) (line : List ℕ) → (nat_lt LINE_BYTES (length line) || nat_le LINES given) ≡ true → reading_behind given line ≡ Refused
unfolding reading_of
over_refused given line h = either_refused (nat_lt LINE_BYTES (length line)) (nat_le LINES given) (cond (is_skipped line) Skipped (reading_with (line_of line))) h

-- a reader refuses the next line
refused_now : (given : ℕ) (lines : List (List ℕ)) → first_refused LINE_BYTES given lines ≡ Some (given + 1) → (line_refused given lines ≡ Some (given + 1)) × (lines_done given lines ≡ [])
refused_now given [] h = absurd cc
refused_now given (l ∷ ls) h =
    elim (here_or_behind (nat_lt LINE_BYTES (length l) || nat_le LINES given) (given + 1) (given + 1) (first_refused LINE_BYTES (given + 1) ls) h) [
      | inl now ↦ (
          let is = over_refused given l now.0 in
          (ap (λ r. refused_with (given + 1) r (line_refused (given + 1) ls)) is, ap (λ r. done_with (given + 1) r (lines_done (given + 1) ls)) is))
      | inr rest ↦ (let more = later_than LINE_BYTES (given + 1) ls (given + 1) rest.1 in absurd (omega (arith, more)))
    ]

-- a reader's fault, by what it says of it
pub refuses_ahead : (given limit : ℕ) (lines : List (List ℕ)) (fault : LineFault) → limit ≡ LINE_BYTES → Refuses fault (first_refused limit given lines)
    → ((line : ℕ) → fault ≡ TooLong line → line ≡ given + 1) → (fault ≡ TooMany → given ≡ LINES) → RefusesAhead given lines fault
refuses_ahead given limit lines (TooLong line) limited refused long many =
    let is = long line refl in
    let both = refused_now given lines (subst (λ k. first_refused k given lines ≡ Some (given + 1)) limited (refused ∙ ap Some is)) in
    (both.0 ∙ ap Some (sym is), both.1)
refuses_ahead given limit lines TooMany limited refused long many =
    let is = ap (λ k. k + 1) (many refl) in
    let both = refused_now given lines (subst (λ k. first_refused k given lines ≡ Some (given + 1)) limited (refused ∙ ap Some (sym is))) in
    (both.0 ∙ ap Some is, both.1)
refuses_ahead given limit lines Read limited refused long many = tt
