-- What lines brought about joins.
use Rattle.std.proofs.Common.{◌≡◌, ℕ, ◌≤◌, Bool, true, false, cond, IsTrue, List, [], ◌∷◌, ◌++◌, length, drop, Option, Some, None, refl, sym, ◌∙◌, ap, subst, append_assoc, arith}
use Rattle.std.proofs.lemmas.List.{append-nil}
use Rattle.std.proofs.Math.Seq.{drop-append_seam}
use Rattle.disk_journal.specs.declared.disk.Disk.{Ghosts}
use Rattle.disk_journal.proofs.Moments.{OnlyNow, started}
use Rattle.cells_edge.specs.declared.wire.Wire.{Ghosts as WireGhosts}
use Rattle.claim_map.specs.Bounds.{AreCells}
use Rattle.claim_map.specs.Registry.{Registry}
use Rattle.claim_map.proofs.Configured.{wide_of}
use Rattle.claim_types.specs.declared.rule.Note.{Note}
use Rattle.claim_types.specs.declared.step.Transition.{Transition}
use Rattle.claim_laws.specs.Events.{Event, run}
use Rattle.claim_laws.specs.Facts.{IsInOrder}
use Rattle.claim_laws.specs.World.{World}
use Rattle.claim_laws.proofs.Law.{run-in_order}
use Rattle.cells_script.specs.declared.answer.Answer.{Answer}
use Rattle.cells_script.specs.declared.line.Line.{Line}
use Rattle.cells_world.specs.Cluster.{IsReady}
use Rattle.cells_world.specs.Ending.{GoesOn}
use Rattle.cells_world.specs.Follows.{Follows}
use Rattle.cells_world.specs.Lines.{waited_by}
use Rattle.cells_world.specs.OnWay.{sent_between}
use Rattle.cells_world.specs.Packets.{after_puts, let_through, spelled_from}
use Rattle.cells_world.specs.Post.{IsGiven, packets_of}
use Rattle.cells_world.specs.Puts.{PutsFor, armed_by, puts_again}
use Rattle.cells_world.specs.World.{At, IsReached}
use Rattle.cells_world.proofs.Going.{goes_on, run_append}
use Rattle.cells_world.proofs.Served.{ready_is_of}
use Rattle.cells_cli.specs.Told.{Item, notes_told, steps_told}
use Rattle.cells_cli.specs.Went.{AreOfItems, Beside, Brings, IsShown, Went, beside}
use Rattle.cells_cli.proofs.Telling.{steps_append, notes_append}

-- what is read of a clock that tells is the moment that it shows
pub is_shown : (tells : Bool) (moment now : ℕ) → (IsTrue tells → now ≡ moment) → IsShown (cond tells (Some moment) None) now
is_shown true moment now is = is refl
is_shown false moment now is = tt

-- it shows the same moment still
pub still_shown : (tells : Bool) (moment moment_now : ℕ) → (IsTrue tells → moment_now ≡ moment) → cond tells (Some moment_now) None ≡ cond tells (Some moment) None
still_shown true moment moment_now same = ap Some (same refl)
still_shown false moment moment_now same = refl

module _ {N : Type 0} (n : WireGhosts N) (shown : Option ℕ) (registry : Registry) where
  of_items_append : (items more : List Item) (w : World) (here mid there : Beside N) (es fs : List Event) → AreOfItems n shown registry w here items es mid →
      AreOfItems n shown registry (run registry es w) mid more fs there → AreOfItems n shown registry w here (items ++ more) (es ++ fs) there
  of_items_append [] more w here mid there es fs first second =
      subst (λ x. AreOfItems n shown registry w here more (x ++ fs) there) (sym first.0)
      (subst (λ x. AreOfItems n shown registry w x more fs there) first.1
      (subst (λ x. AreOfItems n shown registry (run registry x w) mid more fs there) first.0 second))
  of_items_append (item ∷ items) more w here mid there es fs first second = (
    first.0,
    first.1 ++ fs,
    first.2,
    ap (λ x. x ++ fs) first.3 ∙ append_assoc first.0 first.1 fs,
    first.4,
    of_items_append items more (run registry first.0 w) first.2 mid there first.1 fs first.5
        (subst (λ v. AreOfItems n shown registry v mid more fs there) (ap (λ x. run registry x w) first.3 ∙ run_append registry first.0 first.1 w) second),
  )

module _ {D N : Type 0} (g : Ghosts D) (n : WireGhosts N) (shown : Option ℕ) where
  -- lines, and then others
  pub went_on : (a b c : At D N) (items more : List Item) → AreCells a.cluster.registry → Went g n shown a items b → Went g n shown b more c → Went g n shown a (items ++ more) c
  went_on a b c items more configured first second = record {
    registry = second.registry ∙ first.registry;
    later = let one = first.later in let two = second.later in (omega (arith, one.0, two.0), omega (arith, one.1, two.1));
    trace = second.trace ∙ ap (λ (t : List Transition). t ++ steps_told more) first.trace ∙ append_assoc a.cluster.trace.items (steps_told items) (steps_told more) ∙ ap (λ (t : List Transition). a.cluster.trace.items ++ t) (sym (steps_append items more));
    notes = second.notes ∙ ap (λ (t : List Note). t ++ notes_told more) first.notes ∙ append_assoc a.cluster.notes.items (notes_told items) (notes_told more) ∙ ap (λ (t : List Note). a.cluster.notes.items ++ t) (sym (notes_append items more));
    brings = λ start w order is_in. (
        let registry = a.cluster.registry in
        let one = first.brings start w order is_in in
        let w_then = run registry one.events w in
        let order_then = run-in_order registry start (wide_of registry configured) one.events w order in
        let there = second.brings start w_then (subst (λ r. IsInOrder r start w_then) (sym first.registry) order_then) one.goes.now in
        let two = subst (λ r. Brings g n shown r w_then more b c) first.registry there in
        record {
          events = one.events ++ two.events;
          of_items = of_items_append n shown registry items more w (beside a) (beside b) (beside c) one.events two.events one.of_items two.of_items;
          goes = goes_on g n registry w a b c one.events two.events one.goes two.goes;
        });
  }

  -- no line
  pub went_nowhere : (a : At D N) → OnlyNow g → IsReady g a.disk a.cluster → Went g n shown a [] a
  went_nowhere a only_now ready = record {
    registry = refl;
    later = (omega arith, omega arith);
    trace = sym (append-nil a.cluster.trace.items);
    notes = sym (append-nil a.cluster.notes.items);
    brings = λ start w order is_in. record {
      events = [];
      of_items = (refl, refl);
      goes = record {
        now = is_in;
        moments = λ tells. started g a.disk (IsReached a.cluster.registry w []) only_now (λ img is. record { front = []; rest = []; cut = refl; is_of = ready_is_of g a.disk a.cluster w ready tells is_in img is });
        handed = λ tells. ([], sym (append-nil (n.handed a.wire)), refl);
      };
    };
  }

  -- a line that was answered
  pub went_line : (a c : At D N) (number now : ℕ) (line : Line) (answer : Answer) (grows : GoesOn a.cluster c.cluster) → c.cluster.registry ≡ a.cluster.registry → c.cluster.waited ≡ waited_by line a.cluster.waited → IsShown shown now →
      (g.faults a.disk ≤ g.faults c.disk) × (n.faults a.wire ≤ n.faults c.wire) → PutsFor (IsGiven n) line a.wire c.wire a.cluster.post c.cluster.post → Follows g n now line answer a c → Went g n shown a (record { number = number; line = line; notes = grows.notes; steps = grows.steps; answer = answer } ∷ []) c
  went_line a c number now line answer grows same waited read later puts follows = record {
    registry = same;
    later = later;
    trace = grows.trace ∙ ap (λ (t : List Transition). a.cluster.trace.items ++ t) (sym (append-nil grows.steps));
    notes = grows.noted ∙ ap (λ (t : List Note). a.cluster.notes.items ++ t) (sym (append-nil grows.notes));
    brings = λ start w order is_in. (
        let it = follows start w order is_in in
        let before = packets_of a.cluster.post in
        let behind = run a.cluster.registry it.0 w in
        let put : (puts_again line before ++ spelled_from (length before) puts.packets) ≡ (puts_again line w.sent ++ sent_between w behind) =
        ap (λ xs. puts_again line before ++ spelled_from (length before) xs) (sym (drop-append_seam before puts.packets) ∙ ap (drop (length before)) (sym puts.sent ∙ sym it.2.now.sent))
        ∙ ap (λ ps. puts_again line ps ++ spelled_from (length ps) (drop (length ps) behind.sent)) (sym is_in.sent) in
        let armed = armed_by line a.cluster.post.armed.items in
        record {
          events = it.0;
          of_items = (
            it.0,
            [],
            beside c,
            sym (append-nil it.0),
            record {
              clock = now;
              read = read;
              are = it.1;
              steps = it.2.now.trace ∙ grows.trace ∙ ap (λ (t : List Transition). t ++ grows.steps) (sym is_in.trace);
              notes = it.2.now.notes ∙ grows.noted ∙ ap (λ (t : List Note). t ++ grows.notes) (sym is_in.notes);
              waited = waited;
              sent = λ tells. puts.put.put tells ∙ ap (λ xs. n.sent a.wire ++ let_through armed xs) put;
              armed = puts.put.left ∙ ap (λ xs. after_puts xs armed) put;
              later = later.1;
              took = it.3;
            },
            (refl, refl),
          );
          goes = it.2;
        });
  }
