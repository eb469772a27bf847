use Rattle.std.proofs.Common.{sym, ◌∙◌, ap, subst}
use Rattle.claim_laws.specs.Events.{run}
use Rattle.std.specs.Prelude.{map as list_map, length}
use Rattle.std.specs.List.{slice_get}
use Rattle.cells_world.specs.Answers.{Begins, begun_on_wire}
use Rattle.cells_world.specs.Lines.{Acts}
use Rattle.cells_world.specs.Puts.{PutsFor}
use Rattle.cells_world.specs.Post.{packet_of, Puts}
use Rattle.cells_world.proofs.Posted.{items_of}
use Rattle.cells_world.specs.World.{IsIn}
use Rattle.cells_world.specs.declared.cluster.Cluster.{Cluster}
use Rattle.cells_world.proofs.Acting.{same_in}
use Rattle.cells_world.proofs.Growing.{notes_same}
use Rattle.cells_world.proofs.Ready.{ready_sent}
use Rattle.cells_world.proofs.Wanting.{own_nothing}
use Rattle.cells_world.proofs.Begun.{wire_begun}
use Rattle.cells_world.proofs.cluster.Cluster.begin.Goals as goal

pub returns-in_ok-begin_range-in-Range-clause-acts : goal.returns-in_ok-begin_range-in-Range-clause-acts
returns-in_ok-begin_range-in-Range-clause-acts g c = subst (λ l. Acts c.args.now l c.args.self.now c.begin_range.new.self) (sym c.in-Range.is) (c.in_ok-begin_range-in-Range.ensures.acts c.args.now)

-- nothing that a world tells of has changed
pub returns-in_ok-begin_on_wire-in_default-line : goal.returns-in_ok-begin_on_wire-in_default-line
returns-in_ok-begin_on_wire-in_default-line g c =
    let old : Cluster = c.args.self.now in
    let new : Cluster = c.begin_on_wire.new.self in
    let same = c.begin_on_wire.ensures.same in
    let sent = ap (λ v. list_map packet_of (items_of v)) same.sent in
    record {
      acts = λ start w order is_in. subst (λ es. IsIn new (run old.registry es w))
          (sym (own_nothing w c.args.now c.args.line.now (sym c.cell_of_change.ensures ∙ c.in_default.is) (λ cell number is. c.in_default-line.not-Range cell number is) (λ cell is. c.in_default-line.not-Reconcile cell is)))
          (same_in old new w is_in same.service (ap (λ v. v.items) same.cells) sent (ap (λ v. v.items) same.trace) (ap (λ v. v.items) same.notes) same.takes);
      ready = ready_sent g.D.Disk c.args.disk.now old new c.requires.ready same.registry
          (λ m s there. c.requires.ready.packets m s (ap (λ v. slice_get (items_of v) m) (sym same.sent) ∙ there))
          same.service (ap (λ v. v.items) same.cells);
      begun = λ start w order is_in. c.in_ok-begin_on_wire-in_default-line.ensures.begun ∙ ap (λ ps. begun_on_wire (length ps) c.args.line.now) (sym is_in.sent)
          ∙ sym (wire_begun w c.args.now c.args.line.now (sym c.cell_of_change.ensures ∙ c.in_default.is) (λ cell number is. c.in_default-line.not-Range cell number is) (λ cell is. c.in_default-line.not-Reconcile cell is));
      puts = c.in_ok-begin_on_wire-in_default-line.ensures.puts;
      waits = c.in_ok-begin_on_wire-in_default-line.ensures.waits;
      notes = notes_same old new (ap (λ v. v.items) same.notes);
      unnoted = tt;
      end = tt;
      handed = c.begin_on_wire.ensures.handed;
      later = c.begin_on_wire.ensures.later;
      same = record { registry = same.registry; trace = same.trace; takes = same.takes };
    }

pub returns-in_ok-begin_range-in-Range-clause-begun : goal.returns-in_ok-begin_range-in-Range-clause-begun
returns-in_ok-begin_range-in-Range-clause-begun g c = subst (λ l. Begins c.args.now l c.args.self.now c.in_ok-begin_range-in-Range.field-0) (sym c.in-Range.is) (c.in_ok-begin_range-in-Range.ensures.begun c.args.now)

pub returns-in_ok-begin_range-in-Range-clause-puts : goal.returns-in_ok-begin_range-in-Range-clause-puts
returns-in_ok-begin_range-in-Range-clause-puts g c = subst (λ l. PutsFor (Puts g.N.Wire) l c.args.wire.now c.begin_range.new.wire c.args.self.now.post c.begin_range.new.self.post) (sym c.in-Range.is) c.in_ok-begin_range-in-Range.ensures.puts
