use Rattle.std.proofs.Common.{Some, sym, ap, ◌∙◌, subst}
use Rattle.claim_map.specs.Bounds.{IsWithinBounds}
use Rattle.claim_map.specs.Entries.{entry_of}
use Rattle.claim_laws.specs.Files.{Service, map_of}
use Rattle.disk_journal.specs.Entries.{TouchesOnly}
use Rattle.disk_journal.proofs.Entries.{nothing_at_most}
use Rattle.claim_service.specs.State.{kept, owed}
use Rattle.claim_service.specs.Node.{service, keeper}
use Rattle.claim_service.proofs.Handling.{bounds_after}
use Rattle.claim_service.proofs.Appending.{is_body, appended_due, appends_due, due_in_doubt, nothing_due}
use Rattle.claim_service.proofs.node.TopologyNode.handle.Goals as goal

pub returns-in_err-answered-clause-node : goal.returns-in_err-answered-clause-node
returns-in_err-answered-clause-node g c = record { file = c.requires.node.file; bounds = subst (λ (s : Service). IsWithinBounds (map_of s)) (sym c.in_err-answered.ensures) c.requires.node.bounds }

pub returns-in_err-answered-clause-any_moment : goal.returns-in_err-answered-clause-any_moment
returns-in_err-answered-clause-any_moment g c =
    nothing_at_most g.D.Disk service c.args.disk.now (keeper c.args.self.now) (entry_of (owed c.args.registry.now (kept c.args.self.now.state) c.args.request.now).step) g.met.D.Disk.only_now

pub append-requires-clause-body : goal.append-requires-clause-body
append-requires-clause-body g c =
    is_body c.args.registry.now (kept c.args.self.now.state) c.args.request.now c.requires.cells c.requires.node.bounds c.requires.bounds
    c.as_slice.result.now (ap Some (c.as_slice.ensures ∙ c.in-Some.body-is) ∙ sym c.in-Some.is ∙ c.in_ok-answered.ensures.1)

pub returns-in_err-append-in-Some-clause-node : goal.returns-in_err-append-in-Some-clause-node
returns-in_err-append-in-Some-clause-node g c = record {
  file = c.append.ensures.file ∙ c.requires.node.file;
  bounds = subst (λ (s : Service). IsWithinBounds (map_of s)) (sym c.in_ok-answered.ensures.2)
      (bounds_after c.args.registry.now (kept c.args.self.now.state) c.args.request.now c.requires.cells c.requires.node.bounds c.requires.bounds);
}

pub returns-in_err-append-in-Some-clause-any_moment :
    goal.returns-in_err-append-in-Some-clause-any_moment
returns-in_err-append-in-Some-clause-any_moment g c =
    appends_due c.args.registry.now (kept c.args.self.now.state) c.args.request.now c.requires.cells c.requires.node.bounds c.requires.bounds
    c.as_slice.result.now (ap Some (c.as_slice.ensures ∙ c.in-Some.body-is) ∙ sym c.in-Some.is ∙ c.in_ok-answered.ensures.1) g.D.Disk c.args.disk.now c.append.new.disk c.args.self.now.journal c.append.ensures.any_moment

pub returns-in_err-append-in-Some-clause-in_doubt :
    goal.returns-in_err-append-in-Some-clause-in_doubt
returns-in_err-append-in-Some-clause-in_doubt g c = λ failed.
    due_in_doubt c.args.registry.now (kept c.args.self.now.state) c.args.request.now c.requires.cells c.requires.node.bounds c.requires.bounds
    c.as_slice.result.now (ap Some (c.as_slice.ensures ∙ c.in-Some.body-is) ∙ sym c.in-Some.is ∙ c.in_ok-answered.ensures.1) g.D.Disk c.args.disk.now c.append.new.disk c.args.self.now.journal c.in_err-append-in-Some.ensures.in_doubt

pub returns-in_err-append-in-Some-clause-others : goal.returns-in_err-append-in-Some-clause-others
returns-in_err-append-in-Some-clause-others g c =
    subst (λ file. TouchesOnly g.D.Disk file c.args.disk.now c.append.new.disk) c.requires.node.file (record { elsewhere = c.append.ensures.elsewhere; counts = c.append.ensures.counts })

pub returns-in_ok-append-in-Some-clause-node : goal.returns-in_ok-append-in-Some-clause-node
returns-in_ok-append-in-Some-clause-node g c = record {
  file = c.append.ensures.file ∙ c.requires.node.file;
  bounds = subst (λ (s : Service). IsWithinBounds (map_of s)) (sym c.in_ok-answered.ensures.2)
      (bounds_after c.args.registry.now (kept c.args.self.now.state) c.args.request.now c.requires.cells c.requires.node.bounds c.requires.bounds);
}

pub returns-in_ok-append-in-Some-clause-written : goal.returns-in_ok-append-in-Some-clause-written
returns-in_ok-append-in-Some-clause-written g c =
    appended_due c.args.registry.now (kept c.args.self.now.state) c.args.request.now c.requires.cells c.requires.node.bounds c.requires.bounds
    c.as_slice.result.now (ap Some (c.as_slice.ensures ∙ c.in-Some.body-is) ∙ sym c.in-Some.is ∙ c.in_ok-answered.ensures.1) g.D.Disk c.args.disk.now c.append.new.disk c.args.self.now.journal
    c.append.new.self (kept c.take.new.self) c.in_ok-answered.ensures.2 c.in_ok-append-in-Some.ensures.live c.in_ok-append-in-Some.ensures.adds

pub returns-in_ok-append-in-Some-clause-any_moment :
    goal.returns-in_ok-append-in-Some-clause-any_moment
returns-in_ok-append-in-Some-clause-any_moment g c =
    appends_due c.args.registry.now (kept c.args.self.now.state) c.args.request.now c.requires.cells c.requires.node.bounds c.requires.bounds
    c.as_slice.result.now (ap Some (c.as_slice.ensures ∙ c.in-Some.body-is) ∙ sym c.in-Some.is ∙ c.in_ok-answered.ensures.1) g.D.Disk c.args.disk.now c.append.new.disk c.args.self.now.journal c.append.ensures.any_moment

pub returns-in_ok-append-in-Some-clause-others : goal.returns-in_ok-append-in-Some-clause-others
returns-in_ok-append-in-Some-clause-others g c =
    subst (λ file. TouchesOnly g.D.Disk file c.args.disk.now c.append.new.disk) c.requires.node.file (record { elsewhere = c.append.ensures.elsewhere; counts = c.append.ensures.counts })

pub returns-in-None-clause-node : goal.returns-in-None-clause-node
returns-in-None-clause-node g c = record {
  file = c.requires.node.file;
  bounds = subst (λ (s : Service). IsWithinBounds (map_of s)) (sym c.in_ok-answered.ensures.2)
      (bounds_after c.args.registry.now (kept c.args.self.now.state) c.args.request.now c.requires.cells c.requires.node.bounds c.requires.bounds);
}

pub returns-in-None-clause-written : goal.returns-in-None-clause-written
returns-in-None-clause-written g c =
    nothing_due c.args.registry.now (kept c.args.self.now.state) c.args.request.now c.requires.cells c.requires.node.bounds c.requires.bounds
    g.D.Disk c.args.disk.now c.args.self.now.journal (kept c.take.new.self) c.in_ok-answered.ensures.2 (sym c.in-None.is ∙ c.in_ok-answered.ensures.1)

pub returns-in-None-clause-any_moment : goal.returns-in-None-clause-any_moment
returns-in-None-clause-any_moment g c =
    nothing_at_most g.D.Disk service c.args.disk.now (keeper c.args.self.now) (entry_of (owed c.args.registry.now (kept c.args.self.now.state) c.args.request.now).step) g.met.D.Disk.only_now
