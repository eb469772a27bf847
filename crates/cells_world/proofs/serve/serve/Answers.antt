use Rattle.std.proofs.Common.{◌≡◌, ◌∙◌, Err, None, Option, Result, Some, ap, false, is_some, refl, subst, sym}
use Rattle.std.proofs.lemmas.Result.{err_from_is_err_and}
use Rattle.claim_map.specs.Due.{Due}
use Rattle.claim_map.specs.Entries.{entry_of}
use Rattle.claim_laws.specs.Files.{map_of}
use Rattle.claim_service.specs.Node.{service, keeper}
use Rattle.claim_service.specs.State.{kept, owed}
use Rattle.claim_service.specs.declared.node.NodeError.{NodeError}
use Rattle.claim_service.specs.declared.node.NodeError.TheVariants.{Failed, Memory as NodeMemory}
use Rattle.disk_journal.specs.Entries.{AppendsAtMost}
use Rattle.disk_journal.proofs.Entries.{nothing_at_most}
use Rattle.cells_world.specs.Faults.{fault_of_service}
use Rattle.cells_world.specs.declared.fault.ClusterError.{ClusterError}
use Rattle.cells_world.specs.declared.fault.ClusterError.TheVariants.{Memory}
use Rattle.cells_world.specs.declared.serve.Served.{Served}
use Rattle.cells_world.specs.Serving.{step_asked, step_told}
use Rattle.cells_world.proofs.Telling.{due_told}
use Rattle.cells_world.proofs.serve.serve.Goals as goal

same_fault : (r : Result Served ClusterError) (a b : ClusterError) → r ≡ Err a → r ≡ Err b → a ≡ b
same_fault r a b one two = cc

memory_of : (fault : NodeError) → fault_of_service fault ≡ Memory → fault ≡ NodeMemory
memory_of Failed is = absurd cc
memory_of NodeMemory is = refl

none_of : {X : Type 0} (o : Option X) → is_some o ≡ false → o ≡ None
none_of None none = refl
none_of (Some x) none = absurd cc

pub returns-in_err-asked-clause-any_moment : goal.returns-in_err-asked-clause-any_moment
returns-in_err-asked-clause-any_moment g c = nothing_at_most g.D.Disk service c.args.disk.now (keeper c.args.service.now) (entry_of (owed c.args.registry.now (kept c.args.service.now.state) c.args.request.now).step) g.met.D.Disk.only_now

pub returns-clause-step : goal.returns-clause-step
returns-clause-step g c =
    let due : Due = owed c.args.registry.now (kept c.args.service.now.state) c.args.request.now in
    c.in_ok-step.ensures.step
    ∙ ap (λ asked. step_told asked c.in_ok-handled.handled.fresh c.in_ok-handled.handled.reply) c.in_ok-asked.ensures
    ∙ ap (λ fresh. step_told (step_asked c.args.request.now) fresh c.in_ok-handled.handled.reply) c.in_ok-handled.ensures.ok.fresh
    ∙ ap (step_told (step_asked c.args.request.now) (is_some (entry_of due.step))) c.in_ok-handled.ensures.ok.reply
    ∙ due_told c.args.registry.now (map_of (kept c.args.service.now.state)) c.args.request.now c.requires.bounds c.requires.serving.is.bounds.in_order

-- where memory is wanting nothing was written: before the service was asked, by the service, or for a reply for which no entry is due
pub returns-in_err-asked-clause-memory : goal.returns-in_err-asked-clause-memory
returns-in_err-asked-clause-memory g c = λ wanting. nothing_at_most g.D.Disk service c.args.disk.now (keeper c.args.service.now) None g.met.D.Disk.only_now

pub returns-in_err-handled-clause-memory : goal.returns-in_err-handled-clause-memory
returns-in_err-handled-clause-memory g c = λ wanting. (
    let p = err_from_is_err_and c.from_residual-in_err-handled.result c.from_residual-in_err-handled.ensures.1 in
    let fault = c.in_err-handled.field-0.0 in
    let is : fault ≡ NodeMemory = memory_of fault (sym p.2 ∙ same_fault c.from_residual-in_err-handled.result p.0 Memory p.1 wanting) in
    subst (λ d. AppendsAtMost g.D.Disk service c.args.disk.now d (keeper c.args.service.now) None) (sym (c.handle.ensures.memory (c.in_err-handled.was ∙ ap Err is)).disk)
    (nothing_at_most g.D.Disk service c.args.disk.now (keeper c.args.service.now) None g.met.D.Disk.only_now))

pub returns-in_err-step-clause-memory : goal.returns-in_err-step-clause-memory
returns-in_err-step-clause-memory g c = λ wanting. (
    let due : Due = owed c.args.registry.now (kept c.args.service.now.state) c.args.request.now in
    subst (λ more. AppendsAtMost g.D.Disk service c.args.disk.now c.handle.new.disk (keeper c.args.service.now) more)
    (none_of (entry_of due.step) (sym c.in_ok-handled.ensures.ok.fresh ∙ c.in_err-step.ensures.unwritten)) c.handle.ensures.any_moment)
