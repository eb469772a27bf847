use Rattle.std.proofs.Common.{◌%◌, subst, ap, ◌∙◌, take}
use Rattle.disk_journal.specs.Memory.{FileState, IsLeft, left_by, torn}
use Rattle.disk_journal.specs.Inside.{state}
use Rattle.disk_journal.proofs.Torn.{kept_torn, left_by_torn}
use Rattle.disk_journal.proofs.memory_file.MemoryFile.leave.Goals as goal

pub invariant_of-self-else-pick-eq0 : goal.invariant_of-self-else-pick-eq0
invariant_of-self-else-pick-eq0 c = kept_torn c.self.inside c.self.invariant (c.args.pick % 256) c.tear.new.target (c.tear.ensures.items ∙ ap (λ w. torn (c.args.pick % 256) (take c.self.inside.high w) (take c.self.inside.size c.self.inside.bytes.items)) c.deref-else-pick-eq0.ensures.value) c.tear.ensures.len

pub returns-else-pick-eq0-clause-may : goal.returns-else-pick-eq0-clause-may
returns-else-pick-eq0-clause-may c =
    let P : FileState → Type 0 = λ s. IsLeft s (left_by c.args.pick s) in
    subst P c.self.view_is (left_by_torn c.args.pick (state c.self.inside) c.if-pick-eq0.false c.self.invariant.consistent)
