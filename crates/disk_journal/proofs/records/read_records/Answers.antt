use Rattle.std.proofs.Common.{◌+◌, ◌++◌, ◌∷◌, [], List, ℕ, length, sym, subst, ap, ◌∙◌}
use Rattle.std.proofs.lemmas.List.{take_rest}
use Rattle.disk_journal.specs.Journal.{IsRecord}
use Rattle.disk_journal.proofs.Reading.{IsReadUpTo, read_more, read_broken, read_end}
use Rattle.disk_journal.proofs.records.read_records.Goals as goal

pub returns-in_default-clause-refused : goal.returns-in_default-clause-refused
returns-in_default-clause-refused c =
    read_broken c.args.bytes.now c.loop-gate.gate c.loop-gate.bodies.items c.loop-gate.invariant c.loop-gate-test.true
    (subst (λ behind. (body : List ℕ) → IsRecord body behind → ⊥) (take_rest c.args.bytes.now (c.loop-gate.gate + 1)) c.in_default.ensures)

pub loop-gate-preserved : goal.loop-gate-preserved
loop-gate-preserved c =
    let more = read_more c.args.bytes.now c.loop-gate.gate c.loop-gate.bodies.items c.loop-gate.invariant c.in-Some.body.now c.loop-gate-test.true
    (subst (IsRecord c.in-Some.body.now) (take_rest c.args.bytes.now (c.loop-gate.gate + 1)) c.in-Some.ensures) in
    subst (IsReadUpTo c.args.bytes.now (c.loop-gate.gate + (5 + length c.in-Some.body.now))) (sym (◌∙◌ {A = List (List ℕ)} c.in_ok-push.ensures.items (ap (λ text. c.loop-gate.bodies.items ++ text ∷ []) c.in_ok-from_slice.ensures))) more

pub returns-clause-bodies : goal.returns-clause-bodies
returns-clause-bodies c = read_end c.args.bytes.now c.loop-gate.gate c.loop-gate.bodies.items c.loop-gate.invariant c.loop-gate-test.false
