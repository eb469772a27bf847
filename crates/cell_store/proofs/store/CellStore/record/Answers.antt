use Rattle.std.proofs.Common.{refl, sym, ◌∙◌, ap}
use Rattle.claim_types.specs.declared.entry.CellEntry.TheVariants.{Recorded}
use Rattle.cell_store.specs.Store.{stored}
use Rattle.cell_store.specs.Calls.{with_record}
use Rattle.cell_store.proofs.Calling.{still_store, touches, writes, writes_at_most, writes_nothing, left_in_doubt, made_entry, made_turns, made_kept}
use Rattle.cell_store.proofs.store.CellStore.record.Goals as goal

pub returns-in_err-fits-clause-any_moment : goal.returns-in_err-fits-clause-any_moment
returns-in_err-fits-clause-any_moment g c =
    writes_nothing c.args.self.now c.requires.store g.D.Disk c.args.disk.now (Recorded c.args.lease c.args.change.now c.args.ops.now) g.met.D.Disk.only_now

pub returns-then-not-branch-clause-any_moment : goal.returns-then-not-branch-clause-any_moment
returns-then-not-branch-clause-any_moment g c =
    writes_nothing c.args.self.now c.requires.store g.D.Disk c.args.disk.now (Recorded c.args.lease c.args.change.now c.args.ops.now) g.met.D.Disk.only_now

pub returns-in_err-change_body-clause-any_moment : goal.returns-in_err-change_body-clause-any_moment
returns-in_err-change_body-clause-any_moment g c =
    writes_nothing c.args.self.now c.requires.store g.D.Disk c.args.disk.now (Recorded c.args.lease c.args.change.now c.args.ops.now) g.met.D.Disk.only_now

pub returns-in_err-copy-clause-any_moment : goal.returns-in_err-copy-clause-any_moment
returns-in_err-copy-clause-any_moment g c =
    writes_nothing c.args.self.now c.requires.store g.D.Disk c.args.disk.now (Recorded c.args.lease c.args.change.now c.args.ops.now) g.met.D.Disk.only_now

pub returns-in_err-make-clause-any_moment : goal.returns-in_err-make-clause-any_moment
returns-in_err-make-clause-any_moment g c =
    writes_nothing c.args.self.now c.requires.store g.D.Disk c.args.disk.now (Recorded c.args.lease c.args.change.now c.args.ops.now) g.met.D.Disk.only_now

pub recorded_body-requires : goal.recorded_body-requires
recorded_body-requires g c =
    let self = c.args.self.now in
    let change = c.args.change.now in
    let ops = c.args.ops.now in
    let fits = sym c.in_ok-fits.ensures ∙ c.if-not-branch.false in
    made_entry self c.requires.store c.args.lease c.requires.lease change ops fits

pub returns-in_err-append-clause-store : goal.returns-in_err-append-clause-store
returns-in_err-append-clause-store g c =
    let self = c.args.self.now in
    let change = c.args.change.now in
    let ops = c.args.ops.now in
    let fits = sym c.in_ok-fits.ensures ∙ c.if-not-branch.false in
    still_store self c.requires.store c.append.new.self c.make.new.self (with_record (stored self) c.args.lease change ops) c.append.ensures.file (c.in_ok-make.ensures.ok ∙ ap (λ o. with_record (stored self) c.args.lease change o) c.in_ok-copy.ensures) refl (made_kept self c.requires.store c.args.lease c.requires.lease change ops fits)

pub returns-in_err-append-clause-any_moment : goal.returns-in_err-append-clause-any_moment
returns-in_err-append-clause-any_moment g c =
    let self = c.args.self.now in
    let change = c.args.change.now in
    let ops = c.args.ops.now in
    let fits = sym c.in_ok-fits.ensures ∙ c.if-not-branch.false in
    writes_at_most self c.requires.store g.D.Disk c.args.disk.now c.append.new.disk (Recorded c.args.lease change ops) (with_record (stored self) c.args.lease change ops)
    (made_entry self c.requires.store c.args.lease c.requires.lease change ops fits) (made_turns self c.requires.store c.args.lease c.requires.lease change ops fits) c.as_slice.result.now (c.as_slice.ensures ∙ c.in_ok-change_body.ensures.body) c.append.ensures.any_moment

pub returns-in_err-append-clause-in_doubt : goal.returns-in_err-append-clause-in_doubt
returns-in_err-append-clause-in_doubt g c =
    let self = c.args.self.now in
    let change = c.args.change.now in
    let ops = c.args.ops.now in
    let fits = sym c.in_ok-fits.ensures ∙ c.if-not-branch.false in
    λ failed. left_in_doubt self c.requires.store g.D.Disk c.args.disk.now c.append.new.disk (Recorded c.args.lease change ops) (with_record (stored self) c.args.lease change ops)
    (made_entry self c.requires.store c.args.lease c.requires.lease change ops fits) (made_turns self c.requires.store c.args.lease c.requires.lease change ops fits) c.as_slice.result.now (c.as_slice.ensures ∙ c.in_ok-change_body.ensures.body) c.in_err-append.ensures.in_doubt

pub returns-in_err-append-clause-others : goal.returns-in_err-append-clause-others
returns-in_err-append-clause-others g c =
    touches c.args.self.now c.requires.store g.D.Disk c.args.disk.now c.append.new.disk c.append.ensures.elsewhere c.append.ensures.counts

pub returns-clause-store : goal.returns-clause-store
returns-clause-store g c =
    let self = c.args.self.now in
    let change = c.args.change.now in
    let ops = c.args.ops.now in
    let fits = sym c.in_ok-fits.ensures ∙ c.if-not-branch.false in
    still_store self c.requires.store c.append.new.self c.make.new.self (with_record (stored self) c.args.lease change ops) c.append.ensures.file (c.in_ok-make.ensures.ok ∙ ap (λ o. with_record (stored self) c.args.lease change o) c.in_ok-copy.ensures) refl (made_kept self c.requires.store c.args.lease c.requires.lease change ops fits)

pub returns-clause-any_moment : goal.returns-clause-any_moment
returns-clause-any_moment g c =
    let self = c.args.self.now in
    let change = c.args.change.now in
    let ops = c.args.ops.now in
    let fits = sym c.in_ok-fits.ensures ∙ c.if-not-branch.false in
    writes_at_most self c.requires.store g.D.Disk c.args.disk.now c.append.new.disk (Recorded c.args.lease change ops) (with_record (stored self) c.args.lease change ops)
    (made_entry self c.requires.store c.args.lease c.requires.lease change ops fits) (made_turns self c.requires.store c.args.lease c.requires.lease change ops fits) c.as_slice.result.now (c.as_slice.ensures ∙ c.in_ok-change_body.ensures.body) c.append.ensures.any_moment

pub returns-clause-written : goal.returns-clause-written
returns-clause-written g c =
    let self = c.args.self.now in
    let change = c.args.change.now in
    let ops = c.args.ops.now in
    let fits = sym c.in_ok-fits.ensures ∙ c.if-not-branch.false in
    writes self c.requires.store g.D.Disk c.args.disk.now c.append.new.disk (Recorded c.args.lease change ops) (with_record (stored self) c.args.lease change ops)
    (made_entry self c.requires.store c.args.lease c.requires.lease change ops fits) (made_turns self c.requires.store c.args.lease c.requires.lease change ops fits) c.as_slice.result.now (c.as_slice.ensures ∙ c.in_ok-change_body.ensures.body)
    c.append.new.self c.make.new.self (c.in_ok-make.ensures.ok ∙ ap (λ o. with_record (stored self) c.args.lease change o) c.in_ok-copy.ensures) c.in_ok-append.ensures.live c.in_ok-append.ensures.adds

pub returns-clause-others : goal.returns-clause-others
returns-clause-others g c =
    touches c.args.self.now c.requires.store g.D.Disk c.args.disk.now c.append.new.disk c.append.ensures.elsewhere c.append.ensures.counts
