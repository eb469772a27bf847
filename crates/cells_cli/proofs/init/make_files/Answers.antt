use Rattle.std.proofs.lemmas.Result.{err_from_is_err_and}
use Rattle.cells_cli.proofs.Making.{asked_told, asked_leaves, others_on, made_leaves}
use Rattle.cells_cli.proofs.init.make_files.Goals as goal

pub returns-in_err-ask_all-clause-told : goal.returns-in_err-ask_all-clause-told
returns-in_err-ask_all-clause-told g c w =
    let p = err_from_is_err_and c.from_residual.result c.from_residual.ensures.1 in
    rw (p.1, p.2) (asked_told g.D.Disk c.args.files.now c.args.disk.now c.ask_all.new.disk c.ask_all.new.disk (g.W.Sink.written c.args.out.now) c.in_err-ask_all.field-0.0 c.in_err-ask_all.ensures.stops)

pub returns-in_err-ask_all-clause-leaves : goal.returns-in_err-ask_all-clause-leaves
returns-in_err-ask_all-clause-leaves g c t =
    let p = err_from_is_err_and c.from_residual.result c.from_residual.ensures.1 in
    rw (p.1, p.2) (asked_leaves g.D.Disk c.args.files.now c.args.disk.now c.ask_all.new.disk c.ask_all.new.disk c.args.out.now c.in_err-ask_all.field-0.0 (c.in_err-ask_all.ensures.told t) (c.ask_all.ensures.stays t))

pub returns-in_err-ask_all-clause-others : goal.returns-in_err-ask_all-clause-others
returns-in_err-ask_all-clause-others g c t q out = c.ask_all.ensures.stays t q

pub returns-clause-leaves : goal.returns-clause-leaves
returns-clause-leaves g c t =
    made_leaves g.D.Disk c.args.files.now c.args.disk.now c.ask_all.new.disk c.make_all.new.disk c.args.out.now c.make_all.new.out c.make_all.result (c.in_ok-ask_all.ensures.told t) (c.make_all.ensures.made t)
    (others_on g.D.Disk c.args.files.now c.args.disk.now c.ask_all.new.disk c.make_all.new.disk (c.ask_all.ensures.stays t) (c.make_all.ensures.others t))

pub returns-clause-others : goal.returns-clause-others
returns-clause-others g c t = others_on g.D.Disk c.args.files.now c.args.disk.now c.ask_all.new.disk c.make_all.new.disk (c.ask_all.ensures.stays t) (c.make_all.ensures.others t)
