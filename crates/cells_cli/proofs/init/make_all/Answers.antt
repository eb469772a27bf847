use Rattle.std.proofs.Common.{◌<◌, length, arith}
use Rattle.std.proofs.lemmas.Result.{err_from_is_err_and}
use Rattle.cells_cli.proofs.Making.{said_more, told_stop, others_more, others_all, others_so_far, made_more, fresh_or}
use Rattle.cells_cli.proofs.init.make_all.Goals as goal

pub returns-in_err-make_one-clause-told : goal.returns-in_err-make_one-clause-told
returns-in_err-make_one-clause-told g c w =
    let p = err_from_is_err_and c.from_residual.result c.from_residual.ensures.1 in
    let i = c.loop-file.file-index in
    let lt : i < length c.args.files.now = omega arith in
    let said = c.in_err-make_one.ensures.said w in
    rw (p.1, p.2) (told_stop c.args.files.now i lt (g.W.Sink.written c.args.out.now) (g.W.Sink.written c.loop-file.out) (g.W.Sink.written c.make_one.new.out) said.0 (c.loop-file.invariant.said w) said.2
    g.W.Sink g.D.Disk c.loop-file.out c.make_one.new.out c.loop-file.disk c.make_one.new.disk c.in_err-make_one.field-0.0 said.1 c.in_err-make_one.ensures.cause)

pub returns-in_err-make_one-clause-made : goal.returns-in_err-make_one-clause-made
returns-in_err-make_one-clause-made g c t =
    let p = err_from_is_err_and c.from_residual.result c.from_residual.ensures.1 in
    let i = c.loop-file.file-index in
    let lt : i < length c.args.files.now = omega arith in
    rw (p.1, p.2) (fresh_or g.D.Disk c.args.files.now c.args.disk.now c.loop-file.disk c.make_one.new.disk i (c.loop-file.invariant.others t) lt (c.make_one.ensures.others t) c.requires.distinct c.in_err-make_one.field-0.0 (c.requires.free t) (c.in_err-make_one.ensures.made t))

pub returns-in_err-make_one-clause-others : goal.returns-in_err-make_one-clause-others
returns-in_err-make_one-clause-others g c t =
    let i = c.loop-file.file-index in
    let lt : i < length c.args.files.now = omega arith in
    others_all g.D.Disk c.args.files.now c.args.disk.now c.loop-file.disk c.make_one.new.disk i (c.loop-file.invariant.others t) lt (c.make_one.ensures.others t)

pub loop-file-preserved : goal.loop-file-preserved
loop-file-preserved g c =
    let files = c.args.files.now in
    let i = c.loop-file.file-index in
    let lt : i < length files = omega arith in
    record {
      said = λ w. let said = c.in_ok-make_one.ensures.said w in
          said_more files i lt (g.W.Sink.written c.args.out.now) (g.W.Sink.written c.loop-file.out) (g.W.Sink.written c.make_one.new.out) said.0 (c.loop-file.invariant.said w) said.2 said.1;
      made = λ t. made_more g.D.Disk files c.args.disk.now c.loop-file.disk c.make_one.new.disk i (c.loop-file.invariant.others t) lt (c.make_one.ensures.others t) c.requires.distinct (c.loop-file.invariant.made t) (c.in_ok-make_one.ensures.made t);
      others = λ t. others_more g.D.Disk files c.args.disk.now c.loop-file.disk c.make_one.new.disk i (c.loop-file.invariant.others t) lt (c.make_one.ensures.others t);
      later = omega (arith, c.make_one.ensures.later, c.loop-file.invariant.later);
      written = omega (arith, c.make_one.ensures.written, c.loop-file.invariant.written);
    }

pub returns-clause-others : goal.returns-clause-others
returns-clause-others g c t =
    others_so_far g.D.Disk c.args.files.now c.args.disk.now c.loop-file.disk c.loop-file.disk c.loop-file.file-index (c.loop-file.invariant.others t)
