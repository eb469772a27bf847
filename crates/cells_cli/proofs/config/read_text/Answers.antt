use Rattle.std.proofs.Common.{◌<◌, length, ◌∙◌, arith}
use Rattle.cells_cli.specs.declared.config.TheConstants.{CONFIG_BYTES}
use Rattle.cells_cli.proofs.Texts.{is_long, is_whole, front_kept}
use Rattle.cells_cli.proofs.config.read_text.Goals as goal

pub returns-then-end-gt-CONFIG_BYTES-clause-long :
    goal.returns-then-end-gt-CONFIG_BYTES-clause-long
returns-then-end-gt-CONFIG_BYTES-clause-long g c t h =
    is_long c.in_ok-end.end CONFIG_BYTES c.read_front.new.buffer (g.S.Source.left c.read_front.new.source) (g.S.Source.left c.args.source.now) (c.in_ok-end.ensures.bytes t) c.in_ok-end.ensures.bound c.if-end-gt-CONFIG_BYTES.true

pub returns-clause-text : goal.returns-clause-text
returns-clause-text g c t =
    let end = c.in_ok-end.end in
    let buffer = c.read_front.new.buffer in
    let room : end < length buffer = omega (arith, c.if-end-gt-CONFIG_BYTES.false, c.read_front.ensures.len, c.in_ok-buffer.ensures.len) in
    c.truncate.ensures.items ∙ front_kept end c.in_ok-buffer.buffer.len buffer _ c.in_ok-end.ensures.bound (omega (arith, room, c.read_front.ensures.len, c.in_ok-buffer.ensures.len)) ∙ is_whole end CONFIG_BYTES buffer (g.S.Source.left c.read_front.new.source) (g.S.Source.left c.args.source.now) (c.in_ok-end.ensures.bytes t) (c.in_ok-end.ensures.end t) room
