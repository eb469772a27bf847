use Rattle.std.proofs.Common.{refl, ap, ◌∙◌, ◌<◌, ◌-◌, length, get_or, arith}
use Rattle.std.proofs.lemmas.Option.{slice_get_read}
use Rattle.cells_world.proofs.Posted.{posted, never}
use Rattle.cells_world.proofs.post.Post.place_of.Goals as goal

pub returns-then-not-is-clause-missing : goal.returns-then-not-is-clause-missing
returns-then-not-is-clause-missing c =
    let within = c.if-place-sent.false in
    let positive = c.if-packet-eq0.false in
    let count = c.as_slice-sent.ensures.len in
    let items = c.as_slice-sent.ensures.value in
    let at = c.args.packet.now.leg.tag - 1 in
    let lt : at < length c.args.self.now.sent.items = omega (arith, within, ap length items) in
    never c.args.self.now c.args.packet.now at c.index-sent-at.result c.requires
    (slice_get_read c.args.self.now.sent.items (length c.args.self.now.sent.items) at c.index-sent-at.result refl lt (c.index-sent-at.is ∙ ap (λ xs. get_or xs at c.index-sent-at.result) items))
    (omega (arith, positive))
    (c.is.ensures.other c.if-not-is.true)

pub returns-clause-found : goal.returns-clause-found
returns-clause-found c =
    let within = c.if-place-sent.false in
    let items = c.as_slice-sent.ensures.value in
    let at = c.args.packet.now.leg.tag - 1 in
    let lt : at < length c.args.self.now.sent.items = omega (arith, within, ap length items) in
    posted c.args.self.now c.args.packet.now at c.index-sent-at.result c.requires
    (slice_get_read c.args.self.now.sent.items (length c.args.self.now.sent.items) at c.index-sent-at.result refl lt (c.index-sent-at.is ∙ ap (λ xs. get_or xs at c.index-sent-at.result) items))
    (c.is.ensures.same c.if-not-is.false)
