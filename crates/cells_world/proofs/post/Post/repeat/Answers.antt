use Rattle.std.proofs.Common.{refl, ap, ◌∙◌, length, get_or}
use Rattle.std.proofs.lemmas.Option.{slice_get_read}
use Rattle.cells_world.proofs.Posted.{repeats}
use Rattle.cells_world.proofs.post.Post.repeat.Goals as goal

pub returns-clause-put : goal.returns-clause-put
returns-clause-put g c =
    let items = c.as_slice.ensures.value in
    repeats g.N.Wire c.args.wire.now c.put.new.wire c.args.self.now c.args.at c.index-as_slice-at.result c.as_slice-2.result.now c.requires.packets
    (slice_get_read c.args.self.now.sent.items (length c.args.self.now.sent.items) c.args.at c.index-as_slice-at.result refl c.requires.place (c.index-as_slice-at.is ∙ ap (λ xs. get_or xs c.args.at c.index-as_slice-at.result) items))
    (c.as_slice-2.ensures ∙ c.in_ok-bytes.ensures)
    c.put.result c.put.ensures.put
