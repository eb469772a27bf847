use Rattle.std.proofs.Common.{ap, subst, ◌∙◌, length, [], ◌∷◌, ◌++◌}
use Rattle.cells_world.specs.Post.{IsSent}
use Rattle.cells_world.proofs.Posted.{packets_push}
use Rattle.cells_world.proofs.post.Post.send.Goals as goal

pub returns-clause-packets : goal.returns-clause-packets
returns-clause-packets g c =
    let s = c.in_ok-sent.sent in
    packets_push c.args.self.now.sent.items c.push_reserved.new.self.items s c.requires.packets
    (c.push_reserved.ensures.items ∙ ap (λ v. Rattle.cells_world.proofs.Posted.items_of v ++ s ∷ []) c.put.ensures.sent ∙ ap (λ xs. xs ++ s ∷ []) c.reserve.ensures.items)
    (subst (λ k. IsSent k s) (ap length c.as_slice.ensures.value) c.in_ok-sent.ensures.is)
