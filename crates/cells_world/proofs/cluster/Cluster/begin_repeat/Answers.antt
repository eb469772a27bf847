use Rattle.std.proofs.Common.{◌≡◌, ◌-◌, true, false, length, refl, sym, ◌∙◌, ap}
use Rattle.std.specs.Prelude.{map as list_map}
use Rattle.cells_script.specs.declared.line.Line.TheVariants.{Repeat as RepeatLine}
use Rattle.cells_world.specs.Answers.{is_tag}
use Rattle.cells_world.specs.Post.{packet_of, packets_of}
use Rattle.cells_world.proofs.Posted.{items_of, map_length}
use Rattle.cells_world.proofs.Putting.{none_tagged, puts_nothing, puts_repeated}
use Rattle.cells_world.proofs.cluster.Cluster.begin_repeat.Goals as goal

-- no packet has the tag
pub returns-then-not-is_tag-clause-puts : goal.returns-then-not-is_tag-clause-puts
returns-then-not-is_tag-clause-puts g c =
    let post = c.args.self.now.post in
    let none : is_tag c.args.tag (length (packets_of post)) ≡ false = ap (is_tag c.args.tag) (map_length packet_of post.sent.items ∙ sym (ap length c.sent.ensures)) ∙ sym c.is_tag.ensures ∙ c.if-not-is_tag.true in
    puts_nothing g.N.Wire (RepeatLine c.args.tag) c.args.wire.now post post (none_tagged c.args.tag (packets_of post) none) refl refl

-- one has it
pub returns-clause-puts : goal.returns-clause-puts
returns-clause-puts g c =
    let post = c.args.self.now.post in
    let one : is_tag c.args.tag (length (packets_of post)) ≡ true = ap (is_tag c.args.tag) (map_length packet_of post.sent.items ∙ sym (ap length c.sent.ensures)) ∙ sym c.is_tag.ensures ∙ c.if-not-is_tag.false in
    puts_repeated g.N.Wire c.args.tag (c.args.tag - 1) c.args.wire.now c.repeat.new.wire post c.repeat.new.self one refl
    (ap (λ v. list_map packet_of (items_of v)) c.repeat.ensures.sent) c.in_ok-repeat.ensures.armed c.in_ok-repeat.ensures.put
