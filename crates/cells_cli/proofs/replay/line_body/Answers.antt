use Rattle.std.proofs.Common.{List, ℕ, [], ◌∷◌, ◌++◌, ◌∙◌, ap, sym}
use Rattle.cells_cli.specs.Service.{map_of}
use Rattle.cells_cli.proofs.Answered.{empty_line, some_line}
use Rattle.cells_cli.proofs.replay.line_body.Goals as goal

pub returns-then-is_empty-clause-body : goal.returns-then-is_empty-clause-body
returns-then-is_empty-clause-body c =
    c.new.ensures.items ∙ (empty_line c.args.service.now.registry (map_of c.args.service.now) c.args.line.now (sym c.is_empty.ensures ∙ c.if-is_empty.true)).0

pub returns-then-is_empty-clause-map : goal.returns-then-is_empty-clause-map
returns-then-is_empty-clause-map c = (empty_line c.args.service.now.registry (map_of c.args.service.now) c.args.line.now (sym c.is_empty.ensures ∙ c.if-is_empty.true)).1

pub returns-clause-body : goal.returns-clause-body
returns-clause-body c =
    c.in_ok-push.ensures.items
    ∙ ap (λ (bytes : List ℕ). bytes ++ 10 ∷ []) (c.into_vec-body.ensures ∙ c.in_ok-answer_body.ensures.body)
    ∙ (some_line c.args.service.now.registry (map_of c.args.service.now) c.args.line.now (sym c.is_empty.ensures ∙ c.if-is_empty.false)).0

pub returns-clause-map : goal.returns-clause-map
returns-clause-map c =
    c.in_ok-answer_body.ensures.map ∙ (some_line c.args.service.now.registry (map_of c.args.service.now) c.args.line.now (sym c.is_empty.ensures ∙ c.if-is_empty.false)).1
