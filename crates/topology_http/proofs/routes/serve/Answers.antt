use Rattle.std.proofs.Common.{subst}
use Rattle.matchit.specs.Route.{parse_route}
use Rattle.matchit.specs.Router.{InsertsRead}
use Rattle.topology_http.proofs.Router.{serves_any}
use Rattle.topology_http.proofs.routes.serve.Goals as goal

pub returns : goal.returns
returns c =
    serves_any c.args.ask c.args.routes.now c.insert.new.self c.insert.result
    (subst (λ path. InsertsRead (parse_route path) c.args.ask c.args.routes.now c.insert.new.self c.insert.result) c.path.ensures c.insert.ensures)
