use Rattle.topology_http.proofs.Router.{are_routes, built}
use Rattle.topology_http.proofs.routes.all_served.Goals as goal

pub returns : goal.returns
returns c =
    are_routes _ (built _ _ _ _ _ _ _ _ _ _ c.new-routes.ensures (c.in_ok-serve.ensures {u = tt}) (c.in_ok-serve-2.ensures {u = tt}) (c.in_ok-serve-3.ensures {u = tt})
    (c.in_ok-serve-4.ensures {u = tt}) (c.in_ok-serve-5.ensures {u = tt}) (c.in_ok-serve-6.ensures {u = tt}) (c.in_ok-serve-7.ensures {u = tt}) (c.in_ok-serve-8.ensures {u = tt}) (c.in_ok-serve-9.ensures {u = tt}))
