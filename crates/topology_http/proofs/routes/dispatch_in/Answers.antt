use Rattle.std.proofs.Common.{sym}
use Rattle.topology_http.proofs.Router.{no_dispatch}
use Rattle.topology_http.proofs.routes.dispatch_in.Goals as goal

pub returns-in-Err : goal.returns-in-Err
returns-in-Err c = sym (no_dispatch c.args.method.now c.args.target.now (c.in-Err.ensures {u = tt}).cases.0)
