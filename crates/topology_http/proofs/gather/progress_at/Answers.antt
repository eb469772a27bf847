use Rattle.std.proofs.Common.{refl, Ok, Err}
use Rattle.topology_http.specs.Messages.{parts_of}
use Rattle.topology_http.proofs.gather.progress_at.Goals as goal

pub returns-in-Ok : goal.returns-in-Ok
returns-in-Ok c = (Ok (parts_of c.in-Ok.message), c.in-Ok.ensures {u = tt}, refl)

pub returns-in-Err : goal.returns-in-Err
returns-in-Err c = (Err c.in-Err.fault, c.in-Err.ensures {u = tt}, c.waits.ensures)
