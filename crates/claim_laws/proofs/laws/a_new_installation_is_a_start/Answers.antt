use Rattle.std.proofs.Common.{sym, subst}
use Rattle.claim_laws.specs.Facts.{IsStart}
use Rattle.claim_laws.proofs.Starts.{new-start}
use Rattle.claim_laws.proofs.laws.a_new_installation_is_a_start.Goals as goal

pub returns : goal.returns
returns c = λ registry w configured is. subst (IsStart registry) (sym is) (new-start registry configured)
