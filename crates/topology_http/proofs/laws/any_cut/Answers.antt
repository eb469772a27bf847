use Rattle.topology_http.proofs.Pieces as pieces
use Rattle.topology_http.proofs.laws.any_cut.Goals as goal

pub returns : goal.returns
returns c = pieces.any_cut
