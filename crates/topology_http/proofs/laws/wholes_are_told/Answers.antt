use Rattle.topology_http.proofs.Pieces as pieces
use Rattle.topology_http.proofs.laws.wholes_are_told.Goals as goal

pub returns : goal.returns
returns c = pieces.wholes_are_told
