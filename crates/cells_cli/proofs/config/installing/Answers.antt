use Rattle.std.proofs.Common.{List, ℕ, sym, subst}
use Rattle.cells_cli.specs.Files.{AreDistinct}
use Rattle.cells_cli.proofs.Distinct.{distinct_files}
use Rattle.cells_cli.proofs.config.installing.Goals as goal

pub returns-clause-sound : goal.returns-clause-sound
returns-clause-sound g c = subst (λ (files : List ℕ). AreDistinct files) (sym c.in_ok-files_of.ensures) (distinct_files c.in_ok-registry.registry c.in_ok-registry.ensures.legal)
