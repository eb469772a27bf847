-- Why a file was not opened, by what its bodies stand for.
use Rattle.std.proofs.Common.{◌≡◌, ℕ, List, Option, Some, None, Err, ◌∙◌, sym, subst}
use Rattle.claim_map.specs.Registry.{Registry}
use Rattle.claim_laws.specs.Files.{Service}
use Rattle.disk_journal.specs.Disk.{Image}
use Rattle.disk_journal.specs.Journal.{HasBodies}
use Rattle.disk_journal.specs.Entries.{Stands}
use Rattle.claim_service.specs.Node.{service}
use Rattle.claim_service.specs.Opening.{IsReplay, IsReplayed, IsOpenFault, KnowsAll}
use Rattle.claim_service.specs.declared.limits.TheConstants.{SERVICE_FILE}
use Rattle.claim_service.specs.declared.opening.ServiceOpenFault.{ServiceOpenFault}
use Rattle.claim_service.specs.declared.opening.ServiceOpenFault.TheVariants.{NotAJournal, BadEntry, ConfigLacks, Failed, Memory}

module _ (registry : Registry) (img : Image) (bodies : List (List ℕ)) (has : HasBodies img SERVICE_FILE bodies) where
  pub replay_fault : (fault : ServiceOpenFault) → IsReplayed registry bodies (Err fault) → IsOpenFault registry img fault
  replay_fault (NotAJournal at) is = absurd is
  replay_fault (BadEntry index) is = (bodies, has, is)
  replay_fault (ConfigLacks cell) is = absurd is
  replay_fault Failed is = absurd is
  replay_fault Memory is = tt

  pub lacks_fault : (s : Service) (lacking : Option ℕ) (cell : ℕ) → IsReplay registry bodies s lacking → lacking ≡ Some cell → IsOpenFault registry img (ConfigLacks cell)
  lacks_fault s lacking cell is some = (
    is.es,
    s,
    record { bodies = subst (HasBodies img SERVICE_FILE) (sym is.stand.spelled) has; entries = is.stand.entries },
    is.stand.folds,
    is.lacks ∙ some,
  )

  pub stands_for : (s : Service) (lacking : Option ℕ) → IsReplay registry bodies s lacking → Stands service img SERVICE_FILE s
  stands_for s lacking is = record {
    es = is.es;
    has = record { bodies = subst (HasBodies img SERVICE_FILE) (sym is.stand.spelled) has; entries = is.stand.entries };
    folds = is.stand.folds;
  }

  pub knows_all : (s : Service) (lacking : Option ℕ) → IsReplay registry bodies s lacking → lacking ≡ None → KnowsAll registry img
  knows_all s lacking is none = record {
    es = is.es;
    has = record { bodies = subst (HasBodies img SERVICE_FILE) (sym is.stand.spelled) has; entries = is.stand.entries };
    known = is.lacks ∙ none;
  }
