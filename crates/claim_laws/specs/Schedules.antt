-- What is said of every schedule, and of the worlds from which one may start.
use Rattle.std.specs.Prelude.{List}
use Rattle.claim_map.specs.Registry.{Registry}
use Rattle.claim_map.specs.Bounds.{AreCells}
use Rattle.claim_laws.specs.World.{World}
use Rattle.claim_laws.specs.Events.{Event, run}
use Rattle.claim_laws.specs.Facts.{IsStart}
use Rattle.claim_laws.specs.Files.{Files}
use Rattle.claim_laws.specs.Filed.{files_after_all}

-- it is true, of the start and of the world after every list of events from it
abbrev pub AfterEverySchedule : (Registry → World → World → Type 0) → Type 0
AfterEverySchedule Holds = (registry : Registry) (start : World) (events : List Event) → IsStart registry start → Holds registry start (run registry events start)

-- where it is true of files and a start, it is true of them after every list of events
abbrev pub KeptByEverySchedule : (Registry → Files → World → Type 0) → Type 0
KeptByEverySchedule Holds =
    (registry : Registry) (start : World) (events : List Event) (files : Files) → IsStart registry start → Holds registry files start →
    Holds registry (files_after_all registry events start files) (run registry events start)

-- a world of which it is true is a start, where the configuration is within its bounds
abbrev pub AreStarts : (Registry → World → Type 0) → Type 0
AreStarts Holds = (registry : Registry) (w : World) → AreCells registry → Holds registry w → IsStart registry w
