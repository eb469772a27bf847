use Rattle.claim_laws.specs.Events.{run}
use Rattle.claim_laws.proofs.Law.{every_schedule}
use Rattle.claim_laws.proofs.Views.{claims_apart}
use Rattle.claim_laws.proofs.laws.keys_of_records_are_sound.Goals as goal

pub returns : goal.returns
returns c = λ registry start events is.
    let order = every_schedule registry start events is in
    record { in_grammar = λ cell. (order.cells cell).fits.keys; apart = claims_apart (run registry events start).claims order.sound.leases order.sound.claims }
