use Rattle.std.proofs.lemmas.Bool.{false≢true}
use Rattle.uuid.specs.Text.{parsed}
use Rattle.message_json.specs.Reading.{lease_named}
use Rattle.message_json.proofs.Absent.{none_named}
use Rattle.message_json.proofs.reader.lease_named.Goals as goal

pub returns-in-Err-clause-value : goal.returns-in-Err-clause-value
unfolding lease_named
returns-in-Err-clause-value c = none_named (parsed c.args.text.now) (λ w. false≢true (c.in-Err.ensures.ok.1 w))
