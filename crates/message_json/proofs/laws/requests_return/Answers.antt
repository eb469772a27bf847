use Rattle.message_json.proofs.RequestLaws.{request_back}
use Rattle.message_json.proofs.Writable.{request_writable}
use Rattle.message_json.proofs.laws.requests_return.Goals as goal

pub returns : goal.returns
returns c = record { same = request_back; writable = request_writable }
