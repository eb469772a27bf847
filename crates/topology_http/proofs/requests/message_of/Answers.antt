use Rattle.std.proofs.Common.{ap, ◌∙◌}
use Rattle.message_json.specs.RequestReader.{request_of}
use Rattle.topology_http.specs.Paths.{path_of}
use Rattle.topology_http.proofs.Returned.{request_again}
use Rattle.topology_http.proofs.requests.message_of.Goals as goal

pub returns-clause-reads_back : goal.returns-clause-reads_back
returns-clause-reads_back c =
    request_again c.args.request.now c.path.result.now c.as_str.result.now c.as_slice.result.now c.request_message.result
    (c.path.ensures ∙ ap path_of c.ask_of.ensures)
    (c.as_str.ensures.value ∙ c.in_ok-host.ensures {u = tt})
    (c.as_slice.ensures ∙ (c.in_ok-body.ensures {u = tt}).text)
    (λ is. ap request_of c.as_slice.ensures ∙ (c.in_ok-body.ensures {u = tt}).reads_back is)
    c.request_message.ensures
