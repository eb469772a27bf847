use Rattle.message_json.specs.RequestWriter.{request_text, request_data}
use Rattle.message_json.proofs.Written.{request_whole, request_shallow}
use Rattle.serde_json.specs.View.{view}
use Rattle.message_json.proofs.ReadBack.{text_written, read_again, request_again}
use Rattle.message_json.proofs.request_writer.write_request.Goals as goal

pub returns : goal.returns
unfolding request_text
returns c =
    let request = c.args.request.now in
    let seen = view c.in_ok-value.value in
    let meant = request_data request in
    record {
      text = text_written c.compact.result seen meant c.in_ok-value.ensures (request_whole request) c.compact.ensures.text;
      reads_back = request_again c.compact.result request (read_again c.compact.result seen meant c.in_ok-value.ensures (request_shallow request) c.compact.ensures.utf8 c.compact.ensures.reads_back);
    }
