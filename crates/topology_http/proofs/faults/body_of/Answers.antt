use Rattle.std.proofs.Common.{ap, ◌∙◌, sym}
use Rattle.topology_http.specs.Faults.{body_of}
use Rattle.topology_http.proofs.FaultText as text
use Rattle.topology_http.proofs.faults.body_of.Goals as goal

pub returns-in-Partial : goal.returns-in-Partial
returns-in-Partial c = text.partial_text ∙ ap body_of (sym c.in-Partial.is)

pub returns-in-BadHead : goal.returns-in-BadHead
returns-in-BadHead c = text.bad_head_text ∙ ap body_of (sym c.in-BadHead.is)

pub returns-in-Chunked : goal.returns-in-Chunked
returns-in-Chunked c = text.chunked_text ∙ ap body_of (sym c.in-Chunked.is)

pub returns-in-NoLength : goal.returns-in-NoLength
returns-in-NoLength c = text.no_length_text ∙ ap body_of (sym c.in-NoLength.is)

pub returns-in-TooLarge : goal.returns-in-TooLarge
returns-in-TooLarge c = text.too_large_text c.in-TooLarge.n ∙ ap body_of (sym c.in-TooLarge.is)

pub returns-in-NoSuchPath : goal.returns-in-NoSuchPath
returns-in-NoSuchPath c = text.no_path_text ∙ ap body_of (sym c.in-NoSuchPath.is)

pub returns-in-Memory : goal.returns-in-Memory
returns-in-Memory c = text.memory_text ∙ ap body_of (sym c.in-Memory.is)
