use Rattle.entry_codec.specs.Spelling.{key_bytes, subject_bytes, origin_bytes}
use Rattle.entry_codec.proofs.Written.{three}
use Rattle.entry_codec.proofs.writing.push_create.Goals as goal

pub returns : goal.returns
returns c =
    let create = c.args.create.now in
    three c.push_origin.result c.args.out.now.items c.push_key.new.out.items c.push_subject.new.out.items c.push_origin.new.out.items
    (key_bytes create.key) (subject_bytes create.subject) (origin_bytes create.origin) c.in_ok-push_key.ensures c.in_ok-push_subject.ensures c.push_origin.ensures
