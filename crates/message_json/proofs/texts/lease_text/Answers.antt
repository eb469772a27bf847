use Rattle.std.proofs.Common.{◌∙◌, ap}
use Rattle.uuid.specs.Text.{hyphenated_text, lower}
use Rattle.claim_types.specs.Leases.{lease_text}
use Rattle.message_json.proofs.texts.lease_text.Goals as goal

pub returns : goal.returns
unfolding lease_text
returns c = c.encode_lower.ensures.text ∙ ap (hyphenated_text lower) (c.hyphenated.ensures ∙ c.to_uuid.ensures)
