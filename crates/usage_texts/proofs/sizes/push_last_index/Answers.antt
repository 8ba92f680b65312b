use Rattle.std.proofs.Common.{to_z-of_z}
use Rattle.usage_texts.specs.SizeTexts.{last_index_text}
use Rattle.usage_texts.proofs.sizes.push_last_index.Goals as goal

pub returns : goal.returns
unfolding last_index_text
returns c = rw (to_z-of_z c.ranges.last, c.numbers_text.ensures) at c.push_phrases.ensures
