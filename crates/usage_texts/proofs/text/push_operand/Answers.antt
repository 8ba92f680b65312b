use Rattle.usage_texts.specs.UsageTexts.{operand_text}
use Rattle.usage_texts.proofs.text.push_operand.Goals as goal

pub returns : goal.returns
unfolding operand_text
returns c = rw c.range_phrase.ensures at c.push_phrases.ensures
