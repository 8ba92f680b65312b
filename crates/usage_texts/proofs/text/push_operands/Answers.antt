use Rattle.usage_texts.specs.UsageTexts.{operands_text}
use Rattle.usage_texts.proofs.text.push_operands.Goals as goal

pub returns : goal.returns
unfolding operands_text
returns c = rw (c.range_phrase.ensures, c.range_phrase-2.ensures) at c.push_phrases.ensures
