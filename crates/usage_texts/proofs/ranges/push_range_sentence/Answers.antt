use Rattle.usage_texts.specs.RangeTexts.{range_sentence}
use Rattle.usage_texts.proofs.ranges.push_range_sentence.Goals as goal

pub returns-in-ShiftCount : goal.returns-in-ShiftCount
unfolding range_sentence
returns-in-ShiftCount c =
    rw (c.in-ShiftCount.is, ← c.meant-it.ensures)
    (rw c.range_phrase-in-ShiftCount.ensures at c.push_phrases-in-ShiftCount.ensures)
