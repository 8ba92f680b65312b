use Rattle.usage_texts.specs.Types.{type_sentence}
use Rattle.usage_texts.proofs.types.push_type_sentence.Goals as goal

pub returns-in-OtherType : goal.returns-in-OtherType
unfolding type_sentence
returns-in-OtherType c =
    rw (c.in-OtherType.is, ← c.meant-it.ensures, ← c.found_text.ensures, ← c.wanted_text.ensures) c.push_phrases.ensures

pub returns-in-NoNumber : goal.returns-in-NoNumber
unfolding type_sentence
returns-in-NoNumber c =
    rw (c.in-NoNumber.is, ← c.meant-it.ensures) c.push_phrases-in-NoNumber.ensures

pub returns-in-OtherItems : goal.returns-in-OtherItems
unfolding type_sentence
returns-in-OtherItems c =
    rw (c.in-OtherItems.is, ← c.meant-it.ensures) c.push_phrases-in-OtherItems.ensures

pub returns-in-TextOfInts : goal.returns-in-TextOfInts
unfolding type_sentence
returns-in-TextOfInts c =
    rw (c.in-TextOfInts.is, ← c.meant-it.ensures) c.push_phrases-in-TextOfInts.ensures
