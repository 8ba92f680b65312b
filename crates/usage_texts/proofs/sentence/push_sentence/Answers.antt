use Rattle.usage_texts.specs.Sentences.{sentence_text}
use Rattle.usage_texts.proofs.sentence.push_sentence.Goals as goal

pub returns-in-DeclaredTwice : goal.returns-in-DeclaredTwice
unfolding sentence_text
returns-in-DeclaredTwice c =
    rw (c.in-DeclaredTwice.is, ← c.meant-it.ensures) c.push_phrases-in-DeclaredTwice.ensures

pub returns-in-OtherSort : goal.returns-in-OtherSort
unfolding sentence_text
returns-in-OtherSort c =
    rw (c.in-OtherSort.is, ← c.meant-it.ensures, ← c.sort_text.ensures) c.push_phrases-in-OtherSort.ensures

pub returns-in-NoConstant : goal.returns-in-NoConstant
unfolding sentence_text
returns-in-NoConstant c =
    rw (c.in-NoConstant.is, ← c.meant-it.ensures) c.push_phrases-in-NoConstant.ensures
