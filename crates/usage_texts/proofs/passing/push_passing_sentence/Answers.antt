use Rattle.usage_texts.specs.Passing.{passing_sentence}
use Rattle.usage_texts.proofs.passing.push_passing_sentence.Goals as goal

pub returns-in-OtherCount : goal.returns-in-OtherCount
unfolding passing_sentence
returns-in-OtherCount c =
    let first = rw c.first_of.ensures at c.quoted.ensures in
    rw (c.in-OtherCount.is, ← first) c.push_phrases.ensures

pub returns-in-NotTaken : goal.returns-in-NotTaken
unfolding passing_sentence
returns-in-NotTaken c =
    rw (c.in-NotTaken.is, ← c.meant-it.ensures, ← c.unpassed.ensures) c.push_phrases-in-NotTaken.ensures

pub returns-in-PassedTwice : goal.returns-in-PassedTwice
unfolding passing_sentence
returns-in-PassedTwice c =
    rw (c.in-PassedTwice.is, ← c.meant-it.ensures, ← c.quoted-in-PassedTwice.ensures) c.push_phrases-in-PassedTwice.ensures
