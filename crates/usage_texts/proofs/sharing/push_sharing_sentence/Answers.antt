use Rattle.usage_texts.specs.Sharing.{sharing_sentence}
use Rattle.usage_texts.proofs.sharing.push_sharing_sentence.Goals as goal

pub returns-in-SharedChannel : goal.returns-in-SharedChannel
unfolding sharing_sentence
returns-in-SharedChannel c =
    rw (c.in-SharedChannel.is, ← c.way_text.ensures) c.push_phrases-in-SharedChannel.ensures

pub returns-in-OutsidePar : goal.returns-in-OutsidePar
unfolding sharing_sentence
returns-in-OutsidePar c =
    rw (c.in-OutsidePar.is, ← c.meant-it.ensures) c.push_phrases-in-OutsidePar.ensures

pub returns-in-OtherDirection : goal.returns-in-OtherDirection
unfolding sharing_sentence
returns-in-OtherDirection c =
    rw (c.in-OtherDirection.is, ← c.way_text-in-OtherDirection.ensures, ← c.meant-it.ensures, ← c.rightly.ensures)
    c.push_phrases-in-OtherDirection.ensures
