use Rattle.std.proofs.Common.{SFits, w32, w64, rules, to_z-of_z}
use Rattle.usage_texts.specs.SizeTexts.{size_sentence}
use Rattle.usage_texts.proofs.sizes.push_size_sentence.Goals as goal

pub returns-in-SizeBelowOne : goal.returns-in-SizeBelowOne
unfolding size_sentence
returns-in-SizeBelowOne c =
    let narrow : SFits w32 c.in-SizeBelowOne.size = search rules in
    let wide : SFits w64 c.from.result = search rules in
    let size = rw (to_z-of_z narrow) at c.from.ensures in
    rw (c.in-SizeBelowOne.is, ← size) (rw (to_z-of_z wide) at c.push_phrases.ensures)

pub returns-in-CountBelowZero : goal.returns-in-CountBelowZero
unfolding size_sentence
returns-in-CountBelowZero c =
    let narrow : SFits w32 c.in-CountBelowZero.count = search rules in
    let wide : SFits w64 c.from-in-CountBelowZero.result = search rules in
    let count = rw (to_z-of_z narrow) at c.from-in-CountBelowZero.ensures in
    rw (c.in-CountBelowZero.is, ← count) (rw (to_z-of_z wide) at c.push_phrases-in-CountBelowZero.ensures)
