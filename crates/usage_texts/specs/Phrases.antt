-- Parts of a sentence.
use Rattle.std.specs.Prelude.{List, [], ◌∷◌, ◌++◌}
use Rattle.std.specs.Fmt.{decimal, signed_decimal}
use Rattle.reason_texts.specs.Blocks.{Text}
use Rattle.usage_texts.specs.declared.phrases.Phrase.{Phrase}
use Rattle.usage_texts.specs.declared.phrases.Phrase.TheVariants as phrase
use Rattle.usage_texts.specs.Sharing.{spot_text}
use Rattle.usage_texts.specs.Texts.{quoted_text, shown_text}
use Rattle.usage_texts.specs.Words.{counted_text, ends_text, shape_text}

-- a part of a sentence
abbrev pub phrase_text : Phrase → Text
phrase_text (phrase.Words words) = words.now
phrase_text (phrase.Count count) = decimal count
phrase_text (phrase.Number number) = signed_decimal number
phrase_text (phrase.Range ends) = ends_text ends.lo ends.hi
phrase_text (phrase.Counted count name) = counted_text count name.now
phrase_text (phrase.Shown bytes) = shown_text bytes.now
phrase_text (phrase.Quoted quoted) = quoted_text quoted.bytes.now quoted.end.now
phrase_text (phrase.Shape meaning) = shape_text meaning
phrase_text (phrase.Spot channel element) = spot_text channel element

-- the parts of a sentence, one after the other
abbrev pub phrases_text : List Phrase → Text
phrases_text [] = []
phrases_text (p ∷ []) = phrase_text p
phrases_text (p ∷ q ∷ rest) = phrase_text p ++ phrases_text (q ∷ rest)
