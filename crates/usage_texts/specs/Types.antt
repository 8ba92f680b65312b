-- What is of another type, in a sentence.
use Rattle.std.specs.Prelude.{◌++◌, codes}
use Rattle.std.specs.Fmt.{decimal}
use Rattle.reason_texts.specs.Blocks.{Text}
use Rattle.usage_reasons.specs.declared.reason.Tokens.{Tokens}
use Rattle.usage_reasons.specs.declared.reason.Why.{Why}
use Rattle.usage_reasons.specs.declared.reason.Why.TheVariants as why
use Rattle.usage_texts.specs.Passing.{passing_sentence}
use Rattle.usage_texts.specs.Views.{Seen, quoted_in}
use Rattle.usage_texts.specs.Words.{counted_text, found_text, wanted_text}

-- the same of what is of another type
unfoldable pub type_sentence : Seen → Tokens → Why → Text
type_sentence v t (why.OtherType found wanted) =
    quoted_in v t ++ (codes " is " ++ (found_text found ++ (codes ", but " ++ (wanted_text wanted
    ++ codes " was wanted"))))
type_sentence v t why.NoNumber = quoted_in v t ++ codes " is a condition, but a number was wanted"
type_sentence v t (why.OtherTypes left right) =
    quoted_in v t ++ (codes " compares " ++ (wanted_text left ++ (codes " with " ++ wanted_text right)))
type_sentence v t (why.OtherPlaceType found wanted place) =
    quoted_in v t ++ (codes " is " ++ (found_text found ++ (codes ", but " ++ (quoted_in v place
    ++ (codes " is " ++ found_text wanted)))))
type_sentence v t (why.OtherItems stated items) =
    quoted_in v t ++ (codes " has " ++ (counted_text items (codes "item") ++ (codes ", but its size is " ++ decimal stated)))
type_sentence v t why.TextOfInts = quoted_in v t ++ codes " is a table of BYTE, but one of INT was wanted"
type_sentence v t w = passing_sentence v t w
