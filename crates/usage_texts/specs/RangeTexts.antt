-- What an operator or a conversion may come to, in a sentence.
use Rattle.std.specs.Prelude.{pos, ◌++◌, codes, Bool, ◌&&◌, int_le, if◌then◌else◌}
use Rattle.word_arithmetic.specs.declared.ranges.Range.{Range}
use Rattle.occam_parser.specs.declared.tree.ValueType.TheVariants as types
use Rattle.usage_reasons.specs.declared.reason.Tokens.{Tokens}
use Rattle.usage_reasons.specs.declared.reason.Why.{Why}
use Rattle.usage_reasons.specs.declared.reason.Why.TheVariants as why
use Rattle.reason_texts.specs.Blocks.{Text}
use Rattle.usage_texts.specs.Views.{Seen, quoted_in}
use Rattle.usage_texts.specs.SizeTexts.{size_sentence}
use Rattle.usage_texts.specs.Words.{ends_text, numbers_text}

abbrev pub has_zero : Range → Bool
has_zero divisor = int_le divisor.lo (pos 0) && int_le (pos 0) divisor.hi

-- what a divisor may be
abbrev pub divisor_text : Range → Text
divisor_text divisor = if has_zero divisor then codes "which may be 0" else codes "which may be -2147483648 by -1"

-- the same of operators and conversions
unfoldable pub range_sentence : Seen → Tokens → Why → Text
range_sentence v t (why.Overflow operator left right results) =
    quoted_in v t ++ (codes " is " ++ (ends_text results.lo results.hi ++ (codes ", but " ++ numbers_text types.Int)))
range_sentence v t (why.Division operator dividend divisor) =
    quoted_in v t ++ (codes " divides " ++ (ends_text dividend.lo dividend.hi ++ (codes " by "
    ++ (ends_text divisor.lo divisor.hi ++ (codes ", " ++ divisor_text divisor)))))
range_sentence v t (why.ShiftCount count) =
    quoted_in v t ++ (codes " shifts by " ++ (ends_text count.lo count.hi ++ codes ", but a word is shifted by 0..31"))
range_sentence v t (why.Conversion to operand) =
    quoted_in v t ++ (codes " converts " ++ (ends_text operand.lo operand.hi ++ (codes ", but " ++ numbers_text to)))
range_sentence v t w = size_sentence v t w
