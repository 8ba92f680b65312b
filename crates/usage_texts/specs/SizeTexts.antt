-- What is outside an array, or of a wrong size, in a sentence.
use Rattle.std.specs.Prelude.{ℤ, pos, ◌+ℤ◌, ◌-ℤ◌, ◌++◌, codes}
use Rattle.std.specs.Fmt.{signed_decimal}
use Rattle.occam_parser.specs.declared.tree.ValueType.TheVariants as types
use Rattle.reason_texts.specs.Blocks.{Text}
use Rattle.usage_reasons.specs.declared.reason.Tokens.{Tokens}
use Rattle.usage_reasons.specs.declared.reason.Why.{Why}
use Rattle.usage_reasons.specs.declared.reason.Why.TheVariants as why
use Rattle.usage_texts.specs.Views.{Seen, quoted_in, array_before}
use Rattle.usage_texts.specs.Words.{ends_text, numbers_text}

-- the index in the last turn
unfoldable pub last_index : ℤ → ℤ → ℤ
last_index base count = base +ℤ count -ℤ pos 1

-- that there is no such index
unfoldable pub last_index_text : ℤ → Text
last_index_text last =
    codes "the last index is " ++ (signed_decimal last ++ (codes ", but " ++ numbers_text types.Int))

-- that too much is gone over
unfoldable pub large_text : Text
large_text = codes "up to here more than 8388608 is gone over"

-- the same of subscripts and sizes
unfoldable pub size_sentence : Seen → Tokens → Why → Text
size_sentence v t (why.SizeBelowOne size) =
    codes "the size is " ++ (signed_decimal size ++ codes ", but an array has one element at least")
size_sentence v t (why.CountBelowZero count) =
    codes "the count is " ++ (signed_decimal count ++ codes ", but 0 is the least")
size_sentence v t (why.LastIndex base count) = last_index_text (last_index base count)
size_sentence v t (why.Outside size subscript) =
    quoted_in v t ++ (codes " is " ++ (ends_text subscript.lo subscript.hi ++ (codes ", but the elements of "
    ++ (quoted_in v (array_before t) ++ (codes " are 0.." ++ signed_decimal (pos size -ℤ pos 1))))))
size_sentence v t w = large_text
