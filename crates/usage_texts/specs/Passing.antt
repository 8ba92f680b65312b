-- What is passed to a procedure, in a sentence.
use Rattle.std.specs.Prelude.{◌++◌, codes, Option, Some, None}
use Rattle.reason_texts.specs.Blocks.{Text}
use Rattle.scalar_ranges.specs.declared.types.ExprType.{ExprType}
use Rattle.scalar_ranges.specs.declared.types.ExprType.TheVariants as type
use Rattle.usage_reasons.specs.declared.reason.Tokens.{Tokens}
use Rattle.usage_reasons.specs.declared.reason.Why.{Why}
use Rattle.usage_reasons.specs.declared.reason.Why.TheVariants as why
use Rattle.usage_texts.specs.Sharing.{sharing_sentence}
use Rattle.usage_texts.specs.Views.{Seen, quoted_in, first_of}
use Rattle.usage_texts.specs.Words.{counted_text, shape_text}

-- what an actual is that is not taken, by its type if it is an expression
abbrev pub unpassed : Option ExprType → Text
unpassed None = codes "cannot be passed"
unpassed (Some type.Int) = codes "is of type INT, and cannot be passed"
unpassed (Some type.Byte) = codes "is of type BYTE, and cannot be passed"
unpassed (Some type.Condition) = codes "is a condition, and cannot be passed"

-- the same of what is passed to a procedure
unfoldable pub passing_sentence : Seen → Tokens → Why → Text
passing_sentence v t (why.OtherCount actuals parameters) =
    quoted_in v (first_of t) ++ (codes " has " ++ (counted_text parameters (codes "parameter")
    ++ (codes ", but is passed " ++ counted_text actuals (codes "actual"))))
passing_sentence v t (why.NotTaken place parameter found) =
    quoted_in v t ++ (codes " " ++ (unpassed found ++ (codes " to a parameter " ++ shape_text parameter)))
passing_sentence v t (why.PassedTwice first) =
    quoted_in v t ++ (codes " is passed twice in one instance, first as " ++ quoted_in v first)
passing_sentence v t w = sharing_sentence v t w
