-- What is written of a program that breaks a usage rule.
use Rattle.std.specs.Prelude.{ℕ, Bool, true, false, List, [], ◌++◌, codes, if◌then◌else◌, Option, Some, None}
use Rattle.std.specs.List.{flat_map}
use Rattle.occam_layout.specs.declared.token.Line.{Line}
use Rattle.occam_layout.specs.declared.token.Token.{Token}
use Rattle.reason_texts.specs.Lines.{Sight, line_found}
use Rattle.reason_texts.specs.Blocks.{Text, place_text, number_text, block_text, hint_text}
use Rattle.reason_texts.specs.ParseTexts.{line_of}
use Rattle.reason_texts.specs.declared.block.Span.{Span}
use Rattle.usage_reasons.specs.declared.reason.LastItem.TheVariants as last
use Rattle.usage_reasons.specs.declared.reason.Operator.TheVariants as operator
use Rattle.usage_reasons.specs.declared.reason.Reason.{Reason}
use Rattle.usage_reasons.specs.declared.reason.Tokens.{Tokens}
use Rattle.usage_reasons.specs.declared.reason.Why.{Why}
use Rattle.usage_reasons.specs.declared.reason.Why.TheVariants as why
use Rattle.word_arithmetic.specs.declared.ranges.Range.{Range}
use Rattle.usage_texts.specs.Hints.{hint}
use Rattle.usage_texts.specs.KnownTexts.{known_text}
use Rattle.usage_texts.specs.Sentences.{sentence_text}
use Rattle.usage_texts.specs.Views.{Seen, span_in, has_tokens}
use Rattle.usage_texts.specs.Words.{ends_text}

-- where an operand lies
unfoldable pub operand_text : Range → Text
operand_text right = codes "  the operand is " ++ (ends_text right.lo right.hi ++ codes "\n")

-- where two operands lie
unfoldable pub operands_text : Range → Range → Text
operands_text left right =
    codes "  the operands are " ++ (ends_text left.lo left.hi ++ (codes " and " ++ (ends_text right.lo right.hi
    ++ codes "\n")))

-- what else is known that a reason speaks of: the name that is shared, or the operands
abbrev pub more_text : Why → Text
more_text (why.SharedVariable variable first first_deed second second_deed) = known_text variable
more_text (why.SharedChannel channel element direction first second) = known_text channel
more_text (why.Overflow operator.Negate left right results) = operand_text right
more_text (why.Overflow o left right results) = operands_text left right
more_text w = []

-- where and why
unfoldable pub head_text : Text → ℕ → ℕ → Seen → Tokens → Why → ℕ → Text
head_text path line at seen tokens w number =
    place_text path line at ++ (sentence_text seen tokens w ++ number_text number)

-- what else is known, and what to write in the line's place
unfoldable pub rest_text : Why → Text
rest_text w = more_text w ++ hint_text (hint w)

-- the line, and what is known of the names in the tokens that are meant
unfoldable pub tail_text : List ℕ → Span → Reason → Text
tail_text line span r =
    block_text line span.at span.len ++ (flat_map known_text r.known.items ++ rest_text r.why)

unfoldable pub whole_text : Text → Seen → Reason → ℕ → Text
whole_text path seen r number =
    head_text path r.line (span_in seen r.tokens).at seen r.tokens r.why number
    ++ tail_text seen.bytes (span_in seen r.tokens) r

abbrev pub text_in : Text → Reason → ℕ → List Token → Option Sight → Option Text
text_in path r number tokens None = None
text_in path r number tokens (Some l) =
    if has_tokens tokens r.tokens
    then Some (whole_text path (record { bytes = l.bytes; offset = l.offset; tokens = tokens }) r number)
    else None

abbrev pub text_on : Text → List ℕ → Reason → ℕ → Option Line → Option Text
text_on path source r number None = None
text_on path source r number (Some l) = text_in path r number l.tokens.items (line_found source r.line)

-- what is written of a line that breaks the rule of a number, by the reason
abbrev pub line_text : Text → List ℕ → List Line → Reason → ℕ → Option Text
line_text path source lines r number = text_on path source r number (line_of r.line lines)

-- there are no items, so that no line is meant
abbrev pub has_no_items : Why → Bool
has_no_items (why.NoMain last.Missing) = true
has_no_items w = false

abbrev pub missing_text : Text → ℕ → Text
missing_text path number = path ++ (codes ": there is no procedure `main`" ++ number_text number)

-- what is written of a program that breaks the rule of a number, by the reason
abbrev pub usage_text : Text → List ℕ → List Line → Reason → ℕ → Option Text
usage_text path source lines r number =
    if has_no_items r.why then Some (missing_text path number) else line_text path source lines r number
