-- Why a line breaks a usage rule, in a sentence.
use Rattle.std.specs.Prelude.{◌++◌, codes, Some, None}
use Rattle.std.specs.Fmt.{decimal}
use Rattle.reason_texts.specs.Blocks.{Text}
use Rattle.usage_reasons.specs.declared.reason.Tokens.{Tokens}
use Rattle.usage_reasons.specs.declared.reason.Why.{Why}
use Rattle.usage_reasons.specs.declared.reason.Why.TheVariants as why
use Rattle.usage_texts.specs.Texts.{quoted_name}
use Rattle.usage_texts.specs.Types.{type_sentence}
use Rattle.usage_texts.specs.Views.{Seen, quoted_in}
use Rattle.usage_texts.specs.Words.{sort_text}

-- why a line is refused whose tokens `t` are meant: a name, or what is no constant
unfoldable pub sentence_text : Seen → Tokens → Why → Text
sentence_text v t (why.UnknownName (Some near)) =
    quoted_in v t ++ (codes " is not known here; the nearest name is " ++ quoted_name near.now)
sentence_text v t (why.UnknownName None) = quoted_in v t ++ codes " is not known here"
sentence_text v t (why.DeclaredTwice first) =
    quoted_in v t ++ (codes " is declared twice in one scope, first on line " ++ decimal first)
sentence_text v t (why.OtherSort wanted) = quoted_in v t ++ (codes " is no " ++ sort_text wanted)
sentence_text v t why.NoConstant = quoted_in v t ++ codes " is no constant, but a constant was wanted"
sentence_text v t w = type_sentence v t w
