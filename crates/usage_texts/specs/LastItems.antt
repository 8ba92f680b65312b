-- What is in place of main, in a sentence.
use Rattle.std.specs.Prelude.{◌++◌, codes}
use Rattle.reason_texts.specs.Blocks.{Text}
use Rattle.usage_reasons.specs.declared.reason.LastItem.{LastItem}
use Rattle.usage_reasons.specs.declared.reason.LastItem.TheVariants as last
use Rattle.usage_reasons.specs.declared.reason.Tokens.{Tokens}
use Rattle.usage_reasons.specs.declared.reason.Why.{Why}
use Rattle.usage_reasons.specs.declared.reason.Why.TheVariants as why
use Rattle.usage_texts.specs.RangeTexts.{range_sentence}
use Rattle.usage_texts.specs.Views.{Seen, quoted_in}

-- what is in place of main, by the tokens that are meant
abbrev pub no_main_text : Text → LastItem → Text
no_main_text it last.Missing = codes "there is no procedure `main`"
no_main_text it last.Constant = codes "the last item is a constant, but the procedure `main` was wanted"
no_main_text it last.OtherName = codes "the last procedure is " ++ (it ++ codes ", but `main` was wanted")
no_main_text it last.NoLink = codes "the parameter " ++ (it ++ codes " of `main` is no link")

-- the same of what is in place of main
unfoldable pub last_item_sentence : Seen → Tokens → Why → Text
last_item_sentence v t (why.NoMain item) = no_main_text (quoted_in v t) item
last_item_sentence v t w = range_sentence v t w
