-- What is shared by the components of a PAR, and where a channel may not be used, in a sentence.
use Rattle.std.specs.Prelude.{ℕ, ◌++◌, codes}
use Rattle.std.specs.Fmt.{decimal}
use Rattle.program_uses.specs.declared.uses.Direction.{Direction}
use Rattle.program_uses.specs.declared.uses.Direction.TheVariants as ways
use Rattle.scalar_ranges.specs.declared.scope.Meaning.{Meaning}
use Rattle.scalar_ranges.specs.declared.scope.Meaning.TheVariants as meanings
use Rattle.usage_reasons.specs.declared.reason.KnownName.{KnownName}
use Rattle.usage_reasons.specs.declared.reason.Tokens.{Tokens}
use Rattle.usage_reasons.specs.declared.reason.Why.{Why}
use Rattle.usage_reasons.specs.declared.reason.Why.TheVariants as why
use Rattle.reason_texts.specs.Blocks.{Text}
use Rattle.usage_texts.specs.Texts.{shown_text, quoted_name}
use Rattle.usage_texts.specs.Views.{Seen, quoted_in}
use Rattle.usage_texts.specs.Words.{deed_text, way_text}
use Rattle.usage_texts.specs.LastItems.{last_item_sentence}

-- a channel, or an element of an array of channels
abbrev pub spot_named : Text → Meaning → ℕ → Text
spot_named name (meanings.Channels type size) element = name ++ (codes "[" ++ (decimal element ++ codes "]"))
spot_named name meaning element = name

abbrev pub spot_text : KnownName → ℕ → Text
spot_text channel element = spot_named (shown_text channel.name.now) channel.meaning element

-- what is done to a link that is not used in a direction
abbrev pub rightly : Direction → Text
rightly ways.Input = codes "sends to"
rightly ways.Output = codes "receives from"

-- the same of what is shared, and of channels
unfoldable pub sharing_sentence : Seen → Tokens → Why → Text
sharing_sentence v t (why.SharedVariable variable first first_deed second second_deed) =
    codes "line " ++ (decimal first ++ (codes " " ++ (deed_text first_deed ++ (codes " "
    ++ (quoted_name variable.name.now ++ (codes ", and line " ++ (decimal second
    ++ (codes ", in another component, " ++ (deed_text second_deed ++ codes " it")))))))))
sharing_sentence v t (why.SharedChannel channel element direction first second) =
    codes "line " ++ (decimal first ++ (codes " " ++ (way_text direction ++ (codes " `"
    ++ (spot_text channel element ++ (codes "`, and so does line " ++ (decimal second
    ++ codes ", in another component")))))))
sharing_sentence v t why.OutsidePar = quoted_in v t ++ codes " is used outside a PAR in its scope"
sharing_sentence v t (why.OtherDirection direction) =
    codes "this " ++ (way_text direction ++ (codes " " ++ (quoted_in v t ++ (codes ", but main only "
    ++ (rightly direction ++ codes " it")))))
sharing_sentence v t w = last_item_sentence v t w
