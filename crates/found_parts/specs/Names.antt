-- Links by their names.
use Rattle.std.specs.Prelude.{ℕ, ◌-◌, nat_lt, if◌then◌else◌, ◌++◌, codes, Option, Some, None}
use Rattle.std.specs.Fmt.{decimal}
use Rattle.module_format.specs.Rows.{Fact}
use Rattle.module_format.specs.declared.rows.EndKind.{EndKind}
use Rattle.module_format.specs.declared.rows.EndKind.TheVariants as ends
use Rattle.states.specs.declared.known.WordFact.TheVariants.{Alone}
use Rattle.rulings.specs.Channels.{channel_of}
use Rattle.fact_texts.specs.Texts.{Text}
use Rattle.fact_texts.specs.FactTexts.{fact_text}
use Rattle.fact_texts.specs.RowTexts.{channel_text}

-- out0 to out3, and in0 to in3
abbrev pub link_name : ℕ → Text
link_name link =
    if nat_lt link 4 then codes "out" ++ decimal link
    else if nat_lt link 8 then codes "in" ++ decimal (link - 4) else codes "link " ++ decimal link

-- a channel; a link by its name
abbrev pub channel_name : EndKind → Text
channel_name (ends.Link link) = link_name link
channel_name kind = channel_text kind

-- what a word is that names a channel, or this
abbrev pub named_or : Text → Option EndKind → Text
named_or text (Some (ends.Link link)) = link_name link
named_or text (Some kind) = text
named_or text None = text

-- what is known of a word; the address of a link by its name
abbrev pub word_name : Fact → Text
word_name fact = named_or (fact_text fact) (channel_of (Alone fact))
