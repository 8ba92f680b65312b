-- The channels that words name, and the lengths of their messages.
use Rattle.std.specs.Prelude.{ℕ, ◌++◌, codes, Option, Some, None}
use Rattle.std.specs.Fmt.{decimal}
use Rattle.module_format.specs.Rows.{Fact}
use Rattle.module_format.specs.declared.rows.EndKind.{EndKind}
use Rattle.module_format.specs.Contents.{Contents}
use Rattle.states.specs.declared.known.WordFact.TheVariants.{Alone}
use Rattle.states.specs.State.{State}
use Rattle.rulings.specs.Channels.{channel_of, message_length}
use Rattle.fact_texts.specs.Texts.{Text}
use Rattle.fact_texts.specs.FactTexts.{fact_text}
use Rattle.fact_texts.specs.RowTexts.{channel_text}

-- which channel a word names
unfoldable pub named_part : Option EndKind → Text
named_part None = codes ", which is none"
named_part (Some kind) = codes ", which is " ++ channel_text kind

unfoldable pub b_part : Fact → Text
b_part fact = codes "B is " ++ fact_text fact

-- what B is, and which channel that is
unfoldable pub channel_found : Fact → Text
channel_found fact = b_part fact ++ named_part (channel_of (Alone fact))

unfoldable pub a_part : Fact → Text
a_part fact = codes "A is " ++ fact_text fact

-- how many bytes the messages of a channel have
unfoldable pub bytes_part : EndKind → Option ℕ → Text
bytes_part kind None = codes "; those of " ++ (channel_text kind ++ codes " have ? bytes")
bytes_part kind (Some bytes) =
    codes "; those of " ++ (channel_text kind ++ (codes " have " ++ (decimal bytes ++ codes " bytes")))

-- how many bytes those have of the channel that a word names
unfoldable pub length_part : Contents → ℕ → Option EndKind → Text
length_part m context None = codes "; B names no channel"
length_part m context (Some kind) = bytes_part kind (message_length m context kind)

-- what A is, and how many bytes the messages of the channel in B have
unfoldable pub length_found : Contents → State → Text
length_found m s = a_part s.stack.a.fact ++ length_part m s.context (channel_of (Alone s.stack.b.fact))
