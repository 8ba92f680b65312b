-- What a PAR wants of the label after it that is not so.
use Rattle.std.specs.Prelude.{◌==◌, ◌&&◌, Bool, if◌then◌else◌, ℤ, pos, ◌+ℤ◌, Option, Some, None, option_map}
use Rattle.std.specs.Option.{option_or}
use Rattle.module_format.specs.Rows.{Fact, Entry}
use Rattle.module_format.specs.declared.stack.Stack.{Stack}
use Rattle.module_format.specs.declared.rows.ChannelRow.{ChannelRow}
use Rattle.module_format.specs.Contents.{Par, Label}
use Rattle.certificate.specs.Starting.{says_of_word}
use Rattle.states.specs.State.{is_same_number}
use Rattle.fact_texts.specs.RowTexts.{is_unknown}
use Rattle.found_parts.specs.declared.faults.StartFault.{StartFault}
use Rattle.found_parts.specs.declared.faults.StartFault.TheVariants as faults
use Rattle.found_parts.specs.Firsts.{first_of}

-- ---- words

-- a word, if an entry says something of it
unfoldable pub said_word : Entry → ℤ → Option ℤ
said_word entry k = if says_of_word k entry then Some k else None

-- the first word of the block of which an entry says something
abbrev pub block_word : Par → Entry → Option ℤ
block_word par entry = option_or (said_word entry par.block) (said_word entry (par.block +ℤ pos 1))

-- the first word of the block, or of a channel, of which an entry says something
abbrev pub hidden_word : Par → Entry → Option ℤ
hidden_word par entry =
    option_or (block_word par entry) (first_of (λ (c : ChannelRow). said_word entry c.word) par.channels)

-- ---- the label

abbrev pub context_fault : Par → Label → Option StartFault
context_fault par t = if t.context == par.context then None else Some (faults.LabelContext par.successor)

abbrev pub depth_fault : Par → Label → Option StartFault
depth_fault par t =
    if is_same_number t.depth par.block then None else Some (faults.LabelDepth par.successor t.depth par.block)

-- nothing is said of the registers
abbrev pub is_unsaid : Stack Fact → Bool
is_unsaid stack = is_unknown stack.a && is_unknown stack.b && is_unknown stack.c

abbrev pub register_fault : Par → Label → Option StartFault
register_fault par t = if is_unsaid t.stack then None else Some (faults.LabelRegister par.successor)

abbrev pub word_fault : Par → Label → Option StartFault
word_fault par t = option_map (faults.LabelWord par.successor) (first_of (hidden_word par) t.entries)

-- what is wanted of the label
abbrev pub label_fault : Par → Label → Option StartFault
label_fault par t =
    option_or (option_or (option_or (context_fault par t) (depth_fault par t)) (register_fault par t))
    (word_fault par t)

-- the same, and that there is one
abbrev pub successor_fault : Par → Option Label → Option StartFault
successor_fault par None = Some (faults.NoLabel par.successor)
successor_fault par (Some t) = label_fault par t
