-- The words of the frame of which a message is sent.
use Rattle.std.specs.Prelude.{◌&&◌, if◌then◌else◌, ℤ, pos, ◌+ℤ◌, int_le, Option, Some, None}
use Rattle.std.specs.Prelude.{option_map, option_and_then}
use Rattle.module_format.specs.Rows.{Fact}
use Rattle.module_format.specs.declared.fact.Fact.TheVariants.{Number, Pointer}
use Rattle.module_format.specs.declared.stack.Stack.{Stack}
use Rattle.module_format.specs.Regions.{is_frame}
use Rattle.states.specs.declared.known.Known.{Known}
use Rattle.states.specs.State.{State}
use Rattle.rulings.specs.Pointers.{are_near}
use Rattle.rulings.specs.Reach.{word_of_byte, words_touched}
use Rattle.rulings.specs.declared.pointers.Pointed.{Pointed}
use Rattle.fact_texts.specs.Texts.{is_one}
use Rattle.found_parts.specs.declared.messages.KnownWord.{KnownWord}
use Rattle.found_parts.specs.declared.messages.Words.{Words}
use Rattle.found_parts.specs.Asked.{is_number, first_failing}

-- the one number that a fact says
abbrev pub constant_of : Fact → Option ℤ
constant_of (Number lo hi) = if is_one lo hi then Some lo else None
constant_of fact = None

-- a number of bytes, if a message can have as many
abbrev pub message_length : Option ℤ → Option ℤ
message_length None = None
message_length (Some count) = if int_le (pos 1) count && int_le count (pos 4096) then Some count else None

-- where a pointer leads that is near and of the frame
abbrev pub buffer_of : Fact → Option Pointed
buffer_of (Pointer region lo hi step) =
    if are_near lo hi && is_frame region then Some (record { region = region; lo = lo; hi = hi; step = step }) else None
buffer_of fact = None

-- the words that have some of `count` bytes, wherever a pointer leads
abbrev pub words_of : Pointed → ℤ → Words
words_of p count = record { first = word_of_byte p.lo; count = words_touched p.lo (p.hi +ℤ count) }

abbrev pub words_between : Option ℤ → Option Pointed → Option Words
words_between None buffer = None
words_between (Some count) buffer = option_map (λ p. words_of p count) buffer

-- the words of the frame of which A bytes from C on are sent
abbrev pub words_sent : Stack Known → Option Words
words_sent stack = words_between (message_length (constant_of stack.a.fact)) (buffer_of stack.c.fact)

-- what is known of a word
abbrev pub known_word : State → ℤ → KnownWord
known_word s k = record { word = k; fact = s.frame k }

-- what is known of the first of these words that is no number
abbrev pub first_unknown : State → Words → Option KnownWord
first_unknown s words =
    option_map (known_word s) (first_failing (λ k. is_number (s.frame k)) words.first words.count)

-- the first word of the frame that is no number, of those of which A bytes from C on are sent
unfoldable pub unknown_word : State → Option KnownWord
unknown_word s = option_and_then (first_unknown s) (words_sent s.stack)
