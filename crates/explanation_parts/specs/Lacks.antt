-- What a label wants that is not known.
use Rattle.std.specs.Prelude.{ℕ, zero, suc, ◌==◌, ◌&&◌, if◌then◌else◌, ℤ, pos, ◌+ℤ◌, int_le, List, ◌++◌, codes}
use Rattle.std.specs.Prelude.{Option, Some, None}
use Rattle.std.specs.List.{fold}
use Rattle.std.specs.Fmt.{signed_decimal}
use Rattle.module_format.specs.Rows.{Fact as OneFact, Entry}
use Rattle.module_format.specs.declared.stack.Stack.{Stack}
use Rattle.module_format.specs.Contents.{Contents, Label}
use Rattle.module_format.specs.Contexts.{first_branch}
use Rattle.states.specs.declared.known.Known.{Known}
use Rattle.states.specs.declared.known.Mode.{Mode}
use Rattle.states.specs.declared.known.Mode.TheVariants.{Plain}
use Rattle.states.specs.declared.known.WordFact.{WordFact}
use Rattle.states.specs.declared.known.WordFact.TheVariants.{Alone}
use Rattle.states.specs.State.{State, Facts, said_of}
use Rattle.states.specs.Below.{implies, says, is_whole}
use Rattle.fact_texts.specs.Texts.{Text}
use Rattle.fact_texts.specs.RowTexts.{context_name}
use Rattle.state_texts.specs.StateTexts.{mode_text}
use Rattle.state_texts.specs.FrameTexts.{word_text}
use Rattle.explanation_parts.specs.declared.ways.Way.{Way}
use Rattle.explanation_parts.specs.declared.lacks.Lack.{Lack}
use Rattle.explanation_parts.specs.declared.lacks.Subject.{Subject}
use Rattle.explanation_parts.specs.declared.lacks.Subject.TheVariants as subjects
use Rattle.explanation_parts.specs.declared.lacks.Value.{Value}
use Rattle.explanation_parts.specs.declared.lacks.Value.TheVariants as values
use Rattle.explanation_parts.specs.Ways.{seen_in, seen_of, seen_of_a, is_settled}

-- ---- texts

abbrev pub subject_text : Subject → Text
subject_text subjects.Context = codes "context"
subject_text subjects.Depth = codes "depth"
subject_text subjects.Mode = codes "mode"
subject_text subjects.A = codes "A"
subject_text subjects.B = codes "B"
subject_text subjects.C = codes "C"
subject_text (subjects.Word word) = codes "word " ++ signed_decimal word
subject_text (subjects.Loop word) = codes "loop of word " ++ signed_decimal word

abbrev pub value_text : Value → Text
value_text (values.Context first n) = context_name first n
value_text (values.Depth depth) = signed_decimal depth
value_text (values.Mode mode) = mode_text mode
value_text (values.Fact fact) = word_text fact
value_text values.Whole = codes "whole"
value_text values.Half = codes "half known"

-- ---- lacks

abbrev pub lacking : Subject → Value → Value → Option Lack
lacking subject wanted found = Some (record { subject = subject; wanted = wanted; found = found })

-- the first, if there is one, or else the second
abbrev pub either : Option Lack → Option Lack → Option Lack
either (Some lack) second = Some lack
either None second = second

unfoldable pub context_lack : Contents → ℕ → ℕ → Option Lack
context_lack m found wanted =
    if found == wanted then None
    else lacking subjects.Context (values.Context (first_branch m) wanted) (values.Context (first_branch m) found)

unfoldable pub depth_lack : ℤ → ℤ → Option Lack
depth_lack found wanted =
    if int_le found wanted && int_le wanted found then None
    else lacking subjects.Depth (values.Depth wanted) (values.Depth found)

unfoldable pub mode_lack : Way → Mode → Option Lack
mode_lack way found =
    if is_settled way found then None else lacking subjects.Mode (values.Mode Plain) (values.Mode found)

-- where the process is, if it is not where the label is
unfoldable pub place_lack : Contents → Way → State → Label → Option Lack
place_lack m way s t =
    either (context_lack m s.context t.context) (either (depth_lack s.depth t.depth) (mode_lack way s.mode))

-- what is known of a register, if more is wanted
unfoldable pub register_lack : Subject → OneFact → OneFact → Option Lack
register_lack subject known wanted =
    if implies known wanted then None
    else lacking subject (values.Fact (Alone wanted)) (values.Fact (Alone known))

unfoldable pub stack_lack : Way → Stack Known → Stack OneFact → Option Lack
stack_lack way stack wanted =
    either (register_lack subjects.A (seen_of_a way stack.a) wanted.a)
    (either (register_lack subjects.B (seen_of way stack.b) wanted.b)
    (register_lack subjects.C (seen_of way stack.c) wanted.c))

-- what is known of a word, if more is wanted
unfoldable pub fact_lack : ℤ → WordFact → WordFact → Option Lack
fact_lack word known wanted =
    if says known wanted then None else lacking (subjects.Word word) (values.Fact wanted) (values.Fact known)

-- the same of word `n` of an entry
unfoldable pub word_lack : Facts → Entry → ℕ → Option Lack
word_lack known entry n =
    fact_lack (entry.word +ℤ pos n) (known (entry.word +ℤ pos n)) (said_of entry.fact (n == 0))

-- the same of the first of its first `n` words that has one
abbrev pub words_lack : Facts → Entry → ℕ → Option Lack
words_lack known entry zero = None
words_lack known entry (suc n) = either (words_lack known entry n) (word_lack known entry n)

-- the loop of an entry, if half of it is known
unfoldable pub half_lack : Facts → Entry → Option Lack
half_lack known entry =
    if is_whole known entry then None else lacking (subjects.Loop entry.word) values.Whole values.Half

unfoldable pub entry_lack : Facts → Entry → Option Lack
entry_lack known entry = either (words_lack known entry entry.span) (half_lack known entry)

-- the same of the first entry that has one
abbrev pub entries_lack : Facts → List Entry → Option Lack
entries_lack known entries = fold (λ lack entry. either lack (entry_lack known entry)) None entries

-- what a label wants first that is not known
unfoldable pub lack_of : Contents → Way → State → Label → Option Lack
lack_of m way s t =
    either (place_lack m way s t) (either (stack_lack way s.stack t.stack) (entries_lack (seen_in way s) t.entries))
