-- The channels that words name, and what a context knows of channels: its ends, and the lengths of messages.
use Rattle.std.specs.Prelude.{ℕ, pos, negsuc, slice_get, Option, Some, None, ◌+◌, ◌/◌, ◌%◌, nat_lt, ◌==◌, ◌&&◌}
use Rattle.std.specs.Prelude.{not, Bool, false, if◌then◌else◌, ℤ, ◌+ℤ◌, ◌-ℤ◌, int_lt, bit_and, ◌<◌, ◌^◌}
use Rattle.std.specs.Prelude.{FitsSigned}
use Rattle.module_format.specs.declared.rows.ParameterKind.TheVariants.{Channels}
use Rattle.module_format.specs.declared.rows.EndKind.{EndKind}
use Rattle.module_format.specs.declared.rows.EndKind.TheVariants as ends
use Rattle.module_format.specs.Contents.{Contents, link_length}
use Rattle.module_format.specs.Contexts.{parameters_at}
use Rattle.certificate.specs.Rights.{channel_length, has_end}
use Rattle.module_format.specs.Rows.{Fact}
use Rattle.module_format.specs.declared.fact.Fact.TheVariants.{Number, Pointer}
use Rattle.module_format.specs.declared.fact.Region.{Region}
use Rattle.module_format.specs.declared.fact.Region.TheVariants as regions
use Rattle.module_format.specs.declared.fact.Step.TheVariants.{Word}
use Rattle.module_format.specs.declared.rows.Direction.{Direction}
use Rattle.module_format.specs.Pars.{direction_number}
use Rattle.word_arithmetic.specs.Word.{least_word}
use Rattle.states.specs.declared.known.WordFact.{WordFact}
use Rattle.states.specs.declared.known.WordFact.TheVariants.{Alone}
use Rattle.states.specs.State.{is_same_number}
use Rattle.states.specs.declared.rule.Rule.TheVariants as rules
use Rattle.rulings.specs.Reach.{word_of_byte}
use Rattle.rulings.specs.Rulings.{Ruling, breaks, wants}
use Rattle.rulings.specs.Pointers.{is_near_pointer}
use Rattle.std.specs.Int.{w32}

-- ---- channels that words name

-- the link that a constant is the address of
abbrev pub link_at : ℤ → Option EndKind
link_at v = elim (v -ℤ least_word) [
  | pos n ↦ if (n % 4 == 0) && nat_lt n 32 then Some (ends.Link (n / 4)) else None
  | negsuc n ↦ None
]

-- the channel at an offset in a region, a multiple of four: a frame word, or an element of a parameter
abbrev pub channel_in : Region → ℤ → Option EndKind
channel_in regions.Frame offset = Some (ends.FrameWord (word_of_byte offset))
channel_in regions.Constants offset = None
channel_in (regions.Parameter j) offset =
    elim offset [ pos n ↦ Some (ends.Parameter (pos j) (n / 4)) | negsuc n ↦ None ]

-- the channel that a word names
unfoldable pub channel_of : WordFact → Option EndKind
channel_of (Alone (Number lo hi)) = if is_same_number lo hi then link_at lo else None
channel_of (Alone (Pointer region lo hi Word)) = if is_same_number lo hi then channel_in region lo else None
channel_of _ = None

-- the fact is that of a word which names a channel
unfoldable pub names_channel : Fact → (EndKind → Ruling) → Ruling
names_channel fact k =
    wants (is_near_pointer fact) rules.Pointer
    (elim (channel_of (Alone fact)) [ None ↦ breaks rules.Channel | Some kind ↦ k kind ])

-- the channel `n` channels further
abbrev pub further : EndKind → ℕ → EndKind
further (ends.FrameWord word) n = ends.FrameWord (word +ℤ pos n)
further (ends.Parameter number element) n = ends.Parameter number (element + n)
further (ends.Link link) n = ends.Link (link + n)

-- an end may have the number of this channel
abbrev pub IsNumbered : EndKind → Type 0
IsNumbered (ends.FrameWord word) = FitsSigned w32 word
IsNumbered (ends.Parameter number element) = element < 2 ^ 32
IsNumbered (ends.Link link) = link < 2 ^ 8

-- two runs of numbers have one in common
abbrev pub runs_meet : ℤ → ℕ → ℤ → ℕ → Bool
runs_meet first count other more = int_lt first (other +ℤ pos more) && int_lt other (first +ℤ pos count)

-- the `count` channels from the one on and the `more` channels from the other on have one in common
abbrev pub channels_meet : EndKind → ℕ → EndKind → ℕ → Bool
channels_meet (ends.FrameWord word) count (ends.FrameWord other) more = runs_meet word count other more
channels_meet (ends.Parameter j element) count (ends.Parameter k other) more =
    is_same_number j k && runs_meet (pos element) count (pos other) more
channels_meet (ends.Link link) count (ends.Link other) more = runs_meet (pos link) count (pos other) more
channels_meet _ count _ more = false

-- ---- ends

-- ends have one of this direction
abbrev pub has_direction : ℕ → Direction → Bool
has_direction ends direction = not (bit_and ends (direction_number direction) == 0)

-- a context has the end, in a direction, of the channel `n` channels further
abbrev pub has_end_further : Contents → ℕ → EndKind → Direction → ℕ → Bool
has_end_further m context first direction n =
    has_end m context (record { kind = further first n; direction = direction })

-- ---- lengths of messages

-- the bytes of the messages of a channel that a context knows
abbrev pub message_length : Contents → ℕ → EndKind → Option ℕ
message_length m context (ends.FrameWord word) = channel_length m context word
message_length m context (ends.Link link) = Some (link_length m link)
message_length m context (ends.Parameter (negsuc j) element) = None
message_length m context (ends.Parameter (pos j) element) = elim (slice_get (parameters_at m context) j) [
  | None ↦ None
  | Some p ↦ elim p.kind [ Channels count len ends ↦ Some len | _ ↦ None ]
]

-- the length of the messages of the channels of a context's parameter of this number
abbrev pub length_of_parameter : Contents → ℕ → ℤ → ℕ → Option ℕ
length_of_parameter m context number element = message_length m context (ends.Parameter number element)

-- the length is known, and is this one
abbrev pub is_length : ℕ → Option ℕ → Bool
is_length len None = false
is_length len (Some other) = other == len

-- the channel `n` channels further has messages of this length
abbrev pub has_length_further : Contents → ℕ → EndKind → ℕ → ℕ → Bool
has_length_further m context first len n = is_length len (message_length m context (further first n))
