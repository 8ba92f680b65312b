-- The rules of `in` and `out`, by which a process takes and gives a message over a channel (T414 compiler writer's
-- guide). Their tests are in rising order of the numbers of rules.
use Rattle.std.specs.Prelude.{ℕ, ◌&&◌, ◌||◌, not, ℤ, pos, ◌+ℤ◌, ◌-ℤ◌, int_le, int_lt, Bool, true}
use Rattle.std.specs.Prelude.{if◌then◌else◌, Option, Some, None, false}
use Rattle.module_format.specs.Rows.{Fact}
use Rattle.module_format.specs.declared.rows.EndKind.{EndKind}
use Rattle.module_format.specs.declared.rows.Direction.{Direction}
use Rattle.module_format.specs.declared.rows.Direction.TheVariants.{In, Out}
use Rattle.module_format.specs.Regions.{is_frame}
use Rattle.certificate.specs.Rights.{has_end}
use Rattle.machine_state.specs.declared.op.Op.{Op}
use Rattle.machine_state.specs.declared.op.Op.TheVariants.{Input, Output}
use Rattle.states.specs.declared.rule.Rule.TheVariants as rules
use Rattle.states.specs.State.{State, is_same_number}
use Rattle.rulings.specs.declared.pointers.Pointed.{Pointed}
use Rattle.rulings.specs.Rulings.{Ruling, breaks, Site, alone, uses, goes_on, in_bounds, settles, wants, schedules}
use Rattle.rulings.specs.Rulings.{without_registers}
use Rattle.rulings.specs.Reach.{word_of_byte}
use Rattle.rulings.specs.Pointers.{constant_of, pointer_of, reads_bytes, writes_bytes, takes_any}
use Rattle.rulings.specs.Pointers.{stored_byte, leaves_words}
use Rattle.rulings.specs.Filling.{are_numbers, filled}
use Rattle.rulings.specs.Channels.{names_channel, message_length}

-- ---- the channel

-- a message has 1 to 4,096 bytes
abbrev pub is_message : ℤ → Bool
is_message count = int_le (pos 1) count && int_le count (pos 4096)

-- the state's context has the end of a channel in a direction
abbrev pub holds_end : Site → State → EndKind → Direction → Bool
holds_end site s kind direction =
    has_end site.contents s.context (record { kind = kind; direction = direction })

abbrev pub is_length : ℤ → Option ℕ → Bool
is_length count None = false
is_length count (Some len) = is_same_number count (pos len)

-- the channel has messages of `count` bytes
abbrev pub has_length : Site → State → EndKind → ℤ → Bool
has_length site s kind count = is_length count (message_length site.contents s.context kind)

-- a channel of which the context has the end, with messages of `count` bytes
unfoldable pub over_channel : Site → State → Fact → Direction → ℤ → Ruling → Ruling
over_channel site s fact direction count next =
    names_channel fact (λ kind.
    wants (holds_end site s kind direction) rules.Channel
    (wants (has_length site s kind count) rules.MessageLength next))

-- ---- the buffer

-- the word in which the last byte before an offset lies
abbrev pub word_before : ℤ → ℤ
word_before end = word_of_byte (end -ℤ pos 1)

-- bytes up to `end` lie in words before the three below a depth, and bytes from the first on in words after them
abbrev pub ends_before : ℤ → ℤ → Bool
ends_before depth end = int_lt (word_before end) (depth -ℤ pos 3)

abbrev pub begins_behind : ℤ → ℤ → Bool
begins_behind depth first = int_le depth (word_of_byte first)

-- bytes of the frame from the first up to `end` lie in none of those three words
abbrev pub is_off_scheduling : State → Pointed → ℤ → Bool
is_off_scheduling s p end = not (is_frame p.region) || (ends_before s.depth end || begins_behind s.depth p.lo)

-- What a message leaves of the words of the frame that have bytes of its buffer. Where the pointer leads to one place
-- alone, words that have no other bytes are any numbers.
unfoldable pub received : Pointed → ℤ → State → State
received p end s = if is_same_number p.lo p.hi then filled true p end s else leaves_words p end stored_byte s

-- all registers are used up, and another process may run
abbrev pub exchanges : Site → State → Ruling
exchanges site s = alone s.mode (schedules site s (λ s. goes_on site (without_registers s)))

-- ---- in

-- a message of `count` bytes may come to where a pointer leads
unfoldable pub takes : Site → State → ℤ → Pointed → Ruling → Ruling
takes site s count p next =
    let end = p.hi +ℤ count in
    writes_bytes site s p.region p.lo end (wants (is_off_scheduling s p end) rules.Pointer next)

-- it comes there, over a channel
unfoldable pub receives : Site → State → Fact → ℤ → Pointed → Ruling
receives site s channel count p =
    takes site s count p
    (over_channel site s channel In count (exchanges site (received p (p.hi +ℤ count) s)))

-- no channel has messages of any other length
unfoldable pub receives_some : Site → State → Fact → ℤ → Fact → Ruling
receives_some site s channel count buffer =
    if is_message count
    then in_bounds (takes_any site.contents s.context buffer)
    (settles (pointer_of buffer) (λ p. receives site s channel count p))
    else over_channel site s channel In count (breaks rules.MessageLength)

-- in: A bytes come to where C points, over the channel that B names
unfoldable pub in_rule : Site → State → Ruling
in_rule site s =
    uses s.stack.a (λ a. uses s.stack.b (λ b. uses s.stack.c (λ c.
    settles (constant_of a) (λ count. receives_some site s b count c))))

-- ---- out

-- a message of `count` bytes may go from where a pointer leads
unfoldable pub gives : Site → State → ℤ → Pointed → Ruling → Ruling
gives site s count p next =
    wants (are_numbers s p count) rules.UnknownRegister
    (reads_bytes site s p.region p.lo (p.hi +ℤ count)
    (wants (is_off_scheduling s p (p.hi +ℤ count)) rules.Pointer next))

-- it goes from there, over a channel
unfoldable pub sends : Site → State → Fact → ℤ → Pointed → Ruling
sends site s channel count p = gives site s count p (over_channel site s channel Out count (exchanges site s))

unfoldable pub sends_some : Site → State → Fact → ℤ → Fact → Ruling
sends_some site s channel count buffer =
    if is_message count then settles (pointer_of buffer) (λ p. sends site s channel count p)
    else over_channel site s channel Out count (breaks rules.MessageLength)

-- out: A bytes go from where C points, over the channel that B names
unfoldable pub out_rule : Site → State → Ruling
out_rule site s =
    uses s.stack.a (λ a. uses s.stack.b (λ b. uses s.stack.c (λ c.
    settles (constant_of a) (λ count. sends_some site s b count c))))

-- ---- both

-- the rule of an operation of this family; one of another family has none here
unfoldable pub message_rule : Site → Op → State → Ruling
message_rule site Input s = in_rule site s
message_rule site Output s = out_rule site s
message_rule site _ s = breaks rules.Spelling
