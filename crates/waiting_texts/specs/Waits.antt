-- What a process waits for, in words: our own choice.
use Rattle.std.specs.Prelude.{ℕ, ◌+◌, ◌*◌, ◌%◌, ◌^◌, ◌==◌, ◌&&◌, ◌||◌, not, Bool, true, false, if◌then◌else◌, List, []}
use Rattle.std.specs.Prelude.{◌∷◌, ◌++◌, length, codes, Option, Some, None, slice_get, zero, suc, unwrap_or}
use Rattle.std.specs.Option.{option_map_or}
use Rattle.std.specs.Fmt.{decimal}
use Rattle.fact_texts.specs.Texts.{Text}
use Rattle.machine_state.specs.declared.process.Condition.{Condition}
use Rattle.machine_state.specs.declared.process.Channel.{Channel}
use Rattle.machine_state.specs.declared.link.InputLink.{InputLink}
use Rattle.machine_state.specs.Alternations.{is_by}
use Rattle.machine_state.specs.Memory.{data_start}
use Rattle.machine_state.specs.Moves.{cell_of, channel_at}
use Rattle.machine_state.specs.World.{World, Join}
use Rattle.link_runs.specs.Deadlocks as run
use Rattle.waiting_texts.specs.declared.setting.Setting.{Setting}
use Rattle.waiting_texts.specs.declared.waits.Wait.{Wait}
use Rattle.waiting_texts.specs.declared.waits.Wait.TheVariants as told

-- whether the link of this number has a file
abbrev pub has_file : List Bool → ℕ → Bool
has_file files k = unwrap_or (slice_get files k) false

-- what is told of a wait; what a process has enabled is told apart
abbrev pub told_of : run.Wait → Wait
told_of run.processor = told.Processor
told_of (run.receiver e) = told.Receiver e.length (cell_of e.channel)
told_of (run.sender e) = told.Sender e.length (cell_of e.channel)
told_of (run.bytes k e done) = told.Bytes k e.length done
told_of (run.acknowledgement k e) = told.Acknowledgement k e.length
told_of (run.guards inputs channels) = told.Guards
told_of (run.branches join) = told.Branches (length join.members) join.started
told_of run.for_good = told.ForGood

-- what a process that has ended waits for, by the join that it has open
abbrev pub ended_text : Option Join → Wait
ended_text None = told.ForGood
ended_text (Some join) = told.Branches (length join.members) join.started

-- what the process in this condition waits for
abbrev pub wait_at : World → ℕ → Condition → Wait
wait_at w p condition = told_of (run.wait_by w p condition)

-- what is wrong with an input link that gives no byte
abbrev pub input_text : Setting → ℕ → Text
input_text s k =
    if has_file s.inputs k then (if s.is_over then codes ", which is at its end" else []) else codes ", which has no file"

abbrev pub output_text : Setting → ℕ → Text
output_text s k = if has_file s.outputs k then [] else codes ", which has no file"

-- how much of a message has come from a link
abbrev pub received_text : ℕ → ℕ → ℕ → Text
received_text k n done =
    codes "receives " ++ (decimal n ++ (codes " bytes on link in" ++ (decimal k ++ (codes ", "
    ++ (decimal done ++ codes " came")))))

-- a message that went out on a link
abbrev pub sent_text : ℕ → ℕ → Text
sent_text k n = codes "sends " ++ (decimal n ++ (codes " bytes on link out" ++ decimal k))

abbrev pub wait_text : Setting → Wait → Text
wait_text s told.Processor = codes "is ready"
wait_text s (told.Receiver n word) =
    codes "sends " ++ (decimal n ++ (codes " bytes on the channel in word " ++ (decimal word
    ++ codes ", and nobody receives")))
wait_text s (told.Sender n word) =
    codes "receives " ++ (decimal n ++ (codes " bytes on the channel in word " ++ (decimal word
    ++ codes ", and nobody sends")))
wait_text s (told.Bytes k n done) = received_text k n done ++ input_text s k
wait_text s (told.Acknowledgement k n) = sent_text k n ++ output_text s k
wait_text s told.Guards = codes "waits for a guard:"
wait_text s (told.Branches left started) =
    codes "waits for " ++ (decimal left ++ (codes " of its " ++ (decimal started ++ codes " branches")))
wait_text s told.ForGood = codes "has stopped for good"

-- ---- guards

-- whether the process has enabled the link of this number
abbrev pub enables_input : World → ℕ → ℕ → Bool
enables_input w p k =
    option_map_or (λ (input : InputLink). is_by input.enabled p) (slice_get w.links.inputs k) false

-- the data word of this number
abbrev pub word_address : ℕ → ℕ
word_address k = (data_start + (k * 4) % 2 ^ 32) % 2 ^ 32

abbrev pub enables_channel : World → ℕ → ℕ → Bool
enables_channel w p k =
    option_map_or (λ (channel : Channel). is_by channel.enabled p) (channel_at w (word_address k)) false

abbrev pub guard_text : Bool → Text → ℕ → Text
guard_text enabled name k = if enabled then name ++ decimal k else []

-- the channels below this data word that the process has enabled
abbrev pub channels_text : World → ℕ → ℕ → Text
channels_text w p zero = []
channels_text w p (suc k) = channels_text w p k ++ guard_text (enables_channel w p k) (codes " word ") k

abbrev pub inputs_text : World → ℕ → Text
inputs_text w p =
    guard_text (enables_input w p 0) (codes " in") 0 ++ (guard_text (enables_input w p 1) (codes " in") 1
    ++ (guard_text (enables_input w p 2) (codes " in") 2 ++ guard_text (enables_input w p 3) (codes " in") 3))

-- all guards, of this number of data words, if the process waits for one
abbrev pub guards_text : ℕ → World → ℕ → Wait → Text
guards_text words w p told.Guards = inputs_text w p ++ channels_text w p words
guards_text words w p _ = []

-- ---- waits for others

abbrev pub is_for_others : Wait → Bool
is_for_others (told.Receiver n word) = true
is_for_others (told.Sender n word) = true
is_for_others told.Guards = true
is_for_others (told.Branches left started) = true
is_for_others _ = false
