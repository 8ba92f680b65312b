-- What an instruction asks of others: its outcome, and what it has found that whoever grants it relies on.
use Rattle.std.specs.Prelude.{◌≡◌, ⊤, ◌<◌, nat_lt, true, None}
use Rattle.machine_state.specs.declared.process.Registers.{Registers}
use Rattle.machine_state.specs.declared.request.Request.{Request}
use Rattle.machine_state.specs.declared.request.Request.TheVariants.{Receive, Send, Start, Join, Begin, EnableChannel}
use Rattle.machine_state.specs.declared.request.Request.TheVariants.{EnableSkip, Wait, DisableChannel, DisableSkip, End}
use Rattle.machine_state.specs.Memory.{Memory, place_of, with_word}
use Rattle.machine_state.specs.Holding.{may_write_word}
use Rattle.machine_state.specs.Site.{Site, Local, Outcome, receives, sends, starts, joins, begins, enables_channel}
use Rattle.machine_state.specs.Site.{enables_skip, waits, disables_channel, disables_skip, ends_alternation}
use Rattle.machine_state.specs.LocalStep.{holds_scheduling_words, without_scheduling_words, are_defined}

-- the outcome of an instruction that asks for this
abbrev pub asked : Request → Local → Outcome
asked (Receive exchange) l = receives exchange l
asked (Send exchange) l = sends exchange l
asked (Start to workspace) l = starts to workspace l
asked (Join block) l = joins block l
asked Begin l = begins l
asked (EnableChannel guard address) l = enables_channel guard address l
asked (EnableSkip guard) l = enables_skip guard l
asked Wait l = waits l
asked (DisableChannel guard address distance) l = disables_channel guard address distance l
asked (DisableSkip guard distance) l = disables_skip guard distance l
asked (End to) l = ends_alternation to l

-- ---- the words that a request takes

-- the process with these registers, and memory as it is
abbrev pub untouched : Registers → Memory → Local
untouched registers memory = record { registers = registers; memory = memory }

-- once scheduling has taken the three words below its workspace
abbrev pub scheduled : Registers → Memory → Local
scheduled registers memory =
    record { registers = registers; memory = without_scheduling_words memory registers.workspace }

-- once the word at its workspace is taken, in which a transputer keeps what is selected
abbrev pub without_selection_word : Local → Local
without_selection_word l = record l { memory = with_word l.memory (place_of l.registers.workspace) None }

-- the process with these registers, once the words are taken that this request takes
abbrev pub local_for : Request → Registers → Memory → Local
local_for (Receive exchange) registers memory = scheduled registers memory
local_for (Send exchange) registers memory = scheduled registers memory
local_for (Start to workspace) registers memory = untouched registers memory
local_for (Join block) registers memory = untouched registers memory
local_for Begin registers memory = scheduled registers memory
local_for (EnableChannel guard address) registers memory = untouched registers memory
local_for (EnableSkip guard) registers memory = untouched registers memory
local_for Wait registers memory = without_selection_word (scheduled registers memory)
local_for (DisableChannel guard address distance) registers memory =
    without_selection_word (untouched registers memory)
local_for (DisableSkip guard distance) registers memory = without_selection_word (untouched registers memory)
local_for (End to) registers memory = untouched registers memory

-- ---- what the one that grants a request relies on

-- the process may write the three words that scheduling takes
abbrev pub HoldsSchedulingWords : Site → Registers → Type 0
HoldsSchedulingWords s registers = holds_scheduling_words s.holding registers.workspace ≡ true

-- it may write the word at its workspace
abbrev pub HoldsSelectionWord : Site → Registers → Type 0
HoldsSelectionWord s registers = may_write_word s.holding (place_of registers.workspace) ≡ true

-- code follows the instruction
abbrev pub IsFollowed : Site → Type 0
IsFollowed s = nat_lt s.next s.code_length ≡ true

-- the instruction has found all this; what is left is found by whoever grants the request
abbrev pub IsGrantable : Request → Site → Registers → Memory → Type 0
IsGrantable (Receive exchange) s registers memory =
    (0 < exchange.length) × HoldsSchedulingWords s registers
IsGrantable (Send exchange) s registers memory =
    (0 < exchange.length) × HoldsSchedulingWords s registers
    × (are_defined (without_scheduling_words memory registers.workspace) exchange.address exchange.length ≡ true)
IsGrantable (Start to workspace) s registers memory = ⊤
IsGrantable (Join block) s registers memory = ⊤
IsGrantable Begin s registers memory = HoldsSchedulingWords s registers × IsFollowed s
IsGrantable (EnableChannel guard address) s registers memory = ⊤
IsGrantable (EnableSkip guard) s registers memory = IsFollowed s
IsGrantable Wait s registers memory =
    HoldsSchedulingWords s registers × HoldsSelectionWord s registers × IsFollowed s
IsGrantable (DisableChannel guard address distance) s registers memory = HoldsSelectionWord s registers
IsGrantable (DisableSkip guard distance) s registers memory = HoldsSelectionWord s registers × IsFollowed s
IsGrantable (End to) s registers memory = ⊤
