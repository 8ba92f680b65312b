-- The whole machine at a moment, as parts: an event that leaves a part alone leaves what is known of it alone.
use Rattle.std.specs.Prelude.{ℕ, ◌+◌, ◌-◌, ◌*◌, ◌%◌, ◌^◌, ◌≤◌, ◌==◌, nat_lt, pos, Bool, false, if◌then◌else◌, List, []}
use Rattle.std.specs.Prelude.{◌∷◌, ◌++◌, length, map, replicate, Option, Some, None, slice_get}
use Rattle.module_format.specs.declared.rows.Direction.TheVariants.{In, Out}
use Rattle.module_format.specs.Contents.{Contents}
use Rattle.module_format.specs.Stack.{of_empty}
use Rattle.machine_state.specs.Memory.{Memory, data_start}
use Rattle.machine_state.specs.Holding.{Holding, nothing}
use Rattle.machine_state.specs.declared.process.Task.{Task}
use Rattle.machine_state.specs.declared.process.Channel.{Channel}
use Rattle.machine_state.specs.declared.process.Mode.TheVariants.{Plain}
use Rattle.machine_state.specs.declared.process.Condition.TheVariants.{Ready}
use Rattle.machine_state.specs.declared.link.InputLink.{InputLink}
use Rattle.machine_state.specs.declared.link.OutputLink.{OutputLink}
use Rattle.machine_state.specs.declared.holding.End.{End}
use Rattle.machine_state.specs.declared.fault.Fault.{Fault}

-- A PAR whose members are not all joined: the number of its row, the addresses of its block, of frame word 0 and of
-- what
-- each parameter that the row names points at, how many branches are started, what its branches have not been given,
-- and who is not joined yet.
pub record Join : Type 0 where
  pub row : ℕ
  pub block : ℕ
  pub base : ℕ
  pub parameters : List (Option ℕ)
  pub started : ℕ
  pub rest : Holding
  pub members : List ℕ

-- What a process has for good, the opener of the join that it is in, and the join that it has open.
pub record Role : Type 0 where
  pub own : Holding
  pub opener : Option ℕ
  pub opened : Option Join

-- what a process holds now: while it has a join open, only what its branches have not been given
abbrev pub held : Role → Holding
held role = elim role.opened [ None ↦ role.own | Some join ↦ join.rest ]

-- what the process of this number holds: nothing where there is no such process
abbrev pub holding_at : List Role → ℕ → Holding
holding_at roles p = elim (slice_get roles p) [ None ↦ nothing | Some role ↦ held role ]

-- the roles by process number, and the process whose holding counts
pub record Roles : Type 0 where
  pub table : List Role
  pub holder : ℕ

-- the process that runs, and those that wait for their turn, the first in front
pub record Queue : Type 0 where
  pub running : Option ℕ
  pub ready : List ℕ

-- the four output links and the four input links
pub record Links : Type 0 where
  pub outputs : List OutputLink
  pub inputs : List InputLink

pub record Counters : Type 0 where
  pub executed : ℕ
  pub is_finished : Bool

-- Tasks and roles have one index, the process number. Channels have the index of their data word.
pub record World : Type 0 where
  pub memory : Memory
  pub tasks : List Task
  pub roles : List Role
  pub queue : Queue
  pub links : Links
  pub channels : List (Option Channel)
  pub counters : Counters
  pub fault : Option Fault

-- ---- the loaded world

-- how many bytes lie between the code and the constants, which begin at a word
abbrev pub padding : ℕ → ℕ
padding code_length = (4 - code_length % 4) % 4

-- the places of the constants: from the first to the one after the last
abbrev pub constants_start : Contents → ℕ
constants_start m = 4 * m.data_words + length m.code + padding (length m.code)

abbrev pub loaded_memory : Contents → Memory
loaded_memory m =
    replicate (4 * m.data_words) None ++ map Some m.code
    ++ replicate (padding (length m.code)) None ++ map Some m.constants

-- the constants, which lie last, end within the address space
abbrev pub IsLoadable : Contents → Type 0
IsLoadable m = data_start + constants_start m + length m.constants ≤ 2 ^ 32

-- the words of the links, from MostNeg on: output links 0 to 3, then input links 0 to 3 (T414 compiler writer's guide)
abbrev pub link_words : ℕ
link_words = 0x80000000

-- the word of each link, the input links after the output links, as tables and holdings number them
abbrev pub link_word : ℕ → ℕ
link_word k = link_words + 4 * k

-- the words of output link k and of input link k
abbrev pub output_word : ℕ → ℕ
output_word k = link_word k

abbrev pub input_word : ℕ → ℕ
input_word k = link_words + 16 + 4 * k

-- The root holds the ends of the links that have a message length.
abbrev pub link_ends_from : ℕ → List ℕ → List End
link_ends_from k [] = []
link_ends_from k (n ∷ ns) =
    let ends = link_ends_from (k + 1) ns in
    if n == 0 then ends else record { address = link_word k; direction = if nat_lt k 4 then Out else In } ∷ ends

abbrev pub root_holding : Contents → Holding
root_holding m = record {
  writes = record { start = 0; end = 4 * m.data_words } ∷ [];
  reads = record { start = constants_start m; end = constants_start m + length m.constants } ∷ [];
  ends = link_ends_from 0 m.lengths;
}

abbrev pub root_task : Contents → Task
root_task m = record {
  registers = record { workspace = data_start + 4 * m.base; at = 0; began = 0; operand = pos 0; stack = of_empty None };
  mode = Plain;
  condition = Ready;
}

abbrev pub root_role : Contents → Role
root_role m = record { own = root_holding m; opener = None; opened = None }

abbrev pub quiet_links : Links
quiet_links = record {
  outputs = replicate 4 (record { waiting = None });
  inputs = replicate 4 (record { kept = None; waiting = None; enabled = None });
}

abbrev pub loaded : Contents → World
loaded m = record {
  memory = loaded_memory m;
  tasks = root_task m ∷ [];
  roles = root_role m ∷ [];
  queue = record { running = Some 0; ready = [] };
  links = quiet_links;
  channels = replicate m.data_words None;
  counters = record { executed = 0; is_finished = false };
  fault = None;
}
