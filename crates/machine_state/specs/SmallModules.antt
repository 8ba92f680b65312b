-- Small modules, and how they end.
use Rattle.std.specs.Prelude.{◌≡◌, ℕ, ◌+◌, pos, negsuc, true, false, List, [], ◌∷◌, ◌++◌, Some, None, replicate}
use Rattle.std.specs.Prelude.{slice_set}
use Rattle.module_format.specs.Contents.{Branch, Par, Contents}
use Rattle.machine_state.specs.declared.event.Event.{Event}
use Rattle.machine_state.specs.declared.event.Event.TheVariants.{Step, Arrive, Acknowledge}
use Rattle.machine_state.specs.declared.link.Link.TheVariants.{Zero, One as FirstLink}
use Rattle.module_format.specs.declared.rows.ChannelRow.{ChannelRow}
use Rattle.module_format.specs.declared.rows.EndKind.TheVariants.{FrameWord}
use Rattle.module_format.specs.declared.rows.EndRow.{EndRow}
use Rattle.module_format.specs.declared.rows.Direction.TheVariants.{In, Out}
use Rattle.machine_state.specs.World.{World}
use Rattle.machine_state.specs.Happens.{world_after}

-- a module of this code alone, with five data words of which the root's workspace is word 3
abbrev pub of_code : List ℕ → ℕ → Contents
of_code code finish = record {
  code = code;
  constants = [];
  data_words = 5;
  base = 3;
  budget = finish;
  finish = finish;
  lengths = replicate 8 0;
  has_long_operations = false;
  procedures = [];
  labels = [];
  pars = [];
  table_rows = [];
}

-- this count of bytes executed, the last of them a stopp at the finish, and no fault
pub record IsFinished (w : World) (executed : ℕ) : Type 0 where
  pub no_fault : w.fault ≡ None
  pub count : w.counters.executed ≡ executed
  pub finished : w.counters.is_finished ≡ true
  pub nobody_runs : w.queue.running ≡ None

-- n bytes, with no slice, and always the front of the ready list
abbrev pub steps : ℕ → List Event
steps n = replicate n (Step false 0)

-- ldc 5; stl 1; ldl 1; adc 1; stl 1; stopp
abbrev pub first : Contents
first = of_code (0x45 ∷ 0xd1 ∷ 0x71 ∷ 0x81 ∷ 0xd1 ∷ 0x21 ∷ 0xf5 ∷ []) 7

-- ldc 5; stl 1; j to the next byte; ldl 1; stopp
abbrev pub jump : Contents
jump = of_code (0x45 ∷ 0xd1 ∷ 0x00 ∷ 0x71 ∷ 0x21 ∷ 0xf5 ∷ []) 6

abbrev pub FirstEnds : Type 0
FirstEnds = IsFinished (world_after first (steps 7)) 7

abbrev pub JumpEnds : Type 0
JumpEnds = IsFinished (world_after jump (steps 6)) 6

-- at the jump the process goes to the back of the ready list
abbrev pub SlicedJumpEnds : Type 0
SlicedJumpEnds = IsFinished (world_after jump (steps 2 ++ Step true 0 ∷ steps 3)) 6

-- this count of bytes executed, no fault, and no process is running
pub record IsQuiet (w : World) (executed : ℕ) : Type 0 where
  pub no_fault : w.fault ≡ None
  pub count : w.counters.executed ≡ executed
  pub nobody_runs : w.queue.running ≡ None

-- this fault of this process at this offset
abbrev pub IsAtFault : World → ℕ → ℕ → ℕ → Type 0
IsAtFault w number process offset = w.fault ≡ Some (record { number = number; process = process; offset = offset })

-- a module with `words` data words, of which the root's workspace is this one
abbrev pub sized : ℕ → ℕ → Contents → Contents
sized words base m = record m { data_words = words; base = base }

-- the same steps, but that the last of the ready list is always picked
abbrev pub last_steps : ℕ → List Event
last_steps n = replicate n (Step false 1)

-- ldc 5; call 2; stopp; ldl 1; adc 1; stl 1; ret
abbrev pub call : Contents
call = sized 4 4 (of_code (0x45 ∷ 0x92 ∷ 0x21 ∷ 0xf5 ∷ 0x71 ∷ 0x81 ∷ 0xd1 ∷ 0x22 ∷ 0xf0 ∷ []) 4)

abbrev pub CallEnds : Type 0
CallEnds = IsFinished (world_after call (steps 9)) 9

-- ldc 0; stl 1; ldc 3; stl 2; ldc 7; stl 3; ldlp 1; ldc 6; lend; stopp
abbrev pub loop : Contents
loop = sized 7 3 (of_code (0x40 ∷ 0xd1 ∷ 0x43 ∷ 0xd2 ∷ 0x47 ∷ 0xd3 ∷ 0x11 ∷ 0x46 ∷ 0x22 ∷ 0xf1 ∷ 0x21 ∷ 0xf5 ∷ []) 12)

abbrev pub LoopEnds : Type 0
LoopEnds = IsFinished (world_after loop (steps 24)) 24

-- a branch whose workspace is `below + 1` words below word 0 of the frame: with the three words below it one word of
-- the frame is its own
abbrev pub small_branch : ℕ → ℕ → ℕ → List EndRow → Branch
small_branch entry below word ends = record {
  entry = entry;
  workspace = negsuc below;
  writes =
      record { lo = negsuc (below + 3); hi = negsuc below } ∷ record { lo = pos word; hi = pos (word + 1) } ∷ [];
  reads = [];
  written_parameters = [];
  read_parameters = [];
  ends = ends;
}

-- the root's row of these channels and branches
abbrev pub row_of : ℕ → List ChannelRow → List Branch → Par
row_of successor channels branches = record {
  context = 0;
  depth = pos 0;
  block = pos 0;
  successor = successor;
  channels = channels;
  branches = branches;
}

-- two branches, each of which writes a word
abbrev pub pair_row : ℕ → Par
pair_row word = row_of 25 [] (small_branch 17 5 2 [] ∷ small_branch 21 8 word [] ∷ [])

abbrev pub pair_code : List ℕ
pair_code =
    0x43 ∷ 0xd1 ∷ 0x21 ∷ 0x43 ∷ 0x21 ∷ 0xfb ∷ 0xd0 ∷ 0x46 ∷ 0x60 ∷ 0x1a ∷ 0xfd ∷ 0x46 ∷ 0x60 ∷ 0x17 ∷ 0xfd ∷ 0x10 ∷ 0xf3
    ∷ 0x41 ∷ 0xd8 ∷ 0x16 ∷ 0xf3 ∷ 0x42 ∷ 0xdc ∷ 0x19 ∷ 0xf3 ∷ 0x21 ∷ 0xf5 ∷ []

abbrev pub pair_of : List ℕ → ℕ → Contents
pair_of code word = record (sized 16 12 (of_code code 27)) { pars = pair_row word ∷ [] }

abbrev pub PairEnds : Type 0
PairEnds = IsFinished (world_after (pair_of pair_code 3) (steps 27)) 27 × IsFinished
    (world_after (pair_of pair_code 3) (last_steps 27)) 27

-- both branches want the same word; the first workspace is another one
abbrev pub PairFaults : Type 0
PairFaults =
    IsAtFault (world_after (pair_of pair_code 2) (steps 27)) 4 0 14
    × IsAtFault (world_after (pair_of (slice_set pair_code 7 0x47) 3) (steps 27)) 10 0 10

-- a byte is received and sent on
abbrev pub echo : Contents
echo = record
    (of_code (0x40 ∷ 0xd1 ∷ 0x11 ∷ 0x24 ∷ 0xf2 ∷ 0x54 ∷ 0x41 ∷ 0xf7 ∷ 0x11 ∷ 0x24 ∷ 0xf2 ∷ 0x41 ∷ 0xfb ∷ 0x21 ∷ 0xf5 ∷
    []) 15) {
      lengths = 1 ∷ 0 ∷ 0 ∷ 0 ∷ 1 ∷ 0 ∷ 0 ∷ 0 ∷ [];
    }

abbrev pub EchoWaits : Type 0
EchoWaits =
    IsQuiet (world_after echo (steps 9)) 8
    × IsQuiet (world_after echo (steps 8 ++ Arrive Zero 0x41 ∷ steps 7)) 13
    × IsFinished (world_after echo (steps 8 ++ Arrive Zero 0x41 ∷ steps 5 ++ Acknowledge Zero ∷ steps 2)) 15

-- one branch sends a word to the other
abbrev pub channel_row : Par
channel_row = row_of 34 (record { word = pos 2; length = 4 } ∷ [])
    (small_branch 20 5 4 (record { kind = FrameWord (pos 2); direction = Out } ∷ [])
    ∷ small_branch 28 8 3 (record { kind = FrameWord (pos 2); direction = In } ∷ []) ∷ [])

abbrev pub channel_code : List ℕ
channel_code =
    0x24 ∷ 0xf2 ∷ 0xd2 ∷ 0x43 ∷ 0xd1 ∷ 0x21 ∷ 0x49 ∷ 0x21 ∷ 0xfb ∷ 0xd0 ∷ 0x46 ∷ 0x60 ∷ 0x1a ∷ 0xfd ∷ 0x4a ∷ 0x60 ∷ 0x17
    ∷ 0xfd ∷ 0x10 ∷ 0xf3 ∷ 0x45 ∷ 0xda ∷ 0x1a ∷ 0x18 ∷ 0x44 ∷ 0xfb ∷ 0x16 ∷ 0xf3 ∷ 0x1c ∷ 0x1b ∷ 0x44 ∷ 0xf7 ∷ 0x19 ∷
    0xf3 ∷ 0x21 ∷ 0xf5 ∷ []

abbrev pub module_with_channel : List ℕ → Contents
module_with_channel code = record (sized 17 12 (of_code code 36)) { pars = channel_row ∷ [] }

abbrev pub ChannelEnds : Type 0
ChannelEnds =
    IsFinished (world_after (module_with_channel channel_code) (steps 36)) 36
    × IsFinished (world_after (module_with_channel channel_code) (last_steps 36)) 36
    × IsAtFault (world_after (module_with_channel (slice_set channel_code 30 0x41)) (steps 36)) 7 2 31
    × IsAtFault (world_after (module_with_channel (slice_set channel_code 30 0x41)) (last_steps 36)) 7 1 25

-- an alternation of two links
abbrev pub choice_code : List ℕ
choice_code =
    0x24 ∷ 0xf3 ∷ 0x24 ∷ 0xf2 ∷ 0x54 ∷ 0x41 ∷ 0x24 ∷ 0xf8 ∷ 0x24 ∷ 0xf2 ∷ 0x55 ∷ 0x41 ∷ 0x24 ∷ 0xf8 ∷ 0x24 ∷ 0xf4 ∷ 0x24
    ∷ 0xf2 ∷ 0x54 ∷ 0x41 ∷ 0x40 ∷ 0x22 ∷ 0xff ∷ 0x24 ∷ 0xf2 ∷ 0x55 ∷ 0x41 ∷ 0x42 ∷ 0x22 ∷ 0xff ∷ 0x24 ∷ 0xf5 ∷ 0x21 ∷
    0xf5 ∷ 0x21 ∷ 0xf5 ∷ []

abbrev pub choice_of : List ℕ → Contents
choice_of code = record (sized 4 3 (of_code code 36)) {
  lengths = 0 ∷ 0 ∷ 0 ∷ 0 ∷ 1 ∷ 1 ∷ 0 ∷ 0 ∷ [];
}

abbrev pub ChoiceWaits : Type 0
ChoiceWaits =
    IsQuiet (world_after (choice_of choice_code) (steps 17)) 16
    × IsFinished (world_after (choice_of choice_code) (steps 16 ++ Arrive FirstLink 1 ∷ steps 18)) 34
    × IsQuiet (world_after (choice_of choice_code) (Arrive FirstLink 2 ∷ steps 16 ++ Arrive Zero 1 ∷ steps 18)) 34
    × IsAtFault (world_after (choice_of (slice_set choice_code 26 0x40)) (steps 16 ++ Arrive Zero 1 ∷ steps 18)) 9 0 30
