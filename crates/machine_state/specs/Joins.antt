-- PARs: branches start, each with a share of what the starter holds, and the process goes on once all are joined.
use Rattle.std.specs.Prelude.{ℕ, ◌+◌, ◌==◌, ◌&&◌, Bool, if◌then◌else◌, pos, List, [], ◌∷◌, ◌++◌, map, length, Option}
use Rattle.std.specs.Prelude.{Some, None, slice_get, slice_set}
use Rattle.module_format.specs.declared.rows.ChannelRow.{ChannelRow}
use Rattle.module_format.specs.Stack.{of_empty}
use Rattle.module_format.specs.Contents.{Par, Branch}
use Rattle.machine_state.specs.declared.fault.FaultKind.{FaultKind}
use Rattle.machine_state.specs.declared.fault.FaultKind.TheVariants.{JoinOrder}
use Rattle.machine_state.specs.Memory.{Memory, place_of, with_word}
use Rattle.machine_state.specs.World.{World, Role, Join, holding_at}
use Rattle.machine_state.specs.declared.process.Task.{Task}
use Rattle.machine_state.specs.declared.process.Mode.TheVariants.{Plain, Starting}
use Rattle.machine_state.specs.declared.process.Condition.TheVariants.{Ready, Ended}
use Rattle.machine_state.specs.declared.process.Channel.{Channel}
use Rattle.machine_state.specs.Spans.{less}
use Rattle.machine_state.specs.Site.{Local}
use Rattle.machine_state.specs.Moves.{counted, put, on_task, enqueue, leave, dispatch, cell_of}
use Rattle.machine_state.specs.Turn.{Turn, ran, answered, Here, failed, between, followed}
use Rattle.machine_state.specs.BranchShares.{frame_address, holding_of}
use Rattle.machine_state.specs.JoinLookups.{Found, found_at, opened_by, opener_of}
use Rattle.machine_state.specs.StartPlans.{channel_addresses, block_addresses, Plan, first_plan, later_plan}
use Rattle.machine_state.specs.StartPlans.{scheduling_addresses, share_by, first_fault, no_row_faults, later_faults}
use Rattle.machine_state.specs.StartPlans.{first_faults}
use Rattle.machine_state.specs.Roles.{members_without, without_join, without_own, with_join, branch_role}

-- ---- a start

abbrev pub without_words : List ℕ → Memory → Memory
without_words [] memory = memory
without_words (a ∷ addresses) memory = without_words addresses (with_word memory (place_of a) None)

abbrev pub new_task : Branch → ℕ → Task
new_task b workspace = record {
  registers = record { workspace = workspace; at = b.entry; began = b.entry; operand = pos 0; stack = of_empty None };
  mode = Plain;
  condition = Ready;
}

abbrev pub with_channels : ℕ → ℕ → List ChannelRow → List (Option Channel) → List (Option Channel)
with_channels p base [] cells = cells
with_channels p base (c ∷ rows) cells =
    with_channels p base rows (slice_set cells (cell_of (frame_address base c.word))
    (Some (record { opener = p; length = c.length; waiting = None; enabled = None })))

-- the join once this branch is started
abbrev pub join_after : ℕ → Plan → Found → ℕ → Join
join_after n plan found new = record {
  row = plan.row;
  block = frame_address plan.base plan.par.block;
  base = plan.base;
  parameters = plan.addresses;
  started = plan.started + 1;
  rest = less n plan.rest (share_by plan found.branch);
  members = plan.members ++ new ∷ [];
}

abbrev pub on_role : ℕ → (Role → Role) → World → World
on_role p f w = elim (slice_get w.roles p) [ None ↦ w | Some role ↦ record w { roles = slice_set w.roles p (f role) } ]

abbrev pub started : Here → Plan → Found → ℕ → Local → World → World
started h plan found workspace l w =
    let n = length w.memory in
    let new = length w.tasks in
    let there = put h.process (record h.from { registers = between h.next l.registers; mode = Starting })
    (without_words (scheduling_addresses workspace) l.memory) w in
    let given = on_role h.process (with_join (join_after n plan found new)) there in
    enqueue new (record given {
      tasks = given.tasks ++ new_task found.branch workspace ∷ [];
      roles = given.roles ++ branch_role h.process (holding_of h.contents n (share_by plan found.branch)) ∷ [];
    })

-- at the first start the words of the block and the channels are taken away, and there are the channels
abbrev pub opened : Here → Plan → Local → World → Local × World
opened h plan l w = (
  record l {
    memory = without_words (block_addresses plan.base plan.par
        ++ channel_addresses plan.base plan.par) l.memory;
  },
  record w { channels = with_channels h.process plan.base plan.par.channels w.channels },
)

abbrev pub start_or_fail : Here → List (Bool × FaultKind) → World → World → Turn
start_or_fail h tests after w = elim (first_fault tests) [
  | Some kind ↦ failed h kind w
  | None ↦ followed h (answered ran (counted after)) w
]

abbrev pub first_start_turn : Here → Found → ℕ → Local → World → Turn
first_start_turn h found workspace l w =
    let holding = holding_at w.roles h.process in
    let plan = first_plan h.contents h.process h.from.registers.workspace holding w.memory found in
    let there = opened h plan l w in
    start_or_fail h (first_faults h.contents w.memory holding plan found workspace)
    (started h plan found workspace there.0 there.1) w

abbrev pub later_start_turn : Here → Join → Found → ℕ → Local → World → Turn
later_start_turn h join found workspace l w =
    if found.row == join.row
    then (let plan = later_plan h.contents join found.par in
    start_or_fail h (later_faults (length w.memory) plan found workspace) (started h plan found workspace l w) w)
    else start_or_fail h (no_row_faults join.rest workspace) w w

abbrev pub start_turn : Here → ℕ → ℕ → Local → World → Turn
start_turn h target workspace l w = elim (found_at h.contents target) [
  | None ↦ start_or_fail h (no_row_faults (holding_at w.roles h.process) workspace) w w
  | Some found ↦ elim (opened_by w h.process) [
    | None ↦ first_start_turn h found workspace l w
    | Some join ↦ later_start_turn h join found workspace l w
  ]
]

-- ---- a join

-- The join is over: its opener goes on at once after the PAR, with the block as its workspace.
abbrev pub closed_task : Join → Par → Task → Task
closed_task join par task = record {
  registers = record {
    workspace = join.block;
    at = par.successor;
    began = par.successor;
    operand = pos 0;
    stack = of_empty None;
  };
  mode = Plain;
  condition = Ready;
}

abbrev pub without_channels : ℕ → List (Option Channel) → List (Option Channel)
without_channels opener cells = map (λ cell. elim cell [
  | None ↦ None
  | Some channel ↦ if channel.opener == opener then None else Some channel
]) cells

abbrev pub closed : ℕ → Join → Par → World → World
closed opener join par w =
    let there = on_role opener without_join (on_task opener (closed_task join par) w) in
    record there {
      channels = without_channels opener there.channels;
      queue = record there.queue { running = Some opener };
    }

-- a member of a join is joined, and with the last one the join is over
abbrev pub member_joined : Here → ℕ → Join → Par → World → World
member_joined h opener join par w =
    let members = members_without h.process join.members in
    let there = on_role opener (with_join (record join { members = members })) w in
    if length members == 0 then closed opener join par there else dispatch h.pick (leave there)

-- a process that has ended
abbrev pub ended : Here → Local → World → World
ended h l w =
    put h.process (record h.from { registers = between h.next l.registers; mode = Plain; condition = Ended }) l.memory w

-- what it held is given back, if it is a branch
abbrev pub given_back : Here → World → World
given_back h w = on_role h.process without_own w

abbrev pub on_row : Here → Join → World → (Par → Turn) → Turn
on_row h join w k = elim (slice_get h.contents.pars join.row) [ None ↦ failed h JoinOrder w | Some par ↦ k par ]

-- the end of the process that has started the branches: all of them
abbrev pub own_end : Here → Join → ℕ → Local → World → Turn
own_end h join block l w = on_row h join w (λ par.
    if (join.block == block) && (join.started == length par.branches)
    then answered ran (counted (member_joined h h.process join par (ended h l w)))
    else failed h JoinOrder w)

abbrev pub branch_end : Here → ℕ → Join → ℕ → Local → World → Turn
branch_end h opener join block l w = on_row h join w (λ par.
    if join.block == block
    then answered ran (counted (member_joined h opener join par (given_back h (ended h l w))))
    else failed h JoinOrder w)

abbrev pub join_turn : Here → ℕ → Local → World → Turn
join_turn h block l w = elim (opened_by w h.process) [
  | Some join ↦ own_end h join block l w
  | None ↦ elim (opener_of w h.process) [
    | None ↦ failed h JoinOrder w
    | Some opener ↦ elim (opened_by w opener) [
      | None ↦ failed h JoinOrder w
      | Some join ↦ branch_end h opener join block l w
    ]
  ]
]
