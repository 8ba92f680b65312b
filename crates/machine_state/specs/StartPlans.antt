-- What starts go by: a plan, for the first start of a PAR and for the later ones, and the tests of a start.
use Rattle.std.specs.Prelude.{ℕ, ◌+◌, ◌*◌, ◌%◌, ◌^◌, ◌==◌, ◌&&◌, Bool, true, false, if◌then◌else◌, ℤ, pos, List, []}
use Rattle.std.specs.Prelude.{◌∷◌, ◌++◌, map, length, Option, Some, None, is_some}
use Rattle.std.specs.Option.{option_map}
use Rattle.std.specs.List.{list_all}
use Rattle.std.specs.Int.{w32, cast_unsigned, cast_signed}
use Rattle.word_arithmetic.specs.Word.{least_word}
use Rattle.module_format.specs.declared.rows.Parameter.{Parameter}
use Rattle.module_format.specs.declared.rows.ChannelRow.{ChannelRow}
use Rattle.module_format.specs.declared.rows.Direction.TheVariants.{In, Out}
use Rattle.module_format.specs.Contents.{Contents, Par, Branch}
use Rattle.module_format.specs.Contexts.{parameters_at}
use Rattle.machine_state.specs.declared.holding.End.{End}
use Rattle.machine_state.specs.declared.fault.FaultKind.{FaultKind}
use Rattle.machine_state.specs.declared.fault.FaultKind.TheVariants.{EndNotHeld, NotOwn, Undefined, JoinOrder}
use Rattle.machine_state.specs.Memory.{Memory, data_start, place_of, word_at, scheduling_word}
use Rattle.machine_state.specs.Holding.{Holding, may_write, may_read, may_write_word, may_read_word}
use Rattle.machine_state.specs.World.{Join, held}
use Rattle.machine_state.specs.Spans.{Share, less, all_pass_within, is_among_ends, differ, writes_place}
use Rattle.machine_state.specs.BranchShares.{frame_address, frame_base, share_of}
use Rattle.machine_state.specs.JoinLookups.{Found, named_from}

-- ---- a plan

-- what a word of the frame holds, where it may be read
abbrev pub word_in : Holding → Memory → ℕ → Option ℤ → Option ℕ
word_in h m base None = None
word_in h m base (Some word) =
    let place = place_of (frame_address base word) in
    if may_read_word h place then option_map (cast_unsigned w32) (word_at m place) else None

abbrev pub channel_addresses : ℕ → Par → List ℕ
channel_addresses base par = map (λ (c : ChannelRow). frame_address base c.word) par.channels

abbrev pub block_addresses : ℕ → Par → List ℕ
block_addresses base par = frame_address base par.block ∷ frame_address (frame_address base par.block) (pos 1) ∷ []

-- the words that no branch has: those of the block and the channels
abbrev pub hidden : ℕ → Par → Share
hidden base par = record {
  writes = map (λ a. record { start = pos (place_of a); size = 4 })
      (block_addresses base par ++ channel_addresses base par);
  reads = [];
  ends = [];
}

-- both ends of each channel, each once
abbrev pub with_ends : List ℕ → List End → List End
with_ends [] held = held
with_ends (a ∷ addresses) held =
    let input : End = record { address = a; direction = In } in
    let output : End = record { address = a; direction = Out } in
    with_ends addresses (if is_among_ends held input then held else held ++ input ∷ output ∷ [])

pub record Plan : Type 0 where
  pub row : ℕ
  pub par : Par
  pub base : ℕ
  pub parameters : List Parameter
  pub addresses : List (Option ℕ)
  pub started : ℕ
  pub rest : Holding
  pub members : List ℕ

-- the plan of the first start
abbrev pub first_plan : Contents → ℕ → ℕ → Holding → Memory → Found → Plan
first_plan m p workspace h memory found =
    let par = found.par in
    let base = frame_base workspace par.depth in
    let parameters = parameters_at m par.context in
    let rest = less (length memory) h (hidden base par) in
    record {
      row = found.row;
      par = par;
      base = base;
      parameters = parameters;
      addresses = map (word_in h memory base) (named_from par 0 parameters);
      started = 0;
      rest = record rest { ends = with_ends (channel_addresses base par) rest.ends };
      members = p ∷ [];
    }

-- the plan of an open join
abbrev pub later_plan : Contents → Join → Par → Plan
later_plan m join par = record {
  row = join.row;
  par = par;
  base = join.base;
  parameters = parameters_at m par.context;
  addresses = join.parameters;
  started = join.started;
  rest = join.rest;
  members = join.members;
}

-- ---- what may be wrong with a start, in the order in which it is reported

-- the words that scheduling takes below the workspace of a new process
abbrev pub scheduling_addresses : ℕ → List ℕ
scheduling_addresses workspace = map (scheduling_word workspace) (0 ∷ 1 ∷ 2 ∷ [])

abbrev pub scheduling_places : ℕ → List ℕ
scheduling_places workspace = map place_of (scheduling_addresses workspace)

-- the bytes of a word pass a test
abbrev pub word_passes : (ℕ → Bool) → ℕ → Bool
word_passes test place = test place && test (place + 1) && test (place + 2) && test (place + 3)

abbrev pub share_by : Plan → Branch → Share
share_by plan b = share_of plan.base plan.parameters plan.addresses b

abbrev pub ends_are_there : Plan → Branch → Bool
ends_are_there plan b =
    let wanted = (share_by plan b).ends in
    list_all (is_among_ends plan.rest.ends) wanted && differ wanted

-- the words that scheduling takes of the new process are held and are its own to write, and the share is there
abbrev pub share_is_there : ℕ → Plan → ℕ → Branch → Bool
share_is_there n plan workspace b =
    let share = share_by plan b in
    list_all (word_passes (λ place. may_write plan.rest place && writes_place share place))
    (scheduling_places workspace)
    && list_all (all_pass_within n (may_write plan.rest)) share.writes
    && list_all (all_pass_within n (may_read plan.rest)) share.reads

-- at the first start: the words of the block, the channels and the named parameters
abbrev pub words_are_held : Holding → Plan → Bool
words_are_held h plan =
    list_all (λ a. may_write_word h (place_of a))
    (block_addresses plan.base plan.par ++ channel_addresses plan.base plan.par)
    && list_all (λ named. elim named [
      | None ↦ true
      | Some word ↦ may_read_word h
          (place_of (frame_address plan.base word))
    ])
    (named_from plan.par 0 plan.parameters)

abbrev pub word_is_defined : Memory → ℕ → Bool
word_is_defined memory a = is_some (word_at memory (place_of a))

abbrev pub words_are_defined : Memory → Plan → Bool
words_are_defined memory plan =
    list_all (word_is_defined memory) (block_addresses plan.base plan.par ++ channel_addresses plan.base plan.par)
    && list_all (λ named. elim named [
      | None ↦ true
      | Some word ↦ word_is_defined memory
          (frame_address plan.base word)
    ])
    (named_from plan.par 0 plan.parameters)

abbrev pub holds_word : Memory → ℕ → ℤ → Bool
holds_word memory a v =
    elim (word_at memory (place_of a)) [ None ↦ false | Some u ↦ cast_unsigned w32 u == cast_unsigned w32 v ]

-- the block has the address of the successor and one more than the number of branches, and the channels are empty
abbrev pub is_prepared : Contents → Memory → Plan → Bool
is_prepared m memory plan =
    let block = frame_address plan.base plan.par.block in
    let code_start = data_start + 4 * m.data_words in
    holds_word memory block (cast_signed w32 ((code_start + plan.par.successor) % 2 ^ 32))
    && holds_word memory (frame_address block (pos 1)) (pos (length plan.par.branches + 1))
    && list_all (λ a. holds_word memory a least_word) (channel_addresses plan.base plan.par)

-- the branch is the next, and its workspace is where the row says
abbrev pub is_next : Plan → Found → ℕ → Bool
is_next plan found workspace =
    (found.number == plan.started) && (workspace == frame_address plan.base found.branch.workspace)

-- the first of these that fails
abbrev pub first_fault : List (Bool × FaultKind) → Option FaultKind
first_fault [] = None
first_fault (test ∷ tests) = if test.0 then first_fault tests else Some test.1

abbrev pub no_row_faults : Holding → ℕ → List (Bool × FaultKind)
no_row_faults h workspace =
    (list_all (word_passes (may_write h)) (scheduling_places workspace), NotOwn) ∷ (false, JoinOrder) ∷ []

abbrev pub later_faults : ℕ → Plan → Found → ℕ → List (Bool × FaultKind)
later_faults n plan found workspace =
    (ends_are_there plan found.branch, EndNotHeld)
    ∷ (share_is_there n plan workspace found.branch, NotOwn)
    ∷ (is_next plan found workspace, JoinOrder) ∷ []

abbrev pub first_faults : Contents → Memory → Holding → Plan → Found → ℕ → List (Bool × FaultKind)
first_faults m memory h plan found workspace =
    (ends_are_there plan found.branch, EndNotHeld)
    ∷ (share_is_there (length memory) plan workspace found.branch && words_are_held h plan, NotOwn)
    ∷ (words_are_defined memory plan, Undefined)
    ∷ (is_next plan found workspace && is_prepared m memory plan, JoinOrder) ∷ []
