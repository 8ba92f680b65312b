-- Small modules, run to their end by computation.
use Rattle.std.proofs.Common.{refl}
use Rattle.word_arithmetic.specs.Binary.{computed}
use Rattle.machine_state.specs.Instructions.{op_of, instruction_of}
use Rattle.machine_state.specs.LocalStep.{local_step, step_of, instruction_step, operation_step}
use Rattle.machine_state.specs.LocalStep.{outside_alternation, outside_starts, while_enabling, while_disabling, counts}
use Rattle.machine_state.specs.LocalStep.{holds, channel, exchanges}
use Rattle.machine_state.specs.LocalStep.{uses, reads, writes, reads_byte, writes_byte, schedules, computes, goes_on}
use Rattle.machine_state.specs.LocalStep.{leads_to, lands_at, followed_by_code, aligned, copied}
use Rattle.module_format.specs.Contexts.{parameters_at, context_at}
use Rattle.machine_state.specs.Spans.{all_places, runs, less}
use Rattle.machine_state.specs.Memory.{place_of, local_address, word_at, with_word}
use Rattle.machine_state.specs.Holding.{may_write_word, may_read_word}
use Rattle.machine_state.specs.Moves.{dispatch}
use Rattle.machine_state.specs.Happens.{turn}
use Rattle.machine_state.specs.SmallModules.{FirstEnds, JumpEnds, SlicedJumpEnds, CallEnds, LoopEnds, PairEnds}
use Rattle.machine_state.specs.SmallModules.{PairFaults, EchoWaits, ChannelEnds, ChoiceWaits}

-- each module ends or waits with no fault, or with the fault that is stated
pub small_modules_end : FirstEnds × JumpEnds × SlicedJumpEnds × CallEnds × LoopEnds × PairEnds × PairFaults
    × EchoWaits × ChannelEnds × ChoiceWaits
unfolding turn local_step step_of instruction_of op_of instruction_step operation_step computes computed
    outside_alternation outside_starts while_enabling while_disabling uses reads writes reads_byte writes_byte schedules
    goes_on leads_to lands_at followed_by_code holds aligned channel counts exchanges copied all_places runs less
    parameters_at context_at place_of local_address word_at with_word may_write_word may_read_word dispatch
small_modules_end = (
  record { no_fault = refl; count = refl; finished = refl; nobody_runs = refl },
  record { no_fault = refl; count = refl; finished = refl; nobody_runs = refl },
  record { no_fault = refl; count = refl; finished = refl; nobody_runs = refl },
  record { no_fault = refl; count = refl; finished = refl; nobody_runs = refl },
  record { no_fault = refl; count = refl; finished = refl; nobody_runs = refl },
  (
    record { no_fault = refl; count = refl; finished = refl; nobody_runs = refl },
    record
        { no_fault = refl; count = refl; finished = refl; nobody_runs = refl },
  ),
  (refl, refl),
  (
    record { no_fault = refl; count = refl; nobody_runs = refl },
    record
        { no_fault = refl; count = refl; nobody_runs = refl },
    record
        { no_fault = refl; count = refl; finished = refl; nobody_runs = refl },
  ),
  (
    record { no_fault = refl; count = refl; finished = refl; nobody_runs = refl },
    record
        { no_fault = refl; count = refl; finished = refl; nobody_runs = refl },
    refl,
    refl,
  ),
  (
    record { no_fault = refl; count = refl; nobody_runs = refl },
    record
        { no_fault = refl; count = refl; finished = refl; nobody_runs = refl },
    record
        { no_fault = refl; count = refl; nobody_runs = refl },
    refl,
  ),
)

pub ruleset small_modules = (small_modules_end)
