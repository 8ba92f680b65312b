-- The small module that sends on the byte that it receives, run by computation.
use Rattle.std.proofs.Common.{refl}
use Rattle.word_arithmetic.specs.Binary.{computed}
use Rattle.machine_state.specs.Instructions.{op_of, instruction_of}
use Rattle.machine_state.specs.LocalStep.{local_step, step_of, instruction_step, operation_step}
use Rattle.machine_state.specs.LocalStep.{outside_alternation, outside_starts, while_enabling, while_disabling, counts}
use Rattle.machine_state.specs.LocalStep.{holds, channel, exchanges}
use Rattle.machine_state.specs.LocalStep.{uses, reads, writes, reads_byte, writes_byte, schedules, computes, goes_on}
use Rattle.machine_state.specs.LocalStep.{leads_to, lands_at, followed_by_code, aligned, copied}
use Rattle.module_format.specs.Contexts.{parameters_at, context_at}
use Rattle.machine_state.specs.Spans.{all_places, runs, less}
use Rattle.machine_state.specs.Memory.{place_of, local_address, word_at, with_word}
use Rattle.machine_state.specs.Holding.{may_write_word, may_read_word}
use Rattle.machine_state.specs.Moves.{dispatch}
use Rattle.machine_state.specs.Happens.{turn}
use Rattle.link_runs.specs.FirstInFirstOut.{next}
use Rattle.link_runs.specs.EchoRuns.{EchoRuns}

pub echo_law : EchoRuns
unfolding next turn local_step step_of instruction_of op_of instruction_step operation_step computes computed
    outside_alternation outside_starts while_enabling while_disabling uses reads writes reads_byte writes_byte schedules
    goes_on leads_to lands_at followed_by_code holds aligned channel counts exchanges copied all_places runs less
    parameters_at context_at place_of local_address word_at with_word may_write_word may_read_word dispatch
echo_law = record {
  one = record { over = refl; no_fault = refl; count = refl; finished = refl; left = refl; written = refl };
  two = record { over = refl; no_fault = refl; count = refl; finished = refl; left = refl; written = refl };
  none = record { over = refl; no_fault = refl; count = refl; finished = refl; left = refl; written = refl };
  nobody = record { over = refl; no_fault = refl; count = refl; finished = refl; left = refl; written = refl };
}

pub ruleset echo_rules = (echo_law)
