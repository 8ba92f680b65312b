-- A small module that takes a byte and sends it back, and what it cannot do without, by computation.
use Rattle.std.proofs.Common.{refl}
use Rattle.module_format.specs.Contexts.{context_at}
use Rattle.machine_state.specs.Instructions.{op_of, instruction_of}
use Rattle.states.specs.State.{written}
use Rattle.states.specs.Spans.{after_change}
use Rattle.rulings.specs.Rulings.{outside_alternation, outside_starts, uses, writes_word, schedules, pays, goes_on}
use Rattle.rulings.specs.Rulings.{wants}
use Rattle.rulings.specs.Rulings.{settles, in_bounds}
use Rattle.rulings.specs.Pointers.{near, pointer_of, constant_of, reads_bytes, byte_read, writes_bytes, takes_any}
use Rattle.rulings.specs.Pointers.{leaves_words}
use Rattle.rulings.specs.Reach.{may_read_bytes, may_write_bytes}
use Rattle.rulings.specs.Filling.{become_numbers, filled}
use Rattle.rulings.specs.Channels.{channel_of, names_channel}
use Rattle.local_rules.specs.LocalRules.{local_operation_rule, local_rule}
use Rattle.local_rules.specs.MemoryRules.{near_fact, word_fact, shifted, place_fact}
use Rattle.local_rules.specs.WordRules.{becomes, in_frame}
use Rattle.message_rules.specs.MessageRules.{over_channel, received, takes, receives, receives_some, in_rule}
use Rattle.message_rules.specs.MessageRules.{gives, sends, sends_some, out_rule, message_rule}
use Rattle.facts.specs.Rules.{operation_rule, instruction_rule, rule_of, rule}
use Rattle.verifier.specs.Judge.{judged_at, judge}
use Rattle.worked_verdicts.specs.SmallMessages.{EchoIsJudged}

pub echo_is_judged : EchoIsJudged
unfolding judge judged_at written after_change context_at outside_alternation outside_starts uses writes_word schedules
    pays goes_on wants settles in_bounds near pointer_of constant_of reads_bytes byte_read writes_bytes takes_any
    leaves_words may_read_bytes may_write_bytes become_numbers filled channel_of local_operation_rule local_rule
    near_fact word_fact shifted place_fact becomes in_frame names_channel over_channel received takes receives
    receives_some in_rule gives sends sends_some out_rule message_rule operation_rule instruction_rule rule_of rule
    instruction_of op_of
echo_is_judged = record {
  accepted = refl;
  unpaid = refl;
  long_messages = refl;
  no_output = refl;
  no_number = refl;
}
