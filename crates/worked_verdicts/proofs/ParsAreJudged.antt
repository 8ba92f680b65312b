-- Small modules with PARs, and what they cannot do without, by computation.
use Rattle.std.proofs.Common.{refl}
use Rattle.module_format.specs.Contexts.{context_at, parameters_at}
use Rattle.machine_state.specs.Instructions.{op_of, instruction_of}
use Rattle.states.specs.Below.{below}
use Rattle.states.specs.Spans.{after_change}
use Rattle.states.specs.State.{written}
use Rattle.rulings.specs.Rulings.{outside_alternation, outside_starts, uses, wants, writes_word, schedules, pays}
use Rattle.rulings.specs.Rulings.{goes_on, settles, in_bounds}
use Rattle.rulings.specs.Pointers.{near, pointer_of, constant_of, reads_bytes, writes_bytes, byte_read, leaves_words}
use Rattle.rulings.specs.Pointers.{takes_any}
use Rattle.rulings.specs.Channels.{channel_of, names_channel}
use Rattle.rulings.specs.Filling.{become_numbers, filled}
use Rattle.rulings.specs.Reach.{may_read_bytes, may_write_bytes}
use Rattle.local_rules.specs.LocalRules.{local_operation_rule, local_rule}
use Rattle.local_rules.specs.MemoryRules.{near_fact, word_fact, shifted, place_fact}
use Rattle.local_rules.specs.WordRules.{becomes, in_frame}
use Rattle.message_rules.specs.MessageRules.{over_channel, received, takes, receives, receives_some, in_rule, gives}
use Rattle.message_rules.specs.MessageRules.{sends, sends_some, out_rule, message_rule}
use Rattle.par_rules.specs.ParRules.{pays_labels, with_label, starts_branch, startp_rule, endp_rule}
use Rattle.facts.specs.Rules.{operation_rule, instruction_rule, rule_of, rule}
use Rattle.verifier.specs.Judge.{judged_at, judge}
use Rattle.worked_verdicts.specs.SmallPars.{PairIsJudged, SendingIsJudged}

pub pair_is_judged : PairIsJudged
unfolding judge judged_at below written context_at parameters_at outside_alternation outside_starts uses wants
    writes_word schedules pays goes_on settles in_bounds near constant_of local_operation_rule local_rule near_fact
    word_fact shifted place_fact becomes in_frame pays_labels with_label starts_branch startp_rule endp_rule
    operation_rule instruction_rule rule_of rule instruction_of op_of
pair_is_judged = record {
  accepted = refl;
  told = refl;
  unpaid = refl;
  dear_branch = refl;
  dear_successor = refl;
  cheap_branch = refl;
  no_scheduling_word = refl;
  block_is_given = refl;
  read_where_it_is_written = refl;
  written_by_both = refl;
  other_successor = refl;
  block_is_known = refl;
  branch_leaves_another = refl;
}

pub sending_is_judged : SendingIsJudged
unfolding judge judged_at below written context_at parameters_at outside_alternation outside_starts uses wants
    writes_word schedules pays goes_on settles in_bounds near constant_of local_operation_rule local_rule near_fact
    word_fact shifted place_fact becomes in_frame pays_labels with_label starts_branch startp_rule endp_rule
    operation_rule instruction_rule rule_of rule instruction_of op_of pointer_of reads_bytes writes_bytes byte_read
    leaves_words takes_any after_change channel_of names_channel become_numbers filled may_read_bytes
    may_write_bytes over_channel received takes receives receives_some in_rule gives sends sends_some out_rule
    message_rule
sending_is_judged = record {
  accepted = refl;
  number = refl;
  another = refl;
  given_twice = refl;
  channel_is_given = refl;
}
