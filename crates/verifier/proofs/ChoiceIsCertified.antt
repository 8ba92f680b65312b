-- A module that alternates between two links is certified by computation, and what it cannot do without.
use Rattle.std.proofs.Common.{refl}
use Rattle.module_format.specs.Contexts.{context_at}
use Rattle.machine_state.specs.Instructions.{op_of, instruction_of}
use Rattle.states.specs.Below.{below}
use Rattle.states.specs.State.{written}
use Rattle.rulings.specs.Rulings.{outside_alternation, outside_starts, uses, writes_word, schedules, pays, goes_on}
use Rattle.rulings.specs.Rulings.{wants}
use Rattle.rulings.specs.Rulings.{settles, in_bounds}
use Rattle.rulings.specs.Pointers.{near}
use Rattle.rulings.specs.Channels.{channel_of, names_channel}
use Rattle.local_rules.specs.LocalRules.{local_operation_rule, local_rule}
use Rattle.local_rules.specs.MemoryRules.{near_fact, word_fact, shifted, place_fact}
use Rattle.local_rules.specs.WordRules.{becomes, in_frame}
use Rattle.alternation_rules.specs.Guards.{name_of, guard_channel, distance_of, guard_at}
use Rattle.alternation_rules.specs.AlternationRules.{while_plain, while_enabling, while_disabling}
use Rattle.alternation_rules.specs.AlternationRules.{keeps_selection, alt_rule, enables, enbc_rule, altwt_rule}
use Rattle.alternation_rules.specs.AlternationRules.{disables, disc_rule, leaves_by_exits, altend_rule}
use Rattle.alternation_rules.specs.AlternationRules.{alternation_rule}
use Rattle.facts.specs.Rules.{operation_rule, instruction_rule, rule_of, rule}
use Rattle.verifier.specs.Judge.{judged_at, judge}
use Rattle.verifier.specs.SmallAlternation.{AlternationIsJudged}

pub alternation_is_judged : AlternationIsJudged
unfolding judge judged_at below written context_at outside_alternation outside_starts uses writes_word schedules pays
    goes_on wants settles in_bounds near channel_of local_operation_rule local_rule near_fact word_fact shifted
    place_fact becomes in_frame name_of guard_channel distance_of guard_at while_plain while_enabling while_disabling
    names_channel keeps_selection alt_rule enables enbc_rule altwt_rule disables disc_rule leaves_by_exits altend_rule
    alternation_rule operation_rule instruction_rule rule_of rule instruction_of op_of
alternation_is_judged = record {
  accepted = refl;
  dear = refl;
  unheld = refl;
  other_name = refl;
  no_label = refl;
  dear_label = refl;
  cheap_label = refl;
}
