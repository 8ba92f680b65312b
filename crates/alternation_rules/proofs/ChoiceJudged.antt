-- The rules of a small alternation, by computation.
use Rattle.std.proofs.Common.{refl}
use Rattle.states.specs.Below.{below}
use Rattle.module_format.specs.Contexts.{context_at}
use Rattle.states.specs.State.{written}
use Rattle.rulings.specs.Rulings.{wants, settles, uses, writes_word, schedules, pays, goes_on}
use Rattle.rulings.specs.Channels.{channel_of, names_channel}
use Rattle.alternation_rules.specs.Guards.{name_of, guard_channel, distance_of, guard_at}
use Rattle.alternation_rules.specs.AlternationRules.{while_plain, while_enabling, while_disabling}
use Rattle.alternation_rules.specs.AlternationRules.{keeps_selection, alt_rule, enables, enbc_rule, altwt_rule}
use Rattle.alternation_rules.specs.AlternationRules.{disables}
use Rattle.alternation_rules.specs.AlternationRules.{disc_rule, leaves_by_exits, altend_rule}
use Rattle.alternation_rules.specs.Choice.{ChoiceIsJudged}

pub choice_is_judged : ChoiceIsJudged
unfolding below context_at written wants settles uses writes_word schedules pays goes_on channel_of name_of
    guard_channel distance_of guard_at while_plain while_enabling while_disabling names_channel keeps_selection alt_rule
    enables enbc_rule altwt_rule disables disc_rule leaves_by_exits altend_rule
choice_is_judged = record {
  goes_on = refl;
  unheld = refl;
  other_name = refl;
  no_label = refl;
  unpaid = refl;
  unpaid_label = refl;
}
