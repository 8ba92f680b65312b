-- The rules of small PARs, by computation.
use Rattle.std.proofs.Common.{refl}
use Rattle.module_format.specs.Contexts.{context_at, parameters_at}
use Rattle.states.specs.State.{written}
use Rattle.rulings.specs.Rulings.{wants, uses, pays, outside_alternation}
use Rattle.par_rules.specs.ParRules.{pays_labels, with_label, starts_branch, startp_rule, endp_rule}
use Rattle.par_rules.specs.Pair.{PairIsAccepted, PairIsRefused}
use Rattle.par_rules.specs.PairOverChannel.{SendingIsJudged}

pub pair_is_accepted : PairIsAccepted
unfolding context_at parameters_at written wants uses pays outside_alternation pays_labels with_label starts_branch
    startp_rule endp_rule
pair_is_accepted = record {
  first = refl;
  second = refl;
  opener = refl;
  first_branch = refl;
  second_branch = refl;
  telling_opener = refl;
  telling_first = refl;
  telling_second = refl;
}

pub pair_is_refused : PairIsRefused
unfolding context_at parameters_at written wants uses pays outside_alternation pays_labels with_label starts_branch
    startp_rule endp_rule
pair_is_refused = record {
  unpaid = refl;
  branch_costs_more = refl;
  successor_costs_more = refl;
  branch_is_unpaid = refl;
  no_branch_there = refl;
  scheduling_word_not_given = refl;
  block_is_given = refl;
  read_where_it_is_written = refl;
  written_by_both = refl;
  other_successor = refl;
  scheduling_word_is_known = refl;
  block_is_known = refl;
  branch_leaves_another = refl;
}

pub sending_is_judged : SendingIsJudged
unfolding context_at parameters_at written wants uses pays outside_alternation pays_labels with_label starts_branch
    startp_rule endp_rule
sending_is_judged = record {
  opener = refl;
  receiver = refl;
  number = refl;
  number_opener = refl;
  another = refl;
  given_twice = refl;
  channel_is_given = refl;
}
