-- The verdicts on small modules with PARs, and on their variations.
use Rattle.std.specs.Prelude.{◌≡◌, pos, negsuc, [], ◌∷◌, Ok}
use Rattle.word_arithmetic.specs.Word.{least_word, greatest_word}
use Rattle.module_format.specs.declared.fact.Fact.TheVariants.{Number, CodeAddress}
use Rattle.module_format.specs.declared.rows.Direction.TheVariants.{Out}
use Rattle.states.specs.declared.rule.Rule.TheVariants as rules
use Rattle.par_rules.specs.Pair.{pair, well, well_but_for, telling, first_label, last_label, words, exactly, entry}
use Rattle.par_rules.specs.PairOverChannel as channel
use Rattle.par_rules.specs.PairOverChannel.{sending}
use Rattle.verifier.specs.Judge.{verdict, refused}

-- Two branches that write a word each are accepted, also if the label after the PAR says what they leave. They are
-- refused if the budget or a label's number does not cover what is paid, if scheduling takes a word that the branch
-- does not have, if a branch has a word of the block, if both write a word or one reads what the other writes, if the
-- block leads elsewhere, and if the label after the PAR says what is not so.
pub record PairIsJudged : Type 0 where
  pub accepted : verdict (pair well) ≡ Ok tt
  pub told : verdict (pair (telling (pos 1) (pos 2))) ≡ Ok tt
  pub unpaid : verdict (pair (record well { budget = 26 })) ≡ refused rules.Budget 16
  pub dear_branch : verdict (pair (well_but_for (first_label 5 []) (last_label 2 []))) ≡ refused rules.Budget 16
  pub dear_successor : verdict (pair (well_but_for (first_label 4 []) (last_label 3 []))) ≡ refused rules.Budget 16
  pub cheap_branch : verdict (pair (well_but_for (first_label 3 []) (last_label 2 []))) ≡ refused rules.Budget 20
  pub no_scheduling_word :
      verdict (pair (record well { first_writes = words (negsuc 7) (negsuc 5) ∷ words (pos 2) (pos 3) ∷ [] }))
      ≡ refused rules.OwnWord 10
  pub block_is_given :
      verdict
      (pair (record well {
        first_writes = words (negsuc 8) (negsuc 5) ∷ words (pos 0) (pos 1) ∷ words (pos 2) (pos 3) ∷ [];
      }))
      ≡ refused rules.Par 10
  pub read_where_it_is_written :
      verdict (pair (record well { second_reads = words (pos 2) (pos 3) ∷ [] })) ≡ refused rules.RegionsMeet 14
  pub written_by_both :
      verdict (pair (record well { second_writes = words (negsuc 11) (negsuc 8) ∷ words (pos 2) (pos 3) ∷ [] }))
      ≡ refused rules.RegionsMeet 14
  pub other_successor : verdict (pair (record well { successor = 21 })) ≡ refused rules.Par 10
  pub block_is_known :
      verdict (pair (well_but_for (first_label 4 []) (last_label 2 (entry (pos 0) (CodeAddress 25) ∷ []))))
      ≡ refused rules.Par 10
  pub branch_leaves_another : verdict (pair (telling (pos 0) (pos 2))) ≡ refused rules.Label 20

-- A branch that sends a word to the other one over a channel of the PAR: accepted, also if the label after the PAR says
-- that a number was received, but not that it is 10. An end is given to one branch, and the channel's word to none.
pub record SendingIsJudged : Type 0 where
  pub accepted : verdict (sending channel.well) ≡ Ok tt
  pub number : verdict (sending (channel.telling (Number least_word greatest_word))) ≡ Ok tt
  pub another : verdict (sending (channel.telling (exactly (pos 10)))) ≡ refused rules.Label 33
  pub given_twice : verdict (sending (record channel.well { direction = Out })) ≡ refused rules.Channel 17
  pub channel_is_given :
      verdict
      (sending (record channel.well {
        writes = words (negsuc 8) (negsuc 5) ∷ words (pos 2) (pos 3) ∷ words (pos 4) (pos 5) ∷ [];
      }))
      ≡ refused rules.Par 13
