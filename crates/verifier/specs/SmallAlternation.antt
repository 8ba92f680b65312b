-- The verdict on a small module that alternates between two links, and on its variations.
use Rattle.std.specs.Prelude.{◌≡◌, Ok, [], ◌∷◌}
use Rattle.states.specs.declared.rule.Rule.TheVariants as rules
use Rattle.alternation_rules.specs.Choice.{choice, well, well_but_for, bare_label}
use Rattle.verifier.specs.Judge.{verdict, refused}

-- It is accepted. It is refused if the budget or a label's number does not cover what is paid, if the second link has
-- no messages, if a guard is disabled by another name than it has, and if a label is missing.
pub record AlternationIsJudged : Type 0 where
  pub accepted : verdict (choice well) ≡ Ok tt
  pub dear : verdict (choice (record well { budget = 33 })) ≡ refused rules.Budget 30
  pub unheld : verdict (choice (record well { second = 0 })) ≡ refused rules.Channel 12
  pub other_name : verdict (choice (record well { guard = 0 })) ≡ refused rules.Alternation 28
  pub no_label : verdict (choice (well_but_for (bare_label 34 2 ∷ []))) ≡ refused rules.Alternation 30
  pub dear_label : verdict (choice (well_but_for (bare_label 32 3 ∷ bare_label 34 2 ∷ []))) ≡ refused rules.Budget 30
  pub cheap_label : verdict (choice (well_but_for (bare_label 32 1 ∷ bare_label 34 2 ∷ []))) ≡ refused rules.Budget 32
