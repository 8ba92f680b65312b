use Rattle.std.proofs.Common.{length, Some}
use Rattle.states.specs.State.{root_state}
use Rattle.explanations.specs.Explaining.{root_setting}
use Rattle.explanations.proofs.Endings.{tells}
use Rattle.explanations.proofs.laws.explanations_tell_the_verdict.Goals as goal

pub returns : goal.returns
returns c = λ m. tells (length m.code) m 0 (Some (root_state m)) root_setting
