use Rattle.std.proofs.lemmas.Int.{to_z-of_z}
use Rattle.std.specs.Int.{w32}
use Rattle.states.specs.Views.{state_of}
use Rattle.rulings.specs.Places.{site_of}
use Rattle.rulings.proofs.Steps.{advances-by}
use Rattle.local_rules.proofs.LocalSteps.{load_constant-done}
use Rattle.local_rules.proofs.word_rules.load_constant.Goals as goal

pub returns-clause-ruling : goal.returns-clause-ruling
returns-clause-ruling c =
    advances-by c.goes_on.result (state_of c.goes_on.new.state) _ _
    (load_constant-done (site_of c.args.place.now) (state_of c.args.state.now)
    (state_of c.push.new.self) c.args.value _ c.of.result c.of.ensures
    (to_z-of_z w32 c.args.value c.ranges.value) c.push.ensures.state)
    c.goes_on.ensures.ruling
