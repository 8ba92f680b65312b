use Rattle.code_pieces.specs.Laying.{apart}
use Rattle.code_pieces.proofs.ModuleSays.{module_says}
use Rattle.code_pieces.proofs.laws.modules_say_their_pieces.Goals as goal

pub returns : goal.returns
returns c = λ ps labels links bytes m. module_says (apart ps) labels links bytes m.draft m.laid m.assembled
