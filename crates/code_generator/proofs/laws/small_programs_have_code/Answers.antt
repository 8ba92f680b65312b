use Rattle.code_generator.proofs.WorkedCode.{pieces_follow}
use Rattle.code_generator.proofs.laws.small_programs_have_code.Goals as goal

pub returns-clause-pieces : goal.returns-clause-pieces
returns-clause-pieces c = pieces_follow
