use Rattle.meant_code.proofs.NumbersStay as proof
use Rattle.meant_code.proofs.laws.numbers_stay.Goals as goal

pub returns : goal.returns
returns c = proof.numbers_stay
