use Rattle.placed_code.proofs.ItemsFetched as proof
use Rattle.placed_code.proofs.laws.items_are_fetched.Goals as goal

pub returns : goal.returns
returns c = proof.items_are_fetched
