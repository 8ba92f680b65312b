use Rattle.module_builder.proofs.Places.{spelled_at}
use Rattle.module_builder.proofs.laws.items_are_in_their_places.Goals as goal

pub returns : goal.returns
returns c = spelled_at
