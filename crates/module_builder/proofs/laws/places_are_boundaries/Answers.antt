use Rattle.module_builder.proofs.Places.{boundary}
use Rattle.module_builder.proofs.laws.places_are_boundaries.Goals as goal

pub returns : goal.returns
returns c = boundary
