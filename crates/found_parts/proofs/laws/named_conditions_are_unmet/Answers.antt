use Rattle.found_parts.proofs.Unmet.{named_is_unmet}
use Rattle.found_parts.proofs.laws.named_conditions_are_unmet.Goals as goal

pub returns : goal.returns
returns c = named_is_unmet
