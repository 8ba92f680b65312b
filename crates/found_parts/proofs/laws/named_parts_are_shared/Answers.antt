use Rattle.found_parts.proofs.SharedParts.{named_is_shared}
use Rattle.found_parts.proofs.laws.named_parts_are_shared.Goals as goal

pub returns : goal.returns
returns c = named_is_shared
