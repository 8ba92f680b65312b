use Rattle.meant_lines.proofs.WholeChains.{terms_push}
use Rattle.meant_lines.proofs.laws.whole_chains_are_pushed.Goals as goal

pub returns : goal.returns
returns c = record { terms = terms_push }
