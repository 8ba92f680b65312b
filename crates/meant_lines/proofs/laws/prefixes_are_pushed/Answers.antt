use Rattle.meant_lines.proofs.Prefixes.{prefixes_push}
use Rattle.meant_lines.proofs.laws.prefixes_are_pushed.Goals as goal

pub returns : goal.returns
returns c = record { prefixes = prefixes_push }
