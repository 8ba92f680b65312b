use Rattle.std.proofs.Common.{◌≡◌, length}
use Rattle.std.specs.Prelude.{is_some}
use Rattle.occam_layout.specs.Characters.{decoded}
use Rattle.occam_layout.proofs.text.Text.new.Given as goal

abbrev pub invariant-loop-rest : goal.invariant-loop-rest
invariant-loop-rest l = is_some (decoded 0 l.rest) ≡ is_some (decoded 0 l.spelling)

abbrev pub decreases-loop-rest : goal.decreases-loop-rest
decreases-loop-rest l = length l.rest
