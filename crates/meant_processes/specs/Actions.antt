-- The code of lines behaves.
use Rattle.std.specs.Prelude.{◌≡◌}
use Rattle.usage_checks.specs.ItemRules.{BreaksNoRule}
use Rattle.meant_processes.specs.Places.{Program}
use Rattle.meant_processes.specs.Premises.{LinesBehave}

-- In the root the code of each line that is reached behaves, if no rule is broken.
abbrev pub ReachedLinesBehave : Type 0
ReachedLinesBehave = (p : Program) → BreaksNoRule p.items → p.code.footing.depth ≡ 0 → LinesBehave p
