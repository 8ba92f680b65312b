use Rattle.std.proofs.Common.{◌≡◌, ℕ, ◌<◌, true}
use Rattle.call_rules.specs.Callings.{is_apart_at}
use Rattle.call_rules.proofs.lent.all_are_apart.Given as goal

abbrev pub invariant-loop-number : goal.invariant-loop-number
invariant-loop-number l = (i : ℕ) → i < l.number → is_apart_at l.all i ≡ true
