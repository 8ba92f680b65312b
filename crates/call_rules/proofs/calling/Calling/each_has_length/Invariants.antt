use Rattle.std.proofs.Common.{◌≡◌, ℕ, ◌<◌, true}
use Rattle.rulings.specs.Channels.{has_length_further}
use Rattle.call_rules.proofs.calling.Calling.each_has_length.Given as goal

abbrev pub invariant-loop-n : goal.invariant-loop-n
invariant-loop-n l = (i : ℕ) → i < l.n
    → has_length_further l.self.place.module.now l.self.state.now.context l.first l.length i ≡ true
