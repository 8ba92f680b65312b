use Rattle.std.proofs.Common.{◌≡◌, ℕ, ◌<◌, true}
use Rattle.rulings.specs.Channels.{has_end_further}
use Rattle.call_rules.proofs.calling.Calling.has_each_end.Given as goal

abbrev pub invariant-loop-n : goal.invariant-loop-n
invariant-loop-n l = (i : ℕ) → i < l.n
    → has_end_further l.self.place.module.now l.self.state.now.context l.first l.direction i ≡ true
