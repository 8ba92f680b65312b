use Rattle.std.proofs.Common.{◌≡◌}
use Rattle.states.proofs.claims.Claims.claim.Given as goal

abbrev pub invariant-loop : goal.invariant-loop
invariant-loop l = l.self.«module».now ≡ l.fn.self.«module».now
