use Rattle.std.proofs.Common.{◌≡◌, ◌≤◌, ◌-◌, length}
use Rattle.verifier.specs.Walking.{OnTheWay, IsWalk, walked, before_of}
use Rattle.verifier.proofs.pass.judge_code.Given as goal

abbrev pub invariant-code : goal.invariant-code
invariant-code l = record {
  is : IsWalk l.walk;
  same : walked l.walk ≡ l.«module»;
  inside : l.walk.at ≤ length l.«module».code;
  on_the_way : OnTheWay l.«module» l.walk.at (before_of l.walk);
}

abbrev pub decreases-code : goal.decreases-code
decreases-code l = length l.«module».code - l.walk.at
