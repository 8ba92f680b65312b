use Rattle.std.proofs.Common.{◌≡◌, ◌≤◌, ◌-◌, length}
use Rattle.std.specs.Prelude.{string_bytes}
use Rattle.verifier.specs.Walking.{OnTheWay, IsWalk, walked, before_of}
use Rattle.explanations.specs.Explaining.{Explains}
use Rattle.explanations.proofs.explaining.tell.Given as goal

abbrev pub invariant-loop-arrival : goal.invariant-loop-arrival
invariant-loop-arrival l = record {
  is : IsWalk l.walk;
  same : walked l.walk ≡ l.«module»;
  inside : l.walk.at ≤ length l.«module».code;
  on_the_way : OnTheWay l.«module» l.walk.at (before_of l.walk);
  explains : Explains l.«module» (string_bytes l.text) l.walk.at (before_of l.walk) l.setting;
}

abbrev pub decreases-loop-arrival : goal.decreases-loop-arrival
decreases-loop-arrival l = length l.«module».code - l.walk.at
