use Rattle.std.proofs.Common.{◌≡◌, ◌≤◌}
use Rattle.verifier.proofs.Passing.{NoneFrom}
use Rattle.verifier.proofs.walk.start_within.Given as goal

abbrev pub invariant-loop-offset : goal.invariant-loop-offset
invariant-loop-offset l = record {
  end : l.offset-end ≡ l.end;
  from : l.from ≤ l.offset;
  inside : l.offset ≤ l.end;
  none : NoneFrom l.«module» l.from l.offset;
}
