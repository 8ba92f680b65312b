use Rattle.std.proofs.Common.{◌≡◌, ℤ, ◌≤ℤ◌, ◌<ℤ◌, true}
use Rattle.states.specs.declared.known.WordFact.TheVariants.{Alone}
use Rattle.states.specs.Below.{says}
use Rattle.states.specs.Frames.{frame_facts}
use Rattle.states.proofs.Comparisons.{ahead}
use Rattle.states.proofs.frame.Frame.past_mixed.Given as goal

abbrev pub invariant-loop-next : goal.invariant-loop-next
invariant-loop-next l = record {
  low : l.word ≤ℤ l.next;
  high : l.next ≤ℤ l.end;
  each : (k : ℤ) → l.word ≤ℤ k → k <ℤ l.next → says (frame_facts l.self k) (Alone l.wanted) ≡ true;
}

abbrev pub decreases-loop-next : goal.decreases-loop-next
decreases-loop-next l = ahead l.next
