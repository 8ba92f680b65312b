use Rattle.std.proofs.Common.{◌≡◌, ℤ, ◌≤ℤ◌, ◌<ℤ◌, true}
use Rattle.states.specs.declared.known.WordFact.TheVariants.{Alone}
use Rattle.states.specs.Below.{says}
use Rattle.states.specs.Frames.{frame_facts}
use Rattle.states.proofs.Comparisons.{ahead}
use Rattle.states.proofs.frame.Frame.runs_say.Given as goal

abbrev pub invariant-loop-word : goal.invariant-loop-word
invariant-loop-word l = (k : ℤ) → l.first ≤ℤ k → k <ℤ l.word
    → says (frame_facts l.self k) (Alone l.wanted) ≡ true

abbrev pub decreases-loop-word : goal.decreases-loop-word
decreases-loop-word l = ahead l.word
