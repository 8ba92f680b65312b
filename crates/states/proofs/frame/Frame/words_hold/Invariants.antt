use Rattle.std.proofs.Common.{◌≡◌, ℤ, ◌≤ℤ◌, ◌<ℤ◌}
use Rattle.states.specs.State.{is_same_number, said_of, entry_fact}
use Rattle.states.specs.Rows.{AreApart}
use Rattle.states.specs.Comparing.{OneSays, IsBase}
use Rattle.states.specs.Frames.{frame_facts}
use Rattle.states.proofs.Comparisons.{ahead}
use Rattle.states.proofs.frame.Frame.words_hold.Given as goal

abbrev pub invariant-loop-word : goal.invariant-loop-word
invariant-loop-word l = record {
  ahead : l.entry.word ≤ℤ l.word;
  apart : AreApart l.rest;
  same : (k : ℤ) → l.word ≤ℤ k → entry_fact l.rest k ≡ entry_fact l.base k;
  so_far : IsBase (entry_fact l.self.row.now) l.base l.entry.word → (k : ℤ) → l.entry.word ≤ℤ k → k <ℤ l.word
      → OneSays (entry_fact l.self.row.now k) (frame_facts l.self k)
      (said_of l.entry.fact (is_same_number l.entry.word k));
}

abbrev pub decreases-loop-word : goal.decreases-loop-word
decreases-loop-word l = ahead l.word
