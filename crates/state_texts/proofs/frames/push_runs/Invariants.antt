use Rattle.std.proofs.Common.{◌≡◌, ◌≤ℤ◌, ◌++◌, string_bytes}
use Rattle.states.specs.Views.{state_of}
use Rattle.state_texts.specs.FrameTexts.{size_between, runs_from, runs_text}
use Rattle.state_texts.proofs.frames.push_runs.Given as goal

abbrev pub invariant-loop-word : goal.invariant-loop-word
invariant-loop-word l = record {
  low : l.lo ≤ℤ l.word;
  high : l.word ≤ℤ l.hi;
  written : string_bytes l.text ++ runs_from (state_of l.state).frame l.run l.word (size_between l.word l.hi)
      ≡ string_bytes l.initial.text ++ runs_text (state_of l.state).frame l.lo (size_between l.lo l.hi);
}
