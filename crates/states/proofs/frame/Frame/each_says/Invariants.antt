use Rattle.states.specs.Frames.{EntryIsSaid}
use Rattle.states.proofs.frame.Frame.each_says.Given as goal

abbrev pub invariant-loop-word : goal.invariant-loop-word
invariant-loop-word l = EntryIsSaid l.self l.entry l.first l.word
