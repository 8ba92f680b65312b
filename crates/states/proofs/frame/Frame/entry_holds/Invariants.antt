use Rattle.std.proofs.Common.{◌≡◌, true}
use Rattle.states.specs.Below.{words_say}
use Rattle.states.specs.Frames.{frame_facts}
use Rattle.states.proofs.frame.Frame.entry_holds.Given as goal

abbrev pub invariant-loop-i : goal.invariant-loop-i
invariant-loop-i l = words_say (frame_facts l.self) l.entry l.i ≡ true
