use Rattle.std.proofs.Common.{◌≡◌, true, take}
use Rattle.std.specs.List.{list_all}
use Rattle.states.specs.Below.{is_whole}
use Rattle.states.specs.Frames.{frame_facts}
use Rattle.states.proofs.frame.Frame.is_whole.Given as goal

abbrev pub invariant-loop-entry : goal.invariant-loop-entry
invariant-loop-entry l = list_all (is_whole (frame_facts l.self)) (take l.entry-index l.row) ≡ true
