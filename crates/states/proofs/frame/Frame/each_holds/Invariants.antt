use Rattle.std.proofs.Common.{◌≡◌, true, take}
use Rattle.std.specs.List.{list_all}
use Rattle.states.specs.Below.{words_say}
use Rattle.states.specs.Frames.{frame_facts}
use Rattle.states.proofs.frame.Frame.each_holds.Given as goal

abbrev pub invariant-loop-entry : goal.invariant-loop-entry
invariant-loop-entry l =
    list_all (λ entry. words_say (frame_facts l.self) entry entry.span) (take l.entry-index l.row) ≡ true
