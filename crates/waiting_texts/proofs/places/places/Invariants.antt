use Rattle.std.proofs.Common.{◌≡◌}
use Rattle.waiting_texts.specs.Lines.{places_below}
use Rattle.waiting_texts.proofs.places.places.Given as goal

abbrev pub invariant-loop-process : goal.invariant-loop-process
invariant-loop-process l = l.places.items ≡ places_below l.checked.world.tasks l.process
