use Rattle.std.proofs.Common.{ap, ◌∙◌}
use Rattle.scalar_ranges.specs.Moves.{next}
use Rattle.scalar_ranges.proofs.deferred.Deferred.next.Goals as goal

pub returns-then-can_turn : goal.returns-then-can_turn
returns-then-can_turn c = c.go_on.ensures ∙ ap next c.count_tests.ensures

pub returns-else-can_turn : goal.returns-else-can_turn
returns-else-can_turn c = c.turn.ensures ∙ ap next (c.release_changed.ensures ∙ c.count_tests.ensures)
