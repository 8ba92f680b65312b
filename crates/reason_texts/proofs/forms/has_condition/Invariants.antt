use Rattle.std.proofs.Common.{◌≡◌}
use Rattle.occam_parser.specs.Terminals.{terminals_of}
use Rattle.occam_parser.specs.LineReading.{has_condition}
use Rattle.occam_parser.proofs.Seen.{has_left, left_len}
use Rattle.reason_texts.proofs.forms.has_condition.Given as goal

abbrev pub invariant-loop-next : goal.invariant-loop-next
invariant-loop-next l = has_condition (terminals_of l.tokens) ≡ has_left l.next

abbrev pub decreases-loop-next : goal.decreases-loop-next
decreases-loop-next l = left_len l.next
