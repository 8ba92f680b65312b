use Rattle.std.proofs.Common.{◌≡◌}
use Rattle.occam_layout.specs.declared.mark.Mark.TheVariants as mark
use Rattle.occam_parser.specs.Terminals.{terminals_of}
use Rattle.reason_texts.specs.Expressions.{past_more}
use Rattle.reason_texts.specs.Forms.{past_part, past_list}
use Rattle.reason_texts.proofs.forms.past_list.Given as goal

abbrev pub invariant-loop-turns : goal.invariant-loop-turns
invariant-loop-turns l =
    past_more (past_part l.part) mark.Comma l.turns (terminals_of l.rest) ≡ past_list l.part (terminals_of l.tokens)

abbrev pub decreases-loop-turns : goal.decreases-loop-turns
decreases-loop-turns l = l.turns
