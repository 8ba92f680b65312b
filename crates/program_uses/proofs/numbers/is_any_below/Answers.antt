use Rattle.std.proofs.Common.{◌∙◌, sym, arith}
use Rattle.program_uses.proofs.Words.{any_below, none_true, none_below}
use Rattle.program_uses.proofs.numbers.is_any_below.Goals as goal

pub returns-then-word-ne0 : goal.returns-then-word-ne0
returns-then-word-ne0 c =
    let lowest = any_below c.args.count c.args.block c.args.word (omega arith) (omega arith) in
    ((λ e. lowest.0 (sym c.is_below.ensures ∙ e)), (λ h. c.is_below.ensures ∙ lowest.1 h))

pub returns-else-word-ne0 : goal.returns-else-word-ne0
returns-else-word-ne0 c = (
  (λ e. absurd (none_true c.args.word c.if-word-ne0.false e)),
  (λ h. absurd (none_below c.args.count c.args.block c.args.word c.if-word-ne0.false h)),
)
