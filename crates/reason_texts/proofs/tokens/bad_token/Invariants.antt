use Rattle.std.proofs.Common.{◌≡◌, ◌≤◌, ◌+◌, length}
use Rattle.reason_texts.specs.Tokens.{bad_token}
use Rattle.reason_texts.proofs.tokens.bad_token.Given as goal

abbrev pub invariant-loop-first : goal.invariant-loop-first
invariant-loop-first l = (l.at + length l.rest ≤ l.column + length l.line) ×
    (bad_token l.passed l.at l.rest ≡ bad_token 0 l.column l.line)

abbrev pub decreases-loop-first : goal.decreases-loop-first
decreases-loop-first l = length l.rest
