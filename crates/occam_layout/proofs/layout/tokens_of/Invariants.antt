use Rattle.std.proofs.Common.{◌≡◌, ◌≤◌, ◌+◌, length, map}
use Rattle.occam_layout.specs.Reading.{lexeme_of, tokens_at}
use Rattle.occam_layout.proofs.Loop.{with_front}
use Rattle.occam_layout.proofs.layout.tokens_of.Given as goal

abbrev pub invariant-loop-tokens : goal.invariant-loop-tokens
invariant-loop-tokens l = (l.start + length l.rest ≤ l.offset + length l.line) ×
    (with_front (map lexeme_of l.tokens.items) (tokens_at 0 l.start l.rest) ≡ tokens_at 0 l.offset l.line)

abbrev pub decreases-loop-tokens : goal.decreases-loop-tokens
decreases-loop-tokens l = length l.rest
