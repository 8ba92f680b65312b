use Rattle.std.proofs.Common.{◌≡◌, ◌≤◌, ◌+◌, length}
use Rattle.reason_texts.specs.Tokens.{characters_in}
use Rattle.reason_texts.proofs.quotes.characters_in.Given as goal

abbrev pub invariant-loop-others : goal.invariant-loop-others
invariant-loop-others l = record {
  within : l.at + length l.rest ≤ length l.body;
  fewer : l.count ≤ l.at;
  so_far : characters_in l.passed l.count l.at l.rest ≡ characters_in 0 0 0 l.body;
}

abbrev pub decreases-loop-others : goal.decreases-loop-others
decreases-loop-others l = length l.rest
