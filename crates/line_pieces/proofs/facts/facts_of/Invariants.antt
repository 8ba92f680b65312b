use Rattle.std.proofs.Common.{◌≡◌, take, reverse}
use Rattle.scalar_ranges.specs.Scopes.{entries_of}
use Rattle.line_pieces.specs.HomeViews.{homes_seen}
use Rattle.line_pieces.specs.Homes.{facts_from}
use Rattle.line_pieces.proofs.facts.facts_of.Given as goal

abbrev pub invariant-loop-number : goal.invariant-loop-number
invariant-loop-number l =
    l.entries.items ≡ facts_from (homes_seen (take l.number l.homes)) (reverse (entries_of l.scope))
