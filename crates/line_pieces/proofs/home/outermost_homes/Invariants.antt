use Rattle.std.proofs.Common.{◌≡◌, take}
use Rattle.line_pieces.specs.HomeViews.{homes_seen}
use Rattle.line_pieces.proofs.home.outermost_homes.Given as goal

abbrev pub invariant-loop-number : goal.invariant-loop-number
invariant-loop-number l = homes_seen l.outermost.items ≡ homes_seen (take l.number l.homes)
