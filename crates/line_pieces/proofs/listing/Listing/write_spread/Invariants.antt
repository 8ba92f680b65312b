use Rattle.std.proofs.Common.{◌≡◌, ◌++◌, ◌-◌, ◌≤◌}
use Rattle.line_pieces.specs.Declarations.{spread}
use Rattle.line_pieces.proofs.listing.Listing.write_spread.Given as goal

abbrev pub decreases-loop-done : goal.decreases-loop-done
decreases-loop-done l = l.count - l.done

-- what is left to move, after what was written
abbrev pub invariant-loop-done : goal.invariant-loop-done
invariant-loop-done l = record {
  some : 1 ≤ l.done;
  written : l.self ++ spread (l.count - l.done) l.word l.count l.done
      ≡ l.initial.self ++ spread (l.count - 1) l.word l.count 1;
}
