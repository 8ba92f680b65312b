use Rattle.std.proofs.Common.{◌≡◌, ◌++◌, map}
use Rattle.std.specs.Vec.Iter.{into_iter_items}
use Rattle.line_pieces.specs.Opening.{branches_code, row_in}
use Rattle.line_pieces.proofs.listing.Listing.take_branches.Given as goal

abbrev pub invariant-loop-branch : goal.invariant-loop-branch
invariant-loop-branch l =
    (l.self ++ branches_code (into_iter_items l.branch-iterator) ≡ l.fn.self ++ branches_code l.fn.branches.items)
    × (l.rows.items ++ map row_in (into_iter_items l.branch-iterator) ≡ map row_in l.fn.branches.items)
