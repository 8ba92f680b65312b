use Rattle.std.proofs.Common.{◌≡◌, ◌-◌, ◌++◌, map, take}
use Rattle.std.specs.Prelude.{string_bytes}
use Rattle.occam_layout.specs.Reading.{lines_of}
use Rattle.program_walk.specs.Listings.{listing, listing_from}
use Rattle.program_walk.proofs.listing.write_listing.Given as goal

abbrev pub invariant-loop-before : goal.invariant-loop-before
invariant-loop-before l =
    string_bytes l.text ++ listing_from l.before (take (l.last - l.before) (lines_of l.rest)) (map string_bytes l.notes)
    ≡ listing l.source (map string_bytes l.notes) l.last
