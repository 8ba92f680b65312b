use Rattle.std.proofs.Common.{◌-◌, ◌≤◌, length, string_bytes}
use Rattle.listings.proofs.ListingLines.{Lists}
use Rattle.listings.proofs.lines.listing.Given as goal

abbrev pub invariant-loop-at : goal.invariant-loop-at
invariant-loop-at l = record {
  lists : Lists l.module (string_bytes l.text) l.at;
  within : l.at ≤ length l.tables.code.now;
}

abbrev pub decreases-loop-at : goal.decreases-loop-at
decreases-loop-at l = length l.tables.code.now - l.at
