use Rattle.std.proofs.Common.{◌≡◌, ◌++◌, drop}
use Rattle.line_pieces.specs.Opening.{emptied}
use Rattle.line_pieces.proofs.listing.Listing.write_empty_channels.Given as goal

abbrev pub invariant-loop-channel : goal.invariant-loop-channel
invariant-loop-channel l =
    l.self ++ emptied (drop l.channel-index l.channels) ≡ l.initial.self ++ emptied l.channels
