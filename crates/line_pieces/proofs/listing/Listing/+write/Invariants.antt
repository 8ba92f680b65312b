use Rattle.std.proofs.Common.{◌≡◌, ◌++◌, map, take, option_map}
use Rattle.occam_parser.specs.Views.{term_of}
use Rattle.scalar_ranges.specs.FrontViews.{seen_front}
use Rattle.line_pieces.specs.SettingViews.{others_in}
use Rattle.line_pieces.proofs.listing.Listing.+write.Given as goal

abbrev pub invariant-write_others-loop-place : goal.invariant-write_others-loop-place
invariant-write_others-loop-place l =
    l.self
    ≡ l.initial.self
    ++ others_in l.setting l.operator (option_map seen_front l.front) 2 (map term_of (take l.place l.others))
