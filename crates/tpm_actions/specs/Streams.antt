-- Where a report goes: to standard output, unless an output link is there.
use Rattle.std.specs.Prelude.{Bool, true, false, ◌||◌, if◌then◌else◌, [], Option}
use Rattle.std.specs.Option.{option_map_or}
use Rattle.command_line.specs.Words.{Text}
use Rattle.command_line.specs.declared.links.OnLinks.{OnLinks}
use Rattle.command_line.specs.Asked.{Asked, compiles, upgrades, verifies, runs, debugs, lists, explains}
use Rattle.command_line.specs.Fitting.{is_stream}

abbrev pub is_stream_given : Option Text → Bool
is_stream_given path = option_map_or is_stream path false

abbrev pub has_stream : OnLinks (Option Text) → Bool
has_stream paths =
    is_stream_given paths.first || is_stream_given paths.second || is_stream_given paths.third
    || is_stream_given paths.fourth

-- whether some output link is standard output
abbrev pub sends_out : Asked → Bool
sends_out (compiles source out) = false
sends_out (upgrades old new) = false
sends_out (verifies path) = false
sends_out (runs path inputs outputs) = has_stream outputs
sends_out (debugs path inputs outputs bytes trace) = has_stream outputs
sends_out (lists path) = false
sends_out (explains path) = false

-- what of a report is written to standard output
abbrev pub shown_of : Asked → Text → Text
shown_of asked text = if sends_out asked then [] else text
