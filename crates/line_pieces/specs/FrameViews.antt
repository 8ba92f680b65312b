-- The frame that one of the program is.
use Rattle.line_pieces.specs.declared.frame.Frame as code_frame
use Rattle.line_pieces.specs.HomeViews.{homes_seen}
use Rattle.line_pieces.specs.Declarations.{Frame}

abbrev pub frame_seen : code_frame.Frame → Frame
frame_seen f = record { homes = homes_seen f.homes.items; top = f.top; outer = f.outer.items }
