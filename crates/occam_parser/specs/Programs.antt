-- The items of a program that was read.
use Rattle.std.specs.Prelude.{List, map}
use Rattle.occam_parser.specs.declared.parsed.Program as program_type
use Rattle.occam_parser.specs.Blocks.{ProgramItem}
use Rattle.occam_parser.specs.BlockViews.{item_of}

abbrev pub items_of : program_type.Program → List ProgramItem
items_of p = map item_of p.items.items
