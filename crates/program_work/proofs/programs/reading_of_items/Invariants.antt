use Rattle.std.proofs.Common.{◌≡◌, map, take, sum_by}
use Rattle.occam_parser.specs.BlockViews.{item_of}
use Rattle.program_work.specs.Readings.{capped}
use Rattle.program_work.specs.Programs.{reading_of_item}
use Rattle.program_work.proofs.programs.reading_of_items.Given as goal

abbrev pub invariant-loop-item : goal.invariant-loop-item
invariant-loop-item l = l.reading ≡ capped (sum_by reading_of_item (map item_of (take l.item-index l.items)))
