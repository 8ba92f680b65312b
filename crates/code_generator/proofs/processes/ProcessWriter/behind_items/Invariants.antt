use Rattle.std.proofs.Common.{map, take}
use Rattle.occam_parser.specs.BlockViews.{item_of}
use Rattle.code_generator.proofs.ItemsPassed.{Passes}
use Rattle.code_generator.proofs.processes.ProcessWriter.behind_items.Given as goal

abbrev pub invariant-loop-item : goal.invariant-loop-item
invariant-loop-item l = Passes l.writer l.callees.items (map item_of (take l.item-index l.items))
