use Rattle.std.proofs.Common.{take}
use Rattle.std.specs.List.{flat_map}
use Rattle.certificate.specs.Starts.{Adds}
use Rattle.certificate.proofs.marks.mark_all.Given as goal

abbrev pub invariant-loop-row : goal.invariant-loop-row
invariant-loop-row g l = Adds l.fn.marks (flat_map g.T.Starting.offsets (take l.row-index l.rows)) l.marks
