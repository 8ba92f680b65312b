use Rattle.std.proofs.Common.{◌≡◌, length}
use Rattle.std.specs.List.{list_all}
use Rattle.module_format.specs.Procedures.{words_in_bytes}
use Rattle.module_format.specs.ReadingRows.{lies_between}
use Rattle.module_format.proofs.reading.table_rows.words_lie_within.Given as goal

abbrev pub decreases-loop-rest : goal.decreases-loop-rest
decreases-loop-rest l = length l.rest

abbrev pub invariant-loop-rest : goal.invariant-loop-rest
invariant-loop-rest l =
    list_all (lies_between l.lo l.hi) (words_in_bytes l.rest) ≡ list_all (lies_between l.lo l.hi)
    (words_in_bytes l.bytes)
