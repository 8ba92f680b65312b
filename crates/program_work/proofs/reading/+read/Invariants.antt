use Rattle.std.proofs.Common.{◌≡◌, map, take, sum_by}
use Rattle.occam_parser.specs.Views.{term_of}
use Rattle.program_work.specs.Readings.{capped, again_in_term}
use Rattle.program_work.proofs.SumsTogether.{further_size}
use Rattle.program_work.proofs.reading.+read.Given as goal

abbrev pub invariant-read_others-loop-other : goal.invariant-read_others-loop-other
invariant-read_others-loop-other l = record {
  size : l.reading.size ≡ capped (sum_by further_size (map term_of (take l.other-index l.others)));
  again : l.reading.again ≡ capped (sum_by again_in_term (map term_of (take l.other-index l.others)));
}
