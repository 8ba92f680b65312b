use Rattle.std.proofs.Common.{◌≡◌, length}
use Rattle.module_format.specs.Contents.{contents_of}
use Rattle.certificate.specs.Around.{IsAround}
use Rattle.certificate.proofs.BranchRunLaws.{AreDone}
use Rattle.certificate.proofs.branch_runs.branch_runs_of.Given as goal

abbrev pub invariant-loop : goal.invariant-loop
invariant-loop l = length l.runs.items ≡ l.counter

abbrev pub invariant-loop-index : goal.invariant-loop-index
invariant-loop-index l = record {
  many : length l.runs.items ≡ length l.places;
  around : IsAround (contents_of l.tables) l.around;
  done : AreDone (contents_of l.tables) l.visits.items l.index l.runs.items;
}
