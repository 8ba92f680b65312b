use Rattle.std.proofs.Common.{◌≡◌, length, map}
use Rattle.std.specs.List.{AllByRecursion, list_all}
use Rattle.module_format.specs.Contents.{branch_of}
use Rattle.module_format.specs.Pars.{GiftsKeep}
use Rattle.certificate.specs.Siblings.{has_other_ends, has_other_ends_than_first}
use Rattle.certificate.proofs.modules.Module.judge_other_ends.Given as goal

abbrev pub invariant-loop-other : goal.invariant-loop-other
invariant-loop-other l = record {
  kept : AllByRecursion (λ row. GiftsKeep (branch_of row)) l.rest;
  same : list_all (has_other_ends l.self l.context) (map branch_of l.rest)
      ≡ has_other_ends_than_first l.self l.context l.row l.count;
}

abbrev pub decreases-loop-other : goal.decreases-loop-other
decreases-loop-other l = length l.rest
