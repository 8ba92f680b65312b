use Rattle.std.proofs.Common.{◌≡◌, length, map}
use Rattle.std.specs.List.{AllByRecursion, list_all}
use Rattle.module_format.specs.Contents.{branch_of}
use Rattle.module_format.specs.Pars.{GiftsKeep}
use Rattle.certificate.specs.Siblings.{is_beside}
use Rattle.certificate.proofs.siblings.is_beside_all.Given as goal

abbrev pub invariant-loop-other : goal.invariant-loop-other
invariant-loop-other l = record {
  kept : AllByRecursion (λ row. GiftsKeep (branch_of row)) l.rest;
  same : list_all (is_beside (branch_of l.branch)) (map branch_of l.rest)
      ≡ list_all (is_beside (branch_of l.branch)) (map branch_of l.others);
}

abbrev pub decreases-loop-other : goal.decreases-loop-other
decreases-loop-other l = length l.rest
