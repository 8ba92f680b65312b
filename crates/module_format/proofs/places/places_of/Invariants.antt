use Rattle.std.proofs.Common.{◌+◌, take}
use Rattle.module_format.specs.Contents.{contents_of}
use Rattle.module_format.specs.Contexts.{branch_count}
use Rattle.module_format.specs.Places.{ArePlaces}
use Rattle.module_format.proofs.places.places_of.Given as goal

abbrev pub invariant-loop-branch : goal.invariant-loop-branch
invariant-loop-branch l = let c =
    contents_of l.tables in ArePlaces c (branch_count (take l.par c.pars) + l.branch) l.places.items

abbrev pub invariant-loop-par : goal.invariant-loop-par
invariant-loop-par l = let c = contents_of l.tables in ArePlaces c (branch_count (take l.par c.pars)) l.places.items
