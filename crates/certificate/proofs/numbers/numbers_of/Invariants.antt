use Rattle.std.proofs.Common.{◌≡◌, ℕ, map, take}
use Rattle.std.specs.Prelude.{slice_index}
use Rattle.module_format.specs.Contents.{contents_of}
use Rattle.module_format.specs.Contexts.{first_branch}
use Rattle.module_format.specs.Places.{branches_of}
use Rattle.certificate.specs.Branches.{number_from}
use Rattle.certificate.proofs.numbers.numbers_of.Given as goal

abbrev pub invariant-loop-index : goal.invariant-loop-index
invariant-loop-index l =
    let c = contents_of l.tables in
    (at : ℕ) → slice_index l.numbers.items at
    ≡ number_from (first_branch c) (map (λ y. y.1.entry) (take l.index (branches_of c.pars))) at
