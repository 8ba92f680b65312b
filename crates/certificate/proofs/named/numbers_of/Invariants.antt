use Rattle.std.proofs.Common.{◌≡◌, ◌||◌, ℤ, map, length}
use Rattle.std.specs.List.{list_any}
use Rattle.module_format.specs.Contents.{branch_of, par_of}
use Rattle.certificate.specs.Named.{is_one_of, names_parameter}
use Rattle.certificate.proofs.named.numbers_of.Given as goal

-- what is gathered has the parameters of the branches that are passed
abbrev pub invariant-loop-branch : goal.invariant-loop-branch
invariant-loop-branch l =
    (j : ℤ) → (is_one_of l.numbers.items j || list_any (names_parameter j) (map branch_of l.rest))
    ≡ list_any (names_parameter j) (par_of l.par).branches

abbrev pub decreases-loop-branch : goal.decreases-loop-branch
decreases-loop-branch l = length l.rest
