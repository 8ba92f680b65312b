use Rattle.std.specs.Int.{w32}
use Rattle.std.specs.List.{AllByRecursion}
use Rattle.std.proofs.Common.{drop, FitsSigned}
use Rattle.compiler.proofs.generating.values_are_words.Given as goal

-- where those that are left are words, all are
abbrev pub invariant-loop-value : goal.invariant-loop-value
invariant-loop-value l =
    AllByRecursion (FitsSigned w32) (drop l.value-index l.values) → AllByRecursion (FitsSigned w32) l.values
