use Rattle.std.proofs.Common.{◌≡◌, ◌++◌, map, drop}
use Rattle.code_generator.specs.Instances.{unknown_in}
use Rattle.code_generator.specs.PassedViews.{is_found}
use Rattle.code_generator.proofs.passing.Words.all_forgotten.Given as goal

abbrev pub invariant-loop-entry : goal.invariant-loop-entry
invariant-loop-entry l =
    let forgotten = unknown_in (is_found l.self) in
    l.known.items ++ map forgotten (drop l.entry-index l.entries) ≡ map forgotten l.entries
