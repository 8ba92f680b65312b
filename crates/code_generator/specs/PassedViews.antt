-- What an instance of the program passes.
use Rattle.std.specs.Prelude.{ℕ, Bool, List, map, option_map}
use Rattle.std.specs.BTreeSet.{contains}
use Rattle.std.specs.Ordering.{nat_cmp}
use Rattle.occam_parser.specs.Expressions.{Expression}
use Rattle.occam_parser.specs.Views.{expression_of}
use Rattle.scalar_ranges.specs.Scopes.{meaning_of}
use Rattle.program_uses.specs.Signatures.{Parameter, signatures_of, parameters_in}
use Rattle.code_generator.specs.declared.passing.Passed.{Passed}
use Rattle.code_generator.specs.declared.passing.Words.{Words}

abbrev pub parameters_of : Passed → List Parameter
parameters_of p = parameters_in (signatures_of p.signatures.now) (option_map meaning_of p.procedure)

abbrev pub actuals_of : Passed → List Expression
actuals_of p = map expression_of p.actuals.now

-- whether a word is one of these
abbrev pub is_found : Words → ℕ → Bool
is_found words word = contains nat_cmp words.found word
