-- The size of a chain, whose further operands are a list.
use Rattle.std.proofs.Common.{◌≡◌, ℕ, ◌+◌, List, [], ◌∷◌, sum_by, sym, arith, add-zero}
use Rattle.std.proofs.lemmas.List.Sums.{sum_by-cons}
use Rattle.occam_parser.specs.Expressions.{Terms, Then, Term}
use Rattle.occam_parser.specs.Views.{with_others}
use Rattle.program_sizes.specs.LineSizes.{size_of_terms, size_of_term}

abbrev pub further_size : Term → ℕ
further_size t = 1 + size_of_term t

pub chain_size : (ts : Terms) (xs : List Term)
    → size_of_terms (with_others ts xs) ≡ size_of_terms ts + sum_by further_size xs
chain_size ts [] = sym (add-zero (size_of_terms ts))
chain_size ts (x ∷ xs) = omega (arith, chain_size (Then ts x) xs, sum_by-cons further_size x xs)
