-- How many tokens a chain is, whose further operands are a list.
use Rattle.std.proofs.Common.{◌≡◌, ◌+◌, List, [], ◌∷◌, length, sum_by, sym, arith, add-zero, length-append}
use Rattle.std.proofs.lemmas.List.Sums.{sum_by-cons}
use Rattle.occam_parser.specs.declared.tree.ChainOperator.{ChainOperator}
use Rattle.occam_parser.specs.Expressions.{Terms, Then, Term, written_terms, written_term, chain_mark}
use Rattle.occam_parser.specs.Terminals.{Mark}
use Rattle.occam_parser.specs.Views.{with_others}
use Rattle.usage_reasons.specs.Tokens.{tokens_behind}

pub chain_width : (op : ChainOperator) (ts : Terms) (xs : List Term)
    → length (written_terms op (with_others ts xs)) ≡ length (written_terms op ts) + sum_by tokens_behind xs
chain_width op ts [] = sym (add-zero (length (written_terms op ts)))
chain_width op ts (x ∷ xs) = omega (
  arith,
  chain_width op (Then ts x) xs,
  sum_by-cons tokens_behind x xs,
  length-append (written_terms op ts) (Mark (chain_mark op) ∷ written_term x),
)
