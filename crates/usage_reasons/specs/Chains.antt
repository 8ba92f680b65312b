-- The operands of a chain.
use Rattle.std.specs.Prelude.{List, [], ◌∷◌, ◌++◌}
use Rattle.occam_parser.specs.declared.tree.ChainOperator.{ChainOperator}
use Rattle.occam_parser.specs.Terminals.{Terminal, Mark}
use Rattle.occam_parser.specs.Expressions.{Term, written_term, chain_mark}

-- further operands, each with its operator before it
abbrev pub written_others : ChainOperator → List Term → List Terminal
written_others op [] = []
written_others op (t ∷ ts) = (Mark (chain_mark op) ∷ written_term t) ++ written_others op ts
