-- How many tokens the parts of a line are, as far as the machine counts.
use Rattle.std.specs.Prelude.{ℕ, ◌+◌, ◌^◌, ◌-◌, min, length}
use Rattle.occam_parser.specs.Expressions.{Expression, Term, written, written_term}

abbrev pub capped : ℕ → ℕ
capped n = min n (2 ^ 64 - 1)

-- a further operand of a chain, with its operator
abbrev pub tokens_behind : Term → ℕ
tokens_behind t = 1 + length (written_term t)

-- a further item of a table, with its comma
abbrev pub tokens_of_item : Expression → ℕ
tokens_of_item e = 1 + length (written e)
