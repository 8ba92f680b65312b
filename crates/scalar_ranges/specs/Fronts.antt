-- The constant front of a chain: its first operands, as many as may be, that are together a constant with a value. A
-- compiler puts that value in their place.
use Rattle.std.specs.Prelude.{ℕ, ℤ, ◌+◌, List, Option, Some, None}
use Rattle.occam_parser.specs.declared.tree.ChainOperator.{ChainOperator}
use Rattle.occam_parser.specs.Expressions.{Expression, Chained, Terms, Two, Then}
use Rattle.scalar_ranges.specs.Entries.{Entry}
use Rattle.scalar_ranges.specs.Bounds.{bound_of_term, bound_of_terms, exact_value}

-- the value, and of how many operands it is
pub record Front : Type 0 where
  pub value : ℤ
  pub operands : ℕ

abbrev pub count_of : Terms → ℕ
count_of (Two a b) = 2
count_of (Then ts t) = count_of ts + 1

-- this number of operands, if they have a value, and otherwise the front of fewer
abbrev pub longer : Option ℤ → ℕ → Option Front → Option Front
longer None count shorter = shorter
longer (Some value) count shorter = Some (record { value = value; operands = count })

abbrev pub front_in : List Entry → ChainOperator → Terms → Option Front
front_in es op (Two a b) =
    longer (exact_value (bound_of_terms es op (Two a b))) 2 (longer (exact_value (bound_of_term es a)) 1 None)
front_in es op (Then ts t) =
    longer (exact_value (bound_of_terms es op (Then ts t))) (count_of (Then ts t)) (front_in es op ts)

abbrev pub front_of : List Entry → Expression → Option Front
front_of es (Chained op ts) = front_in es op ts
front_of es e = None
