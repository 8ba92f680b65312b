-- How often what is on a line is read when its code is written. The measure is our own choice: it bounds the time that
-- writing takes.
use Rattle.std.specs.Prelude.{ℕ, ◌+◌, min, sum_by, Option, Some, None}
use Rattle.occam_parser.specs.Expressions.{Expression, Alone, Prefixed, Paired, Chained, Terms, Two, Then, Term}
use Rattle.occam_parser.specs.Expressions.{Element, Bracketed, Converted}
use Rattle.occam_parser.specs.OneOrMore.{as_list}
use Rattle.occam_parser.specs.Lines.{Place, Replicator, Value, Scalar, Table, Bytes, Declaration, Constants, Variables}
use Rattle.occam_parser.specs.Lines.{Channels, Action, Skip, Stop, Assign, Input, Output, Instance, Guard, Receives}
use Rattle.occam_parser.specs.Lines.{Skips}
use Rattle.program_sizes.specs.LineSizes.{size_of_expression, size_of_declaration, size_of_action, size_of_guard}
use Rattle.program_sizes.specs.LineSizes.{size_of_replicator}

-- the greatest number of a u32
abbrev pub greatest_sum : ℕ
greatest_sum = 4294967295

-- a sum, as far as a u32 goes
abbrev pub capped : ℕ → ℕ
capped n = min n greatest_sum

-- ---- expressions
-- What is in brackets or is a subscript is read again, whole, when its own code is written. A conversion is read with
-- its operand.

abbrev mutual
  pub again_in : Expression → ℕ
  again_in (Alone t) = again_in_term t
  again_in (Prefixed op t) = again_in_term t
  again_in (Paired op a b) = again_in_term a + again_in_term b
  again_in (Chained op ts) = again_in_terms ts

  pub again_in_terms : Terms → ℕ
  again_in_terms (Two a b) = again_in_term a + again_in_term b
  again_in_terms (Then ts t) = again_in_terms ts + again_in_term t

  pub again_in_term : Term → ℕ
  again_in_term (Element name e) = size_of_expression e + again_in e
  again_in_term (Bracketed e) = size_of_expression e + again_in e
  again_in_term (Converted to t) = again_in_term t
  again_in_term t = 0

-- an expression at each of its levels of brackets and subscripts
abbrev pub reading_of_expression : Expression → ℕ
reading_of_expression e = size_of_expression e + again_in e

-- ---- lines
-- A line is read once, and what is in brackets on it again.

abbrev pub again_if_any : Option Expression → ℕ
again_if_any None = 0
again_if_any (Some e) = again_in e

abbrev pub again_in_place : Place → ℕ
again_in_place p = again_if_any p.subscript

abbrev pub again_in_value : Value → ℕ
again_in_value (Scalar e) = again_in e
again_in_value (Table size items) = again_in size + sum_by again_in (as_list items)
again_in_value (Bytes size bytes) = again_in size

abbrev pub again_in_declaration : Declaration → ℕ
again_in_declaration (Constants c) = again_in_value c.value
again_in_declaration (Variables n) = again_if_any n.size
again_in_declaration (Channels n) = again_if_any n.size

abbrev pub again_in_action : Action → ℕ
again_in_action Skip = 0
again_in_action Stop = 0
again_in_action (Assign target value) = again_in_place target + again_in value
again_in_action (Input channel target) = again_in_place channel + again_in_place target
again_in_action (Output channel value) = again_in_place channel + again_in value
again_in_action (Instance name actuals) = sum_by again_in actuals

abbrev pub again_in_guard : Guard → ℕ
again_in_guard (Receives condition channel target) =
    again_if_any condition + (again_in_place channel + again_in_place target)
again_in_guard (Skips condition) = again_in condition

abbrev pub again_in_replicator : Replicator → ℕ
again_in_replicator r = again_in r.base + again_in r.count

-- the line of a declaration
abbrev pub reading_of_declaration : Declaration → ℕ
reading_of_declaration d = size_of_declaration d + again_in_declaration d

-- the line of an action
abbrev pub reading_of_action : Action → ℕ
reading_of_action a = size_of_action a + again_in_action a

-- the line of a choice
abbrev pub reading_of_condition : Expression → ℕ
reading_of_condition e = (1 + size_of_expression e) + again_in e

-- the line of a guard
abbrev pub reading_of_guard : Guard → ℕ
reading_of_guard g = size_of_guard g + again_in_guard g

-- the line of a replicator
abbrev pub reading_of_replicator : Replicator → ℕ
reading_of_replicator r = size_of_replicator r + again_in_replicator r
