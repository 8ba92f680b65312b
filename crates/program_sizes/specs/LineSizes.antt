-- How large the lines of a program are. The measure is our own choice: it estimates work.
use Rattle.std.specs.Prelude.{ℕ, ◌+◌, ◌^◌, List, length, sum_by, min, Option, Some, None}
use Rattle.occam_parser.specs.Expressions.{Expression, Alone, Prefixed, Paired, Chained, Terms, Two, Then, Term}
use Rattle.occam_parser.specs.Expressions.{Named, Element, Bracketed, Converted}
use Rattle.occam_parser.specs.OneOrMore.{as_list}
use Rattle.occam_parser.specs.Lines.{Place, Replicator, Value, Scalar, Table, Bytes, Declaration, Constants, Variables}
use Rattle.occam_parser.specs.Lines.{Channels, Action, Skip, Stop, Assign, Input, Output, Instance, Guard, Receives}
use Rattle.occam_parser.specs.Lines.{Skips, Formal, ProcHead}

-- ---- the size of a line
-- 1, the bytes of each name on it, and 1 for each other operand, operator, conversion and pair of brackets. A text
-- counts its bytes, and 1.

abbrev mutual
  pub size_of_expression : Expression → ℕ
  size_of_expression (Alone t) = size_of_term t
  size_of_expression (Prefixed op t) = 1 + size_of_term t
  size_of_expression (Paired op a b) = size_of_term a + (1 + size_of_term b)
  size_of_expression (Chained op ts) = size_of_terms ts

  pub size_of_terms : Terms → ℕ
  size_of_terms (Two a b) = size_of_term a + (1 + size_of_term b)
  size_of_terms (Then ts t) = size_of_terms ts + (1 + size_of_term t)

  pub size_of_term : Term → ℕ
  size_of_term (Named name) = length name
  size_of_term (Element name e) = length name + (1 + size_of_expression e)
  size_of_term (Bracketed e) = 1 + size_of_expression e
  size_of_term (Converted to t) = 1 + size_of_term t
  size_of_term t = 1

abbrev pub size_if_any : Option Expression → ℕ
size_if_any None = 0
size_if_any (Some e) = size_of_expression e

abbrev pub size_in_brackets : Option Expression → ℕ
size_in_brackets None = 0
size_in_brackets (Some e) = 1 + size_of_expression e

abbrev pub size_of_place : Place → ℕ
size_of_place p = length p.name + size_in_brackets p.subscript

abbrev pub size_of_value : Value → ℕ
size_of_value (Scalar e) = size_of_expression e
size_of_value (Table size items) =
    (1 + size_of_expression size) + (1 + sum_by size_of_expression (as_list items))
size_of_value (Bytes size bytes) = (1 + size_of_expression size) + (1 + length bytes)

abbrev pub size_of_names : Option Expression → List (List ℕ) → ℕ
size_of_names size names = 1 + (size_in_brackets size + sum_by length names)

abbrev pub size_of_declaration : Declaration → ℕ
size_of_declaration (Constants c) = 1 + (size_of_value c.value + length c.name)
size_of_declaration (Variables n) = size_of_names n.size (as_list n.names)
size_of_declaration (Channels n) = size_of_names n.size (as_list n.names)

abbrev pub size_of_action : Action → ℕ
size_of_action Skip = 1
size_of_action Stop = 1
size_of_action (Assign target value) = 1 + (size_of_place target + size_of_expression value)
size_of_action (Input channel target) = 1 + (size_of_place channel + size_of_place target)
size_of_action (Output channel value) = 1 + (size_of_place channel + size_of_expression value)
size_of_action (Instance name actuals) = 1 + (length name + (1 + sum_by size_of_expression actuals))

abbrev pub size_of_guard : Guard → ℕ
size_of_guard (Receives condition channel target) =
    1 + (size_if_any condition + (size_of_place channel + size_of_place target))
size_of_guard (Skips condition) = 1 + size_of_expression condition

abbrev pub size_of_replicator : Replicator → ℕ
size_of_replicator r = 1 + (length r.name + (size_of_expression r.base + size_of_expression r.count))

abbrev pub size_of_formal : Formal → ℕ
size_of_formal f = length f.name + size_in_brackets f.size

abbrev pub size_of_head : ProcHead → ℕ
size_of_head h = 1 + (length h.name + (1 + sum_by size_of_formal h.formals))

-- ---- the greatest size of a program

abbrev pub greatest_size : ℕ
greatest_size = 2 ^ 23

-- a size, up to just above the greatest one
abbrev pub capped : ℕ → ℕ
capped n = min n (greatest_size + 1)
