-- What the code of assignments does.
use Rattle.std.specs.Prelude.{ℕ, ℤ, List, Option}
use Rattle.occam_parser.specs.declared.tree.ValueType.{ValueType}
use Rattle.occam_parser.specs.Expressions.{Expression}
use Rattle.occam_parser.specs.Lines.{Place, Assign}
use Rattle.scalar_ranges.specs.Entries.{Entry}
use Rattle.scalar_ranges.specs.Environments.{Environment}
use Rattle.program_meaning.specs.Links.{Port}
use Rattle.program_meaning.specs.TypedValues.{IsOfType}
use Rattle.program_meaning.specs.Doing.{acting}
use Rattle.code_pieces.specs.Pieces.{word_after}
use Rattle.line_pieces.specs.Actions.{assign_code}
use Rattle.placed_code.specs.StraightPieces.{Held}
use Rattle.placed_code.specs.LaidCode.{LaidCode, Lie}
use Rattle.placed_code.specs.Points.{point}
use Rattle.placed_code.specs.Behaves.{Behaves}
use Rattle.meant_lines.specs.Carrying.{Ground}
use Rattle.meant_actions.specs.Acting.{Begins, EndsAt, AreWithin, IsPushed, IsVariable}

-- The value is pushed and is one of the type of the variable, whose subscript is pushed while a word waits.
pub record IsAssignment (g : Ground) (top : ℕ) (es : List Entry) (env : Environment) (target : Place)
    (value : Expression) : Type 0 where
  pub type : ValueType
  pub number : ℤ
  pub variable : IsVariable g top es env (word_after top 1) target.name type target.subscript
  pub pushed : IsPushed g top es env top value number
  pub typed : IsOfType type number

-- The number of the value is stored in the variable.
abbrev pub AssignmentsBehave : Type 0
AssignmentsBehave = (c : LaidCode) (g : Ground) (top at to : ℕ) (es : List Entry) (env : Environment) (h : Held)
    (ports : List (Option Port)) (target : Place) (value : Expression) → Begins c g top es env h
    → IsAssignment g top es env target value → AreWithin g (assign_code g.homes es top target value)
    → Lie c at (assign_code g.homes es top target value) to
    → Behaves c (EndsAt g top es to) (point at h) (acting ports (Assign target value) env)
