-- What assignments leave known: a scalar has exactly the range of what is assigned to it, and of arrays no more is
-- known than before.
use Rattle.std.specs.Prelude.{◌≡◌, ℕ, true, List, Ok}
use Rattle.occam_parser.specs.declared.tree.ValueType.{ValueType}
use Rattle.occam_parser.specs.Expressions.{Expression}
use Rattle.occam_parser.specs.Lines.{Place}
use Rattle.occam_parser.specs.Words.{has_words}
use Rattle.scalar_ranges.specs.Bounds.{Bound, bound_of}
use Rattle.scalar_ranges.specs.Entries.{Entry}
use Rattle.scalar_ranges.specs.Types.{type_of, type_of_values}
use Rattle.usage_checks.specs.Following.{after_assignment}
use Rattle.line_pieces.specs.Actions.{assign_code}
use Rattle.certified_lines.specs.StraightRules.{Told}
use Rattle.certified_lines.specs.Scopes.{Scene, HoldsScope, IsScope}
use Rattle.certified_lines.specs.Telling.{AreAllowed}
use Rattle.certified_actions.specs.Keeping.{FallsTo}
use Rattle.certified_actions.specs.Variables.{IsVariable}

-- A value has a type and a bound.
pub record IsTypedValue (es : List Entry) (value : Expression) : Type 0 where
  pub type : ValueType
  pub bound : Bound
  pub words : has_words value ≡ true
  pub typed : type_of es value ≡ Ok (type_of_values type)
  pub bounded : bound_of es value ≡ Ok bound

-- It is assigned to a variable of its type.
pub record IsAssignment (g : Scene) (top : ℕ) (es : List Entry) (target : Place) (value : Expression) : Type 0 where
  pub valued : IsTypedValue es value
  pub variable : IsVariable g top es target.name valued.type target.subscript

-- The code of an assignment leads to the scope after it.
abbrev pub AssignmentsFall : Type 0
AssignmentsFall = (g : Scene) (top : ℕ) (es : List Entry) (target : Place) (value : Expression) (before : Told)
    → IsScope g top es → IsAssignment g top es target value → AreAllowed g (assign_code g.homes es top target value)
    → HoldsScope g es before.frame
    → FallsTo g top (after_assignment target value es) (assign_code g.homes es top target value) before
