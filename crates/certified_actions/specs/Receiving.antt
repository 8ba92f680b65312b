-- What inputs leave known: a scalar has any number of its type, and of arrays no more is known than before.
use Rattle.std.specs.Prelude.{ℕ, List}
use Rattle.module_format.specs.declared.rows.Direction.TheVariants.{In}
use Rattle.occam_parser.specs.declared.tree.ValueType.{ValueType}
use Rattle.occam_parser.specs.Lines.{Place}
use Rattle.scalar_ranges.specs.Entries.{Entry}
use Rattle.usage_checks.specs.Following.{after_input}
use Rattle.line_pieces.specs.Actions.{input_code}
use Rattle.certified_lines.specs.StraightRules.{Told}
use Rattle.certified_lines.specs.Scopes.{Scene, HoldsScope, IsScope}
use Rattle.certified_lines.specs.Telling.{AreAllowed}
use Rattle.certified_actions.specs.Exchanging.{IsPort, IsUndisturbed}
use Rattle.certified_actions.specs.Keeping.{FallsTo}
use Rattle.certified_actions.specs.Variables.{IsVariable}

-- The channel is a link, and the variable has the type that it carries.
pub record IsInput (g : Scene) (top : ℕ) (es : List Entry) (channel target : Place) : Type 0 where
  pub type : ValueType
  pub port : IsPort g es In channel type
  pub variable : IsVariable g top es target.name type target.subscript

-- The code of an input leads to the scope after it.
abbrev pub InputsFall : Type 0
InputsFall = (g : Scene) (top : ℕ) (es : List Entry) (channel target : Place) (before : Told) → IsScope g top es
    → IsUndisturbed g top es → IsInput g top es channel target → AreAllowed g (input_code g.homes es top channel target)
    → HoldsScope g es before.frame
    → FallsTo g top (after_input target es) (input_code g.homes es top channel target) before
