-- What outputs leave known: the same of a scope as before.
use Rattle.std.specs.Prelude.{◌≡◌, ℕ, List, Some}
use Rattle.word_arithmetic.specs.Range.{Ends}
use Rattle.module_format.specs.declared.rows.Direction.TheVariants.{Out}
use Rattle.occam_parser.specs.declared.tree.ValueType.{ValueType}
use Rattle.occam_parser.specs.Expressions.{Expression, Alone, Element}
use Rattle.occam_parser.specs.Lines.{Place}
use Rattle.scalar_ranges.specs.declared.scope.ArrayKind.{ArrayKind}
use Rattle.scalar_ranges.specs.Entries.{Array, Entry, meaning_in}
use Rattle.line_pieces.specs.Actions.{output_code}
use Rattle.certified_lines.specs.StraightRules.{Told}
use Rattle.certified_lines.specs.Scopes.{Scene, HoldsScope, IsScope}
use Rattle.certified_lines.specs.Telling.{AreAllowed}
use Rattle.certified_actions.specs.Assigning.{IsTypedValue}
use Rattle.certified_actions.specs.Exchanging.{IsPort, IsUndisturbed}
use Rattle.certified_actions.specs.Keeping.{FallsTo}
use Rattle.certified_actions.specs.Variables.{IsSubscript}

-- An element of an array, which is a value of its own, is inside the array.
pub record IsElementOf (g : Scene) (top : ℕ) (es : List Entry) (type : ValueType) (name : List ℕ) (e : Expression)
    : Type 0 where
  pub kind : ArrayKind
  pub size : ℕ
  pub range : Ends
  pub means : meaning_in name es ≡ Some (Array kind type (Some size) range)
  pub subscript : IsSubscript g top es size e

-- so is an element that is all of a value
abbrev pub HasSource : Scene → (top : ℕ) → List Entry → ValueType → Expression → Type 0
HasSource g top es type (Alone (Element name e)) = IsElementOf g top es type name e
HasSource g top es type e = Unit {0}

-- The channel is a link, and the value has a bound and the type that it carries.
pub record IsOutput (g : Scene) (top : ℕ) (es : List Entry) (channel : Place) (value : Expression) : Type 0 where
  pub valued : IsTypedValue es value
  pub source : HasSource g top es valued.type value
  pub port : IsPort g es Out channel valued.type

-- The code of an output leads to the same scope.
abbrev pub OutputsFall : Type 0
OutputsFall = (g : Scene) (top : ℕ) (es : List Entry) (channel : Place) (value : Expression) (before : Told)
    → IsScope g top es → IsUndisturbed g top es → IsOutput g top es channel value
    → AreAllowed g (output_code g.homes es top channel value) → HoldsScope g es before.frame
    → FallsTo g top es (output_code g.homes es top channel value) before
