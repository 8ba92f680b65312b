-- What the code of outputs does.
use Rattle.std.specs.Prelude.{◌≡◌, ℕ, ℤ, List, Option, Some, Ok}
use Rattle.word_arithmetic.specs.Range.{Ends}
use Rattle.occam_parser.specs.declared.tree.ValueType.{ValueType}
use Rattle.occam_parser.specs.Expressions.{Expression, Alone, Element}
use Rattle.occam_parser.specs.Lines.{Place, Output}
use Rattle.scalar_ranges.specs.declared.scope.ArrayKind.{ArrayKind}
use Rattle.scalar_ranges.specs.Entries.{Array, Entry, meaning_in}
use Rattle.scalar_ranges.specs.Environments.{Environment}
use Rattle.scalar_ranges.specs.Types.{type_of, type_of_values}
use Rattle.program_uses.specs.declared.uses.Direction.TheVariants as direction
use Rattle.program_meaning.specs.Links.{Port}
use Rattle.program_meaning.specs.Doing.{acting}
use Rattle.line_pieces.specs.Actions.{output_code}
use Rattle.placed_code.specs.StraightPieces.{Held}
use Rattle.placed_code.specs.LaidCode.{LaidCode, Lie}
use Rattle.placed_code.specs.Points.{point}
use Rattle.placed_code.specs.Behaves.{Behaves}
use Rattle.meant_lines.specs.Carrying.{Ground}
use Rattle.meant_actions.specs.Acting.{Begins, EndsAt, AreWithin, IsPushed, IsSubscript}
use Rattle.meant_actions.specs.Exchanging.{IsPort, IsUndisturbed}

-- An element of an array, which is a value of its own, is inside the array.
pub record IsElementOf (g : Ground) (top : ℕ) (es : List Entry) (env : Environment) (name : List ℕ) (e : Expression)
    : Type 0 where
  pub kind : ArrayKind
  pub type : ValueType
  pub size : ℕ
  pub range : Ends
  pub means : meaning_in name es ≡ Some (Array kind type (Some size) range)
  pub number : ℕ
  pub subscript : IsSubscript g top es env top size e number

abbrev pub HasSource : Ground → (top : ℕ) → List Entry → Environment → Expression → Type 0
HasSource g top es env (Alone (Element name e)) = IsElementOf g top es env name e
HasSource g top es env e = Unit {0}

-- The channel is a port, and the value is pushed and of the type that it carries.
pub record IsOutput (g : Ground) (top : ℕ) (es : List Entry) (env : Environment) (ports : List (Option Port))
    (channel : Place) (value : Expression) : Type 0 where
  pub port : Port
  pub is_port : IsPort g es env ports direction.Output channel port
  pub number : ℤ
  pub type_is : type_of es value ≡ Ok (type_of_values port.carries)
  pub pushed : IsPushed g top es env top value number
  pub source : HasSource g top es env value

-- The message of the value is sent, from where that is already, or from a temporary.
abbrev pub OutputsBehave : Type 0
OutputsBehave = (c : LaidCode) (g : Ground) (top at to : ℕ) (es : List Entry) (env : Environment) (h : Held)
    (ports : List (Option Port)) (channel : Place) (value : Expression) → Begins c g top es env h
    → IsUndisturbed g top es → IsOutput g top es env ports channel value
    → AreWithin g (output_code g.homes es top channel value) → Lie c at (output_code g.homes es top channel value) to
    → Behaves c (EndsAt g top es to) (point at h) (acting ports (Output channel value) env)
