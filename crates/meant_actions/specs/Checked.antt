-- What an action that breaks no rule gives: it is ready, where names have the homes of their kinds.
use Rattle.std.specs.Prelude.{◌≡◌, ℕ, true, List, Option, Some}
use Rattle.word_arithmetic.specs.Range.{Ends}
use Rattle.occam_parser.specs.declared.tree.ValueType.{ValueType}
use Rattle.occam_parser.specs.Lines.{Action, Input, Output}
use Rattle.occam_parser.specs.Words.{action_has_words}
use Rattle.scalar_ranges.specs.declared.scope.ScalarKind.TheVariants as scalar
use Rattle.scalar_ranges.specs.declared.scope.ArrayKind.TheVariants as array
use Rattle.scalar_ranges.specs.Entries.{Scalar, Array, Entry, meaning_in}
use Rattle.scalar_ranges.specs.Environments.{Environment}
use Rattle.program_uses.specs.declared.uses.Direction.TheVariants as direction
use Rattle.program_uses.specs.Signatures.{Parameter}
use Rattle.program_meaning.specs.GoingWell.{IsTrueIn}
use Rattle.program_meaning.specs.Links.{Port}
use Rattle.program_meaning.specs.Sequential.{IsSequentialAction}
use Rattle.usage_checks.specs.Holding.{ActionHolds}
use Rattle.usage_checks.specs.Whole.{AreWhole}
use Rattle.line_pieces.specs.Homes.{Word, home_of}
use Rattle.meant_lines.specs.Carrying.{Ground}
use Rattle.meant_lines.specs.Pushing.{IsCounted}
use Rattle.meant_actions.specs.Actions.{IsReady}
use Rattle.meant_actions.specs.Exchanging.{IsPort}

-- What is known of names is true, and variables have words of their own. No parameter is a variable.
pub record HasVariables (g : Ground) (es : List Entry) (env : Environment) : Type 0 where
  pub holds : IsTrueIn es env
  pub count : ℕ
  pub whole : AreWhole count es
  pub scalars : (name : List ℕ) (type : ValueType) (range : Ends)
      → meaning_in name es ≡ Some (Scalar scalar.Variable type range)
      → (w : ℕ) × (home_of g.homes es name ≡ Some (Word w))
  pub references : (name : List ℕ) (type : ValueType) (range : Ends)
      → meaning_in name es ≡ Some (Scalar scalar.Reference type range) → ⊥
  pub arrays : (name : List ℕ) (type : ValueType) (size : Option ℕ) (range : Ends)
      → meaning_in name es ≡ Some (Array array.Variable type size range)
      → (w : ℕ) × (home_of g.homes es name ≡ Some (Word w))

-- The channel of an action is a port.
abbrev pub HasPort : Ground → List Entry → Environment → List (Option Port) → Action → Type 0
HasPort g es env ports (Input channel target) = (port : Port) × IsPort g es env ports direction.Input channel port
HasPort g es env ports (Output channel value) = (port : Port) × IsPort g es env ports direction.Output channel port
HasPort g es env ports action = Unit {0}

-- Where that is so, an action that breaks no rule is ready, but for an instance.
abbrev pub CheckedActionsAreReady : Type 0
CheckedActionsAreReady = (g : Ground) (top : ℕ) (es : List Entry) (env : Environment) (ports : List (Option Port))
    (signatures : List (List Parameter)) (action : Action) → IsCounted top → HasVariables g es env
    → HasPort g es env ports action → ActionHolds signatures es action
    → action_has_words action ≡ true → IsSequentialAction action → IsReady g top es env ports action
