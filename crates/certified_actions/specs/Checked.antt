-- What an action that breaks no rule gives: it is ready, where variables have words of their own and its channel is a
-- link.
use Rattle.std.specs.Prelude.{◌≡◌, ℕ, true, List, Option, Some}
use Rattle.word_arithmetic.specs.Range.{Ends}
use Rattle.module_format.specs.declared.rows.Direction.TheVariants.{In, Out}
use Rattle.occam_parser.specs.declared.tree.ValueType.{ValueType}
use Rattle.occam_parser.specs.Lines.{Action, Input, Output}
use Rattle.occam_parser.specs.Words.{action_has_words}
use Rattle.scalar_ranges.specs.declared.scope.ArrayKind.TheVariants as array
use Rattle.scalar_ranges.specs.declared.scope.ScalarKind.{ScalarKind}
use Rattle.scalar_ranges.specs.declared.scope.ScalarKind.TheVariants as scalar
use Rattle.scalar_ranges.specs.Entries.{Array, Entry, Meaning, Scalar, meaning_in}
use Rattle.program_uses.specs.Signatures.{Parameter}
use Rattle.usage_checks.specs.Holding.{ActionHolds}
use Rattle.usage_checks.specs.Whole.{AreWhole}
use Rattle.line_pieces.specs.Actions.{carried}
use Rattle.line_pieces.specs.Homes.{Block, Home, Word, home_of, words_for}
use Rattle.certified_lines.specs.Instructions.{MayWrite}
use Rattle.certified_lines.specs.NarrowedScopes.{AreBeside}
use Rattle.certified_lines.specs.Scopes.{EachNameHas, IsScope, Scene}
use Rattle.certified_actions.specs.Actions.{IsReady}
use Rattle.certified_actions.specs.Declaring.{MayUse}
use Rattle.certified_actions.specs.Exchanging.{IsPort}
use Rattle.certified_actions.specs.Variables.{MayWriteAll}

-- a scalar has this word, which is no other name's and may be written
pub record HasOwnWord (g : Scene) (es : List Entry) (name : List ℕ) : Type 0 where
  pub word : ℕ
  pub at : home_of g.homes es name ≡ Some (Word word)
  pub beside : AreBeside g.homes word name es
  pub writes : MayWrite g.setting word

-- so many words are an array's, and may be written
pub record HasOwnWords (g : Scene) (es : List Entry) (name : List ℕ) (count : ℕ) : Type 0 where
  pub word : ℕ
  pub at : home_of g.homes es name ≡ Some (Word word)
  pub writes : MayWriteAll g.setting word count

-- Names are whole, and variables have words of their own. No parameter is a variable.
pub record HasVariables (g : Scene) (es : List Entry) : Type 0 where
  pub count : ℕ
  pub whole : AreWhole count es
  pub scalars : (name : List ℕ) (type : ValueType) (range : Ends)
      → meaning_in name es ≡ Some (Scalar scalar.Variable type range) → HasOwnWord g es name
  pub references : (name : List ℕ) (type : ValueType) (range : Ends)
      → meaning_in name es ≡ Some (Scalar scalar.Reference type range) → ⊥
  pub arrays : (name : List ℕ) (type : ValueType) (size : ℕ) (range : Ends)
      → meaning_in name es ≡ Some (Array array.Variable type (Some size) range)
      → HasOwnWords g es name (words_for type size)

-- The channel of an action is a link.
abbrev pub HasPort : Scene → List Entry → Action → Type 0
HasPort g es (Input channel target) = IsPort g es In channel (carried (meaning_in channel.name es))
HasPort g es (Output channel value) = IsPort g es Out channel (carried (meaning_in channel.name es))
HasPort g es action = Unit {0}

-- Then an action that breaks no rule is ready.
abbrev pub CheckedActionsAreReady : Type 0
CheckedActionsAreReady = (g : Scene) (top : ℕ) (es : List Entry) (signatures : List (List Parameter)) (action : Action)
    → IsScope g top es → HasVariables g es → HasPort g es action → ActionHolds signatures es action
    → action_has_words action ≡ true → IsReady g top es action

-- ---- a whole scope

-- No parameter is a variable, and no variable is in the block of a loop.
abbrev pub IsOwnName : Option Home → Meaning → Type 0
IsOwnName h (Scalar scalar.Reference type range) = ⊥
IsOwnName (Some (Block word head)) (Scalar scalar.Variable type range) = ⊥
IsOwnName h m = Unit {0}

-- no other name has the word of a scalar
abbrev pub ScalarsAreApart : Scene → List Entry → Type 0
ScalarsAreApart g es = (name : List ℕ) (w : ℕ) (kind : ScalarKind) (type : ValueType) (range : Ends)
    → meaning_in name es ≡ Some (Scalar kind type range) → home_of g.homes es name ≡ Some (Word w)
    → AreBeside g.homes w name es

-- The variables of a scope have words of their own, where all words before the first free one may be used.
abbrev pub ScopesHaveVariables : Type 0
ScopesHaveVariables = (g : Scene) (top count : ℕ) (es : List Entry) → IsScope g top es → AreWhole count es
    → EachNameHas IsOwnName g.homes es → ScalarsAreApart g es → MayUse g.setting 0 top → HasVariables g es
