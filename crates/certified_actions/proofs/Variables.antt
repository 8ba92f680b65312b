-- The variables of a scope have words of their own.
use Rattle.std.proofs.Common.{◌≡◌, ℕ, ◌+◌, List, Option, Some, None, refl, arith}
use Rattle.word_arithmetic.specs.Range.{Ends}
use Rattle.occam_parser.specs.declared.tree.ValueType.{ValueType}
use Rattle.scalar_ranges.specs.declared.scope.ArrayKind.TheVariants as array
use Rattle.scalar_ranges.specs.declared.scope.ScalarKind.TheVariants as scalar
use Rattle.scalar_ranges.specs.Entries.{Array, Entry, Meaning, Scalar, meaning_in}
use Rattle.line_pieces.specs.Homes as home
use Rattle.line_pieces.specs.Homes.{Block, Home, Link, Nowhere, Passed, Word, home_of, words_for}
use Rattle.certified_lines.specs.Scopes.{EachNameHas, IsHousedThere, IsScope, Scene}
use Rattle.certified_lines.proofs.Telling.{name_has}
use Rattle.certified_actions.specs.Checked.{HasOwnWord, HasOwnWords, IsOwnName, ScalarsAreApart, ScopesHaveVariables}
use Rattle.certified_actions.specs.Declaring.{MayUse}

module _ (g : Scene) (top : ℕ) (es : List Entry) (scope : IsScope g top es) (own : EachNameHas IsOwnName g.homes es)
    (apart : ScalarsAreApart g es) (may : MayUse g.setting 0 top) (name : List ℕ) (type : ValueType) where
  -- a variable is in a word
  word_by : (range : Ends) (o : Option Home) → meaning_in name es ≡ Some (Scalar scalar.Variable type range)
      → home_of g.homes es name ≡ o → IsHousedThere g top o (Scalar scalar.Variable type range)
      → IsOwnName o (Scalar scalar.Variable type range) → HasOwnWord g es name
  word_by range None means at housed is = absurd housed
  word_by range (Some (Word w)) means at housed is = record {
    word = w;
    at = at;
    beside = apart name w scalar.Variable type range means at;
    writes = may.writes w (omega arith) housed.1;
  }
  word_by range (Some (Block w head)) means at housed is = absurd is
  word_by range (Some Nowhere) means at housed is = absurd housed
  word_by range (Some (Link n)) means at housed is = absurd housed
  word_by range (Some (home.Table values)) means at housed is = absurd housed
  word_by range (Some (Passed w)) means at housed is = absurd housed

  own_word : (range : Ends) → meaning_in name es ≡ Some (Scalar scalar.Variable type range) → HasOwnWord g es name
  own_word range means =
      let k : Meaning = Scalar scalar.Variable type range in
      word_by range (home_of g.homes es name) means refl
      (name_has (IsHousedThere g top) g.homes es name k scope.housed means)
      (name_has IsOwnName g.homes es name k own means)

  -- an array that changes is in words
  words_by : (size : ℕ) (range : Ends) (o : Option Home) → home_of g.homes es name ≡ o
      → IsHousedThere g top o (Array array.Variable type (Some size) range)
      → HasOwnWords g es name (words_for type size)
  words_by size range None at housed = absurd housed
  words_by size range (Some (Word w)) at housed =
      let ends = housed.1 in
      record { word = w; at = at; writes = λ n less. may.writes (w + n) (omega arith) (omega (arith, ends, less)) }
  words_by size range (Some (Block w head)) at housed = absurd housed
  words_by size range (Some Nowhere) at housed = absurd housed
  words_by size range (Some (Link n)) at housed = absurd housed
  words_by size range (Some (home.Table values)) at housed = absurd housed
  words_by size range (Some (Passed w)) at housed = absurd housed

  own_words : (size : ℕ) (range : Ends) → meaning_in name es ≡ Some (Array array.Variable type (Some size) range)
      → HasOwnWords g es name (words_for type size)
  own_words size range means =
      words_by size range (home_of g.homes es name) refl
      (name_has (IsHousedThere g top) g.homes es name (Array array.Variable type (Some size) range) scope.housed means)

pub scopes_have_variables : ScopesHaveVariables
scopes_have_variables g top count es scope whole own apart may = record {
  count = count;
  whole = whole;
  scalars = λ name type range means. own_word g top es scope own apart may name type range means;
  references = λ name type range means.
      no_reference (home_of g.homes es name) type range
      (name_has IsOwnName g.homes es name (Scalar scalar.Reference type range) own means);
  arrays = λ name type size range means. own_words g top es scope own apart may name type size range means;
}
  where
    no_reference : (h : Option Home) (type : ValueType) (range : Ends)
        → IsOwnName h (Scalar scalar.Reference type range) → ⊥
    no_reference None type range is = is
    no_reference (Some Nowhere) type range is = is
    no_reference (Some (Word w)) type range is = is
    no_reference (Some (Block w head)) type range is = is
    no_reference (Some (Link n)) type range is = is
    no_reference (Some (home.Table values)) type range is = is
    no_reference (Some (Passed w)) type range is = is
