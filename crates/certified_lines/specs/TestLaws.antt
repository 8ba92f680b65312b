-- What a condition shows of the scalar that it compares with a constant: its code leaves in A where it comes from, so
-- that the word of the scalar narrows as its range in the scope does, where the condition holds and where it does not.
use Rattle.std.specs.Prelude.{◌≡◌, ℕ, ◌≤◌, ℤ, pos, Bool, true, false, List, [], ◌∷◌, ◌++◌, Some, Ok}
use Rattle.word_arithmetic.specs.Range.{Ends, IsRange, truths, narrowed}
use Rattle.prefix_decoder.specs.declared.function.Fun.TheVariants as fun
use Rattle.occam_parser.specs.declared.tree.ValueType.{ValueType}
use Rattle.occam_parser.specs.declared.tree.ChainOperator.TheVariants as chain
use Rattle.occam_parser.specs.declared.tree.Logic.{Logic}
use Rattle.occam_parser.specs.declared.tree.PairOperator.TheVariants as pair
use Rattle.word_arithmetic.specs.declared.compare.Comparison.{Comparison}
use Rattle.line_pieces.specs.Actions.{may_show}
use Rattle.occam_parser.specs.Expressions.{Expression, Paired, Chained, Terms, Term}
use Rattle.occam_parser.specs.Words.{has_words}
use Rattle.states.specs.declared.known.Source.TheVariants.{Nowhere}
use Rattle.states.specs.declared.known.WordFact.TheVariants.{Alone}
use Rattle.states.specs.State.{Facts}
use Rattle.local_rules.specs.WordRules.{number_in, narrowed_words}
use Rattle.scalar_ranges.specs.declared.scope.ScalarKind.{ScalarKind}
use Rattle.scalar_ranges.specs.declared.types.ExprType.{ExprType}
use Rattle.scalar_ranges.specs.Bounds.{Bound, bound_of}
use Rattle.scalar_ranges.specs.Entries.{Scalar, Entry, meaning_in}
use Rattle.scalar_ranges.specs.Narrowing.{Tested, test_of, as_holds}
use Rattle.scalar_ranges.specs.Types.{type_of}
use Rattle.code_pieces.specs.Pieces.{Piece, Direct}
use Rattle.line_pieces.specs.Homes.{Word, home_of}
use Rattle.line_pieces.specs.Expressions.{expression_code}
use Rattle.certified_lines.specs.StraightRules.{Setting, Told, FallOn}
use Rattle.certified_lines.specs.Scopes.{Scene, HoldsScope, IsScope}
use Rattle.certified_lines.specs.Telling.{StayBefore, AreAllowed, IsFree, IsQuiet}

-- Of one word of the frame it is known that it is a number in this range, and of all others what was known before.
pub record OneWordIs (w : ℕ) (r : Ends) (old new : Facts) : Type 0 where
  pub there : new (pos w) ≡ Alone (number_in r)
  pub others : (k : ℤ) → (k ≡ pos w → ⊥) → new k ≡ old k

-- what is known of words where what is in A holds, and where it does not
abbrev pub where_it : Bool → Told → Facts
where_it holds s = narrowed_words s.stack.a.source holds s.frame

-- Code leaves a truth in A that comes from a test of a word, and does not change what is known of words.
pub record Tests (g : Setting) (ps : List Piece) (w : ℕ) (r : Ends) (test : Tested) (before : Told) : Type 0 where
  pub after : Told
  pub falls : FallOn g ps before after
  pub fact : after.stack.a.fact ≡ number_in truths
  pub frame : after.frame ≡ before.frame
  pub narrows : (holds : Bool)
      → OneWordIs w (narrowed (as_holds holds test.comparison) test.constant r) before.frame (where_it holds after)

-- so does that of a comparison of a scalar with a constant, in either order
abbrev pub ComparisonsTest : Type 0
ComparisonsTest = (g : Scene) (top t w : ℕ) (es : List Entry) (e : Expression) (type : ExprType) (b : Bound)
    (test : Tested) (kind : ScalarKind) (of : ValueType) (range : Ends) (before : Told) → IsScope g top es
    → has_words e ≡ true → type_of es e ≡ Ok type → bound_of es e ≡ Ok b → test_of es e ≡ Some test
    → meaning_in test.name es ≡ Some (Scalar kind of range) → home_of g.homes es test.name ≡ Some (Word w)
    → HoldsScope g es before.frame
    → Tests g.setting (expression_code g.homes es t e) w range test before

-- Code leaves a number in A that comes from nowhere, and words as far as they are not free.
pub record TellsNothing (g : Setting) (ps : List Piece) (t : ℕ) (r : Ends) (before : Told) : Type 0 where
  pub after : Told
  pub falls : FallOn g ps before after
  pub fact : after.stack.a.fact ≡ number_in r
  pub source : after.stack.a.source ≡ Nowhere
  pub stay : StayBefore t before.frame after.frame

-- where 0 is added to what the code of an expression leaves, that comes from nowhere
abbrev pub SourcesAreForgotten : Type 0
SourcesAreForgotten = (g : Scene) (top t : ℕ) (es : List Entry) (e : Expression) (type : ExprType) (b : Bound)
    (before : Told) → IsScope g top es → top ≤ t → IsFree t → has_words e ≡ true → type_of es e ≡ Ok type
    → bound_of es e ≡ Ok b → AreAllowed g (expression_code g.homes es t e) → HoldsScope g es before.frame
    → (r : Ends) × IsRange r
    × TellsNothing g.setting (expression_code g.homes es t e ++ Direct fun.AddConstant (pos 0) ∷ []) t r before

-- and so does a chain of conditions
abbrev pub ChainsTellNothing : Type 0
ChainsTellNothing = (g : Scene) (top t : ℕ) (es : List Entry) (op : Logic) (ts : Terms) (type : ExprType) (b : Bound)
    (before : Told) → IsScope g top es → top ≤ t → IsFree t → has_words (Chained (chain.Logic op) ts) ≡ true
    → type_of es (Chained (chain.Logic op) ts) ≡ Ok type → bound_of es (Chained (chain.Logic op) ts) ≡ Ok b
    → AreAllowed g (expression_code g.homes es t (Chained (chain.Logic op) ts)) → HoldsScope g es before.frame
    → (r : Ends) × IsRange r
    × TellsNothing g.setting (expression_code g.homes es t (Chained (chain.Logic op) ts)) t r before

-- Code leaves a truth in A that comes from no word before t.
pub record ShowsNothing (g : Setting) (ps : List Piece) (t : ℕ) (before : Told) : Type 0 where
  pub after : Told
  pub falls : FallOn g ps before after
  pub fact : after.stack.a.fact ≡ number_in truths
  pub source : IsQuiet t after.stack.a.source
  pub stay : StayBefore t before.frame after.frame

-- so does a comparison of which it is known that it shows nothing of a word
abbrev pub ComparisonsShowNothing : Type 0
ComparisonsShowNothing = (g : Scene) (top t : ℕ) (es : List Entry) (c : Comparison) (x y : Term) (type : ExprType)
    (b : Bound) (before : Told) → IsScope g top es → top ≤ t → IsFree t
    → has_words (Paired (pair.Comparison c) x y) ≡ true → type_of es (Paired (pair.Comparison c) x y) ≡ Ok type
    → bound_of es (Paired (pair.Comparison c) x y) ≡ Ok b → may_show es (Paired (pair.Comparison c) x y) ≡ false
    → AreAllowed g (expression_code g.homes es t (Paired (pair.Comparison c) x y)) → HoldsScope g es before.frame
    → ShowsNothing g.setting (expression_code g.homes es t (Paired (pair.Comparison c) x y)) t before

-- what comes from no word before t narrows none
abbrev pub QuietTruthsNarrowNothing : Type 0
QuietTruthsNarrowNothing = (t : ℕ) (s : Told) (holds : Bool) → IsQuiet t s.stack.a.source
    → StayBefore t s.frame (where_it holds s)
