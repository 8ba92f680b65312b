-- What the code of expressions pushes: their number, and of a condition 1 or 0.
use Rattle.std.specs.Prelude.{◌≡◌, ℕ, ◌≤◌, ℤ, Bool, true, false, List, ◌++◌, FitsSigned, Some, Ok}
use Rattle.std.specs.Int.{w32}
use Rattle.word_arithmetic.specs.Range.{Ends}
use Rattle.word_arithmetic.specs.Word.{truth}
use Rattle.occam_parser.specs.Expressions.{Expression}
use Rattle.occam_parser.specs.Words.{has_words}
use Rattle.scalar_ranges.specs.declared.types.ExprType.{ExprType}
use Rattle.scalar_ranges.specs.declared.types.ExprType.TheVariants as types
use Rattle.scalar_ranges.specs.Bounds.{bound_of, range_found}
use Rattle.scalar_ranges.specs.Entries.{Entry}
use Rattle.scalar_ranges.specs.Environments.{Environment, item_of}
use Rattle.scalar_ranges.specs.Narrowing.{test_of}
use Rattle.scalar_ranges.specs.Types.{type_of}
use Rattle.scalar_ranges.specs.Values.{number_of, truth_of}
use Rattle.program_meaning.specs.GoingWell.{IsTrueIn}
use Rattle.line_pieces.specs.Actions.{forgets, may_show}
use Rattle.line_pieces.specs.Expressions.{expression_code, is_leaf, is_small, subscript_of, before_offset, offset_of}
use Rattle.line_pieces.specs.Expressions.{or_zero, single}
use Rattle.meant_lines.specs.Carrying.{Ground}
use Rattle.meant_lines.specs.Pushing.{IsCounted, Pushes}
use Rattle.meant_lines.specs.PushingLaws.{AreSubscripts}

-- Code may begin: what is known of names is true, and the words from t on are behind those of names.
pub record IsReady (top : ℕ) (es : List Entry) (env : Environment) (t : ℕ) : Type 0 where
  pub holds : IsTrueIn es env
  pub free : top ≤ t
  pub counted : IsCounted t

-- An expression of this type breaks no rule, and its literals are words.
pub record IsChecked (es : List Entry) (e : Expression) (type : ExprType) : Type 0 where
  pub range : Ends
  pub type_is : type_of es e ≡ Ok type
  pub range_is : range_found (bound_of es e) ≡ Ok range
  pub literals : has_words e ≡ true

-- The number of an expression is a word, and its code pushes it wherever memory carries the environment.
abbrev pub NumbersArePushed : Type 0
NumbersArePushed = (g : Ground) (top t : ℕ) (es : List Entry) (env : Environment) (e : Expression) (type : ExprType)
    (v : ℤ) → IsReady top es env t → IsChecked es e type → number_of env e ≡ Some v
    → FitsSigned w32 v
    × Pushes g top es env (expression_code g.homes es t e) t (is_leaf es e) (is_small es e) v

-- The code of a condition pushes 1 where it is true, and 0 where it is false.
abbrev pub ConditionsArePushed : Type 0
ConditionsArePushed = (g : Ground) (top t : ℕ) (es : List Entry) (env : Environment) (e : Expression) (holds : Bool)
    → IsReady top es env t → IsChecked es e types.Condition → truth_of env e ≡ Some holds
    → Pushes g top es env (expression_code g.homes es t e) t (is_leaf es e) (is_small es e) (truth holds)

-- So it does with what makes the machine forget what was compared, before the jump of a test.
abbrev pub TestsArePushed : Type 0
TestsArePushed = (g : Ground) (top t : ℕ) (es : List Entry) (env : Environment) (e : Expression) (holds : Bool)
    → IsReady top es env t → IsChecked es e types.Condition → truth_of env e ≡ Some holds
    → Pushes g top es env (expression_code g.homes es t e ++ forgets (may_show es e) (test_of es e)) t false
    (is_small es e) (truth holds)

-- The code of a subscript before its constant pushes a number, which selects this item with the constant.
pub record SubscriptPushes (g : Ground) (top : ℕ) (es : List Entry) (env : Environment) (t : ℕ) (e : Expression)
    (vs : List ℤ) (v : ℤ) : Type 0 where
  pub leaf : Bool
  pub i : ℤ
  pub are : AreSubscripts vs i (or_zero (offset_of es e)) v
  pub pushes : Pushes g top es env (before_offset (subscript_of g.homes es t e)) t leaf (is_small es e) i

pub record SubscriptsArePushed : Type 0 where
  pub pushed : (g : Ground) (top t : ℕ) (es : List Entry) (env : Environment) (e : Expression) (i v : ℤ)
      (vs : List ℤ) → IsReady top es env t → IsChecked es e types.Int → number_of env e ≡ Some i
      → item_of vs i ≡ Some v → SubscriptPushes g top es env t e vs v
  -- the only value that its range has is its number
  pub single : (es : List Entry) (env : Environment) (e : Expression) (i c : ℤ) → IsTrueIn es env
      → IsChecked es e types.Int → number_of env e ≡ Some i → single (range_found (bound_of es e)) ≡ Some c → i ≡ c
