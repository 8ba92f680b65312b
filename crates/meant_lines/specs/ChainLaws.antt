-- What the code of a whole chain pushes, with one constant for its first operands where those are together a constant.
use Rattle.std.specs.Prelude.{◌≡◌, ℕ, ◌≤◌, ℤ, Bool, false, List, FitsSigned, Option, Some, None, unwrap_or}
use Rattle.std.specs.Int.{w32}
use Rattle.word_arithmetic.specs.Word.{truth}
use Rattle.occam_parser.specs.declared.tree.ChainOperator.{ChainOperator}
use Rattle.occam_parser.specs.Expressions.{Terms, Two, Then, Term}
use Rattle.scalar_ranges.specs.Bounds.{bound_of_term, exact_value}
use Rattle.scalar_ranges.specs.Entries.{Entry}
use Rattle.scalar_ranges.specs.Environments.{Environment, Meets}
use Rattle.scalar_ranges.specs.Fronts.{Front, count_of}
use Rattle.scalar_ranges.specs.Steps.{both_some}
use Rattle.scalar_ranges.specs.Values.{number_of_term, truth_of_term}
use Rattle.code_pieces.specs.Pieces.{word_after}
use Rattle.line_pieces.specs.Expressions.{beside, term_code, terms_code, covered, are_small}
use Rattle.meant_lines.specs.Carrying.{Ground}
use Rattle.meant_lines.specs.Pushing.{Pushes, IsCounted, OperandPushes}
use Rattle.meant_lines.specs.OperatorLaws.{IsValue, joined_value}

-- the word of a number or of a truth
abbrev pub word_of_either : Option ℤ → Option Bool → Option ℤ
word_of_either (Some v) b = Some v
word_of_either None (Some b) = Some (truth b)
word_of_either None None = None

abbrev pub word_of_term : Environment → Term → Option ℤ
word_of_term env x = word_of_either (number_of_term env x) (truth_of_term env x)

-- a chain is read from the left
abbrev pub word_of_terms : Environment → ChainOperator → Terms → Option ℤ
word_of_terms env op (Two a b) = both_some (word_of_term env a) (word_of_term env b) (joined_value op)
word_of_terms env op (Then ts t) = both_some (word_of_terms env op ts) (word_of_term env t) (joined_value op)

-- an operand is a word, which its code pushes beside another one
pub record TermPushes (g : Ground) (top : ℕ) (es : List Entry) (env : Environment) (t : ℕ) (x : Term) (v : ℤ)
    : Type 0 where
  pub fits : FitsSigned w32 v
  pub pushes : OperandPushes g top es env t
      (beside es x (term_code g.homes es t x) (term_code g.homes es (word_after t 1) x)) v
  pub known : IsValue (exact_value (bound_of_term es x)) v

abbrev pub TermHolds : (g : Ground) (top : ℕ) → List Entry → Environment → (t : ℕ) → Term → Type 0
TermHolds g top es env t x = (v : ℤ) → word_of_term env x ≡ Some v → TermPushes g top es env t x v

abbrev pub TermsHold : (g : Ground) (top : ℕ) → List Entry → Environment → (t : ℕ) → Terms → Type 0
TermsHold g top es env t (Two a b) = TermHolds g top es env t a × TermHolds g top es env t b
TermsHold g top es env t (Then ts x) = TermsHold g top es env t ts × TermHolds g top es env t x

-- The value of a front is that of as many operands.
abbrev pub IsFrontHere : Environment → ChainOperator → Option Front → Terms → Type 0
IsFrontHere env op front ts =
    (f : Front) → front ≡ Some f → f.operands ≡ count_of ts → word_of_terms env op ts ≡ Some f.value

abbrev pub FrontHolds : Environment → ChainOperator → Option Front → Terms → Type 0
FrontHolds env op front (Two a b) = IsFrontHere env op front (Two a b)
FrontHolds env op front (Then ts x) = FrontHolds env op front ts × IsFrontHere env op front (Then ts x)

-- Operands push their value, or that of the front that they begin.
abbrev pub TermsPush : Type 0
TermsPush = (g : Ground) (top t : ℕ) (es : List Entry) (env : Environment) (op : ChainOperator) (front : Option Front)
    (ts : Terms) (v : ℤ) → Meets env es → top ≤ t → IsCounted t → TermsHold g top es env t ts
    → FrontHolds env op front ts → word_of_terms env op ts ≡ Some v
    → FitsSigned w32 v × Pushes g top es env (terms_code g.homes es t op front ts) t false (are_small es ts)
    (unwrap_or (covered front (count_of ts)) v)
