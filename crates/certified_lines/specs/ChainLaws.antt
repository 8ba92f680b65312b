-- What the code of a whole chain leaves known, with one constant for its first operands where those are together a
-- constant.
use Rattle.std.specs.Prelude.{◌≡◌, ℕ, ◌+◌, ◌≤◌, ℤ, false, List, Option, Some, None}
use Rattle.word_arithmetic.specs.Range as ranges
use Rattle.word_arithmetic.specs.Range.{Ends, IsRange}
use Rattle.occam_parser.specs.declared.tree.ChainOperator.{ChainOperator}
use Rattle.occam_parser.specs.Expressions.{Terms, Two, Then, Term}
use Rattle.scalar_ranges.specs.Bounds.{bound_of_term, exact_value}
use Rattle.scalar_ranges.specs.Entries.{Entry}
use Rattle.scalar_ranges.specs.Fronts.{Front, count_of}
use Rattle.code_pieces.specs.Pieces.{word_after}
use Rattle.line_pieces.specs.Expressions.{beside, term_code, terms_code, covered, are_small}
use Rattle.certified_lines.specs.Scopes.{Scene, IsScope}
use Rattle.certified_lines.specs.Telling.{Tells, IsFree, OperandTells}
use Rattle.certified_lines.specs.OperandLaws.{IsOnly, chain_range}

-- an operand has a range, in which its code leaves a number beside another operand
pub record TermTells (g : Scene) (es : List Entry) (t : ℕ) (x : Term) (r : Ends) : Type 0 where
  pub ranged : IsRange r
  pub tells : OperandTells g es t
      (beside es x (term_code g.homes es t x) (term_code g.homes es (word_after t 1) x)) r
  pub only : IsOnly (exact_value (bound_of_term es x)) r

-- the front is the value of these operands
abbrev pub IsFrontOf : Option Front → Terms → Ends → Type 0
IsFrontOf front ts r = (f : Front) → front ≡ Some f → f.operands ≡ count_of ts → r ≡ ranges.constant f.value

-- What operands make together has a range: by the ranges that they have, if the front does not cover them, and that of a
-- front of as many.
pub data TermsRange (g : Scene) (es : List Entry) (t : ℕ) (op : ChainOperator) (front : Option Front)
    : Terms → Ends → Type 0 where
  two : {a b : Term} {r s q : Ends} → TermTells g es t a r → TermTells g es t b s → IsRange q
      → (covered front 2 ≡ None → chain_range op r s ≡ Some q) → IsFrontOf front (Two a b) q
      → TermsRange g es t op front (Two a b) q
  then_one : {ts : Terms} {x : Term} {r s q : Ends} → TermsRange g es t op front ts r → TermTells g es t x s → IsRange q
      → (covered front (count_of ts + 1) ≡ None → chain_range op r s ≡ Some q) → IsFrontOf front (Then ts x) q
      → TermsRange g es t op front (Then ts x) q

-- the value of the front that some operands begin, or else their range
abbrev pub front_or : Option ℤ → Ends → Ends
front_or None r = r
front_or (Some c) r = ranges.constant c

-- Operands have their range, or that of the front that they begin.
abbrev pub TermsTell : Type 0
TermsTell = (g : Scene) (top t : ℕ) (es : List Entry) (op : ChainOperator) (front : Option Front) (ts : Terms)
    (r : Ends) → IsScope g top es → top ≤ t → IsFree t → TermsRange g es t op front ts r
    → IsRange r × Tells g es (terms_code g.homes es t op front ts) t false (are_small es ts)
    (front_or (covered front (count_of ts)) r)
