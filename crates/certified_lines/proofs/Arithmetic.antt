-- What the code of an operator between two numbers leaves known.
use Rattle.std.proofs.Common.{◌≡◌, ℕ, ◌≤◌, ℤ, Bool, true, false, ◌&&◌, List, [], ◌∷◌, ◌++◌, Option, Some}
use Rattle.std.proofs.Common.{None}
use Rattle.std.proofs.Common.{FitsSigned, refl, subst, ◌∙◌}
use Rattle.std.specs.Int.{w32}
use Rattle.word_arithmetic.specs.Range as ranges
use Rattle.word_arithmetic.specs.Range.{Ends, IsRange, shift_left_range}
use Rattle.word_arithmetic.specs.Binary.{result_range}
use Rattle.word_arithmetic.specs.declared.binary.Binary.{Binary}
use Rattle.word_arithmetic.specs.declared.binary.Binary.TheVariants as binary
use Rattle.prefix_decoder.specs.declared.function.Fun.TheVariants as fun
use Rattle.occam_parser.specs.declared.tree.ArithmeticPair.{ArithmeticPair}
use Rattle.occam_parser.specs.declared.tree.ArithmeticPair.TheVariants as arithmetic
use Rattle.occam_parser.specs.declared.tree.PairOperator.TheVariants as pair
use Rattle.machine_state.specs.declared.op.Shift.{Shift}
use Rattle.machine_state.specs.declared.op.Shift.TheVariants as shifts
use Rattle.states.specs.declared.known.Known.{Known}
use Rattle.states.specs.State.{known}
use Rattle.local_rules.specs.WordRules.{number_in, shift_range}
use Rattle.scalar_ranges.specs.Bounds.{by_counts, right_range}
use Rattle.scalar_ranges.specs.Entries.{Entry}
use Rattle.code_pieces.specs.Pieces.{Piece, Direct, operates}
use Rattle.line_pieces.specs.Expressions.{Operand, both, comes_last, pushed, unless_added, adds_or, pair_operation}
use Rattle.line_pieces.specs.Expressions.{added_for, pushes_of}
use Rattle.placed_code.specs.OperandsName.{IsBinary, IsShift}
use Rattle.placed_code.proofs.OperandsName.{operands_name}
use Rattle.placed_code.proofs.OperandsKeep.{kept_of}
use Rattle.certified_lines.specs.StraightRules.{Setting, Told, FallOn}
use Rattle.certified_lines.specs.Instructions.{with_a, with_result}
use Rattle.certified_lines.specs.Scopes.{Scene, HoldsScope, IsScope}
use Rattle.certified_lines.specs.Telling.{AreAllowed, PushedFact, IsFree, OperandTells, keeps}
use Rattle.certified_lines.specs.OperandLaws.{IsOnly, pair_range, ArithmeticTells}
use Rattle.certified_lines.proofs.StraightRules.{fall_both}
use Rattle.certified_lines.proofs.Numbers.{sums_lie_in_ranges, shifts_lie_in_ranges}
use Rattle.certified_lines.proofs.Ranges.{subtracted}
use Rattle.certified_lines.proofs.Operands.{both_tell, operations_tell, allowed_first}

-- ---- what is in A is replaced

pub replaced : (g : Setting) (ps qs : List Piece) (t : ℕ) (leaf small : Bool) (r q : Ends) (v : Known) (before : Told)
    → (p : PushedFact g ps t leaf small r before) → v.fact ≡ number_in q → FallOn g qs p.after (with_a v p.after)
    → PushedFact g (ps ++ qs) t false small q before
replaced g ps qs t leaf small r q v before p is falls = record {
  after = with_a v p.after;
  falls = fall_both p.falls falls;
  a = is;
  stay = p.stay;
  below = λ is. p.below is;
  alone = λ is. absurd (cc is);
}

-- less may be asked of what is below
pub less_small : (g : Setting) (ps : List Piece) (t : ℕ) (leaf small kept : Bool) (r : Ends) (before : Told)
    → (small ≡ true → kept ≡ true) → PushedFact g ps t leaf kept r before → PushedFact g ps t leaf small r before
less_small g ps t leaf small kept r before further p = record {
  after = p.after;
  falls = p.falls;
  a = p.a;
  stay = p.stay;
  below = λ is. p.below (further is);
  alone = p.alone;
}

pub fewer_kept : (g : Setting) (ps : List Piece) (t : ℕ) (small kept : Bool) (r : Ends) (before : Told)
    → (small ≡ true → kept ≡ true) → PushedFact g ps t false kept r before → PushedFact g ps t false small r before
fewer_kept g ps t small kept r before further p = less_small g ps t false small kept r before further p

pub first_of : (p q : Bool) → (p && q) ≡ true → p ≡ true
first_of true q is = refl
first_of false q is = absurd (cc is)

-- a constant is added to what is in A
pub sum_behind : (g : Setting) (ps : List Piece) (t : ℕ) (leaf small : Bool) (r q : Ends) (d : ℤ) (before : Told)
    → IsRange r → FitsSigned w32 d → result_range binary.Add r (ranges.constant d) ≡ Some q
    → PushedFact g ps t leaf small r before
    → PushedFact g (ps ++ Direct fun.AddConstant d ∷ []) t false small q before
sum_behind g ps t leaf small r q d before x fits gives p =
    replaced g ps (Direct fun.AddConstant d ∷ []) t leaf small r q (known (number_in q)) before p refl
    (sums_lie_in_ranges g d r q p.after (record { is = p.a; range = x }) fits gives)

-- ---- operators

-- both operands in order
abbrev two : ℕ → Operand → Operand → List Piece
two t a b = both true (comes_last a.leaf b.small) t a b

shift_left_is : (r s : Ends) → shift_range shifts.Left r s ≡ by_counts shift_left_range r s
unfolding shift_range
shift_left_is r s = refl

shift_right_is : (r s : Ends) → shift_range shifts.Right r s ≡ by_counts right_range r s
unfolding shift_range
shift_right_is r s = refl

module _ (g : Scene) (top t : ℕ) (es : List Entry) (a b : Operand) (r s q : Ends) (before : Told)
    (scope : IsScope g top es) (low : top ≤ t) (few : IsFree t) (x : IsRange r) (y : IsRange s)
    (push_a : OperandTells g es t a r) (push_b : OperandTells g es t b s) (holds : HoldsScope g es before.frame) where
  binary_tells : (operation : ℤ) (op : Binary) → IsBinary operation op → result_range op r s ≡ Some q
      → AreAllowed g (two t a b ++ operates operation ∷ [])
      → PushedFact g.setting (two t a b ++ operates operation ∷ []) t false (a.small && b.leaf) q before
  binary_tells operation op named gives all =
      fewer_kept g.setting (two t a b ++ operates operation ∷ []) t (a.small && b.leaf) (keeps a b) q before
      (kept_of a.small a.leaf b.leaf)
      (operations_tell g top t es true a b operation op r s q before scope low few x y push_a push_b named gives
      (λ no. absurd (cc no)) all holds)

  shift_tells : (operation : ℤ) (op : Shift) → IsShift operation op → shift_range op r s ≡ Some q
      → AreAllowed g (two t a b ++ operates operation ∷ [])
      → PushedFact g.setting (two t a b ++ operates operation ∷ []) t false (a.small && b.leaf) q before
  shift_tells operation op named gives all =
      let told = both_tell g top t es true a b r s before scope low few push_a push_b
      (allowed_first g (two t a b) (operates operation ∷ []) all) holds in
      record {
        after = with_result (known (number_in q)) told.after;
        falls = fall_both told.falls (shifts_lie_in_ranges g.setting operation op r s q told.after named
            (record { is = told.operands.0; range = x }) (record { is = told.operands.1; range = y }) gives);
        a = refl;
        stay = told.stay;
        below = λ is. told.below (kept_of a.small a.leaf b.leaf is);
        alone = λ is. absurd (cc is);
      }

  both_ranged : (op : ArithmeticPair) → pair_range op r s ≡ Some q
      → AreAllowed g (two t a b ++ operates (pair_operation op) ∷ [])
      → PushedFact g.setting (two t a b ++ operates (pair_operation op) ∷ []) t false (a.small && b.leaf) q before
  both_ranged arithmetic.Subtract gives all = binary_tells _ _ operands_name.subtract gives all
  both_ranged arithmetic.Divide gives all = binary_tells _ _ operands_name.divide gives all
  both_ranged arithmetic.Remainder gives all = binary_tells _ _ operands_name.remainder gives all
  both_ranged arithmetic.Minus gives all = binary_tells _ _ operands_name.difference gives all
  both_ranged arithmetic.ShiftLeft gives all = shift_tells _ _ operands_name.left (shift_left_is r s ∙ gives) all
  both_ranged arithmetic.ShiftRight gives all = shift_tells _ _ operands_name.right (shift_right_is r s ∙ gives) all

  -- a constant is added in place of the second operand
  pub sum_tells : (d : ℤ) → FitsSigned w32 d → result_range binary.Add r (ranges.constant d) ≡ Some q
      → AreAllowed g (a.first ++ Direct fun.AddConstant d ∷ [])
      → PushedFact g.setting (a.first ++ Direct fun.AddConstant d ∷ []) t false (a.small && b.leaf) q before
  sum_tells d fits gives all =
      fewer_kept g.setting (a.first ++ Direct fun.AddConstant d ∷ []) t (a.small && b.leaf) a.small q before
      (first_of a.small b.leaf)
      (sum_behind g.setting a.first t a.leaf a.small r q d before x fits gives
      (push_a.first (allowed_first g a.first (Direct fun.AddConstant d ∷ []) all) before holds))

  -- both operands where nothing is added, as of a division
  by_added : (o : Option ℤ) (op : ArithmeticPair) (constant : Option ℤ) → added_for op constant ≡ o
      → IsOnly constant s → pair_range op r s ≡ Some q
      → AreAllowed g (pushed (unless_added o (pushes_of (pair.Arithmetic arithmetic.Divide) None None)) t a b
      ++ adds_or o (operates (pair_operation op) ∷ []))
      → PushedFact g.setting (pushed (unless_added o (pushes_of (pair.Arithmetic arithmetic.Divide) None None)) t a b
      ++ adds_or o (operates (pair_operation op) ∷ [])) t false (a.small && b.leaf) q before
  by_added None op constant is value gives all = both_ranged op gives all
  by_added (Some d) arithmetic.Subtract (Some c) is value gives all =
      let less = subtracted r q c d is
      (subst (λ (e : Ends). result_range binary.Subtract r e ≡ Some q) value gives) in
      sum_tells d less.0 less.1 all
  by_added (Some d) op constant is value gives all = absurd (cc)

pub arithmetic_tells : ArithmeticTells
arithmetic_tells g top t es op a b known constant r s q before scope low few x y push_a push_b value gives all holds =
    by_added g top t es a b r s q before scope low few x y push_a push_b holds (added_for op constant) op constant refl
    value gives all
