-- What the code of an operator between two numbers pushes.
use Rattle.std.proofs.Common.{◌≡◌, ℕ, ◌≤◌, ℤ, pos, negsuc, Bool, true, false, ◌&&◌, cond, List, [], ◌∷◌, ◌++◌}
use Rattle.std.proofs.Common.{Option, Some, None, FitsSigned, refl, ap, ◌∙◌, arith}
use Rattle.std.specs.Prelude.{◌+ℤ◌, ◌-ℤ◌}
use Rattle.std.specs.Int.{w32}
use Rattle.std.proofs.lemmas.Int.{ints}
use Rattle.word_arithmetic.specs.Word.{is_word, checked, checked_sum, checked_difference, shifted_left, shifted_right}
use Rattle.word_arithmetic.specs.Range.{in_range}
use Rattle.word_arithmetic.specs.Binary.{computed}
use Rattle.word_arithmetic.specs.declared.binary.Binary.{Binary}
use Rattle.machine_state.specs.LocalStep.{address, shift_result}
use Rattle.machine_state.specs.declared.op.Shift.{Shift}
use Rattle.machine_state.specs.declared.op.Shift.TheVariants as shifts
use Rattle.occam_parser.specs.declared.tree.ArithmeticPair.{ArithmeticPair}
use Rattle.occam_parser.specs.declared.tree.ArithmeticPair.TheVariants as arithmetic
use Rattle.prefix_decoder.specs.declared.function.Fun.TheVariants as fun
use Rattle.scalar_ranges.specs.Entries.{Entry}
use Rattle.scalar_ranges.specs.Environments.{Environment, Meets}
use Rattle.scalar_ranges.specs.Values.{pair_value, counts, shifted}
use Rattle.code_pieces.specs.Pieces.{Piece, Direct, operates}
use Rattle.line_pieces.specs.Expressions.{Operand, both, comes_last, pushed, unless_added, adds_or, pair_operation}
use Rattle.line_pieces.specs.Expressions.{added_for, pushes_of}
use Rattle.occam_parser.specs.declared.tree.PairOperator.TheVariants as pair
use Rattle.placed_code.specs.StraightPieces as pieces
use Rattle.placed_code.proofs.StraightPieces.{lead_both}
use Rattle.placed_code.proofs.OperandsName.{operands_name}
use Rattle.placed_code.proofs.OperandsKeep.{kept_of}
use Rattle.placed_code.specs.OperandsName.{IsBinary, IsShift}
use Rattle.meant_lines.specs.Instructions.{with_a, with_result}
use Rattle.meant_lines.specs.Carrying.{Ground, Carries}
use Rattle.meant_lines.specs.Pushing.{Pushed, AllStandOn, IsCounted, OperandPushes, keeps}
use Rattle.meant_lines.specs.OperatorLaws.{IsValue, ArithmeticPushes}
use Rattle.meant_lines.proofs.Instructions.{constants_are_added, words_are_shifted}
use Rattle.meant_lines.proofs.Operators.{both_push, operations_push, first_stand}

-- ---- values

pub checked_by : (t : Bool) (z v : ℤ) → cond t (Some z) None ≡ Some v → z ≡ v
checked_by true z v is = cc
checked_by false z v is = absurd (cc)

-- to add what is below 0 by a constant is to subtract the constant
added_is : (x y c d v : ℤ) → c ≡ y → checked_difference (pos 0) c ≡ Some d → checked_difference x y ≡ Some v
    → checked_sum x d ≡ Some v
added_is x y c d v same is gives =
    let below = checked_by (is_word (pos 0 -ℤ c)) (pos 0 -ℤ c) d is in
    let sum : x +ℤ d ≡ x -ℤ y = omega (arith, ints, same, below) in
    ap checked sum ∙ gives

subtracted : (x y c d v : ℤ) → c ≡ y → checked_difference (pos 0) c ≡ Some d
    → pair_value arithmetic.Subtract x y ≡ Some v → checked_sum x d ≡ Some v
unfolding computed
subtracted x y c d v same is gives = added_is x y c d v same is gives

-- a count of bits is read as it is
count_by : (t : Bool) (shift : ℤ → ℕ → ℤ) (x : ℤ) (n : ℕ) (v : ℤ) → cond t (Some (shift x n)) None ≡ Some v
    → shift x n ≡ v
count_by true shift x n v is = cc
count_by false shift x n v is = absurd (cc)

pub fewer_kept : (g : Ground) (ps : List Piece) (t : ℕ) (small kept : Bool) (v : ℤ) (h : pieces.Held)
    → (small ≡ true → kept ≡ true) → Pushed g ps t false kept v h → Pushed g ps t false small v h
fewer_kept g ps t small kept v h further p = record {
  after = p.after;
  leads = p.leads;
  a = p.a;
  changes = p.changes;
  below = λ is. p.below (further is);
  alone = p.alone;
}

-- both operands in order
abbrev two : ℕ → Operand → Operand → List Piece
two t a b = both true (comes_last a.leaf b.small) t a b

module _ (g : Ground) (top t : ℕ) (es : List Entry) (env : Environment) (a b : Operand) (x y v : ℤ) (h : pieces.Held)
    (meets : Meets env es) (low : top ≤ t) (few : IsCounted t) (x_fits : FitsSigned w32 x) (y_fits : FitsSigned w32 y)
    (push_a : OperandPushes g top es env t a x) (push_b : OperandPushes g top es env t b y)
    (carries : Carries g top es env h.memory) where
  binary_pushes : (operation : ℤ) (op : Binary) → IsBinary operation op → computed op x y ≡ Some v
      → AllStandOn g (two t a b ++ operates operation ∷ [])
      → Pushed g (two t a b ++ operates operation ∷ []) t false (a.small && b.leaf) v h
  binary_pushes operation op is gives all =
      fewer_kept g (two t a b ++ operates operation ∷ []) t (a.small && b.leaf) (keeps a b) v h
      (kept_of a.small a.leaf b.leaf)
      (operations_push g top t es env true a b operation op x y v h meets low few x_fits push_a push_b is gives
      (λ no. absurd (cc no)) all carries)

  count_read : (n : ℕ) → y ≡ pos n → address y ≡ n
  count_read n is = omega (arith, ints, is, y_fits)

  shift_pushes : (operation : ℤ) (op : Shift) (n : ℕ) → IsShift operation op → y ≡ pos n → shift_result op x n ≡ v
      → AllStandOn g (two t a b ++ operates operation ∷ [])
      → Pushed g (two t a b ++ operates operation ∷ []) t false (a.small && b.leaf) v h
  shift_pushes operation op n is count gives all =
      let pushed = both_push g top t es env true a b x y h meets low few x_fits push_a push_b
      (first_stand g (two t a b) (operates operation ∷ []) all) carries in
      let k = pushed.after in
      record {
        after = with_result (shift_result op k.stack.b n) k;
        leads = lead_both pushed.leads (words_are_shifted g.footing operation op n k is
            (ap address pushed.operands.1 ∙ count_read n count));
        a = ap (λ (u : ℤ). shift_result op u n) pushed.operands.0 ∙ gives;
        changes = pushed.changes;
        below = λ is. pushed.below (kept_of a.small a.leaf b.leaf is);
        alone = λ is. absurd (cc is);
      }

  -- a count that is not below 0
  counted_pushes : (operation : ℤ) (op : Shift) (shift : ℤ → ℕ → ℤ) (n : ℤ) → IsShift operation op
      → ((m : ℕ) → shift_result op x m ≡ shift x m) → y ≡ n → shifted shift x n ≡ Some v
      → AllStandOn g (two t a b ++ operates operation ∷ [])
      → Pushed g (two t a b ++ operates operation ∷ []) t false (a.small && b.leaf) v h
  counted_pushes operation op shift (pos n) is same count gives all =
      shift_pushes operation op n is count (same n ∙ count_by (in_range counts (pos n)) shift x n v gives) all
  counted_pushes operation op shift (negsuc n) is same count gives all = absurd (cc)

  both_pushed : (op : ArithmeticPair) → pair_value op x y ≡ Some v
      → AllStandOn g (two t a b ++ operates (pair_operation op) ∷ [])
      → Pushed g (two t a b ++ operates (pair_operation op) ∷ []) t false (a.small && b.leaf) v h
  both_pushed arithmetic.Subtract gives all = binary_pushes _ _ operands_name.subtract gives all
  both_pushed arithmetic.Divide gives all = binary_pushes _ _ operands_name.divide gives all
  both_pushed arithmetic.Remainder gives all = binary_pushes _ _ operands_name.remainder gives all
  both_pushed arithmetic.Minus gives all = binary_pushes _ _ operands_name.difference gives all
  both_pushed arithmetic.ShiftLeft gives all =
      counted_pushes (pair_operation arithmetic.ShiftLeft) shifts.Left shifted_left y operands_name.left (λ m. refl)
      refl gives all
  both_pushed arithmetic.ShiftRight gives all =
      counted_pushes (pair_operation arithmetic.ShiftRight) shifts.Right shifted_right y operands_name.right
      (λ m. refl) refl gives all

  -- the constant is added in place of the one that is subtracted
  pub sum_pushed : (d : ℤ) → checked_sum x d ≡ Some v
      → AllStandOn g (a.first ++ Direct fun.AddConstant d ∷ [])
      → Pushed g (a.first ++ Direct fun.AddConstant d ∷ []) t false (a.small && b.leaf) v h
  sum_pushed d gives all =
      let first = push_a.first (first_stand g a.first (Direct fun.AddConstant d ∷ []) all) h carries in
      record {
        after = with_a v first.after;
        leads = lead_both first.leads (constants_are_added g.footing d v first.after
            (ap (λ (u : ℤ). checked_sum u d) first.a ∙ gives));
        a = refl;
        changes = first.changes;
        below = λ is. first.below (first_of a.small b.leaf is);
        alone = λ is. absurd (cc is);
      }
    where
      first_of : (p q : Bool) → (p && q) ≡ true → p ≡ true
      first_of true q is = refl
      first_of false q is = absurd (cc is)

  -- both operands where nothing is added, as of a division
  by_added : (o : Option ℤ) (op : ArithmeticPair) (constant : Option ℤ) → added_for op constant ≡ o
      → IsValue constant y → pair_value op x y ≡ Some v
      → AllStandOn g (pushed (unless_added o (pushes_of (pair.Arithmetic arithmetic.Divide) None None)) t a b
      ++ adds_or o (operates (pair_operation op) ∷ []))
      → Pushed g (pushed (unless_added o (pushes_of (pair.Arithmetic arithmetic.Divide) None None)) t a b
      ++ adds_or o (operates (pair_operation op) ∷ [])) t false
      (a.small && b.leaf) v h
  by_added None op constant is value gives all = both_pushed op gives all
  by_added (Some d) arithmetic.Subtract (Some c) is value gives all =
      sum_pushed d (subtracted x y c d v value is gives) all
  by_added (Some d) op constant is value gives all = absurd (cc)

pub arithmetic_pushes : ArithmeticPushes
arithmetic_pushes g top t es env op a b known constant x y v h meets low few x_fits y_fits push_a push_b value gives all
    carries =
    by_added g top t es env a b x y v h meets low few x_fits y_fits push_a push_b carries (added_for op constant) op
    constant refl value gives all
