-- What the code of comparisons pushes.
use Rattle.std.proofs.Common.{◌≡◌, ℕ, ◌≤◌, inl, inr, ℤ, pos, Bool, true, false, not, ◌&&◌, List, [], ◌∷◌, ◌++◌}
use Rattle.std.proofs.Common.{Option, Some, None, FitsSigned, refl, sym, ap, subst, ◌∙◌, arith, append_assoc}
use Rattle.std.proofs.Common.{int_le, int_lt, ◌+◌, ◌-◌, ◌%◌, ◌^◌}
use Rattle.std.specs.Prelude.{◌+ℤ◌, ◌-ℤ◌}
use Rattle.std.specs.Int.{w32, cast_unsigned}
use Rattle.std.specs.Ordering.{int_eq}
use Rattle.std.proofs.lemmas.Int.{ints, of_z-to_z}
use Rattle.std.proofs.lemmas.Bool.Decides.{Decides-int_eq}
use Rattle.module_format.specs.declared.stack.Stack.{Stack}
use Rattle.word_arithmetic.specs.Word.{is_word, word_difference, truth}
use Rattle.word_arithmetic.specs.Binary.{computed}
use Rattle.word_arithmetic.specs.Comparison.{compares}
use Rattle.word_arithmetic.specs.declared.binary.Binary.TheVariants as binary
use Rattle.word_arithmetic.specs.declared.compare.Comparison.{Comparison}
use Rattle.word_arithmetic.specs.declared.compare.Comparison.TheVariants as comparison
use Rattle.prefix_decoder.specs.declared.function.Fun.TheVariants as fun
use Rattle.occam_parser.specs.declared.tree.PairOperator.TheVariants as pair
use Rattle.scalar_ranges.specs.Entries.{Entry}
use Rattle.scalar_ranges.specs.Environments.{Environment, Meets}
use Rattle.code_pieces.specs.declared.operations.TheConstants.{DIFFERENCE, GREATER, REVERSE}
use Rattle.code_pieces.specs.Pieces.{Piece, Direct, operates, constant}
use Rattle.line_pieces.specs.Expressions.{Operand, both, comes_last, pushed, pushes_of, pair_code, negates}
use Rattle.line_pieces.specs.Expressions.{after_constant, next_above, next_below, negated_unless, on_constant}
use Rattle.line_pieces.specs.Expressions.{below_constant}
use Rattle.placed_code.specs.StraightPieces as pieces
use Rattle.placed_code.specs.StraightPieces.{LeadOn, with_pushed}
use Rattle.placed_code.proofs.StraightPieces.{lead_both}
use Rattle.placed_code.proofs.OperandsName.{operands_name}
use Rattle.placed_code.proofs.OperandsKeep.{kept_of, leaves_kept, exchanged_kept, by_next}
use Rattle.meant_lines.specs.Instructions.{with_a, with_result}
use Rattle.meant_lines.specs.Carrying.{Ground, Carries}
use Rattle.meant_lines.specs.Pushing.{Pushed, AllStandOn, IsCounted, OperandPushes, AreOperands, keeps}
use Rattle.meant_lines.specs.OperatorLaws.{IsValue, leaves_below, ComparisonsPush}
use Rattle.meant_lines.proofs.Instructions.{constants_are_compared, constants_are_pushed}
use Rattle.meant_lines.proofs.Instructions.{operations_are_computed, registers_are_reversed}
use Rattle.meant_lines.proofs.Operators.{both_push, operations_push, first_stand, both_true}
use Rattle.meant_lines.proofs.Arithmetic.{checked_by, fewer_kept}

-- ---- values

same_tests : (p q : Bool) → (p ≡ true → q ≡ true) → (q ≡ true → p ≡ true) → p ≡ q
same_tests true q f g = sym (f refl)
same_tests false true f g = g refl
same_tests false false f g = refl

-- two numbers are less apart by 1 than two others
less_by_one : (x y u v : ℤ) (p q : Bool) → (v -ℤ u) +ℤ pos 1 ≡ y -ℤ x → int_lt x y ≡ p → int_le u v ≡ q → p ≡ q
less_by_one x y u v true true apart e f = refl
less_by_one x y u v false false apart e f = refl
less_by_one x y u v p q apart e f = absurd (omega (arith, ints))

-- x <= c is x < c + 1
next_above_is : (x c d : ℤ) → next_above (Some c) ≡ Some d → int_lt x d ≡ int_le x c
next_above_is x c d is =
    let next = checked_by (is_word (c +ℤ pos 1)) (c +ℤ pos 1) d is in
    less_by_one x d x c (int_lt x d) (int_le x c) (omega (arith, ints, next)) refl refl

-- x >= c is x > c - 1
next_below_is : (x c d : ℤ) → next_below (Some c) ≡ Some d → int_lt d x ≡ int_le c x
next_below_is x c d is =
    let next = checked_by (is_word (c -ℤ pos 1)) (c -ℤ pos 1) d is in
    less_by_one d x c x (int_lt d x) (int_le c x) (omega (arith, ints, next)) refl refl

not_above_by : (x y : ℤ) (p q : Bool) → int_lt y x ≡ p → int_le x y ≡ q → not p ≡ q
not_above_by x y true true e f = absurd (omega (arith, ints))
not_above_by x y true false e f = refl
not_above_by x y false true e f = refl
not_above_by x y false false e f = absurd (omega (arith, ints))

not_above : (x y : ℤ) → not (int_lt y x) ≡ int_le x y
not_above x y = not_above_by x y (int_lt y x) (int_le x y) refl refl

-- two words are equal if they differ by 0
equal_words : (x y : ℤ) → FitsSigned w32 x → FitsSigned w32 y → word_difference x y ≡ pos 0 → x ≡ y
equal_words x y x_fits y_fits is =
    let m : ℕ = (cast_unsigned w32 x + (2 ^ 32 - cast_unsigned w32 y)) % 2 ^ 32 in
    let none : m ≡ 0 = sym (of_z-to_z w32 m (omega arith)) ∙ ap (cast_unsigned w32) is in
    omega (arith, ints, none, x_fits, y_fits)

no_difference : (x y : ℤ) → FitsSigned w32 x → FitsSigned w32 y → x ≡ y → word_difference x y ≡ pos 0
no_difference x y x_fits y_fits same = omega (arith, ints, same, x_fits, y_fits)

difference_tells : (x y : ℤ) → FitsSigned w32 x → FitsSigned w32 y
    → int_eq (word_difference x y) (pos 0) ≡ int_eq x y
difference_tells x y x_fits y_fits =
    same_tests (int_eq (word_difference x y) (pos 0)) (int_eq x y)
    (λ is. (Decides-int_eq x y).1
    (equal_words x y x_fits y_fits ((Decides-int_eq (word_difference x y) (pos 0)).0 is)))
    (λ is. (Decides-int_eq (word_difference x y) (pos 0)).1
    (no_difference x y x_fits y_fits ((Decides-int_eq x y).0 is)))

turned_equal : (x y : ℤ) → int_eq y x ≡ int_eq x y
turned_equal x y =
    same_tests (int_eq y x) (int_eq x y) (λ is. (Decides-int_eq x y).1 (sym ((Decides-int_eq y x).0 is)))
    (λ is. (Decides-int_eq y x).1 (sym ((Decides-int_eq x y).0 is)))

either_tells : (x y : ℤ) (s : Stack ℤ) → FitsSigned w32 x → FitsSigned w32 y → AreOperands false x y s
    → int_eq (word_difference s.b s.a) (pos 0) ≡ int_eq x y
either_tells x y s x_fits y_fits (inl are) =
    ap (λ (u : ℤ). int_eq (word_difference u s.a) (pos 0)) are.0
    ∙ ap (λ (u : ℤ). int_eq (word_difference x u) (pos 0)) are.1 ∙ difference_tells x y x_fits y_fits
either_tells x y s x_fits y_fits (inr are) =
    ap (λ (u : ℤ). int_eq (word_difference u s.a) (pos 0)) are.0
    ∙ ap (λ (u : ℤ). int_eq (word_difference y u) (pos 0)) are.1 ∙ difference_tells y x y_fits x_fits
    ∙ turned_equal x y

-- ---- what is in A is replaced

pub replaced : (g : Ground) (ps qs : List Piece) (t : ℕ) (leaf small : Bool) (v w : ℤ) (h : pieces.Held)
    → (p : Pushed g ps t leaf small v h) → LeadOn g.footing qs p.after (with_a w p.after)
    → Pushed g (ps ++ qs) t false small w h
replaced g ps qs t leaf small v w h p leads = record {
  after = with_a w p.after;
  leads = lead_both p.leads leads;
  a = refl;
  changes = p.changes;
  below = λ is. p.below is;
  alone = λ is. absurd (cc is);
}

pub compared_with : (g : Ground) (ps : List Piece) (t : ℕ) (leaf small : Bool) (v e : ℤ) (h : pieces.Held)
    → Pushed g ps t leaf small v h
    → Pushed g (ps ++ Direct fun.EqualsConstant e ∷ []) t false small (truth (int_eq v e)) h
compared_with g ps t leaf small v e h p =
    subst (λ (u : ℤ). Pushed g (ps ++ Direct fun.EqualsConstant e ∷ []) t false small (truth (int_eq u e)) h) p.a
    (replaced g ps (Direct fun.EqualsConstant e ∷ []) t leaf small v (truth (int_eq p.after.stack.a e)) h p
    (constants_are_compared g.footing e p.after))

pub not_truth : (b : Bool) → truth (int_eq (truth b) (pos 0)) ≡ truth (not b)
not_truth true = refl
not_truth false = refl

-- the truth that it is not
pub turned_truth : (g : Ground) (ps : List Piece) (t : ℕ) (leaf small b : Bool) (h : pieces.Held)
    → Pushed g ps t leaf small (truth b) h → Pushed g (ps ++ negates ∷ []) t false small (truth (not b)) h
turned_truth g ps t leaf small b h p =
    subst (λ (u : ℤ). Pushed g (ps ++ negates ∷ []) t false small u h) (not_truth b)
    (compared_with g ps t leaf small (truth b) (pos 0) h p)

-- and so behind pieces that follow
turned_behind : (g : Ground) (ps qs : List Piece) (t : ℕ) (leaf small b : Bool) (h : pieces.Held)
    → (AllStandOn g (ps ++ qs) → Pushed g (ps ++ qs) t leaf small (truth b) h)
    → AllStandOn g (ps ++ (qs ++ negates ∷ []))
    → Pushed g (ps ++ (qs ++ negates ∷ [])) t false small (truth (not b)) h
turned_behind g ps qs t leaf small b h pushes all =
    subst (λ (rs : List Piece). Pushed g rs t false small (truth (not b)) h) (append_assoc ps qs (negates ∷ []))
    (turned_truth g (ps ++ qs) t leaf small b h (pushes (first_stand g (ps ++ qs) (negates ∷ [])
    (subst (λ (rs : List Piece). AllStandOn g rs) (sym (append_assoc ps qs (negates ∷ []))) all))))

as_truth : (g : Ground) (ps : List Piece) (t : ℕ) (small p q : Bool) (h : pieces.Held) → p ≡ q
    → Pushed g ps t false small (truth p) h → Pushed g ps t false small (truth q) h
as_truth g ps t small p q h same is = subst (λ (b : Bool). Pushed g ps t false small (truth b) h) same is

-- ---- two operands

first_leaf : (p q : Bool) → (p && q) ≡ true → p ≡ true
first_leaf p q is = (both_true p q is).0

module _ (g : Ground) (top t : ℕ) (es : List Entry) (env : Environment) (meets : Meets env es) (low : top ≤ t)
    (few : IsCounted t) (h : pieces.Held) (carries : Carries g top es env h.memory) where
  -- the first one is greater
  greater_pushed : (a b : Operand) (x y : ℤ) → FitsSigned w32 x → OperandPushes g top es env t a x
      → OperandPushes g top es env t b y
      → AllStandOn g (both true (comes_last a.leaf b.small) t a b ++ operates GREATER ∷ [])
      → Pushed g (both true (comes_last a.leaf b.small) t a b ++ operates GREATER ∷ []) t false (keeps a b)
      (truth (int_lt y x)) h
  unfolding computed
  greater_pushed a b x y x_fits push_a push_b all =
      operations_push g top t es env true a b GREATER binary.Greater x y (truth (int_lt y x)) h meets low few x_fits
      push_a push_b operands_name.greater refl (λ no. absurd (cc no)) all carries

  -- they are equal
  equal_pushed : (a b : Operand) (x y : ℤ) → FitsSigned w32 x → FitsSigned w32 y → OperandPushes g top es env t a x
      → OperandPushes g top es env t b y
      → AllStandOn g (both false (comes_last a.leaf b.small) t a b ++ operates DIFFERENCE ∷ negates ∷ [])
      → Pushed g (both false (comes_last a.leaf b.small) t a b ++ operates DIFFERENCE ∷ negates ∷ []) t false
      (a.small && b.leaf) (truth (int_eq x y)) h
  unfolding computed
  equal_pushed a b x y x_fits y_fits push_a push_b all =
      let code : List Piece = both false (comes_last a.leaf b.small) t a b in
      let two = both_push g top t es env false a b x y h meets low few x_fits push_a push_b
      (first_stand g code (operates DIFFERENCE ∷ negates ∷ []) all) carries in
      let k = two.after in
      let d = word_difference k.stack.b k.stack.a in
      record {
        after = with_a (truth (int_eq d (pos 0))) (with_result d k);
        leads = lead_both two.leads
            (lead_both (operations_are_computed g.footing DIFFERENCE binary.Difference d k
            operands_name.difference refl)
            (constants_are_compared g.footing (pos 0) (with_result d k)));
        a = ap truth (either_tells x y k.stack x_fits y_fits two.operands);
        changes = two.changes;
        below = λ is. two.below (kept_of a.small a.leaf b.leaf is);
        alone = λ is. absurd (cc is);
      }

  -- a constant that is pushed below an operand is greater
  over_constant : (small : Bool) (ps : List Piece) (leaf : Bool) (x c : ℤ)
      → ((k : pieces.Held) → k.memory ≡ h.memory → Pushed g ps t leaf small x k)
      → Pushed g (after_constant c small ps ++ operates GREATER ∷ []) t false leaf (truth (int_lt x c)) h
  unfolding computed
  over_constant true ps leaf x c pushes =
      let k : pieces.Held = with_pushed c h in
      let first = pushes k refl in
      let v = truth (int_lt first.after.stack.a first.after.stack.b) in
      record {
        after = with_result v first.after;
        leads = lead_both (constants_are_pushed g.footing c h) (lead_both first.leads
            (operations_are_computed g.footing GREATER binary.Greater v first.after operands_name.greater
            refl));
        a = ap (λ (u : ℤ). truth (int_lt u first.after.stack.b)) first.a
            ∙ ap (λ (u : ℤ). truth (int_lt x u)) (first.below refl);
        changes = first.changes;
        below = λ is. ap (λ (j : pieces.Held). j.stack.c) (first.alone is);
        alone = λ is. absurd (cc is);
      }
  over_constant false ps leaf x c pushes =
      let first = pushes h refl in
      let k = first.after in
      let v = truth (int_lt k.stack.a c) in
      let under : pieces.Held = with_pushed c k in
      record {
        after = with_result v under;
        leads = subst (λ (rs : List Piece). LeadOn g.footing rs h (with_result v under))
            (sym (append_assoc ps (constant c ∷ operates REVERSE ∷ []) (operates GREATER ∷ [])))
            (lead_both first.leads (lead_both (constants_are_pushed g.footing c k)
            (lead_both (registers_are_reversed g.footing under)
            (operations_are_computed g.footing GREATER binary.Greater v
            (record under { stack = record { a = k.stack.a; b = c; c = k.stack.b } }) operands_name.greater
            refl))));
        a = ap (λ (u : ℤ). truth (int_lt u c)) first.a;
        changes = first.changes;
        below = λ is. ap (λ (j : pieces.Held). j.stack.b) (first.alone is);
        alone = λ is. absurd (cc is);
      }

  -- an operand is greater than a constant that is pushed on it
  under_constant : (ps : List Piece) (leaf small : Bool) (x c : ℤ) → Pushed g ps t leaf small x h
      → Pushed g ((ps ++ constant c ∷ []) ++ operates GREATER ∷ []) t false leaf (truth (int_lt c x)) h
  unfolding computed
  under_constant ps leaf small x c first =
      let k = first.after in
      let v = truth (int_lt c k.stack.a) in
      record {
        after = with_result v (with_pushed c k);
        leads = lead_both (lead_both first.leads (constants_are_pushed g.footing c k))
            (operations_are_computed g.footing GREATER binary.Greater v (with_pushed c k)
            operands_name.greater refl);
        a = ap (λ (u : ℤ). truth (int_lt c u)) first.a;
        changes = first.changes;
        below = λ is. ap (λ (j : pieces.Held). j.stack.b) (first.alone is);
        alone = λ is. absurd (cc is);
      }

-- A comparison of x and y, where the operands may be constants.
module _ (g : Ground) (top t : ℕ) (es : List Entry) (env : Environment) (meets : Meets env es) (low : top ≤ t)
    (few : IsCounted t) (h : pieces.Held) (carries : Carries g top es env h.memory) (a b : Operand) (x y : ℤ)
    (x_fits : FitsSigned w32 x) (y_fits : FitsSigned w32 y) (push_a : OperandPushes g top es env t a x)
    (push_b : OperandPushes g top es env t b y) where
  -- the left operand alone, wherever memory is as before
  left_alone : AllStandOn g a.first → (k : pieces.Held) → k.memory ≡ h.memory
      → Pushed g a.first t a.leaf a.small x k
  left_alone all k same = push_a.first all k (subst (Carries g top es env) (sym same) carries)

  in_order : AllStandOn g (both true (comes_last a.leaf b.small) t a b ++ operates GREATER ∷ [])
      → Pushed g (both true (comes_last a.leaf b.small) t a b ++ operates GREATER ∷ []) t false (keeps a b)
      (truth (int_lt y x)) h
  in_order all = greater_pushed g top t es env meets low few h carries a b x y x_fits push_a push_b all

  in_turn : AllStandOn g (both true (comes_last b.leaf a.small) t b a ++ operates GREATER ∷ [])
      → Pushed g (both true (comes_last b.leaf a.small) t b a ++ operates GREATER ∷ []) t false (a.leaf && b.leaf)
      (truth (int_lt x y)) h
  in_turn all =
      fewer_kept g (both true (comes_last b.leaf a.small) t b a ++ operates GREATER ∷ []) t (a.leaf && b.leaf)
      (keeps b a) (truth (int_lt x y)) h (exchanged_kept b.small b.leaf a.leaf)
      (greater_pushed g top t es env meets low few h carries b a y x y_fits push_b push_a all)

  over : (c : ℤ) → AllStandOn g (after_constant c a.small a.first ++ operates GREATER ∷ [])
      → Pushed g (after_constant c a.small a.first ++ operates GREATER ∷ []) t false (a.leaf && b.leaf)
      (truth (int_lt x c)) h
  over c all =
      fewer_kept g (after_constant c a.small a.first ++ operates GREATER ∷ []) t (a.leaf && b.leaf) a.leaf
      (truth (int_lt x c)) h (first_leaf a.leaf b.leaf)
      (over_constant g top t es env meets low few h carries a.small a.first a.leaf x c
      (left_alone (left_stores a.small a.first all)))
    where
      left_stores : (small : Bool) (ps : List Piece)
          → AllStandOn g (after_constant c small ps ++ operates GREATER ∷ []) → AllStandOn g ps
      left_stores true ps all = first_stand g ps (operates GREATER ∷ []) all.1
      left_stores false ps all =
          first_stand g ps (constant c ∷ operates REVERSE ∷ [])
          (first_stand g (ps ++ constant c ∷ operates REVERSE ∷ []) (operates GREATER ∷ []) all)

  under : (c : ℤ) → AllStandOn g ((a.first ++ constant c ∷ []) ++ operates GREATER ∷ [])
      → Pushed g ((a.first ++ constant c ∷ []) ++ operates GREATER ∷ []) t false (a.leaf && b.leaf)
      (truth (int_lt c x)) h
  under c all =
      fewer_kept g ((a.first ++ constant c ∷ []) ++ operates GREATER ∷ []) t (a.leaf && b.leaf) a.leaf
      (truth (int_lt c x)) h (first_leaf a.leaf b.leaf)
      (under_constant g top t es env meets low few h carries a.first a.leaf a.small x c
      (left_alone (first_stand g a.first (constant c ∷ [])
      (first_stand g (a.first ++ constant c ∷ []) (operates GREATER ∷ []) all)) h refl))

  -- the code of a comparison by the constants that it has
  abbrev Compares : Comparison → (first second : Option ℤ) → Type 0
  Compares op first second =
      AllStandOn g (pushed (pushes_of (pair.Comparison op) first second) t a b
      ++ pair_code (pair.Comparison op) first second)
      → Pushed g (pushed (pushes_of (pair.Comparison op) first second) t a b
      ++ pair_code (pair.Comparison op) first second) t false (leaves_below (pair.Comparison op) a b)
      (truth (compares op x y)) h

  less : (first second : Option ℤ) → IsValue second y → Compares comparison.Less first second
  less first None value all = in_turn all
  less first (Some c) value all =
      as_truth g (after_constant c a.small a.first ++ operates GREATER ∷ []) t (a.leaf && b.leaf) (int_lt x c)
      (int_lt x y) h (ap (int_lt x) value) (over c all)

  -- which operands are pushed where none is a constant
  abbrev first_greater : List Piece
  first_greater = both true (comes_last a.leaf b.small) t a b

  abbrev second_greater : List Piece
  second_greater = both true (comes_last b.leaf a.small) t b a

  not_greater : AllStandOn g (first_greater ++ operates GREATER ∷ negates ∷ [])
      → Pushed g (first_greater ++ operates GREATER ∷ negates ∷ []) t false (a.leaf && b.leaf) (truth (int_le x y)) h
  not_greater all =
      as_truth g (first_greater ++ operates GREATER ∷ negates ∷ []) t (a.leaf && b.leaf) (not (int_lt y x))
      (int_le x y) h (not_above x y)
      (turned_behind g first_greater (operates GREATER ∷ []) t false (a.leaf && b.leaf) (int_lt y x) h
      (λ all. fewer_kept g (first_greater ++ operates GREATER ∷ []) t (a.leaf && b.leaf) (keeps a b)
      (truth (int_lt y x)) h (leaves_kept a.small a.leaf b.leaf) (in_order all)) all)

  not_less : AllStandOn g (second_greater ++ operates GREATER ∷ negates ∷ [])
      → Pushed g (second_greater ++ operates GREATER ∷ negates ∷ []) t false (a.leaf && b.leaf) (truth (int_le y x)) h
  not_less all =
      as_truth g (second_greater ++ operates GREATER ∷ negates ∷ []) t (a.leaf && b.leaf) (not (int_lt x y))
      (int_le y x) h (not_above y x)
      (turned_behind g second_greater (operates GREATER ∷ []) t false (a.leaf && b.leaf) (int_lt x y) h in_turn all)

  -- with a constant that is next to the second operand, or with both operands
  abbrev NextPushes : (Option ℤ → List Piece) → (holds : Bool) → Option ℤ → Type 0
  NextPushes operands holds o =
      let code : List Piece = operands o ++ operates GREATER ∷ negated_unless o in
      AllStandOn g code → Pushed g code t false (a.leaf && b.leaf) (truth holds) h

  -- the second operand alone
  second_compared : (c : ℤ) → Pushed g b.first t b.leaf b.small y h
      → Pushed g (b.first ++ Direct fun.EqualsConstant c ∷ []) t false (a.small && b.leaf) (truth (int_eq y c)) h
  second_compared c p =
      let k = with_a (truth (int_eq p.after.stack.a c)) p.after in
      record {
        after = k;
        leads = lead_both p.leads (constants_are_compared g.footing c p.after);
        a = ap (λ (u : ℤ). truth (int_eq u c)) p.a;
        changes = p.changes;
        below = λ is. ap (λ (j : pieces.Held). j.stack.b) (p.alone (both_true a.small b.leaf is).1);
        alone = λ is. absurd (cc is);
      }

  equal : (first second : Option ℤ) → IsValue first x → IsValue second y → Compares comparison.Equal first second
  equal first (Some c) is value all =
      as_truth g (a.first ++ Direct fun.EqualsConstant c ∷ []) t (a.small && b.leaf) (int_eq x c) (int_eq x y) h
      (ap (int_eq x) value)
      (fewer_kept g (a.first ++ Direct fun.EqualsConstant c ∷ []) t (a.small && b.leaf) a.small
      (truth (int_eq x c)) h (first_leaf a.small b.leaf)
      (compared_with g a.first t a.leaf a.small x c h
      (left_alone (first_stand g a.first (Direct fun.EqualsConstant c ∷ []) all) h refl)))
  equal (Some c) None is value all =
      as_truth g (b.first ++ Direct fun.EqualsConstant c ∷ []) t (a.small && b.leaf) (int_eq y c) (int_eq x y) h
      (ap (int_eq y) is ∙ turned_equal x y)
      (second_compared c
      (push_b.first (first_stand g b.first (Direct fun.EqualsConstant c ∷ []) all) h carries))
  equal None None is value all =
      equal_pushed g top t es env meets low few h carries a b x y x_fits y_fits push_a push_b all

  compared : (op : Comparison) (first second : Option ℤ) → IsValue first x → IsValue second y
      → Compares op first second
  compared comparison.Equal first second is value all = equal first second is value all
  compared comparison.NotEqual first second is value all =
      turned_behind g (pushed (pushes_of (pair.Comparison comparison.Equal) first second) t a b)
      (pair_code (pair.Comparison comparison.Equal) first second) t false (a.small && b.leaf) (int_eq x y) h
      (equal first second is value) all
  compared comparison.Less first second is value all = less first second value all
  compared comparison.LessOrEqual first second is value all =
      by_next next_above (λ o. IsValue o y)
      (NextPushes (λ o. pushed (on_constant (pushes_of (pair.Comparison comparison.Greater) None None) o) t a b)
      (int_le x y)) refl not_greater
      (λ c d value next all.
      as_truth g (after_constant d a.small a.first ++ operates GREATER ∷ []) t (a.leaf && b.leaf) (int_lt x d)
      (int_le x y) h (next_above_is x c d next ∙ ap (int_le x) value) (over d all)) second value all
  compared comparison.Greater first second is value all =
      fewer_kept g (both true (comes_last a.leaf b.small) t a b ++ operates GREATER ∷ []) t (a.small && b.leaf)
      (keeps a b) (truth (int_lt y x)) h (kept_of a.small a.leaf b.leaf) (in_order all)
  compared comparison.GreaterOrEqual first second is value all =
      by_next next_below (λ o. IsValue o y)
      (NextPushes (λ o. pushed (below_constant (pushes_of (pair.Comparison comparison.Less) None None) o) t a b)
      (int_le y x)) refl not_less
      (λ c d value next all.
      as_truth g ((a.first ++ constant d ∷ []) ++ operates GREATER ∷ []) t (a.leaf && b.leaf) (int_lt d x)
      (int_le y x) h (next_below_is x c d next ∙ ap (λ (u : ℤ). int_le u x) value) (under d all)) second value all

pub comparisons_push : ComparisonsPush
comparisons_push g top t es env op a b first second x y h meets low few x_fits y_fits push_a push_b is value all
    carries =
    compared g top t es env meets low few h carries a b x y x_fits y_fits push_a push_b op first second is value all
