-- What the code of chains pushes.
use Rattle.std.proofs.Common.{◌≡◌, ℕ, ◌%◌, ◌^◌, ◌≤◌, ℤ, Bool, true, false, ◌&&◌, ◌||◌, cond, List, [], ◌∷◌}
use Rattle.std.proofs.Common.{◌++◌, Option, Some, None, FitsSigned, refl, sym, ap, subst, ◌∙◌, append_assoc}
use Rattle.std.specs.Prelude.{◌*ℤ◌}
use Rattle.std.specs.Int.{w32, cast_unsigned, cast_signed}
use Rattle.std.specs.Ordering.{int_eq}
use Rattle.std.proofs.Math.Nat.{add_comm, mul_comm}
use Rattle.std.proofs.Math.IntN.{+ℤ_comm}
use Rattle.std.proofs.lemmas.Int.{wrapping_mul_is, int_wrap_fits}
use Rattle.word_arithmetic.specs.Word.{is_word, checked, checked_sum, word_product, word_sum, word_and, word_or}
use Rattle.word_arithmetic.specs.Word.{truth, least_word}
use Rattle.word_arithmetic.specs.Binary.{computed}
use Rattle.word_arithmetic.specs.declared.binary.Binary.{Binary}
use Rattle.word_arithmetic.specs.declared.binary.Binary.TheVariants as binary
use Rattle.word_arithmetic.proofs.WordLaws.{is_word_out}
use Rattle.machine_state.specs.Instructions.{op_of}
use Rattle.prefix_decoder.specs.declared.function.Fun.TheVariants as fun
use Rattle.occam_parser.specs.declared.tree.ChainOperator.{ChainOperator}
use Rattle.occam_parser.specs.declared.tree.ChainOperator.TheVariants as chain
use Rattle.occam_parser.specs.declared.tree.ArithmeticChain.TheVariants as arithmetic_chain
use Rattle.occam_parser.specs.declared.tree.Logic.TheVariants as logic
use Rattle.scalar_ranges.specs.Entries.{Entry}
use Rattle.scalar_ranges.specs.Environments.{Environment, Meets}
use Rattle.code_pieces.specs.Pieces.{Piece, Direct, operates, word_after}
use Rattle.line_pieces.specs.Expressions.{Operand, adds_or, added_by}
use Rattle.line_pieces.specs.Expressions.{first_two, onto, chain_operation}
use Rattle.placed_code.specs.StraightPieces as pieces
use Rattle.placed_code.proofs.StraightPieces.{lead_both}
use Rattle.placed_code.proofs.OperandsKeep.{kept_of}
use Rattle.placed_code.proofs.ChainsOperate.{word_operation, commutes, chains_commute}
use Rattle.placed_code.proofs.WordsTurned.{and_turned, or_turned, xor_turned}
use Rattle.placed_code.specs.OperandsName.{IsBinary}
use Rattle.meant_lines.specs.Instructions.{with_a}
use Rattle.meant_lines.specs.Carrying.{Ground, Carries}
use Rattle.meant_lines.specs.Pushing.{Pushed, PushedBoth, Pushes, AllStandOn, IsCounted, OperandPushes, keeps}
use Rattle.meant_lines.specs.OperatorLaws.{IsValue, joined_value, ChainsCompute, TruthsAreJoined}
use Rattle.meant_lines.specs.OperatorLaws.{FirstTwoPush, OneMorePushes}
use Rattle.meant_lines.proofs.Instructions.{constants_are_added}
use Rattle.meant_lines.proofs.Operators.{operations_push, operation_behind, on_it, waiting, first_stand, keeps_a}
use Rattle.meant_lines.proofs.Operators.{both_true}
use Rattle.meant_lines.proofs.Arithmetic.{fewer_kept, checked_by, sum_pushed}

-- ---- operations

sum_turned : (x y : ℤ) → word_sum y x ≡ word_sum x y
sum_turned x y =
    ap (λ (n : ℕ). cast_signed w32 (n % 2 ^ 32)) (add_comm (cast_unsigned w32 y) (cast_unsigned w32 x))

product_turned : (x y : ℤ) → word_product y x ≡ word_product x y
product_turned x y =
    ap (λ (n : ℕ). cast_signed w32 (n % 2 ^ 32)) (mul_comm (cast_unsigned w32 y) (cast_unsigned w32 x))

-- a product that is a word is the one modulo 2^32
product_by : (t : Bool) (x y v : ℤ) → FitsSigned w32 x → FitsSigned w32 y → is_word (x *ℤ y) ≡ t
    → cond t (Some (x *ℤ y)) None ≡ Some v → word_product x y ≡ v
product_by true x y v x_fits y_fits is gives =
    wrapping_mul_is w32 x y x_fits y_fits ∙ int_wrap_fits w32 (x *ℤ y) (is_word_out (x *ℤ y) is)
    ∙ checked_by true (x *ℤ y) v gives
product_by false x y v x_fits y_fits is gives = absurd (cc)

product_is : (x y v : ℤ) → FitsSigned w32 x → FitsSigned w32 y → computed binary.Multiply x y ≡ Some v
    → word_product x y ≡ v
unfolding computed
product_is x y v x_fits y_fits gives = product_by (is_word (x *ℤ y)) x y v x_fits y_fits refl gives

turned_value : (op : Binary) (x y : ℤ) → commutes op ≡ true → computed op y x ≡ computed op x y
unfolding computed
turned_value binary.Add x y is = ap checked (+ℤ_comm y x)
turned_value binary.Sum x y is = ap Some (sum_turned x y)
turned_value binary.Product x y is = ap Some (product_turned x y)
turned_value binary.And x y is = ap Some (and_turned x y)
turned_value binary.Or x y is = ap Some (or_turned x y)
turned_value binary.ExclusiveOr x y is = ap Some (xor_turned x y)
turned_value op x y is = absurd (cc)

named_in_chains : (op : ChainOperator) → IsBinary (chain_operation op) (word_operation op)
unfolding op_of
named_in_chains (chain.Arithmetic arithmetic_chain.Add) = refl
named_in_chains (chain.Logic logic.And) = refl
named_in_chains op = refl

words_compute : (op : ChainOperator) (x y v : ℤ) → FitsSigned w32 x → FitsSigned w32 y → joined_value op x y ≡ Some v
    → computed (word_operation op) x y ≡ Some v
unfolding computed
words_compute (chain.Arithmetic arithmetic_chain.Multiply) x y v x_fits y_fits is =
    ap Some (product_is x y v x_fits y_fits is)
words_compute (chain.Logic logic.And) x y v x_fits y_fits is = is
words_compute op x y v x_fits y_fits is = is

pub chains_compute : ChainsCompute
chains_compute op x y v x_fits y_fits is =
    let gives = words_compute op x y v x_fits y_fits is in
    record {
      operation = word_operation op;
      named = named_in_chains op;
      gives = gives;
      turned = turned_value (word_operation op) x y (chains_commute op) ∙ gives;
    }

and_truths : (p q : Bool) → word_and (truth p) (truth q) ≡ truth (p && q)
and_truths true true = refl
and_truths true false = refl
and_truths false true = refl
and_truths false false = refl

or_truths : (p q : Bool) → word_or (truth p) (truth q) ≡ truth (p || q)
or_truths true true = refl
or_truths true false = refl
or_truths false true = refl
or_truths false false = refl

as_some : (p q : Bool) → Some p ≡ Some q → p ≡ q
as_some p q same = cc

pub truths_are_joined : TruthsAreJoined
truths_are_joined logic.And p q b is = ap Some (and_truths p q ∙ ap truth (as_some (p && q) b is))
truths_are_joined logic.Or p q b is = ap Some (or_truths p q ∙ ap truth (as_some (p || q) b is))

-- ---- the constant that is added

-- a constant is added by `+` alone
pub added_value : (op : ChainOperator) (constant : Option ℤ) (d x y v : ℤ) → added_by op constant ≡ Some d
    → IsValue constant y → joined_value op x y ≡ Some v → checked_sum x d ≡ Some v
unfolding computed
added_value (chain.Arithmetic arithmetic_chain.Add) (Some c) d x y v is value gives =
    ap (checked_sum x) (sym (by_test (int_eq c least_word) c d is) ∙ value) ∙ gives
  where
    by_test : (t : Bool) (c d : ℤ) → cond t None (Some c) ≡ Some d → c ≡ d
    by_test true c d is = absurd (cc)
    by_test false c d is = cc
added_value op constant d x y v is value gives = absurd (cc)

-- ---- the first two operands

module _ (g : Ground) (top t : ℕ) (es : List Entry) (env : Environment) (x y v : ℤ) (h : pieces.Held)
    (meets : Meets env es) (low : top ≤ t) (few : IsCounted t) (x_fits : FitsSigned w32 x) (y_fits : FitsSigned w32 y)
    (carries : Carries g top es env h.memory) where
  first_by : (o : Option ℤ) (op : ChainOperator) (constant : Option ℤ) (a b : Operand) → added_by op constant ≡ o
      → OperandPushes g top es env t a x → OperandPushes g top es env t b y → IsValue constant y
      → joined_value op x y ≡ Some v → AllStandOn g (first_two t op o a b)
      → Pushed g (first_two t op o a b) t false (a.small && b.leaf) v h
  first_by None op constant a b is push_a push_b value gives all =
      let operation = chains_compute op x y v x_fits y_fits gives in
      fewer_kept g (first_two t op None a b) t (a.small && b.leaf) (keeps a b) v h (kept_of a.small a.leaf b.leaf)
      (operations_push g top t es env false a b (chain_operation op) operation.operation x y v h meets low few x_fits
      push_a push_b operation.named operation.gives (λ no. operation.turned) all carries)
  first_by (Some d) op constant a b is push_a push_b value gives all =
      sum_pushed g top t es env a b x y v h meets low few x_fits y_fits push_a push_b carries d
      (added_value op constant d x y v is value gives) all

  -- the next operand is pushed on what is in A
  onto_by : (lx sx leaf small : Bool) (ps right : List Piece) → Pushes g top es env ps t lx sx x
      → Pushes g top es env right (word_after t 1) leaf small y
      → AllStandOn g (ps ++ onto false t small right)
      → PushedBoth g (ps ++ onto false t small right) t false ((sx || lx) && leaf) x y h
  onto_by lx sx leaf true ps right first second all =
      on_it g top t es env meets low few false x y ps right lx sx leaf true h carries first second refl all
  onto_by lx sx leaf false ps right first second all =
      waiting g top t es env meets low few false x y ps right lx sx leaf false h carries x_fits first second all

  one_more_by : (o : Option ℤ) (op : ChainOperator) (constant : Option ℤ) (lx sx leaf small : Bool)
      (ps right : List Piece) → added_by op constant ≡ o → Pushes g top es env ps t lx sx x
      → Pushes g top es env right (word_after t 1) leaf small y → IsValue constant y → joined_value op x y ≡ Some v
      → AllStandOn g (ps ++ adds_or o (onto false t small right ++ operates (chain_operation op) ∷ []))
      → Pushed g (ps ++ adds_or o (onto false t small right ++ operates (chain_operation op) ∷ [])) t false
      ((sx || lx) && leaf) v h
  one_more_by None op constant lx sx leaf small ps right is first second value gives all =
      let operation = chains_compute op x y v x_fits y_fits gives in
      let last : List Piece = operates (chain_operation op) ∷ [] in
      let same = append_assoc ps (onto false t small right) last in
      subst (λ (code : List Piece). Pushed g code t false ((sx || lx) && leaf) v h) same
      (operation_behind g (ps ++ onto false t small right) t false ((sx || lx) && leaf) (chain_operation op)
      operation.operation x y v h operation.named operation.gives (λ no. operation.turned)
      (onto_by lx sx leaf small ps right first second (first_stand g (ps ++ onto false t small right) last
      (subst (λ (code : List Piece). AllStandOn g code) (sym same) all))))
  one_more_by (Some d) op constant lx sx leaf small ps right is first second value gives all =
      sum_behind lx sx leaf ps d
      (first (first_stand g ps (Direct fun.AddConstant d ∷ []) all) h carries)
      (added_value op constant d x y v is value gives)
    where
      sum_behind : (lx sx leaf : Bool) (ps : List Piece) (d : ℤ) → Pushed g ps t lx sx x h → checked_sum x d ≡ Some v
          → Pushed g (ps ++ Direct fun.AddConstant d ∷ []) t false ((sx || lx) && leaf) v h
      sum_behind lx sx leaf ps d p gives = record {
        after = with_a v p.after;
        leads = lead_both p.leads (constants_are_added g.footing d v p.after
            (ap (λ (u : ℤ). checked_sum u d) p.a ∙ gives));
        a = refl;
        changes = p.changes;
        below = λ is. keeps_a g ps t lx sx x h p (both_true (sx || lx) leaf is).0;
        alone = λ is. absurd (cc is);
      }

pub first_two_push : FirstTwoPush
first_two_push g top t es env op a b constant x y v h meets low few x_fits y_fits push_a push_b value gives all
    carries =
    first_by g top t es env x y v h meets low few x_fits y_fits carries (added_by op constant) op constant a b refl
    push_a push_b value gives all

pub one_more_pushes : OneMorePushes
one_more_pushes g top t es env op ps right lx sx leaf small constant x y v h meets low few x_fits y_fits first second
    value gives all carries =
    one_more_by g top t es env x y v h meets low few x_fits y_fits carries (added_by op constant) op constant lx sx
    leaf small ps right refl first second value gives all
