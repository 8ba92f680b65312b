-- Marks and operators at the front.
use Rattle.std.proofs.Common.{◌≡◌, Bool, true, false, cond, List, [], ◌∷◌, Option, Some, None, refl, sym, ap}
use Rattle.std.proofs.Common.{◌∙◌}
use Rattle.std.proofs.lemmas.Option.{cond_some}
use denote.Enum.Bare.{same_true, true_same}
use Rattle.occam_layout.specs.declared.mark.Mark as mark_type
use Rattle.occam_layout.specs.declared.mark.Mark.TheVariants as mark
use Rattle.occam_layout.specs.contracts.mark.Mark as mark_contract
use Rattle.occam_parser.specs.declared.tree.PairOperator.TheVariants as pair
use Rattle.occam_parser.specs.declared.tree.ArithmeticPair.TheVariants as arithmetic_pair
use Rattle.word_arithmetic.specs.declared.compare.Comparison.TheVariants as comparison
use Rattle.occam_parser.specs.declared.tree.ChainOperator.TheVariants as chain
use Rattle.occam_parser.specs.declared.tree.ArithmeticChain.TheVariants as arithmetic_chain
use Rattle.occam_parser.specs.declared.tree.Logic.TheVariants as logic
use Rattle.occam_parser.specs.declared.front.Operator.{Operator}
use Rattle.occam_parser.specs.declared.front.Operator.TheVariants as operator
use Rattle.occam_parser.specs.declared.tree.PrefixOperator.{PrefixOperator}
use Rattle.occam_parser.specs.declared.tree.PrefixOperator.TheVariants as prefix
use Rattle.occam_parser.specs.Terminals.{Terminal, Mark}
use Rattle.occam_parser.specs.Expressions.{prefix_sign, operator_mark}
use Rattle.occam_parser.specs.Reading.{behind, prefix_at, is_mark, operator_of, marked_by, operator_at}
use Rattle.occam_parser.proofs.Options.{at_some}

-- what was found is what was wanted
found_is : (found wanted : mark_type.Mark) (ts rest : List Terminal) (b : Bool)
    → (b ≡ true → found ≡ wanted) → cond b (Some ts) None ≡ Some rest → Mark found ∷ ts ≡ Mark wanted ∷ rest
found_is found wanted ts rest b same e =
    let h = cond_some b ts rest e in
    ap (λ k. Mark k ∷ ts) (same h.0) ∙ ap (λ us. Mark wanted ∷ us) h.1

pub behind_is : (m : mark_type.Mark) (ts rest : List Terminal) → behind m ts ≡ Some rest → ts ≡ Mark m ∷ rest
unfolding behind
behind_is m [] rest e = absurd (cc)
behind_is m (Mark found ∷ ts) rest e =
    found_is found m ts rest (is_mark found m) (same_true mark_contract.the_type tt found m) e
behind_is m (t ∷ ts) rest e = absurd (cc)

pub behind_again : (m : mark_type.Mark) (rest : List Terminal) → behind m (Mark m ∷ rest) ≡ Some rest
unfolding behind
behind_again m rest = ap (λ b. cond b (Some rest) None) (true_same mark_contract.the_type m m refl)

-- another mark
pub behind_other : (found wanted : mark_type.Mark) → is_mark found wanted ≡ false → (rest : List Terminal)
    → behind wanted (Mark found ∷ rest) ≡ None
unfolding behind
behind_other found wanted e rest = ap (λ b. cond b (Some rest) None) e

-- ---- operators

one_mark : (a op : Operator) → Some a ≡ Some op → operator_mark a ≡ operator_mark op
one_mark a op e = let same : a ≡ op = cc in ap operator_mark same

-- the operator that a mark is has this mark
operator_of_is : (m : mark_type.Mark) (op : Operator) → operator_of m ≡ Some op → m ≡ operator_mark op
operator_of_is mark.Subtract op e = one_mark (operator.Pair (pair.Arithmetic arithmetic_pair.Subtract)) op e
operator_of_is mark.Divide op e = one_mark (operator.Pair (pair.Arithmetic arithmetic_pair.Divide)) op e
operator_of_is mark.Remainder op e = one_mark (operator.Pair (pair.Arithmetic arithmetic_pair.Remainder)) op e
operator_of_is mark.Minus op e = one_mark (operator.Pair (pair.Arithmetic arithmetic_pair.Minus)) op e
operator_of_is mark.ShiftLeft op e = one_mark (operator.Pair (pair.Arithmetic arithmetic_pair.ShiftLeft)) op e
operator_of_is mark.ShiftRight op e = one_mark (operator.Pair (pair.Arithmetic arithmetic_pair.ShiftRight)) op e
operator_of_is mark.Equal op e = one_mark (operator.Pair (pair.Comparison comparison.Equal)) op e
operator_of_is mark.NotEqual op e = one_mark (operator.Pair (pair.Comparison comparison.NotEqual)) op e
operator_of_is mark.Less op e = one_mark (operator.Pair (pair.Comparison comparison.Less)) op e
operator_of_is mark.Greater op e = one_mark (operator.Pair (pair.Comparison comparison.Greater)) op e
operator_of_is mark.LessOrEqual op e = one_mark (operator.Pair (pair.Comparison comparison.LessOrEqual)) op e
operator_of_is mark.GreaterOrEqual op e = one_mark (operator.Pair (pair.Comparison comparison.GreaterOrEqual)) op e
operator_of_is mark.Add op e = one_mark (operator.Chain (chain.Arithmetic arithmetic_chain.Add)) op e
operator_of_is mark.Multiply op e = one_mark (operator.Chain (chain.Arithmetic arithmetic_chain.Multiply)) op e
operator_of_is mark.Plus op e = one_mark (operator.Chain (chain.Arithmetic arithmetic_chain.Plus)) op e
operator_of_is mark.Times op e = one_mark (operator.Chain (chain.Arithmetic arithmetic_chain.Times)) op e
operator_of_is mark.BitAnd op e = one_mark (operator.Chain (chain.Arithmetic arithmetic_chain.BitAnd)) op e
operator_of_is mark.BitOr op e = one_mark (operator.Chain (chain.Arithmetic arithmetic_chain.BitOr)) op e
operator_of_is mark.BitXor op e = one_mark (operator.Chain (chain.Arithmetic arithmetic_chain.BitXor)) op e
operator_of_is mark.And op e = one_mark (operator.Chain (chain.Logic logic.And)) op e
operator_of_is mark.Or op e = one_mark (operator.Chain (chain.Logic logic.Or)) op e
operator_of_is m op e = absurd (cc)

marked_by_is : (m : mark_type.Mark) (ts : List Terminal) (o : Option Operator)
    (x : (Operator × mark_type.Mark) × List Terminal) → marked_by m ts o ≡ Some x
    → (o ≡ Some x.0.0) × (x.0.1 ≡ m) × (x.1 ≡ ts)
marked_by_is m ts None x e = absurd (cc)
marked_by_is m ts (Some op) x e = at_some (λ (y : (Operator × mark_type.Mark) × List Terminal). (Some op ≡ Some y.0.0) ×
    (y.0.1 ≡ m) × (y.1 ≡ ts)) ((op, m), ts) x e (refl, refl, refl)

pub operator_is : (ts : List Terminal) (x : (Operator × mark_type.Mark) × List Terminal) → operator_at ts ≡ Some x
    → (ts ≡ Mark x.0.1 ∷ x.1) × (x.0.1 ≡ operator_mark x.0.0)
unfolding operator_at
operator_is [] x e = absurd (cc)
operator_is (Mark m ∷ ts) x e =
    let h = marked_by_is m ts (operator_of m) x e in
    (ap (λ k. Mark k ∷ ts) (sym h.1) ∙ ap (λ us. Mark x.0.1 ∷ us) (sym h.2), h.1 ∙ operator_of_is m x.0.0 h.0)
operator_is (t ∷ ts) x e = absurd (cc)

pub operator_of_mark : (op : Operator) → operator_of (operator_mark op) ≡ Some op
operator_of_mark (operator.Pair (pair.Arithmetic arithmetic_pair.Subtract)) = refl
operator_of_mark (operator.Pair (pair.Arithmetic arithmetic_pair.Divide)) = refl
operator_of_mark (operator.Pair (pair.Arithmetic arithmetic_pair.Remainder)) = refl
operator_of_mark (operator.Pair (pair.Arithmetic arithmetic_pair.Minus)) = refl
operator_of_mark (operator.Pair (pair.Arithmetic arithmetic_pair.ShiftLeft)) = refl
operator_of_mark (operator.Pair (pair.Arithmetic arithmetic_pair.ShiftRight)) = refl
operator_of_mark (operator.Pair (pair.Comparison comparison.Equal)) = refl
operator_of_mark (operator.Pair (pair.Comparison comparison.NotEqual)) = refl
operator_of_mark (operator.Pair (pair.Comparison comparison.Less)) = refl
operator_of_mark (operator.Pair (pair.Comparison comparison.Greater)) = refl
operator_of_mark (operator.Pair (pair.Comparison comparison.LessOrEqual)) = refl
operator_of_mark (operator.Pair (pair.Comparison comparison.GreaterOrEqual)) = refl
operator_of_mark (operator.Chain (chain.Arithmetic arithmetic_chain.Add)) = refl
operator_of_mark (operator.Chain (chain.Arithmetic arithmetic_chain.Multiply)) = refl
operator_of_mark (operator.Chain (chain.Arithmetic arithmetic_chain.Plus)) = refl
operator_of_mark (operator.Chain (chain.Arithmetic arithmetic_chain.Times)) = refl
operator_of_mark (operator.Chain (chain.Arithmetic arithmetic_chain.BitAnd)) = refl
operator_of_mark (operator.Chain (chain.Arithmetic arithmetic_chain.BitOr)) = refl
operator_of_mark (operator.Chain (chain.Arithmetic arithmetic_chain.BitXor)) = refl
operator_of_mark (operator.Chain (chain.Logic logic.And)) = refl
operator_of_mark (operator.Chain (chain.Logic logic.Or)) = refl

pub operator_again : (op : Operator) (rest : List Terminal)
    → operator_at (Mark (operator_mark op) ∷ rest) ≡ Some ((op, operator_mark op), rest)
unfolding operator_at
operator_again op rest = ap (marked_by (operator_mark op) rest) (operator_of_mark op)

-- what is no operator's mark is another
other_mark : (op : Operator) (m : mark_type.Mark) (b : Bool) → is_mark (operator_mark op) m ≡ b
    → operator_of m ≡ None → b ≡ false
other_mark op m false e none = refl
other_mark op m true e none =
    let same = same_true mark_contract.the_type tt (operator_mark op) m e in
    absurd (cc (none, ap operator_of same, operator_of_mark op))

pub operator_is_no : (op : Operator) (m : mark_type.Mark) → operator_of m ≡ None → (rest : List Terminal)
    → behind m (Mark (operator_mark op) ∷ rest) ≡ None
operator_is_no op m none rest = behind_other (operator_mark op) m
    (other_mark op m (is_mark (operator_mark op) m) refl none) rest

pub operator_no_subscript : (op : Operator) (rest : List Terminal)
    → behind mark.OpenBracket (Mark (operator_mark op) ∷ rest) ≡ None
operator_no_subscript op rest = operator_is_no op mark.OpenBracket refl rest

-- where no operator comes next, no mark of one does
no_operator_none : (op : Operator) (ts : List Terminal) (o : Option (List Terminal))
    → behind (operator_mark op) ts ≡ o → operator_at ts ≡ None → o ≡ None
no_operator_none op ts None b e = refl
no_operator_none op ts (Some rest) b e =
    let is = behind_is (operator_mark op) ts rest b in
    absurd (cc (e, ap operator_at is, operator_again op rest))

pub no_operator_mark : (op : Operator) (ts : List Terminal) → operator_at ts ≡ None
    → behind (operator_mark op) ts ≡ None
no_operator_mark op ts e = no_operator_none op ts (behind (operator_mark op) ts) refl e

pub prefix_is : (ts : List Terminal) (op : PrefixOperator) (rest : List Terminal) → prefix_at ts ≡ Some (op, rest)
    → ts ≡ prefix_sign op ∷ rest
unfolding prefix_at
prefix_is [] op rest e = absurd (cc)
prefix_is (Mark mark.BitNot ∷ ts) op rest e =
    at_some (λ (x : PrefixOperator × List Terminal). Mark mark.BitNot ∷ ts ≡ prefix_sign x.0 ∷ x.1)
    (prefix.BitNot, ts) (op, rest) e refl
prefix_is (Mark mark.Not ∷ ts) op rest e = at_some
    (λ (x : PrefixOperator × List Terminal). Mark mark.Not ∷ ts ≡ prefix_sign x.0 ∷ x.1) (prefix.Not, ts) (op, rest)
    e refl
prefix_is (Mark mark.Subtract ∷ ts) op rest e =
    at_some (λ (x : PrefixOperator × List Terminal). Mark mark.Subtract ∷ ts ≡ prefix_sign x.0 ∷ x.1)
    (prefix.Negate, ts) (op, rest) e refl
prefix_is (Mark m ∷ ts) op rest e = absurd (cc)
prefix_is (t ∷ ts) op rest e = absurd (cc)
