-- A constant expression has its value in the environment of the constants alone.
use Rattle.std.proofs.Common.{◌≡◌, ℕ, ℤ, pos, Bool, true, false, cond, List, [], ◌∷◌, Option, Some, None, Result, Ok}
use Rattle.std.proofs.Common.{Err}
use Rattle.std.proofs.Common.{refl, ap, subst, ◌∙◌, bytes_eq}
use Rattle.std.specs.Prelude.{option_map, option_and_then}
use Rattle.word_arithmetic.specs.Word.{least_word, greatest_word, word_not}
use Rattle.word_arithmetic.specs.Range.{Ends, is_within, in_range, not_range, shift_left_range}
use Rattle.word_arithmetic.specs.Binary.{computed, result_range}
use Rattle.word_arithmetic.specs.declared.binary.Binary.TheVariants as binary
use Rattle.occam_parser.specs.declared.tree.ValueType.{ValueType}
use Rattle.occam_parser.specs.declared.tree.PrefixOperator.TheVariants as prefix
use Rattle.occam_parser.specs.declared.tree.PairOperator.TheVariants as pair
use Rattle.occam_parser.specs.declared.tree.ArithmeticPair.{ArithmeticPair}
use Rattle.occam_parser.specs.declared.tree.ArithmeticPair.TheVariants as arithmetic
use Rattle.occam_parser.specs.declared.tree.ChainOperator.TheVariants as chain
use Rattle.occam_parser.specs.declared.tree.ArithmeticChain.{ArithmeticChain}
use Rattle.occam_parser.specs.Expressions.{Expression, Alone, Prefixed, Paired, Chained, Terms, Two, Then, Term}
use Rattle.occam_parser.specs.Expressions.{Number, Byte, Truth, MostPos, MostNeg, Named, Element, Bracketed, Converted}
use Rattle.scalar_ranges.specs.Entries.{Meaning, Constant, Scalar, Array, Channel, Channels, Procedure, Entry}
use Rattle.scalar_ranges.specs.Entries.{meaning_in}
use Rattle.scalar_ranges.specs.Entries.{type_range}
use Rattle.scalar_ranges.specs.Environments.{Held, Nothing, held_in, one_of}
use Rattle.scalar_ranges.specs.Values.{number_of, number_of_terms, number_of_term, pair_value, chain_value, negated}
use Rattle.scalar_ranges.specs.Values.{converted, operation_of}
use Rattle.scalar_ranges.specs.Bounds.{Bound, Exactly, Within, ends, ranges_give, range_of_bound, gives, by_counts}
use Rattle.scalar_ranges.specs.Bounds.{right_range, arithmetic_bound, pair_bound, chain_bound, not_bound, prefix_bound}
use Rattle.scalar_ranges.specs.Bounds.{named_bound, element_bound, converted_bound, is_subscript, bound_of}
use Rattle.scalar_ranges.specs.Bounds.{bound_of_terms, bound_of_term}
use Rattle.scalar_ranges.specs.declared.bounds.TheConstants.{OUT_OF_RANGE, OUTSIDE}
use Rattle.scalar_ranges.specs.Steps.{both_some}
use Rattle.scalar_ranges.specs.Laws.{constant_of, constants_of, ConstantsHold}
use Rattle.scalar_ranges.proofs.Parts.{both_ok, then_ok, or_ok, mapped, passed_ok}

-- ---- names

held_of : Option Meaning → Held
held_of None = Nothing
held_of (Some m) = constant_of m

held_by : (t : Bool) (name : List ℕ) (e : Entry) (es : List Entry)
    → held_in name (constants_of es) ≡ held_of (meaning_in name es)
    → cond t (constant_of e.meaning) (held_in name (constants_of es))
    ≡ held_of (cond t (Some e.meaning) (meaning_in name es))
unfolding held_of
held_by true name e es h = refl
held_by false name e es h = h

held_is : (name : List ℕ) (es : List Entry) → held_in name (constants_of es) ≡ held_of (meaning_in name es)
unfolding held_of
held_is name [] = refl
held_is name (e ∷ es) = held_by (bytes_eq e.name name) name e es (held_is name es)

named_exact : (m : Option Meaning) (v : ℤ) → named_bound m ≡ Ok (Exactly v) → one_of (held_of m) ≡ Some v
unfolding held_of
named_exact None v h = absurd (cc h)
named_exact (Some (Constant type (Some value))) v h = let same : value ≡ v = cc h in ap Some same
named_exact (Some (Constant type None)) v h = absurd (cc h)
named_exact (Some (Scalar kind type range)) v h = absurd (cc h)
named_exact (Some (Array kind type size range)) v h = absurd (cc h)
named_exact (Some (Channel type)) v h = absurd (cc h)
named_exact (Some (Channels type size)) v h = absurd (cc h)
named_exact (Some (Procedure number)) v h = absurd (cc h)

element_by : (t : Bool) (range : Ends) (v : ℤ) → cond t (Ok (Within range)) (Err OUTSIDE) ≡ Ok (Exactly v) → ⊥
element_by true range v h = absurd (cc h)
element_by false range v h = absurd (cc h)

element_exact : (m : Option Meaning) (b : Bound) (v : ℤ) → element_bound m b ≡ Ok (Exactly v) → ⊥
element_exact None b v h = absurd (cc h)
element_exact (Some (Array kind type (Some size) range)) b v h = element_by (is_subscript size (ends b)) range v h
element_exact (Some (Array kind type None range)) b v h = absurd (cc h)
element_exact (Some (Constant type value)) b v h = absurd (cc h)
element_exact (Some (Scalar kind type range)) b v h = absurd (cc h)
element_exact (Some (Channel type)) b v h = absurd (cc h)
element_exact (Some (Channels type size)) b v h = absurd (cc h)
element_exact (Some (Procedure number)) b v h = absurd (cc h)

-- ---- operators

-- both operands are constants, and the operator has a value of them
record AreExact (value : ℤ → ℤ → Option ℤ) (b c : Bound) (v : ℤ) : Type 0 where
  x : ℤ
  y : ℤ
  left : b ≡ Exactly x
  right : c ≡ Exactly y
  gives : value x y ≡ Some v

range_only : (range : Ends → Ends → Option Ends) (b c : Bound) (v : ℤ) → ranges_give range b c ≡ Ok (Exactly v) → ⊥
range_only range b c v h =
    let m = mapped Within (both_some (range_of_bound b) (range_of_bound c) range) (Exactly v)
    (or_ok OUT_OF_RANGE _ (Exactly v) h) in
    absurd (cc (m.2))

exact_is : (x y : ℤ) → Exactly x ≡ Exactly y → x ≡ y
exact_is x y h = cc

both_exact : (value : ℤ → ℤ → Option ℤ) (range : Ends → Ends → Option Ends) (b c : Bound) (v : ℤ)
    → gives value range b c ≡ Ok (Exactly v) → AreExact value b c v
both_exact value range (Exactly x) (Exactly y) v h =
    let m = mapped Exactly (value x y) (Exactly v) (or_ok OUT_OF_RANGE _ (Exactly v) h) in
    record { x = x; y = y; left = refl; right = refl; gives = m.1 ∙ ap Some (exact_is m.0 v m.2) }
both_exact value range (Exactly x) (Within s) v h = absurd (range_only range (Exactly x) (Within s) v h)
both_exact value range (Within r) c v h = absurd (range_only range (Within r) c v h)

arithmetic_exact : (op : ArithmeticPair) (b c : Bound) (v : ℤ) → arithmetic_bound op b c ≡ Ok (Exactly v)
    → AreExact (pair_value op) b c v
arithmetic_exact arithmetic.Subtract b c v h = both_exact _ (result_range binary.Subtract) b c v h
arithmetic_exact arithmetic.Divide b c v h = both_exact _ (result_range binary.Divide) b c v h
arithmetic_exact arithmetic.Remainder b c v h = both_exact _ (result_range binary.Remainder) b c v h
arithmetic_exact arithmetic.Minus b c v h = both_exact _ (result_range binary.Difference) b c v h
arithmetic_exact arithmetic.ShiftLeft b c v h = both_exact _ (by_counts shift_left_range) b c v h
arithmetic_exact arithmetic.ShiftRight b c v h = both_exact _ (by_counts right_range) b c v h

-- what two constant operands give
pair_gives : (value : ℤ → ℤ → Option ℤ) (b c : Bound) (v : ℤ) (n m : Option ℤ) → AreExact value b c v
    → ((x : ℤ) → b ≡ Exactly x → n ≡ Some x) → ((y : ℤ) → c ≡ Exactly y → m ≡ Some y)
    → both_some n m value ≡ Some v
pair_gives value b c v n m are left right =
    (λ i. both_some (left are.x are.left i) (right are.y are.right i) value) ∙ are.gives

not_exact : (b : Bound) (v : ℤ) (n : Option ℤ) → not_bound b ≡ Ok (Exactly v)
    → ((x : ℤ) → b ≡ Exactly x → n ≡ Some x) → option_map word_not n ≡ Some v
not_exact (Exactly x) v n h is =
    let same : word_not x ≡ v = cc h in ap (option_map word_not) (is x refl) ∙ ap Some same
not_exact (Within r) v n h is =
    let m = mapped (λ s. Within (not_range s)) (range_of_bound (Within r)) (Exactly v)
    (or_ok OUT_OF_RANGE _ (Exactly v) h) in
    absurd (cc (m.2))

converted_exact : (to : ValueType) (b : Bound) (v : ℤ) (n : Option ℤ) → converted_bound to b ≡ Ok (Exactly v)
    → ((x : ℤ) → b ≡ Exactly x → n ≡ Some x) → option_and_then (converted to) n ≡ Some v
converted_exact to b v n h is =
    let p = passed_ok (is_within (ends b) (type_range to)) OUT_OF_RANGE b (Exactly v) h in
    let within : in_range (type_range to) v ≡ true =
    subst (λ c. is_within (ends c) (type_range to) ≡ true) p.1 p.0 in
    ap (option_and_then (converted to)) (is v p.1) ∙ ap (λ t. cond t (Some v) None) within

ok_is : (r : Result Bound ℕ) (b : Bound) (x : ℤ) → r ≡ Ok b → b ≡ Exactly x → r ≡ Ok (Exactly x)
ok_is r b x e f = e ∙ ap Ok f

-- ---- whole expressions

module _ (es : List Entry) where
  mutual
    exact : (e : Expression) (v : ℤ) → bound_of es e ≡ Ok (Exactly v) → number_of (constants_of es) e ≡ Some v
    exact (Alone t) v h = term_exact t v h
    exact (Prefixed prefix.Negate t) v h =
        let p = then_ok (bound_of_term es t) (prefix_bound prefix.Negate) (Exactly v) h in
        let are = both_exact (computed binary.Subtract) (result_range binary.Subtract) (Exactly (pos 0)) p.0 v p.2 in
        ap (option_and_then negated) (term_exact t are.y (ok_is (bound_of_term es t) p.0 are.y p.1 are.right))
        ∙ ap (λ x. computed binary.Subtract x are.y) (exact_is (pos 0) are.x are.left) ∙ are.gives
    exact (Prefixed prefix.BitNot t) v h =
        let p = then_ok (bound_of_term es t) (prefix_bound prefix.BitNot) (Exactly v) h in
        not_exact p.0 v (number_of_term (constants_of es) t) p.2
        (λ x is. term_exact t x (ok_is (bound_of_term es t) p.0 x p.1 is))
    exact (Prefixed prefix.Not t) v h =
        let p = then_ok (bound_of_term es t) (prefix_bound prefix.Not) (Exactly v) h in absurd (cc (p.2))
    exact (Paired (pair.Arithmetic op) a b) v h =
        let p = both_ok (bound_of_term es a) (bound_of_term es b) (pair_bound (pair.Arithmetic op)) (Exactly v) h in
        pair_gives (pair_value op) p.0 p.1 v (number_of_term (constants_of es) a) (number_of_term (constants_of es) b)
        (arithmetic_exact op p.0 p.1 v p.4)
        (λ x is. term_exact a x (ok_is (bound_of_term es a) p.0 x p.2 is))
        (λ x is. term_exact b x (ok_is (bound_of_term es b) p.1 x p.3 is))
    exact (Paired (pair.Comparison op) a b) v h =
        let p = both_ok (bound_of_term es a) (bound_of_term es b) (pair_bound (pair.Comparison op)) (Exactly v) h in
        absurd (cc (p.4))
    exact (Chained (chain.Arithmetic op) ts) v h = terms_exact op ts v h
    exact (Chained (chain.Logic op) (Two a b)) v h =
        let p = both_ok (bound_of_term es a) (bound_of_term es b) (chain_bound (chain.Logic op)) (Exactly v) h in
        absurd (cc (p.4))
    exact (Chained (chain.Logic op) (Then ts b)) v h =
        let p = both_ok (bound_of_terms es (chain.Logic op) ts) (bound_of_term es b) (chain_bound (chain.Logic op))
        (Exactly v) h in
        absurd (cc (p.4))

    terms_exact : (op : ArithmeticChain) (ts : Terms) (v : ℤ)
        → bound_of_terms es (chain.Arithmetic op) ts ≡ Ok (Exactly v)
        → number_of_terms (constants_of es) op ts ≡ Some v
    terms_exact op (Two a b) v h =
        let p = both_ok (bound_of_term es a) (bound_of_term es b) (chain_bound (chain.Arithmetic op)) (Exactly v) h in
        pair_gives (chain_value op) p.0 p.1 v (number_of_term (constants_of es) a)
        (number_of_term (constants_of es) b)
        (both_exact (computed (operation_of op)) (result_range (operation_of op)) p.0 p.1 v p.4)
        (λ x is. term_exact a x (ok_is (bound_of_term es a) p.0 x p.2 is))
        (λ x is. term_exact b x (ok_is (bound_of_term es b) p.1 x p.3 is))
    terms_exact op (Then ts b) v h =
        let p = both_ok (bound_of_terms es (chain.Arithmetic op) ts) (bound_of_term es b)
        (chain_bound (chain.Arithmetic op)) (Exactly v) h in
        pair_gives (chain_value op) p.0 p.1 v (number_of_terms (constants_of es) op ts)
        (number_of_term (constants_of es) b)
        (both_exact (computed (operation_of op)) (result_range (operation_of op)) p.0 p.1 v p.4)
        (λ x is. terms_exact op ts x (ok_is (bound_of_terms es (chain.Arithmetic op) ts) p.0 x p.2 is))
        (λ x is. term_exact b x (ok_is (bound_of_term es b) p.1 x p.3 is))

    term_exact : (t : Term) (v : ℤ) → bound_of_term es t ≡ Ok (Exactly v)
        → number_of_term (constants_of es) t ≡ Some v
    term_exact (Number value) v h = let same : value ≡ v = cc h in ap Some same
    term_exact (Byte byte) v h = let same : pos byte ≡ v = cc h in ap Some same
    term_exact (Truth holds) v h = absurd (cc h)
    term_exact MostPos v h = let same : greatest_word ≡ v = cc h in ap Some same
    term_exact MostNeg v h = let same : least_word ≡ v = cc h in ap Some same
    term_exact (Named name) v h = ap one_of (held_is name es) ∙ named_exact (meaning_in name es) v h
    term_exact (Element name e) v h =
        let p = then_ok (bound_of es e) (element_bound (meaning_in name es)) (Exactly v) h in
        absurd (element_exact (meaning_in name es) p.0 v p.2)
    term_exact (Bracketed e) v h = exact e v h
    term_exact (Converted to t) v h =
        let p = then_ok (bound_of_term es t) (converted_bound to) (Exactly v) h in
        converted_exact to p.0 v (number_of_term (constants_of es) t) p.2
        (λ x is. term_exact t x (ok_is (bound_of_term es t) p.0 x p.1 is))

pub constants_hold : ConstantsHold
constants_hold es e value is = exact es e value is
