-- Where a well typed expression has a bound, it has a value as the bound says.
use Rattle.std.proofs.Common.{◌≡◌, ℕ, ℤ, pos, Bool, true, not, List, Option, Some, None, Ok}
use Rattle.std.proofs.Common.{IsSomeAnd, refl, subst, arith, int_le, int_lt, length}
use Rattle.std.specs.Prelude.{option_map, option_and_then, IsSome}
use Rattle.std.specs.List.{AllByRecursion}
use Rattle.std.proofs.lemmas.Int.{ints}
use Rattle.std.proofs.lemmas.Bool.{and_parts}
use Rattle.word_arithmetic.specs.Word.{word_not, least_word, greatest_word}
use Rattle.word_arithmetic.specs.Comparison.{compares}
use Rattle.word_arithmetic.specs.declared.compare.Comparison.{Comparison}
use Rattle.word_arithmetic.specs.declared.binary.Binary.TheVariants as binary
use Rattle.word_arithmetic.specs.Range.{Ends, InRange, is_within}
use Rattle.word_arithmetic.proofs.EndsLaws.{in_range_in}
use Rattle.occam_parser.specs.declared.tree.ValueType.{ValueType}
use Rattle.occam_parser.specs.declared.tree.ValueType.TheVariants as value_type
use Rattle.occam_parser.specs.declared.tree.PrefixOperator.TheVariants as prefix
use Rattle.occam_parser.specs.declared.tree.PairOperator.TheVariants as pair
use Rattle.occam_parser.specs.declared.tree.ArithmeticPair.{ArithmeticPair}
use Rattle.occam_parser.specs.declared.tree.ChainOperator.TheVariants as chain
use Rattle.occam_parser.specs.declared.tree.ArithmeticChain.{ArithmeticChain}
use Rattle.occam_parser.specs.declared.tree.Logic.{Logic}
use Rattle.occam_parser.specs.declared.tree.Logic.TheVariants as logic
use Rattle.occam_parser.specs.Expressions.{Expression, Alone, Prefixed, Paired, Chained, Terms, Two, Then, Term}
use Rattle.occam_parser.specs.Expressions.{Number, Byte, Truth, MostPos, MostNeg, Named, Element, Bracketed, Converted}
use Rattle.scalar_ranges.specs.declared.types.ExprType.{ExprType}
use Rattle.scalar_ranges.specs.declared.types.ExprType.TheVariants as types
use Rattle.scalar_ranges.specs.Entries.{Meaning, Constant, Scalar, Array, Channel, Channels, Procedure, Entry}
use Rattle.scalar_ranges.specs.Entries.{meaning_in}
use Rattle.scalar_ranges.specs.Entries.{type_range}
use Rattle.scalar_ranges.specs.Environments.{Held, Nothing, One, Many, Environment, held_in, one_of, element_of}
use Rattle.scalar_ranges.specs.Environments.{item_of, IsHeld, Meets}
use Rattle.scalar_ranges.specs.Types.{type_of, type_of_terms, type_of_term, type_of_values, named_type, element_type}
use Rattle.scalar_ranges.specs.Types.{subscripted, prefix_type, pair_type, chain_type, converted_type}
use Rattle.scalar_ranges.specs.Values.{number_of, number_of_terms, number_of_term, truth_of, truth_of_terms}
use Rattle.scalar_ranges.specs.Values.{truth_of_term, negated, pair_value, chain_value, logic_value, converted}
use Rattle.scalar_ranges.specs.Values.{operation_of}
use Rattle.scalar_ranges.specs.Bounds.{Bound, Exactly, Within, ends, prefix_bound, pair_bound, chain_bound, named_bound}
use Rattle.scalar_ranges.specs.Bounds.{is_subscript, element_bound, converted_bound, bound_of, bound_of_terms}
use Rattle.scalar_ranges.specs.Bounds.{bound_of_term}
use Rattle.scalar_ranges.specs.declared.bounds.TheConstants.{OUT_OF_RANGE, OUTSIDE}
use Rattle.scalar_ranges.specs.Steps.{both_some}
use Rattle.scalar_ranges.specs.Laws.{IsBound, HasValue, BoundsHold}
use Rattle.scalar_ranges.proofs.Parts.{both_ok, then_ok, passed_ok, ok_same, then_holds, both_hold}
use Rattle.scalar_ranges.proofs.Lookups.{found_held, item_holds}
use Rattle.scalar_ranges.proofs.Operators.{bound_lies, gives_hold, binary_members, arithmetic_holds, not_bound_holds}

-- ---- values of known types

-- a value of a type and a bound is one of those that they are
known : (t u : ExprType) (b d : Bound) (n : Option ℤ) (w : Option Bool) → t ≡ u → b ≡ d → HasValue t b n w
    → HasValue u d n w
known t u b d n w e f h = subst (λ x. HasValue x d n w) e (subst (λ x. HasValue t x n w) f h)

number_has : (type : ValueType) (b : Bound) (n : Option ℤ) (w : Option Bool) → IsSomeAnd n (IsBound b)
    → HasValue (type_of_values type) b n w
number_has value_type.Int b n w h = h
number_has value_type.Byte b n w h = h

some_truth : (o p : Option Bool) (f : Bool → Bool → Option Bool) → ((x y : Bool) → IsSome (f x y)) → IsSome o
    → IsSome p → IsSome (both_some o p f)
some_truth None p f g h k = absurd (cc h)
some_truth (Some x) None f g h k = absurd (cc k)
some_truth (Some x) (Some y) f g h k = g x y

compared : (P Q : ℤ → Type 0) (op : Comparison) (n m : Option ℤ) → IsSomeAnd n P → IsSomeAnd m Q
    → IsSome (both_some n m (λ x y. Some (compares op x y)))
compared P Q op None m h k = absurd h
compared P Q op (Some x) None h k = absurd k
compared P Q op (Some x) (Some y) h k = refl

logic_is_some : (op : Logic) (x y : Bool) → IsSome (logic_value op x y)
logic_is_some logic.And x y = refl
logic_is_some logic.Or x y = refl

not_is_some : (w : Option Bool) → IsSome w → IsSome (option_map not w)
not_is_some None h = absurd (cc h)
not_is_some (Some x) h = refl

mapped_holds : (P Q : ℤ → Type 0) (f : ℤ → ℤ) (n : Option ℤ) → IsSomeAnd n P → ((x : ℤ) → P x → Q (f x))
    → IsSomeAnd (option_map f n) Q
mapped_holds P Q f None h g = absurd h
mapped_holds P Q f (Some x) h g = g x h

-- ---- operators

negated_has : (s u : ExprType) (b d : Bound) (n : Option ℤ) (w : Option Bool) → HasValue s b n w
    → prefix_type prefix.Negate s ≡ Ok u → prefix_bound prefix.Negate b ≡ Ok d
    → HasValue u d (option_and_then negated n) None
negated_has types.Int u b d n w h e f =
    subst (λ t. HasValue t d (option_and_then negated n) None) (ok_same types.Int u e)
    (then_holds (IsBound b) (IsBound d) negated n h (λ x p. gives_hold _ _ (binary_members binary.Subtract)
    (Exactly (pos 0)) b d f (pos 0) x refl p))
negated_has types.Byte u b d n w h e f = absurd (cc e)
negated_has types.Condition u b d n w h e f = absurd (cc e)

bit_not_has : (s u : ExprType) (b d : Bound) (n : Option ℤ) (w : Option Bool) → HasValue s b n w
    → prefix_type prefix.BitNot s ≡ Ok u → prefix_bound prefix.BitNot b ≡ Ok d
    → HasValue u d (option_map word_not n) None
bit_not_has types.Int u b d n w h e f =
    subst (λ t. HasValue t d (option_map word_not n) None) (ok_same types.Int u e)
    (mapped_holds (IsBound b) (IsBound d) word_not n h (λ x p. not_bound_holds b d x f p))
bit_not_has types.Byte u b d n w h e f = absurd (cc e)
bit_not_has types.Condition u b d n w h e f = absurd (cc e)

not_has : (s u : ExprType) (b d : Bound) (n : Option ℤ) (w : Option Bool) → HasValue s b n w
    → prefix_type prefix.Not s ≡ Ok u → HasValue u d None (option_map not w)
not_has types.Condition u b d n w h e =
    subst (λ t. HasValue t d None (option_map not w)) (ok_same types.Condition u e) (not_is_some w h)
not_has types.Int u b d n w h e = absurd (cc e)
not_has types.Byte u b d n w h e = absurd (cc e)

pair_has : (op : ArithmeticPair) (s t u : ExprType) (b c d : Bound) (n m : Option ℤ) (v w : Option Bool)
    → HasValue s b n v → HasValue t c m w → pair_type (pair.Arithmetic op) s t ≡ Ok u
    → pair_bound (pair.Arithmetic op) b c ≡ Ok d → HasValue u d (both_some n m (pair_value op)) None
pair_has op types.Int types.Int u b c d n m v w h k e f =
    subst (λ x. HasValue x d (both_some n m (pair_value op)) None) (ok_same types.Int u e)
    (both_hold (IsBound b) (IsBound c) (IsBound d) (pair_value op) n m h k (arithmetic_holds op b c d f))
pair_has op s t u b c d n m v w h k e f = absurd (cc e)

comparison_has : (op : Comparison) (s t u : ExprType) (b c d : Bound) (n m : Option ℤ) (v w : Option Bool)
    → HasValue s b n v → HasValue t c m w → pair_type (pair.Comparison op) s t ≡ Ok u
    → HasValue u d None (both_some n m (λ x y. Some (compares op x y)))
comparison_has op types.Int types.Int u b c d n m v w h k e =
    subst (λ x. HasValue x d None (both_some n m (λ x y. Some (compares op x y)))) (ok_same types.Condition u e)
    (compared (IsBound b) (IsBound c) op n m h k)
comparison_has op types.Byte types.Byte u b c d n m v w h k e =
    subst (λ x. HasValue x d None (both_some n m (λ x y. Some (compares op x y)))) (ok_same types.Condition u e)
    (compared (IsBound b) (IsBound c) op n m h k)
comparison_has op s t u b c d n m v w h k e = absurd (cc e)

-- what a chain of numbers has
abbrev pub HasNumber : ExprType → Bound → Option ℤ → Type 0
HasNumber t b n = (t ≡ types.Int) × IsSomeAnd n (IsBound b)

chain_has : (op : ArithmeticChain) (s t u : ExprType) (b c d : Bound) (n m : Option ℤ) (v w : Option Bool)
    → HasValue s b n v → HasValue t c m w → chain_type (chain.Arithmetic op) s t ≡ Ok u
    → chain_bound (chain.Arithmetic op) b c ≡ Ok d → HasNumber u d (both_some n m (chain_value op))
chain_has op types.Int types.Int u b c d n m v w h k e f = (
  cc (ok_same types.Int u e),
  both_hold (IsBound b) (IsBound c) (IsBound d) (chain_value op) n m h k
      (λ x y p q. gives_hold _ _ (binary_members (operation_of op)) b c d f x y p q),
)
chain_has op s t u b c d n m v w h k e f = absurd (cc e)

-- what a chain of conditions has
abbrev pub HasTruth : ExprType → Option Bool → Type 0
HasTruth t w = (t ≡ types.Condition) × IsSome w

logic_has : (op : Logic) (s t u : ExprType) (b c : Bound) (n m : Option ℤ) (v w : Option Bool)
    → HasValue s b n v → HasValue t c m w → chain_type (chain.Logic op) s t ≡ Ok u
    → HasTruth u (both_some v w (logic_value op))
logic_has op types.Condition types.Condition u b c n m v w h k e =
    (cc (ok_same types.Condition u e), some_truth v w (logic_value op) (logic_is_some op) h k)
logic_has op s t u b c n m v w h k e = absurd (cc e)

-- ---- names and conversions

named_has : (m : Meaning) (h : Held) (u : ExprType) (d : Bound) → IsHeld m h → named_type (Some m) ≡ Ok u
    → named_bound (Some m) ≡ Ok d → HasValue u d (one_of h) None
named_has (Constant type (Some value)) (One v) u d is e f =
    known (type_of_values type) u (Exactly value) d (Some v) None (ok_same _ _ e) (ok_same _ _ f)
    (number_has type (Exactly value) (Some v) None is)
named_has (Scalar kind type range) (One v) u d is e f =
    known (type_of_values type) u (Within range) d (Some v) None (ok_same _ _ e) (ok_same _ _ f)
    (number_has type (Within range) (Some v) None is)
named_has (Constant type (Some value)) Nothing u d is e f = absurd is
named_has (Constant type (Some value)) (Many vs) u d is e f = absurd is
named_has (Constant type None) h u d is e f = absurd is
named_has (Scalar kind type range) Nothing u d is e f = absurd is
named_has (Scalar kind type range) (Many vs) u d is e f = absurd is
named_has (Array kind type size range) h u d is e f = absurd (cc e)
named_has (Channel type) h u d is e f = absurd (cc e)
named_has (Channels type size) h u d is e f = absurd (cc e)
named_has (Procedure number) h u d is e f = absurd (cc e)

name_has : (name : List ℕ) (es : List Entry) (env : Environment) (o : Option Meaning) (u : ExprType) (d : Bound)
    → Meets env es → meaning_in name es ≡ o → named_type o ≡ Ok u → named_bound o ≡ Ok d
    → HasValue u d (one_of (held_in name env)) None
name_has name es env None u d m g e f = absurd (cc e)
name_has name es env (Some k) u d m g e f =
    named_has k (held_in name env) u d (found_held name es env k m g) e f

-- an element of an array, by a subscript in bounds
element_in : (vs : List ℤ) (size : ℕ) (range : Ends) (b : Bound) (i : ℤ) → length vs ≡ size
    → AllByRecursion (InRange range) vs → is_subscript size (ends b) ≡ true → IsBound b i
    → IsSomeAnd (item_of vs i) (InRange range)
element_in vs size range b i e all sub is =
    let m = bound_lies b i is in
    let w = and_parts (int_le (pos 0) (ends b).lo) (int_lt (ends b).hi (pos size)) sub in
    item_holds (InRange range) vs size i e all (omega (arith, ints, w.0)) (omega (arith, ints, w.1))

subscripted_has : (m : Meaning) (h : Held) (a s u : ExprType) (b d : Bound) (n : Option ℤ) (w : Option Bool)
    → IsHeld m h → HasValue s b n w → element_type (Some m) ≡ Ok a → subscripted a s ≡ Ok u
    → element_bound (Some m) b ≡ Ok d → HasValue u d (option_and_then (element_of h) n) None
subscripted_has (Array kind type (Some size) range) (Many vs) a types.Int u b d n w is h e g f =
    let t = passed_ok (is_subscript size (ends b)) OUTSIDE (Within range) d f in
    known (type_of_values type) u (Within range) d (option_and_then (item_of vs) n) None
    (cc (ok_same _ _ e, ok_same _ _ g)) t.1
    (number_has type (Within range) (option_and_then (item_of vs) n) None
    (then_holds (IsBound b) (InRange range) (item_of vs) n h
    (λ i p. element_in vs size range b i is.0 is.1 t.0 p)))
subscripted_has (Array kind type (Some size) range) (Many vs) a types.Byte u b d n w is h e g f = absurd (cc g)
subscripted_has (Array kind type (Some size) range) (Many vs) a types.Condition u b d n w is h e g f = absurd (cc g)
subscripted_has (Array kind type (Some size) range) (One v) a s u b d n w is h e g f = absurd is
subscripted_has (Array kind type (Some size) range) Nothing a s u b d n w is h e g f = absurd is
subscripted_has (Array kind type None range) k a s u b d n w is h e g f = absurd is
subscripted_has (Constant type value) k a s u b d n w is h e g f = absurd (cc e)
subscripted_has (Scalar kind type range) k a s u b d n w is h e g f = absurd (cc e)
subscripted_has (Channel type) k a s u b d n w is h e g f = absurd (cc e)
subscripted_has (Channels type size) k a s u b d n w is h e g f = absurd (cc e)
subscripted_has (Procedure number) k a s u b d n w is h e g f = absurd (cc e)

element_has : (name : List ℕ) (es : List Entry) (env : Environment) (o : Option Meaning) (a s u : ExprType)
    (b d : Bound) (n : Option ℤ) (w : Option Bool) → Meets env es → meaning_in name es ≡ o → HasValue s b n w
    → element_type o ≡ Ok a → subscripted a s ≡ Ok u → element_bound o b ≡ Ok d
    → HasValue u d (option_and_then (element_of (held_in name env)) n) None
element_has name es env None a s u b d n w m q h e g f = absurd (cc e)
element_has name es env (Some k) a s u b d n w m q h e g f =
    subscripted_has k (held_in name env) a s u b d n w (found_held name es env k m q) h e g f

convert_in : (to : ValueType) (b : Bound) (x : ℤ) → is_within (ends b) (type_range to) ≡ true → IsBound b x
    → IsSomeAnd (converted to x) (IsBound b)
convert_in to b x inside is =
    let m = bound_lies b x is in
    let w = and_parts (int_le (type_range to).lo (ends b).lo) (int_le (ends b).hi (type_range to).hi) inside in
    let in_it : InRange (type_range to) x =
    record { from_lo = omega (arith, ints, w.0); to_hi = omega (arith, ints, w.1) } in
    rw (in_range_in (type_range to) x in_it) is

number_converted : (to : ValueType) (b d : Bound) (n : Option ℤ) → IsSomeAnd n (IsBound b)
    → converted_bound to b ≡ Ok d → HasValue (type_of_values to) d (option_and_then (converted to) n) None
number_converted to b d n h f =
    let t = passed_ok (is_within (ends b) (type_range to)) OUT_OF_RANGE b d f in
    number_has to d (option_and_then (converted to) n) None
    (subst (λ x. IsSomeAnd (option_and_then (converted to) n) (IsBound x)) t.1
    (then_holds (IsBound b) (IsBound b) (converted to) n h (λ x p. convert_in to b x t.0 p)))

converted_has : (to : ValueType) (s u : ExprType) (b d : Bound) (n : Option ℤ) (w : Option Bool) → HasValue s b n w
    → converted_type to s ≡ Ok u → converted_bound to b ≡ Ok d
    → HasValue u d (option_and_then (converted to) n) None
converted_has to types.Int u b d n w h e f =
    subst (λ t. HasValue t d (option_and_then (converted to) n) None) (ok_same _ _ e) (number_converted to b d n h f)
converted_has to types.Byte u b d n w h e f =
    subst (λ t. HasValue t d (option_and_then (converted to) n) None) (ok_same _ _ e) (number_converted to b d n h f)
converted_has to types.Condition u b d n w h e f = absurd (cc e)

-- ---- whole expressions

module _ (es : List Entry) (env : Environment) (meets : Meets env es) where
  mutual
    holds : (e : Expression) (u : ExprType) (d : Bound) → type_of es e ≡ Ok u → bound_of es e ≡ Ok d
        → HasValue u d (number_of env e) (truth_of env e)
    holds (Alone t) u d e f = term_holds t u d e f
    holds (Prefixed prefix.Negate t) u d e f =
        let s = then_ok (type_of_term es t) (prefix_type prefix.Negate) u e in
        let b = then_ok (bound_of_term es t) (prefix_bound prefix.Negate) d f in
        negated_has s.0 u b.0 d (number_of_term env t) (truth_of_term env t) (term_holds t s.0 b.0 s.1 b.1) s.2 b.2
    holds (Prefixed prefix.BitNot t) u d e f =
        let s = then_ok (type_of_term es t) (prefix_type prefix.BitNot) u e in
        let b = then_ok (bound_of_term es t) (prefix_bound prefix.BitNot) d f in
        bit_not_has s.0 u b.0 d (number_of_term env t) (truth_of_term env t) (term_holds t s.0 b.0 s.1 b.1) s.2 b.2
    holds (Prefixed prefix.Not t) u d e f =
        let s = then_ok (type_of_term es t) (prefix_type prefix.Not) u e in
        let b = then_ok (bound_of_term es t) (prefix_bound prefix.Not) d f in
        not_has s.0 u b.0 d (number_of_term env t) (truth_of_term env t) (term_holds t s.0 b.0 s.1 b.1) s.2
    holds (Paired (pair.Arithmetic op) x y) u d e f =
        let s = both_ok (type_of_term es x) (type_of_term es y) (pair_type (pair.Arithmetic op)) u e in
        let b = both_ok (bound_of_term es x) (bound_of_term es y) (pair_bound (pair.Arithmetic op)) d f in
        pair_has op s.0 s.1 u b.0 b.1 d (number_of_term env x) (number_of_term env y) (truth_of_term env x)
        (truth_of_term env y) (term_holds x s.0 b.0 s.2 b.2) (term_holds y s.1 b.1 s.3 b.3) s.4 b.4
    holds (Paired (pair.Comparison op) x y) u d e f =
        let s = both_ok (type_of_term es x) (type_of_term es y) (pair_type (pair.Comparison op)) u e in
        let b = both_ok (bound_of_term es x) (bound_of_term es y) (pair_bound (pair.Comparison op)) d f in
        comparison_has op s.0 s.1 u b.0 b.1 d (number_of_term env x) (number_of_term env y) (truth_of_term env x)
        (truth_of_term env y) (term_holds x s.0 b.0 s.2 b.2) (term_holds y s.1 b.1 s.3 b.3) s.4
    holds (Chained (chain.Arithmetic op) ts) u d e f =
        let h = numbers_hold ts op u d e f in
        known types.Int u d d (number_of_terms env op ts) None (cc (h.0)) refl h.1
    holds (Chained (chain.Logic op) ts) u d e f =
        let h = truths_hold ts op u d e f in
        known types.Condition u d d None (truth_of_terms env op ts) (cc (h.0)) refl h.1

    numbers_hold : (ts : Terms) (op : ArithmeticChain) (u : ExprType) (d : Bound)
        → type_of_terms es (chain.Arithmetic op) ts ≡ Ok u → bound_of_terms es (chain.Arithmetic op) ts ≡ Ok d
        → HasNumber u d (number_of_terms env op ts)
    numbers_hold (Two x y) op u d e f =
        let s = both_ok (type_of_term es x) (type_of_term es y) (chain_type (chain.Arithmetic op)) u e in
        let b = both_ok (bound_of_term es x) (bound_of_term es y) (chain_bound (chain.Arithmetic op)) d f in
        chain_has op s.0 s.1 u b.0 b.1 d (number_of_term env x) (number_of_term env y) (truth_of_term env x)
        (truth_of_term env y) (term_holds x s.0 b.0 s.2 b.2) (term_holds y s.1 b.1 s.3 b.3) s.4 b.4
    numbers_hold (Then ts y) op u d e f =
        let s = both_ok (type_of_terms es (chain.Arithmetic op) ts) (type_of_term es y)
        (chain_type (chain.Arithmetic op)) u e in
        let b = both_ok (bound_of_terms es (chain.Arithmetic op) ts) (bound_of_term es y)
        (chain_bound (chain.Arithmetic op)) d f in
        let before = numbers_hold ts op s.0 b.0 s.2 b.2 in
        chain_has op s.0 s.1 u b.0 b.1 d (number_of_terms env op ts) (number_of_term env y) None
        (truth_of_term env y)
        (known types.Int s.0 b.0 b.0 (number_of_terms env op ts) None (cc (before.0)) refl before.1)
        (term_holds y s.1 b.1 s.3 b.3) s.4 b.4

    truths_hold : (ts : Terms) (op : Logic) (u : ExprType) (d : Bound)
        → type_of_terms es (chain.Logic op) ts ≡ Ok u → bound_of_terms es (chain.Logic op) ts ≡ Ok d
        → HasTruth u (truth_of_terms env op ts)
    truths_hold (Two x y) op u d e f =
        let s = both_ok (type_of_term es x) (type_of_term es y) (chain_type (chain.Logic op)) u e in
        let b = both_ok (bound_of_term es x) (bound_of_term es y) (chain_bound (chain.Logic op)) d f in
        logic_has op s.0 s.1 u b.0 b.1 (number_of_term env x) (number_of_term env y) (truth_of_term env x)
        (truth_of_term env y) (term_holds x s.0 b.0 s.2 b.2) (term_holds y s.1 b.1 s.3 b.3) s.4
    truths_hold (Then ts y) op u d e f =
        let s = both_ok (type_of_terms es (chain.Logic op) ts) (type_of_term es y) (chain_type (chain.Logic op)) u e in
        let b = both_ok (bound_of_terms es (chain.Logic op) ts) (bound_of_term es y) (chain_bound (chain.Logic op)) d f
        in
        let before = truths_hold ts op s.0 b.0 s.2 b.2 in
        logic_has op s.0 s.1 u b.0 b.1 None (number_of_term env y) (truth_of_terms env op ts) (truth_of_term env y)
        (known types.Condition s.0 b.0 b.0 None (truth_of_terms env op ts) (cc (before.0)) refl before.1)
        (term_holds y s.1 b.1 s.3 b.3) s.4

    term_holds : (t : Term) (u : ExprType) (d : Bound) → type_of_term es t ≡ Ok u → bound_of_term es t ≡ Ok d
        → HasValue u d (number_of_term env t) (truth_of_term env t)
    term_holds (Number value) u d e f =
        known types.Int u (Exactly value) d (Some value) None (ok_same _ _ e) (ok_same _ _ f) refl
    term_holds (Byte byte) u d e f =
        known types.Byte u (Exactly (pos byte)) d (Some (pos byte)) None (ok_same _ _ e) (ok_same _ _ f) refl
    term_holds (Truth b) u d e f = known types.Condition u d d None (Some b) (ok_same _ _ e) refl refl
    term_holds MostPos u d e f =
        known types.Int u (Exactly greatest_word) d (Some greatest_word) None (ok_same _ _ e) (ok_same _ _ f) refl
    term_holds MostNeg u d e f =
        known types.Int u (Exactly least_word) d (Some least_word) None (ok_same _ _ e) (ok_same _ _ f) refl
    term_holds (Named name) u d e f = name_has name es env (meaning_in name es) u d meets refl e f
    term_holds (Element name x) u d e f =
        let s = both_ok (element_type (meaning_in name es)) (type_of es x) subscripted u e in
        let b = then_ok (bound_of es x) (element_bound (meaning_in name es)) d f in
        element_has name es env (meaning_in name es) s.0 s.1 u b.0 d (number_of env x) (truth_of env x) meets refl
        (holds x s.1 b.0 s.3 b.1) s.2 s.4 b.2
    term_holds (Bracketed x) u d e f = holds x u d e f
    term_holds (Converted to t) u d e f =
        let s = then_ok (type_of_term es t) (converted_type to) u e in
        let b = then_ok (bound_of_term es t) (converted_bound to) d f in
        converted_has to s.0 u b.0 d (number_of_term env t) (truth_of_term env t) (term_holds t s.0 b.0 s.1 b.1) s.2
        b.2

pub bounds_hold : BoundsHold
bounds_hold es env e t bound meets is_type is_bound = holds es env meets e t bound is_type is_bound
