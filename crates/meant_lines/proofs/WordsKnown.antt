-- The word of an expression, and what is known of it.
use Rattle.std.proofs.Common.{◌≡◌, ℕ, ℤ, Bool, true, false, cond, List, Option, Some, None, Result, Ok}
use Rattle.std.proofs.Common.{Err}
use Rattle.std.proofs.Common.{FitsSigned, IsSomeAnd, refl, sym, ap, subst, ◌∙◌, arith}
use Rattle.std.specs.Prelude.{option_map, option_and_then, not, IfSome}
use Rattle.std.specs.Int.{w32}
use Rattle.std.proofs.lemmas.Int.{ints}
use Rattle.std.proofs.lemmas.Option.{same_Some}
use Rattle.word_arithmetic.specs.Comparison.{compares}
use Rattle.word_arithmetic.specs.declared.compare.Comparison.{Comparison}
use Rattle.word_arithmetic.specs.Range.{InRange, in_range, bytes}
use Rattle.word_arithmetic.specs.Word.{truth, word_not}
use Rattle.occam_parser.specs.declared.tree.ValueType.{ValueType}
use Rattle.occam_parser.specs.declared.tree.ValueType.TheVariants as value_type
use Rattle.occam_parser.specs.declared.tree.PrefixOperator.TheVariants as prefix
use Rattle.occam_parser.specs.declared.tree.PairOperator.TheVariants as pair
use Rattle.occam_parser.specs.declared.tree.ArithmeticPair.{ArithmeticPair}
use Rattle.occam_parser.specs.declared.tree.ChainOperator.{ChainOperator}
use Rattle.occam_parser.specs.declared.tree.ChainOperator.TheVariants as chain
use Rattle.occam_parser.specs.declared.tree.ArithmeticChain.{ArithmeticChain}
use Rattle.occam_parser.specs.declared.tree.Logic.{Logic}
use Rattle.occam_parser.specs.Expressions.{Expression, Alone, Prefixed, Paired, Chained, Terms, Two, Then, Term}
use Rattle.occam_parser.specs.Expressions.{Number, Byte, Truth, MostPos, MostNeg, Named, Element, Bracketed, Converted}
use Rattle.scalar_ranges.specs.declared.types.ExprType.{ExprType}
use Rattle.scalar_ranges.specs.declared.types.ExprType.TheVariants as types
use Rattle.scalar_ranges.specs.Bounds.{Bound, Exactly, Within, bound_of, bound_of_term, bound_of_terms, exact_value}
use Rattle.scalar_ranges.specs.Bounds.{prefix_bound, pair_bound, chain_bound}
use Rattle.scalar_ranges.specs.Entries.{Meaning, Constant, Scalar, Array, Entry}
use Rattle.scalar_ranges.specs.Entries.{meaning_in, type_range}
use Rattle.scalar_ranges.specs.Environments.{Environment}
use Rattle.scalar_ranges.specs.Laws.{IsBound}
use Rattle.scalar_ranges.specs.Steps.{both_some}
use Rattle.scalar_ranges.specs.Types.{type_of, type_of_term, type_of_terms, type_of_values, named_type, element_type}
use Rattle.scalar_ranges.specs.Types.{subscripted, prefix_type, pair_type, chain_type, converted_type}
use Rattle.scalar_ranges.specs.Values.{number_of, number_of_term, number_of_terms, truth_of, truth_of_term}
use Rattle.scalar_ranges.specs.Values.{truth_of_terms, negated, chain_value, logic_value, converted}
use Rattle.scalar_ranges.proofs.BoundLaws.{bounds_hold}
use Rattle.scalar_ranges.proofs.Parts.{both_ok, both_are, then_ok, ok_same}
use Rattle.program_meaning.specs.GoingWell.{IsTrueIn}
use Rattle.program_meaning.specs.TypedValues.{IsNumberOf}
use Rattle.program_meaning.proofs.TypesStay.{types_stay}
use Rattle.program_meaning.proofs.ValuesTyped.{values_are_typed}
use Rattle.meant_lines.specs.OperatorLaws.{IsValue, joined_value, prefixed_value}
use Rattle.meant_lines.specs.ChainLaws.{word_of_either, word_of_term, word_of_terms}
use Rattle.meant_lines.specs.ExpressionLaws.{IsChecked}
use Rattle.meant_lines.proofs.Chains.{truths_are_joined}
use Rattle.meant_lines.proofs.Checking.{bound_in, two_parts, then_parts}
use Rattle.meant_lines.proofs.Comparisons.{not_truth}

-- the number of an expression, or the word of its truth
abbrev pub word_of : Environment → Expression → Option ℤ
word_of env e = word_of_either (number_of env e) (truth_of env e)

-- ---- conditions

no_condition : (type : ValueType) → type_of_values type ≡ types.Condition → ⊥
no_condition value_type.Int same = absurd (cc same)
no_condition value_type.Byte same = absurd (cc same)

no_negation : (s : ExprType) → prefix_type prefix.Negate s ≡ Ok types.Condition → ⊥
no_negation types.Int is = absurd (cc is)
no_negation types.Byte is = absurd (cc is)
no_negation types.Condition is = absurd (cc is)

no_bits : (s : ExprType) → prefix_type prefix.BitNot s ≡ Ok types.Condition → ⊥
no_bits types.Int is = absurd (cc is)
no_bits types.Byte is = absurd (cc is)
no_bits types.Condition is = absurd (cc is)

no_pair : (op : ArithmeticPair) (s u : ExprType) → pair_type (pair.Arithmetic op) s u ≡ Ok types.Condition → ⊥
no_pair op types.Int types.Int is = absurd (cc is)
no_pair op s u is = absurd (cc is)

no_chain : (op : ArithmeticChain) (s u : ExprType) → chain_type (chain.Arithmetic op) s u ≡ Ok types.Condition → ⊥
no_chain op types.Int types.Int is = absurd (cc is)
no_chain op s u is = absurd (cc is)

no_name : (m : Option Meaning) → named_type m ≡ Ok types.Condition → ⊥
no_name None is = absurd (cc is)
no_name (Some (Constant type value)) is = no_condition type (ok_same (type_of_values type) types.Condition is)
no_name (Some (Scalar kind type range)) is = no_condition type (ok_same (type_of_values type) types.Condition is)
no_name (Some m) is = absurd (cc is)

no_element : (m : Option Meaning) (a s : ExprType) → element_type m ≡ Ok a → subscripted a s ≡ Ok types.Condition → ⊥
no_element None a s is sub = absurd (cc is)
no_element (Some (Array kind type size range)) a types.Int is sub =
    no_condition type (ok_same (type_of_values type) a is ∙ ok_same a types.Condition sub)
no_element (Some (Array kind type size range)) a types.Byte is sub = absurd (cc sub)
no_element (Some (Array kind type size range)) a types.Condition is sub = absurd (cc sub)
no_element (Some m) a s is sub = absurd (cc is)

no_conversion : (to : ValueType) (s : ExprType) → converted_type to s ≡ Ok types.Condition → ⊥
no_conversion to types.Int is = no_condition to (ok_same (type_of_values to) types.Condition is)
no_conversion to types.Byte is = no_condition to (ok_same (type_of_values to) types.Condition is)
no_conversion to types.Condition is = absurd (cc is)

-- what is no number, and no constant
abbrev pub IsNoNumber : Option ℤ → Result Bound ℕ → Type 0
IsNoNumber n r = (n ≡ None) × ((c : ℤ) → r ≡ Ok (Exactly c) → ⊥)

module _ (es : List Entry) (env : Environment) where
  mutual
    pub conditions_are_none : (e : Expression) → type_of es e ≡ Ok types.Condition
        → IsNoNumber (number_of env e) (bound_of es e)
    conditions_are_none (Alone x) is = condition_terms x is
    conditions_are_none (Prefixed prefix.Negate x) is =
        let p = then_ok (type_of_term es x) (prefix_type prefix.Negate) types.Condition is in
        absurd (no_negation p.0 p.2)
    conditions_are_none (Prefixed prefix.BitNot x) is =
        let p = then_ok (type_of_term es x) (prefix_type prefix.BitNot) types.Condition is in
        absurd (no_bits p.0 p.2)
    conditions_are_none (Prefixed prefix.Not x) is = (
      refl,
      λ c bound. let p = then_ok (bound_of_term es x) (prefix_bound prefix.Not) (Exactly c) bound in absurd (cc (p.2)),
    )
    conditions_are_none (Paired (pair.Arithmetic op) x y) is =
        let p = both_ok (type_of_term es x) (type_of_term es y) (pair_type (pair.Arithmetic op)) types.Condition is in
        absurd (no_pair op p.0 p.1 p.4)
    conditions_are_none (Paired (pair.Comparison op) x y) is = (
      refl,
      λ c bound.
          let p = both_ok (bound_of_term es x) (bound_of_term es y) (pair_bound (pair.Comparison op)) (Exactly c)
          bound in
          absurd (cc (p.4)),
    )
    conditions_are_none (Chained (chain.Arithmetic op) (Two x y)) is =
        let p = both_ok (type_of_term es x) (type_of_term es y) (chain_type (chain.Arithmetic op)) types.Condition is in
        absurd (no_chain op p.0 p.1 p.4)
    conditions_are_none (Chained (chain.Arithmetic op) (Then ts y)) is =
        let p = both_ok (type_of_terms es (chain.Arithmetic op) ts) (type_of_term es y)
        (chain_type (chain.Arithmetic op)) types.Condition is in
        absurd (no_chain op p.0 p.1 p.4)
    conditions_are_none (Chained (chain.Logic op) (Two x y)) is = (
      refl,
      λ c bound.
          let p = both_ok (bound_of_term es x) (bound_of_term es y) (chain_bound (chain.Logic op)) (Exactly c) bound in
          absurd (cc (p.4)),
    )
    conditions_are_none (Chained (chain.Logic op) (Then ts y)) is = (
      refl,
      λ c bound.
          let p = both_ok (bound_of_terms es (chain.Logic op) ts) (bound_of_term es y) (chain_bound (chain.Logic op))
          (Exactly c) bound in
          absurd (cc (p.4)),
    )

    condition_terms : (x : Term) → type_of_term es x ≡ Ok types.Condition
        → IsNoNumber (number_of_term env x) (bound_of_term es x)
    condition_terms (Number value) is = absurd (cc is)
    condition_terms (Byte byte) is = absurd (cc is)
    condition_terms (Truth holds) is = (refl, λ c bound. absurd (cc bound))
    condition_terms MostPos is = absurd (cc is)
    condition_terms MostNeg is = absurd (cc is)
    condition_terms (Named name) is = absurd (no_name (meaning_in name es) is)
    condition_terms (Element name e) is =
        let p = both_ok (element_type (meaning_in name es)) (type_of es e) subscripted types.Condition is in
        absurd (no_element (meaning_in name es) p.0 p.1 p.2 p.4)
    condition_terms (Bracketed e) is = conditions_are_none e is
    condition_terms (Converted to x) is =
        let p = then_ok (type_of_term es x) (converted_type to) types.Condition is in
        absurd (no_conversion to p.0 p.2)

-- ---- words

pub some_word : (n : Option ℤ) (w : Option Bool) (v : ℤ) → n ≡ Some v → word_of_either n w ≡ Some v
some_word n w v is = ap (λ (o : Option ℤ). word_of_either o w) is

pub either_number : (n : Option ℤ) (v : ℤ) → word_of_either n None ≡ Some v → n ≡ Some v
either_number None v is = absurd (cc is)
either_number (Some u) v is = is

pub either_truth : (w : Option Bool) (v : ℤ) → word_of_either None w ≡ Some v → (b : Bool) × (w ≡ Some b) × (truth b ≡ v)
either_truth None v is = absurd (cc is)
either_truth (Some b) v is = (b, refl, same_Some (truth b) v is)

-- a condition has the word of its truth
pub truth_word : (es : List Entry) (env : Environment) (e : Expression) (b : Bool) → type_of es e ≡ Ok types.Condition
    → truth_of env e ≡ Some b → word_of env e ≡ Some (truth b)
truth_word es env e b type is =
    ap (λ (n : Option ℤ). word_of_either n (truth_of env e)) (conditions_are_none es env e type).0
    ∙ ap (word_of_either None) is

-- It is a word, and a constant has it.
pub record IsWordOf (es : List Entry) (e : Expression) (v : ℤ) : Type 0 where
  pub fits : FitsSigned w32 v
  pub known : IsValue (exact_value (bound_of es e)) v

number_known : (b : Bound) (n : Option ℤ) (w : Option Bool) (v : ℤ) (P : ℤ → Type 0) → IsSomeAnd n (IsBound b)
    → IfSome n P → word_of_either n w ≡ Some v → P v × IsBound b v
number_known b None w v P has is word = absurd has
number_known b (Some n) w v P has is word =
    let same : n ≡ v = same_Some n v word in (subst P same is, subst (IsBound b) same has)

bound_value : (b : Bound) (v : ℤ) → IsBound b v → IsValue (exact_value (Ok b)) v
bound_value (Exactly c) v is = sym is
bound_value (Within range) v is = tt

no_value : (r : Result Bound ℕ) (v : ℤ) → ((c : ℤ) → r ≡ Ok (Exactly c) → ⊥) → IsValue (exact_value r) v
no_value (Ok (Exactly c)) v none = absurd (none c refl)
no_value (Ok (Within range)) v none = tt
no_value (Err n) v none = tt

byte_fits : (v : ℤ) → InRange bytes v → FitsSigned w32 v
byte_fits v is = let low = is.from_lo in let high = is.to_hi in omega (arith, ints, low, high)

truth_fits : (b : Bool) → FitsSigned w32 (truth b)
truth_fits true = omega (arith, ints)
truth_fits false = omega (arith, ints)

number_word : (es : List Entry) (env : Environment) (e : Expression) (type : ExprType) (v : ℤ) (P : ℤ → Type 0)
    → IsChecked es e type → ((b : Bound) → bound_of es e ≡ Ok b → IsSomeAnd (number_of env e) (IsBound b))
    → IfSome (number_of env e) P → (P v → FitsSigned w32 v) → word_of env e ≡ Some v → IsWordOf es e v
number_word es env e type v P c has typed fits word =
    let b = bound_in es e type c in
    let k = number_known b.0 (number_of env e) (truth_of env e) v P (has b.0 b.1) typed word in
    record {
      fits = fits k.0;
      known = subst (λ (r : Result Bound ℕ). IsValue (exact_value r) v) (sym b.1) (bound_value b.0 v k.1);
    }

-- where names hold what is of their types
pub number_typed : (es : List Entry) (env : Environment) (e : Expression) (type : ExprType) → IsTrueIn es env
    → IsChecked es e type → IfSome (number_of env e) (IsNumberOf type)
number_typed es env e type holds c =
    values_are_typed es env e type (λ name m is. types_stay.finding es env name m holds.meets holds.typed is) c.literals
    c.type_is

pub words_are_known : (es : List Entry) (env : Environment) (e : Expression) (type : ExprType) (v : ℤ)
    → IsTrueIn es env → IsChecked es e type → word_of env e ≡ Some v → IsWordOf es e v
words_are_known es env e types.Int v holds c word =
    number_word es env e types.Int v (FitsSigned w32) c
    (λ b is. bounds_hold es env e types.Int b holds.meets c.type_is is) (number_typed es env e types.Int holds c)
    (λ fits. fits) word
words_are_known es env e types.Byte v holds c word =
    number_word es env e types.Byte v (InRange bytes) c
    (λ b is. bounds_hold es env e types.Byte b holds.meets c.type_is is) (number_typed es env e types.Byte holds c)
    (byte_fits v) word
words_are_known es env e types.Condition v holds c word =
    let none = conditions_are_none es env e c.type_is in
    let b = either_truth (truth_of env e) v
    (subst (λ (n : Option ℤ). word_of_either n (truth_of env e) ≡ Some v) none.0 word) in
    record {
      fits = subst (FitsSigned w32) b.2 (truth_fits b.0);
      known = no_value (bound_of es e) v none.1;
    }

-- ---- words of parts

pub negated_word : (n : Option ℤ) (w : Option Bool) (v : ℤ) → word_of_either (option_and_then negated n) None ≡ Some v
    → (x : ℤ) × (word_of_either n w ≡ Some x) × (prefixed_value prefix.Negate x ≡ Some v)
negated_word None w v is = absurd (cc is)
negated_word (Some x) w v is = (x, refl, either_number (negated x) v is)

pub turned_word : (n : Option ℤ) (w : Option Bool) (v : ℤ) → word_of_either (option_map word_not n) None ≡ Some v
    → (x : ℤ) × (word_of_either n w ≡ Some x) × (prefixed_value prefix.BitNot x ≡ Some v)
turned_word None w v is = absurd (cc is)
turned_word (Some x) w v is = (x, refl, is)

pub denied_word : (w : Option Bool) (v : ℤ) → word_of_either None (option_map not w) ≡ Some v
    → (b : Bool) × (w ≡ Some b) × (prefixed_value prefix.Not (truth b) ≡ Some v)
denied_word None v is = absurd (cc is)
denied_word (Some b) v is = (b, refl, ap Some (not_truth b) ∙ is)

pub compared_word : (op : Comparison) (n m : Option ℤ) (v : ℤ)
    → word_of_either None (both_some n m (λ x y. Some (compares op x y))) ≡ Some v
    → (x : ℤ) × (y : ℤ) × (n ≡ Some x) × (m ≡ Some y) × (truth (compares op x y) ≡ v)
compared_word op None m v is = absurd (cc is)
compared_word op (Some x) None v is = absurd (cc is)
compared_word op (Some x) (Some y) v is = (x, y, refl, refl, same_Some (truth (compares op x y)) v is)

converted_by : (t : Bool) (x v : ℤ) → cond t (Some x) None ≡ Some v → Some x ≡ Some v
converted_by true x v is = is
converted_by false x v is = absurd (cc is)

pub converted_word : (to : ValueType) (n : Option ℤ) (w : Option Bool) (v : ℤ)
    → word_of_either (option_and_then (converted to) n) None ≡ Some v → word_of_either n w ≡ Some v
converted_word to None w v is = absurd (cc is)
converted_word to (Some x) w v is =
    converted_by (in_range (type_range to) x) x v (either_number (converted to x) v is)

-- ---- words of chains

both_words : (o p : Option ℤ) (f : ℤ → ℤ → Option ℤ) (x y v : ℤ) → o ≡ Some x → p ≡ Some y → f x y ≡ Some v
    → both_some o p f ≡ Some v
both_words o p f x y v first second gives = (λ i. both_some (first i) (second i) f) ∙ gives

chain_number : (env : Environment) (op : ArithmeticChain) (ts : Terms) (v : ℤ) → number_of_terms env op ts ≡ Some v
    → word_of_terms env (chain.Arithmetic op) ts ≡ Some v
chain_number env op (Two a b) v is =
    let p = both_are (number_of_term env a) (number_of_term env b) (chain_value op) v is in
    both_words (word_of_term env a) (word_of_term env b) (joined_value (chain.Arithmetic op)) p.0 p.1 v
    (some_word (number_of_term env a) (truth_of_term env a) p.0 p.2)
    (some_word (number_of_term env b) (truth_of_term env b) p.1 p.3) p.4
chain_number env op (Then ts b) v is =
    let p = both_are (number_of_terms env op ts) (number_of_term env b) (chain_value op) v is in
    both_words (word_of_terms env (chain.Arithmetic op) ts) (word_of_term env b)
    (joined_value (chain.Arithmetic op)) p.0 p.1 v (chain_number env op ts p.0 p.2)
    (some_word (number_of_term env b) (truth_of_term env b) p.1 p.3) p.4

conditions_only : (op : Logic) (s u type : ExprType) → chain_type (chain.Logic op) s u ≡ Ok type
    → (s ≡ types.Condition) × (u ≡ types.Condition)
conditions_only op types.Condition types.Condition type is = (refl, refl)
conditions_only op s u type is = absurd (cc is)

chain_truth : (es : List Entry) (env : Environment) (op : Logic) (ts : Terms) (type : ExprType) (b : Bool)
    → IsChecked es (Chained (chain.Logic op) ts) type → truth_of_terms env op ts ≡ Some b
    → word_of_terms env (chain.Logic op) ts ≡ Some (truth b)
chain_truth es env op (Two x y) type b c is =
    let p = both_are (truth_of_term env x) (truth_of_term env y) (logic_value op) b is in
    let parts = two_parts es (chain.Logic op) x y type c in
    let only = conditions_only op parts.0 parts.1 type parts.4 in
    both_words (word_of_term env x) (word_of_term env y) (joined_value (chain.Logic op)) (truth p.0) (truth p.1)
    (truth b) (truth_word es env (Alone x) p.0 (parts.2.type_is ∙ ap Ok only.0) p.2)
    (truth_word es env (Alone y) p.1 (parts.3.type_is ∙ ap Ok only.1) p.3)
    (truths_are_joined op p.0 p.1 b p.4)
chain_truth es env op (Then ts y) type b c is =
    let p = both_are (truth_of_terms env op ts) (truth_of_term env y) (logic_value op) b is in
    let parts = then_parts es (chain.Logic op) ts y type c in
    let only = conditions_only op parts.0 parts.1 type parts.4 in
    both_words (word_of_terms env (chain.Logic op) ts) (word_of_term env y) (joined_value (chain.Logic op))
    (truth p.0) (truth p.1) (truth b) (chain_truth es env op ts parts.0 p.0 parts.2 p.2)
    (truth_word es env (Alone y) p.1 (parts.3.type_is ∙ ap Ok only.1) p.3)
    (truths_are_joined op p.0 p.1 b p.4)

pub chain_word : (es : List Entry) (env : Environment) (op : ChainOperator) (ts : Terms) (type : ExprType) (v : ℤ)
    → IsChecked es (Chained op ts) type → word_of env (Chained op ts) ≡ Some v → word_of_terms env op ts ≡ Some v
chain_word es env (chain.Arithmetic op) ts type v c is =
    chain_number env op ts v (either_number (number_of_terms env op ts) v is)
chain_word es env (chain.Logic op) ts type v c is =
    let b = either_truth (truth_of_terms env op ts) v is in
    chain_truth es env op ts type b.0 c b.1 ∙ ap Some b.2

-- ---- constants

-- a constant has its value in each environment that meets the scope
exact_by : (b : Bound) (n : Option ℤ) (v : ℤ) → IsSomeAnd n (IsBound b) → exact_value (Ok b) ≡ Some v → n ≡ Some v
exact_by b None v has is = absurd has
exact_by (Exactly c) (Some u) v has is = ap Some has ∙ is
exact_by (Within range) (Some u) v has is = absurd (cc is)

exact_number : (es : List Entry) (env : Environment) (e : Expression) (type : ExprType) (v : ℤ) → IsTrueIn es env
    → IsChecked es e type → exact_value (bound_of es e) ≡ Some v → number_of env e ≡ Some v
exact_number es env e types.Int v holds c is =
    let b = bound_in es e types.Int c in
    exact_by b.0 (number_of env e) v (bounds_hold es env e types.Int b.0 holds.meets c.type_is b.1)
    (ap exact_value (sym b.1) ∙ is)
exact_number es env e types.Byte v holds c is =
    let b = bound_in es e types.Byte c in
    exact_by b.0 (number_of env e) v (bounds_hold es env e types.Byte b.0 holds.meets c.type_is b.1)
    (ap exact_value (sym b.1) ∙ is)
exact_number es env e types.Condition v holds c is =
    absurd (none_exact (bound_of es e) (conditions_are_none es env e c.type_is).1 is)
  where
    none_exact : (r : Result Bound ℕ) → ((c : ℤ) → r ≡ Ok (Exactly c) → ⊥) → exact_value r ≡ Some v → ⊥
    none_exact (Ok (Exactly c)) none is = none c refl
    none_exact (Ok (Within range)) none is = absurd (cc is)
    none_exact (Err n) none is = absurd (cc is)

-- so has a constant chain
pub exact_chain : (es : List Entry) (env : Environment) (op : ChainOperator) (ts : Terms) (type : ExprType) (v : ℤ)
    → IsTrueIn es env → IsChecked es (Chained op ts) type → exact_value (bound_of_terms es op ts) ≡ Some v
    → word_of_terms env op ts ≡ Some v
exact_chain es env op ts type v holds c is =
    chain_word es env op ts type v c (some_word (number_of env (Chained op ts)) (truth_of env (Chained op ts)) v
    (exact_number es env (Chained op ts) type v holds c is))
