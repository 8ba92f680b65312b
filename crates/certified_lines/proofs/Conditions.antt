-- What the code of conditions shows of words: a comparison of a scalar with a constant of its word, and one to which 0 is
-- added of none.
use Rattle.std.proofs.Common.{◌≡◌, ℕ, ℤ, pos, Bool, true, false, cond, List, [], ◌∷◌, ◌++◌, Option, Some, None}
use Rattle.std.proofs.Common.{Result, Ok, Err, refl, sym, ap, subst, ◌∙◌, arith, FitsSigned}
use Rattle.std.specs.Prelude.{◌+ℤ◌, option_map}
use Rattle.std.specs.Int.{w32}
use Rattle.std.proofs.lemmas.Int.{ints}
use Rattle.std.proofs.lemmas.Bool.{and_from, and_parts}
use Rattle.word_arithmetic.specs.Range as ranges
use Rattle.word_arithmetic.specs.Range.{Ends, IsRange, truths, narrowed, fitting, is_within}
use Rattle.word_arithmetic.specs.Range.{left_by_test}
use Rattle.word_arithmetic.specs.Word.{is_word, greatest_word, least_word}
use Rattle.word_arithmetic.specs.Binary.{result_range}
use Rattle.word_arithmetic.specs.declared.binary.Binary.TheVariants as binary
use Rattle.word_arithmetic.specs.declared.compare.Comparison.{Comparison}
use Rattle.word_arithmetic.proofs.WordLaws.{is_word_in}
use Rattle.occam_parser.specs.declared.tree.ValueType.{ValueType}
use Rattle.occam_parser.specs.declared.tree.PairOperator.TheVariants as pair
use Rattle.occam_parser.specs.Expressions.{Expression, Alone, Prefixed, Paired, Chained, Term}
use Rattle.occam_parser.specs.Expressions.{Number, Byte, Truth, MostPos, MostNeg, Named, Element, Bracketed, Converted}
use Rattle.occam_parser.specs.Words.{has_words_in}
use Rattle.states.specs.State.{Facts, known}
use Rattle.local_rules.specs.WordRules.{number_in, narrowed_words, same}
use Rattle.scalar_ranges.specs.declared.scope.ScalarKind.{ScalarKind}
use Rattle.scalar_ranges.specs.declared.scope.ScalarKind.TheVariants as kinds
use Rattle.scalar_ranges.specs.declared.types.ExprType.{ExprType}
use Rattle.scalar_ranges.specs.declared.bounds.TheConstants.{OUT_OF_RANGE, OUTSIDE}
use Rattle.scalar_ranges.specs.Bounds.{Bound, Exactly, Within, ends, pair_bound, named_bound, element_bound}
use Rattle.scalar_ranges.specs.Bounds.{converted_bound, is_subscript, bound_of, bound_of_term, exact_value}
use Rattle.scalar_ranges.specs.Entries.{Meaning, Constant, Scalar, Array, Channel, Channels, Procedure, Entry}
use Rattle.scalar_ranges.specs.Entries.{meaning_in, type_range}
use Rattle.scalar_ranges.specs.Narrowing.{Tested, tested, first_of, turned, as_holds, is_narrowed, constant_in}
use Rattle.scalar_ranges.specs.Narrowing.{are_alike}
use Rattle.scalar_ranges.specs.Types.{type_of_term, named_type, pair_type}
use Rattle.scalar_ranges.proofs.Parts.{both_ok, then_ok, passed_ok, ok_same}
use Rattle.code_pieces.specs.Pieces.{Piece, loads, constant, word_after}
use Rattle.line_pieces.specs.Homes.{Home, Word, home_of}
use Rattle.line_pieces.specs.Expressions.{Operand, beside, constant_or, expression_code, term_code, is_leaf_term}
use Rattle.line_pieces.specs.Expressions.{is_small_term, is_byte_reference, is_pushed, scalar_code, pushed, pushes_of}
use Rattle.line_pieces.specs.Expressions.{pair_code, prefix_code, terms_code}
use Rattle.scalar_ranges.specs.Fronts.{front_in}
use Rattle.certified_lines.specs.StraightRules.{Told}
use Rattle.certified_lines.specs.Instructions.{IsCounted, with_a}
use Rattle.certified_lines.specs.Scopes.{Scene, IsNumber, AreKnownThere, HoldsScope, IsHousedThere, IsScope}
use Rattle.certified_lines.specs.TestLaws.{OneWordIs, where_it, Tests, ComparisonsTest}
use Rattle.certified_lines.specs.TestLaws.{SourcesAreForgotten}
use Rattle.certified_lines.proofs.StraightRules.{fall_both}
use Rattle.certified_lines.proofs.Numbers.{sums_lie_in_ranges}
use Rattle.certified_lines.proofs.Telling.{name_has, few_counted}
use Rattle.certified_lines.proofs.Testing.{tests, ShowsIt, on_left, on_right, narrows_by}
use Rattle.certified_lines.proofs.Testing.{scalar_operand}
use Rattle.certified_lines.proofs.Testing.{constant_operand}
use Rattle.certified_lines.proofs.Expressions.{exact_fits}
use Rattle.certified_lines.proofs.Induction.{expressions_tell}

-- ---- sources that are forgotten

same_sum : (r : Ends) → IsRange r → result_range binary.Add r (ranges.constant (pos 0)) ≡ Some r
unfolding result_range
same_sum r is =
    let lo : r.lo +ℤ pos 0 ≡ r.lo = omega (arith, ints) in
    let hi : r.hi +ℤ pos 0 ≡ r.hi = omega (arith, ints) in
    (λ i. fitting (record { lo = lo i; hi = hi i }))
    ∙ ap (λ (b : Bool). cond b (Some r) None)
    (and_from (is_word r.lo) (is_word r.hi) (is_word_in r.lo is.lo_fits) (is_word_in r.hi is.hi_fits))

pub sources_are_forgotten : SourcesAreForgotten
sources_are_forgotten g top t es e type b before scope low few words typed is all holds =
    let told = expressions_tell g top es e type b scope words typed is in
    let p = told.tells t low few all before holds in (
      told.range,
      told.ranged,
      record {
        after = with_a (known (number_in told.range)) p.after;
        falls = fall_both p.falls (sums_lie_in_ranges g.setting (pos 0) told.range told.range p.after
            (record { is = p.a; range = told.ranged }) (omega (arith, ints)) (same_sum told.range told.ranged));
        fact = refl;
        source = refl;
        stay = p.stay;
      },
    )

-- ---- the code of a constant

exact_same : (u v : ℤ) → ◌≡◌ {A = Result Bound ℕ} (Ok (Exactly u)) (Ok (Exactly v)) → u ≡ v
exact_same u v is = cc

not_within : {A : Type 0} (r : Ends) (v : ℤ) → ◌≡◌ {A = Result Bound ℕ} (Ok (Within r)) (Ok (Exactly v)) → A
not_within r v is = absurd (cc is)

element_not_exact : (m : Option Meaning) (b : Bound) (v : ℤ) → element_bound m b ≡ Ok (Exactly v) → ⊥
element_not_exact None b v is = absurd (cc is)
element_not_exact (Some (Array kind type None range)) b v is = absurd (cc is)
element_not_exact (Some (Array kind type (Some size) range)) b v is =
    absurd (cc (passed_ok (is_subscript size (ends b)) OUTSIDE (Within range) (Exactly v) is).1)
element_not_exact (Some (Constant type value)) b v is = absurd (cc is)
element_not_exact (Some (Scalar kind type range)) b v is = absurd (cc is)
element_not_exact (Some (Channel type)) b v is = absurd (cc is)
element_not_exact (Some (Channels type size)) b v is = absurd (cc is)
element_not_exact (Some (Procedure number)) b v is = absurd (cc is)

module _ (hs : List Home) (es : List Entry) (t : ℕ) where
  mutual
    expression_constant : (e : Expression) (v : ℤ) → bound_of es e ≡ Ok (Exactly v)
        → expression_code hs es t e ≡ constant v ∷ []
    expression_constant (Alone x) v is =
        ap (λ (o : Option ℤ). constant_or o (term_code hs es t x)) (ap exact_value is)
    expression_constant (Prefixed op x) v is =
        ap (λ (o : Option ℤ). constant_or o (term_code hs es t x ++ prefix_code op)) (ap exact_value is)
    expression_constant (Paired op x y) v is =
        ap (λ (o : Option ℤ). constant_or o
        (pushed (pushes_of op (exact_value (bound_of_term es x)) (exact_value (bound_of_term es y))) t
        (beside es x (term_code hs es t x) (term_code hs es (word_after t 1) x))
        (beside es y (term_code hs es t y) (term_code hs es (word_after t 1) y))
        ++ pair_code op (exact_value (bound_of_term es x)) (exact_value (bound_of_term es y)))) (ap exact_value is)
    expression_constant (Chained op ts) v is =
        ap (λ (o : Option ℤ). constant_or o (terms_code hs es t op (front_in es op ts) ts)) (ap exact_value is)

    pub term_constant : (x : Term) (v : ℤ) → bound_of_term es x ≡ Ok (Exactly v) → term_code hs es t x ≡ constant v ∷ []
    term_constant (Number value) v is = ap (λ (u : ℤ). constant u ∷ []) (exact_same value v is)
    term_constant (Byte byte) v is = ap (λ (u : ℤ). constant u ∷ []) (exact_same (pos byte) v is)
    term_constant (Truth holds) v is = not_within truths v is
    term_constant MostPos v is = ap (λ (u : ℤ). constant u ∷ []) (exact_same greatest_word v is)
    term_constant MostNeg v is = ap (λ (u : ℤ). constant u ∷ []) (exact_same least_word v is)
    term_constant (Named name) v is =
        ap (λ (o : Option ℤ). constant_or o (scalar_code (is_byte_reference (meaning_in name es)) (home_of hs es name)))
        (ap exact_value is)
    term_constant (Element name e) v is =
        let b = then_ok (bound_of es e) (element_bound (meaning_in name es)) (Exactly v) is in
        absurd (element_not_exact (meaning_in name es) b.0 v b.2)
    term_constant (Bracketed e) v is = expression_constant e v is
    term_constant (Converted to x) v is =
        let b = then_ok (bound_of_term es x) (converted_bound to) (Exactly v) is in
        let same = (passed_ok (is_within (ends b.0) (type_range to)) OUT_OF_RANGE b.0 (Exactly v) b.2).1 in
        term_constant x v (b.1 ∙ ap (λ (c : Bound). Ok c) same)

pub exact_bound : (r : Result Bound ℕ) (v : ℤ) → exact_value r ≡ Some v → r ≡ Ok (Exactly v)
exact_bound (Ok (Exactly u)) v is = let same : u ≡ v = cc in ap (λ (w : ℤ). Ok (Exactly w)) same
exact_bound (Ok (Within r)) v is = absurd (cc is)
exact_bound (Err n) v is = absurd (cc is)

-- ---- what a condition tests

-- a scalar is compared with a constant
pub record IsTested (es : List Entry) (c : Comparison) (x y : Term) (test : Tested) : Type 0 where
  pub scalar : x ≡ Named test.name
  pub comparison : test.comparison ≡ c
  pub constant : exact_value (bound_of_term es y) ≡ Some test.constant
  pub narrows : is_narrowed (meaning_in test.name es) ≡ true

tested_is : (es : List Entry) (c : Comparison) (x y : Term) (test : Tested) → tested es c x y ≡ Some test
    → IsTested es c x y test
tested_is es c (Named name) y test is = by_narrowed (is_narrowed (meaning_in name es)) refl is
  where
    by_value : (o : Option ℤ) → constant_in es (named_type (meaning_in name es)) y ≡ o
        → is_narrowed (meaning_in name es) ≡ true
        → option_map (λ v. record { name = name; comparison = c; constant = v }) o ≡ Some test
        → IsTested es c (Named name) y test
    by_value None value narrows is = absurd (cc is)
    by_value (Some v) value narrows is =
        let same : record { name = name; comparison = c; constant = v } ≡ test = cc in
        record {
          scalar = ap (λ (t : Tested). Named t.name) same;
          comparison = sym (ap (λ (t : Tested). t.comparison) same);
          constant = by_alike (are_alike (named_type (meaning_in name es)) (type_of_term es y)) v value
              ∙ ap (λ (t : Tested). Some t.constant) same;
          narrows = subst (λ (n : List ℕ). is_narrowed (meaning_in n es) ≡ true) (ap (λ (t : Tested). t.name) same)
              narrows;
        }
      where
        by_alike : (b : Bool) (v : ℤ) → cond b (exact_value (bound_of_term es y)) None ≡ Some v
            → exact_value (bound_of_term es y) ≡ Some v
        by_alike true v is = is
        by_alike false v is = absurd (cc is)

    by_narrowed : (b : Bool) → is_narrowed (meaning_in name es) ≡ b
        → cond b (option_map (λ v. record { name = name; comparison = c; constant = v })
        (constant_in es (named_type (meaning_in name es)) y)) None ≡ Some test → IsTested es c (Named name) y test
    by_narrowed true narrows is = by_value (constant_in es (named_type (meaning_in name es)) y) refl narrows is
    by_narrowed false narrows is = absurd (cc is)
tested_is es c (Number value) y test is = absurd (cc is)
tested_is es c (Byte byte) y test is = absurd (cc is)
tested_is es c (Truth holds) y test is = absurd (cc is)
tested_is es c MostPos y test is = absurd (cc is)
tested_is es c MostNeg y test is = absurd (cc is)
tested_is es c (Element name e) y test is = absurd (cc is)
tested_is es c (Bracketed e) y test is = absurd (cc is)
tested_is es c (Converted to x) y test is = absurd (cc is)

-- which operand is the scalar
pub data Sides (es : List Entry) (c : Comparison) (x y : Term) (test : Tested) : Type 0 where
  left : IsTested es c x y test → Sides es c x y test
  right : IsTested es (turned c) y x test → Sides es c x y test

pub sides_of : (es : List Entry) (c : Comparison) (x y : Term) (test : Tested)
    → first_of (tested es c x y) (tested es (turned c) y x) ≡ Some test → Sides es c x y test
sides_of es c x y test is = by_first (tested es c x y) refl is
  where
    by_first : (o : Option Tested) → tested es c x y ≡ o → first_of o (tested es (turned c) y x) ≡ Some test
        → Sides es c x y test
    by_first None there is = right (tested_is es (turned c) y x test is)
    by_first (Some u) there is = left (tested_is es c x y test (there ∙ is))

-- ---- operands

scalar_here : (b : Bool) (w : ℕ) → scalar_code b (Some (Word w)) ≡ loads w ∷ []
scalar_here true w = refl
scalar_here false w = refl

narrowed_leaf : (kind : ScalarKind) (of : ValueType) (range : Ends) → is_narrowed (Some (Scalar kind of range)) ≡ true
    → is_pushed (Some (Scalar kind of range)) ≡ true
narrowed_leaf kinds.Variable of range is = refl
narrowed_leaf kinds.Value of range is = refl
narrowed_leaf kinds.Reference of range is = absurd (cc is)
narrowed_leaf kinds.Index of range is = absurd (cc is)

-- a constant that is an operand is a word
constant_fits : (g : Scene) (top : ℕ) (es : List Entry) (y : Term) (type : ExprType) (v : ℤ) → IsScope g top es
    → has_words_in y ≡ true → type_of_term es y ≡ Ok type → exact_value (bound_of_term es y) ≡ Some v → FitsSigned w32 v
constant_fits g top es y type v scope words typed is =
    let there = exact_bound (bound_of_term es y) v is in
    let told = expressions_tell g top es (Alone y) type (Exactly v) scope words typed there in
    exact_fits g top es type (Exactly v) told.range told.is told.ranged v refl

module _ (g : Scene) (top t w : ℕ) (es : List Entry) (c : Comparison) (x y : Term) (b : Bound) (test : Tested)
    (kind : ScalarKind) (of : ValueType) (range : Ends) (before : Told) (scope : IsScope g top es)
    (means : meaning_in test.name es ≡ Some (Scalar kind of range)) (at : home_of g.homes es test.name ≡ Some (Word w))
    (holds : HoldsScope g es before.frame) where
  abbrev operand : Term → Operand
  operand z = beside es z (term_code g.homes es t z) (term_code g.homes es (word_after t 1) z)

  word_code : (u : ℕ) → term_code g.homes es u (Named test.name) ≡ loads w ∷ []
  word_code u =
      (λ i. constant_or (exact_value (named_bound (means i))) (scalar_code (is_byte_reference (means i)) (at i)))
      ∙ scalar_here (is_byte_reference (Some (Scalar kind of range))) w

  scalar_is : (z : Term) → z ≡ Named test.name → is_narrowed (meaning_in test.name es) ≡ true
      → operand z ≡ scalar_operand w
  scalar_is z same narrows =
      let leaf : is_pushed (meaning_in test.name es) ≡ true = ap is_pushed means
      ∙ narrowed_leaf kind of range (ap is_narrowed (sym means) ∙ narrows) in
      ap operand same ∙ (λ i. record {
        first = word_code t i;
        second = word_code (word_after t 1) i;
        leaf = leaf i;
        small = true;
      })

  scalar_inexact : (z : Term) → z ≡ Named test.name → exact_value (bound_of_term es z) ≡ None
  scalar_inexact z same =
      ap (λ (u : Term). exact_value (bound_of_term es u)) same
      ∙ ap (λ (m : Option Meaning). exact_value (named_bound m)) means

  constant_operand_is : (z : Term) (v : ℤ) → exact_value (bound_of_term es z) ≡ Some v
      → operand z ≡ constant_operand v (is_leaf_term es z) (is_small_term es z)
  constant_operand_is z v is =
      let there = exact_bound (bound_of_term es z) v is in
      λ i. record {
        first = term_constant g.homes es t z v there i;
        second = term_constant g.homes es (word_after t 1) z v there i;
        leaf = is_leaf_term es z;
        small = is_small_term es z;
      }

  house : IsHousedThere g top (Some (Word w)) (Scalar kind of range)
  house =
      subst (λ (o : Option Home). IsHousedThere g top o (Scalar kind of range)) at
      (name_has (IsHousedThere g top) g.homes es test.name (Scalar kind of range) scope.housed means)

  counts : IsCounted w
  counts = let less = house.1 in let few = scope.few in few_counted w (omega (arith, less, few))

  number : IsNumber before.frame w range
  number =
      subst (λ (o : Option Home). AreKnownThere g before.frame o (Scalar kind of range)) at
      (name_has (AreKnownThere g before.frame) g.homes es test.name (Scalar kind of range) holds means)

  abbrev ItShows : Comparison → List Piece → Type 0
  ItShows d ps = ShowsIt g.setting w range counts house.2 house.0 before number d test.constant ps

  tests_by : (d : Comparison) (ps : List Piece) → test.comparison ≡ d → ItShows d ps
      → Tests g.setting ps w range test before
  tests_by d ps compares shows =
      let k = shows.shown.after in
      record {
        after = k;
        falls = shows.shown.falls;
        fact = shows.shown.fact;
        frame = shows.shown.frame;
        narrows = λ it.
            subst (λ (q : Ends). OneWordIs w q before.frame (where_it it k))
            (sym (shows.tells it) ∙ ap (λ (e : Comparison). narrowed (as_holds it e) test.constant range)
            (sym compares))
            (subst (λ (f : Facts). OneWordIs w (left_by_test (same shows.test.0 it, shows.test.1) range) before.frame f)
            (λ i. narrowed_words (sym shows.shown.source i) it (sym shows.shown.frame i))
            (narrows_by w range before.frame shows.test.0 shows.test.1 house.0 number shows.between it));
      }

  module _ (u s type : ExprType) (words : (has_words_in x ≡ true) × (has_words_in y ≡ true))
      (x_typed : type_of_term es x ≡ Ok u) (y_typed : type_of_term es y ≡ Ok s)
      (truths_are : exact_value (bound_of es (Paired (pair.Comparison c) x y)) ≡ None) where
    on_side : Sides es c x y test
        → Tests g.setting (expression_code g.homes es t (Paired (pair.Comparison c) x y)) w range test before
    on_side (left is) =
        let v = test.constant in
        subst (λ (ps : List Piece). Tests g.setting ps w range test before)
        (λ i. constant_or (sym truths_are i)
        (pushed (pushes_of (pair.Comparison c) (sym (scalar_inexact x is.scalar) i) (sym is.constant i)) t
        (sym (scalar_is x is.scalar is.narrows) i) (sym (constant_operand_is y v is.constant) i)
        ++ pair_code (pair.Comparison c) (sym (scalar_inexact x is.scalar) i) (sym is.constant i)))
        (tests_by c (pushed (pushes_of (pair.Comparison c) None (Some v)) t (scalar_operand w)
        (constant_operand v (is_leaf_term es y) (is_small_term es y)) ++ pair_code (pair.Comparison c) None (Some v))
        is.comparison
        (on_left g.setting w range counts house.2 house.0 before number t v
        (constant_fits g top es y s v scope words.1 y_typed is.constant) (is_leaf_term es y) (is_small_term es y) c))
    on_side (right is) =
        let v = test.constant in
        subst (λ (ps : List Piece). Tests g.setting ps w range test before)
        (λ i. constant_or (sym truths_are i)
        (pushed (pushes_of (pair.Comparison c) (sym is.constant i) (sym (scalar_inexact y is.scalar) i)) t
        (sym (constant_operand_is x v is.constant) i) (sym (scalar_is y is.scalar is.narrows) i)
        ++ pair_code (pair.Comparison c) (sym is.constant i) (sym (scalar_inexact y is.scalar) i)))
        (tests_by (turned c) (pushed (pushes_of (pair.Comparison c) (Some v) None) t
        (constant_operand v (is_leaf_term es x) (is_small_term es x)) (scalar_operand w)
        ++ pair_code (pair.Comparison c) (Some v) None) is.comparison
        (on_right g.setting w range counts house.2 house.0 before number t v
        (constant_fits g top es x u v scope words.0 x_typed is.constant) (is_leaf_term es x) (is_small_term es x) c))

pub comparisons_test : ComparisonsTest
comparisons_test g top t w es (Alone x) type b test kind of range before scope words typed is tests means at holds =
    absurd (cc tests)
comparisons_test g top t w es (Prefixed op x) type b test kind of range before scope words typed is tests means at
    holds =
    absurd (cc tests)
comparisons_test g top t w es (Chained op ts) type b test kind of range before scope words typed is tests means at
    holds =
    absurd (cc tests)
comparisons_test g top t w es (Paired (pair.Arithmetic op) x y) type b test kind of range before scope words typed is
    tests means at holds =
    absurd (cc tests)
comparisons_test g top t w es (Paired (pair.Comparison c) x y) type b test kind of range before scope words typed is
    tests means at holds =
    let h = both_ok (type_of_term es x) (type_of_term es y) (pair_type (pair.Comparison c)) type typed in
    let d = both_ok (bound_of_term es x) (bound_of_term es y) (pair_bound (pair.Comparison c)) b is in
    let none : exact_value (bound_of es (Paired (pair.Comparison c) x y)) ≡ None = ap exact_value is
    ∙ ap (λ (e : Bound). exact_value (Ok e)) (sym (ok_same (Within truths) b d.4)) in
    on_side g top t w es c x y b test kind of range before scope means at holds h.0 h.1 type
    (and_parts (has_words_in x) (has_words_in y) words) h.2 h.3 none (sides_of es c x y test tests)
