-- What comparisons of a scalar with a constant show of its word.
use Rattle.std.proofs.Common.{◌≡◌, ℕ, ℤ, pos, Bool, true, false, cond, List, [], ◌∷◌, ◌++◌}
use Rattle.std.proofs.Common.{inl, inr, Option, Some, None, refl, sym, ap, subst, ◌∙◌, arith, FitsSigned}
use Rattle.std.proofs.Common.{append_assoc}
use Rattle.std.specs.Prelude.{◌+ℤ◌, ◌-ℤ◌}
use Rattle.std.specs.Int.{w32}
use Rattle.std.proofs.lemmas.Int.{ints}
use Rattle.std.proofs.lemmas.Bool.Decides.{Decides-int_eq}
use Rattle.word_arithmetic.specs.Word.{is_word, least_word, greatest_word}
use Rattle.word_arithmetic.specs.Range as ranges
use Rattle.word_arithmetic.specs.Range.{Ends, IsRange, truths, range_between, only_number, narrowed, as_test, left_by}
use Rattle.word_arithmetic.specs.Range.{left_by_test, words_above, words_below, at_least, at_most}
use Rattle.word_arithmetic.specs.declared.compare.Comparison.{Comparison}
use Rattle.word_arithmetic.specs.declared.compare.Comparison.TheVariants as comparison
use Rattle.word_arithmetic.specs.declared.binary.Binary.TheVariants as binary
use Rattle.word_arithmetic.proofs.EndsLaws.{words_in_order_are_ranges}
use Rattle.word_arithmetic.proofs.TestLaws.{comparisons_are_tests}
use Rattle.prefix_decoder.specs.declared.function.Fun.TheVariants as fun
use Rattle.occam_parser.specs.declared.tree.PairOperator.TheVariants as pair
use Rattle.module_format.specs.declared.fact.Fact.TheVariants.{Number}
use Rattle.states.specs.declared.known.Known.{Known}
use Rattle.states.specs.declared.known.Source.{Source}
use Rattle.states.specs.declared.known.Source.TheVariants.{Nowhere, From, Test}
use Rattle.states.specs.declared.known.WordFact.TheVariants.{Alone}
use Rattle.states.specs.Frames.{with_alone}
use Rattle.states.specs.State.{Facts}
use Rattle.rulings.proofs.Words.{word_test}
use Rattle.local_rules.specs.WordRules.{number_in, own_range, constant_in, narrowed_words, same, test_of}
use Rattle.local_rules.specs.WordRules.{known_constant, word_as_known, greater_source, equal_source, result_source}
use Rattle.scalar_ranges.specs.Narrowing.{as_holds, turned}
use Rattle.code_pieces.specs.declared.operations.TheConstants.{GREATER, REVERSE}
use Rattle.code_pieces.specs.Pieces.{Piece, Direct, operates, loads, constant}
use Rattle.line_pieces.specs.Expressions.{Operand, both, comes_last, pushed, pushes_of, pair_code, negates}
use Rattle.line_pieces.specs.Expressions.{next_above, next_below, on_constant, below_constant, negated_unless}
use Rattle.placed_code.proofs.OperandsName.{operands_name}
use Rattle.certified_lines.specs.StraightRules.{Setting, Told, FallOn, with_pushed}
use Rattle.certified_lines.specs.Instructions.{IsCounted, MayRead, with_result}
use Rattle.certified_lines.specs.Numbers.{IsNumberIn}
use Rattle.certified_lines.specs.Scopes.{IsNumber}
use Rattle.certified_lines.specs.TestLaws.{OneWordIs}
use Rattle.certified_lines.proofs.StraightRules.{fall_both}
use Rattle.certified_lines.proofs.Instructions.{constants_are_known, loaded_words_are_known, registers_are_reversed}
use Rattle.certified_lines.proofs.Numbers.{results_lie_in_ranges, greater_words_are_told}
use Rattle.certified_lines.proofs.Numbers.{range_told}
use Rattle.certified_lines.proofs.Numbers.{lesser_words_are_told, equal_words_are_told, opposites_are_told}
use Rattle.certified_lines.proofs.Numbers.{nothing_is_told_from_nowhere}
use Rattle.certified_lines.proofs.Ranges.{constant_ranged, checked_by}
use Rattle.certified_lines.proofs.Comparing.{greater_range, truths_ranged, zero_fits, above_fits, below_fits}
use Rattle.certified_lines.proofs.Comparing.{compared_told, compared_falls}
use Rattle.certified_lines.proofs.Operands.{same_word}

-- ---- tests of a word

-- where a truth comes from that is a test of a word; nowhere, if no word lies in the range
abbrev pub tests : ℤ → Bool × Option Ends → Source
tests word (inside, None) = Nowhere
tests word (inside, Some r) = Test word r.lo r.hi inside

-- the test that holds where another one does, or where it does not
abbrev flipped : Bool → Bool × Option Ends → Bool × Option Ends
flipped holds test = (same test.0 holds, test.1)

-- a test leaves what a comparison leaves
abbrev pub IsTestOf : Comparison → ℤ → Ends → Bool × Option Ends → Type 0
IsTestOf c v r test = (holds : Bool) → narrowed (as_holds holds c) v r ≡ left_by_test (flipped holds test) r

pub by_as_test : (c : Comparison) (v : ℤ) (r : Ends) → FitsSigned w32 v → IsRange r → IsTestOf c v r (as_test c v)
by_as_test comparison.Equal v r fits ranged true = comparisons_are_tests comparison.Equal v r fits ranged
by_as_test comparison.Equal v r fits ranged false = comparisons_are_tests comparison.NotEqual v r fits ranged
by_as_test comparison.NotEqual v r fits ranged true = comparisons_are_tests comparison.NotEqual v r fits ranged
by_as_test comparison.NotEqual v r fits ranged false = comparisons_are_tests comparison.Equal v r fits ranged
by_as_test comparison.Less v r fits ranged true = comparisons_are_tests comparison.Less v r fits ranged
by_as_test comparison.Less v r fits ranged false = comparisons_are_tests comparison.GreaterOrEqual v r fits ranged
by_as_test comparison.LessOrEqual v r fits ranged true = comparisons_are_tests comparison.LessOrEqual v r fits ranged
by_as_test comparison.LessOrEqual v r fits ranged false = comparisons_are_tests comparison.Greater v r fits ranged
by_as_test comparison.Greater v r fits ranged true = comparisons_are_tests comparison.Greater v r fits ranged
by_as_test comparison.Greater v r fits ranged false = comparisons_are_tests comparison.LessOrEqual v r fits ranged
by_as_test comparison.GreaterOrEqual v r fits ranged true =
    comparisons_are_tests comparison.GreaterOrEqual v r fits ranged
by_as_test comparison.GreaterOrEqual v r fits ranged false = comparisons_are_tests comparison.Less v r fits ranged

-- the words below the next constant, and those above the one before
below_next : (v d : ℤ) → FitsSigned w32 v → next_above (Some v) ≡ Some d → words_below d ≡ Some (at_most v)
below_next v d fits next =
    let is = (checked_by (is_word (v +ℤ pos 1)) (v +ℤ pos 1) d next).1 in
    let back : d -ℤ pos 1 ≡ v = omega (arith, ints, is) in
    ap (range_between least_word) back
    ∙ (words_in_order_are_ranges least_word v (at_most v)).1
    (record { lo_fits = omega (arith, ints); hi_fits = fits; ordered = omega (arith, ints, fits) }, refl, refl)

above_next : (v d : ℤ) → FitsSigned w32 v → next_below (Some v) ≡ Some d → words_above d ≡ Some (at_least v)
above_next v d fits next =
    let is = (checked_by (is_word (v -ℤ pos 1)) (v -ℤ pos 1) d next).1 in
    let back : d +ℤ pos 1 ≡ v = omega (arith, ints, is) in
    ap (λ (lo : ℤ). range_between lo greatest_word) back
    ∙ (words_in_order_are_ranges v greatest_word (at_least v)).1
    (record { lo_fits = fits; hi_fits = omega (arith, ints); ordered = omega (arith, ints, fits) }, refl, refl)

-- words that are these leave what these leave
by_words : (c : Comparison) (v : ℤ) (r q : Ends) (o : Option Ends) → IsTestOf c v r (true, Some q) → o ≡ Some q
    → IsTestOf c v r (true, o)
by_words c v r q o test same = subst (λ (p : Option Ends). IsTestOf c v r (true, p)) (sym same) test

by_below_next : (v d : ℤ) (r : Ends) → FitsSigned w32 v → next_above (Some v) ≡ Some d
    → IsTestOf comparison.LessOrEqual v r (true, words_below d)
by_below_next v d r fits next =
    by_words comparison.LessOrEqual v r (at_most v) (words_below d) (elim [ true ↦ refl | false ↦ refl ])
    (below_next v d fits next)

by_above_next : (v d : ℤ) (r : Ends) → FitsSigned w32 v → next_below (Some v) ≡ Some d
    → IsTestOf comparison.GreaterOrEqual v r (true, words_above d)
by_above_next v d r fits next =
    by_words comparison.GreaterOrEqual v r (at_least v) (words_above d) (elim [ true ↦ refl | false ↦ refl ])
    (above_next v d fits next)

-- ---- words that are narrowed

-- a word that is tested
word_is_alone : (w : ℕ) (q r : Ends) (f : Facts) → OneWordIs w q f (with_alone (pos w) (number_in q) f)
word_is_alone w q r f = record {
  there = ap (λ (b : Bool). cond b (Alone (number_in q)) (f (pos w))) (same_word (pos w));
  others = λ k apart. elim (word_test k (pos w)) [
    | inl here ↦ absurd (apart here.1)
    | inr other ↦ ap (λ (b : Bool). cond b (Alone (number_in q)) (f k)) other.0
  ];
}

-- the range of the words that a test is about
IsTestRange : Bool × Option Ends → Type 0
IsTestRange test = (r : Ends) → test.1 ≡ Some r → range_between r.lo r.hi ≡ Some r

pub narrows_by : (w : ℕ) (r : Ends) (f : Facts) (inside : Bool) (o : Option Ends) → IsRange r → IsNumber f w r
    → ((q : Ends) → o ≡ Some q → range_between q.lo q.hi ≡ Some q) → (holds : Bool)
    → OneWordIs w (left_by_test (flipped holds (inside, o)) r) f (narrowed_words (tests (pos w) (inside, o)) holds f)
unfolding narrowed_words
narrows_by w r f inside None ranged is tested holds = record { there = is; others = λ k apart. refl }
narrows_by w r f inside (Some q) ranged is tested holds =
    let own : own_range (f (pos w)) ≡ Some r = ap own_range is ∙ range_told r ranged in
    let left : Ends = left_by (same inside holds) r q in
    subst (λ (g : Facts). OneWordIs w left f g)
    (sym (ap (λ (o : Option Ends). elim o as (λ o. Facts) [
      | None ↦ f
      | Some r ↦ elim (range_between q.lo q.hi) as (λ o. Facts) [
        | None ↦ f
        | Some other ↦ with_alone (pos w) (number_in (left_by (same inside holds) r other)) f
      ]
    ]) own
    ∙ ap (λ (o : Option Ends). elim o as (λ o. Facts) [
      | None ↦ f
      | Some other ↦ with_alone (pos w) (number_in (left_by (same inside holds) r other)) f
    ]) (tested q refl)))
    (word_is_alone w left r f)

-- ---- what code shows

-- Code leaves a truth that comes from a test of a word, and words as they were.
pub record Shown (g : Setting) (ps : List Piece) (w : ℕ) (test : Bool × Option Ends) (s : Told) : Type 0 where
  pub after : Told
  pub falls : FallOn g ps s after
  pub fact : after.stack.a.fact ≡ number_in truths
  pub source : after.stack.a.source ≡ tests (pos w) test
  pub frame : after.frame ≡ s.frame

-- and two registers
record Two (g : Setting) (ps : List Piece) (below top : Known) (s : Told) : Type 0 where
  after : Told
  falls : FallOn g ps s after
  b : after.stack.b ≡ below
  a : after.stack.a ≡ top
  frame : after.frame ≡ s.frame

greater_shown : (g : Setting) (ps : List Piece) (w : ℕ) (below top : Known) (test : Bool × Option Ends) (r q : Ends)
    (s : Told) → Two g ps below top s → IsNumberIn below r → IsNumberIn top q
    → greater_source below top ≡ tests (pos w) test → Shown g (ps ++ operates GREATER ∷ []) w test s
greater_shown g ps w below top test r q s two x y is =
    let k = two.after in
    record {
      after = with_result (record {
        fact = number_in truths;
        source = result_source binary.Greater k.stack.b k.stack.a;
      }) k;
      falls = fall_both two.falls (results_lie_in_ranges g GREATER binary.Greater r q truths k operands_name.greater
          (subst (λ (a : Known). IsNumberIn a r) (sym two.b) x) (subst (λ (a : Known). IsNumberIn a q) (sym two.a) y)
          (greater_range r q));
      fact = refl;
      source = (λ i. greater_source (two.b i) (two.a i)) ∙ is;
      frame = two.frame;
    }

opposite_source : (k : Known) (w : ℕ) (o : Option Ends) → k.source ≡ tests (pos w) (true, o)
    → equal_source k (pos 0) ≡ tests (pos w) (false, o)
opposite_source k w None is = nothing_is_told_from_nowhere k (pos 0) is
opposite_source k w (Some r) is = opposites_are_told k (pos w) r.lo r.hi true is

negated_shown : (g : Setting) (ps : List Piece) (w : ℕ) (o : Option Ends) (s : Told)
    → Shown g (ps ++ operates GREATER ∷ []) w (true, o) s
    → Shown g (ps ++ (operates GREATER ∷ negates ∷ [])) w (false, o) s
negated_shown g ps w o s shown =
    let k = shown.after in
    subst (λ (rs : List Piece). Shown g rs w (false, o) s) (append_assoc ps (operates GREATER ∷ []) (negates ∷ []))
    (record {
      after = compared_told (pos 0) k;
      falls = fall_both shown.falls (compared_falls g (pos 0) truths k shown.fact truths_ranged zero_fits);
      fact = refl;
      source = opposite_source k.stack.a w o shown.source;
      frame = shown.frame;
    })

tests_above : (w : ℕ) (o : Option Ends) → test_of (pos w) o ≡ tests (pos w) (true, o)
tests_above w None = refl
tests_above w (Some r) = refl

constant_is : (v : ℤ) → FitsSigned w32 v → constant_in (Number v v) ≡ Some v
constant_is v fits =
    ap (λ (o : Option Ends). elim o as (λ o. Option ℤ) [ None ↦ None | Some r ↦ only_number r ])
    (range_told (ranges.constant v) (constant_ranged v fits))
    ∙ ap (λ (b : Bool). cond b (Some v) None) ((Decides-int_eq v v).1 refl)

-- what is known of a word that is pushed
abbrev word_known : ℕ → Ends → Known
word_known w r = record { fact = number_in r; source = From (pos w) }

-- an operand that is the word, and one that is a constant
abbrev pub scalar_operand : ℕ → Operand
scalar_operand w = record { first = loads w ∷ []; second = loads w ∷ []; leaf = true; small = true }

abbrev pub constant_operand : ℤ → (leaf small : Bool) → Operand
constant_operand v leaf small = record {
  first = constant v ∷ [];
  second = constant v ∷ [];
  leaf = leaf;
  small = small;
}

module _ (g : Setting) (w : ℕ) (r : Ends) (counts : IsCounted w) (may : MayRead g w) (ranged : IsRange r) (s : Told)
    (is : IsNumber s.frame w r) where
  word_pushed : word_as_known (pos w) (s.frame (pos w)) ≡ word_known w r
  word_pushed = ap (word_as_known (pos w)) is

  constant_below : (v : ℤ) → Two g (constant v ∷ loads w ∷ []) (known_constant v) (word_known w r) s
  constant_below v =
      let k : Told = with_pushed (known_constant v) s in
      record {
        after = with_pushed (word_as_known (pos w) (s.frame (pos w))) k;
        falls = fall_both (constants_are_known g v s) (loaded_words_are_known g w k counts may);
        b = refl;
        a = word_pushed;
        frame = refl;
      }

  constant_on : (v : ℤ) → Two g (loads w ∷ constant v ∷ []) (word_known w r) (known_constant v) s
  constant_on v =
      let k : Told = with_pushed (word_as_known (pos w) (s.frame (pos w))) s in
      record {
        after = with_pushed (known_constant v) k;
        falls = fall_both (loaded_words_are_known g w s counts may) (constants_are_known g v k);
        b = word_pushed;
        a = refl;
        frame = refl;
      }

  constant_turned : (v : ℤ)
      → Two g (constant v ∷ loads w ∷ operates REVERSE ∷ []) (word_known w r) (known_constant v) s
  constant_turned v =
      let k : Told = with_pushed (known_constant v) s in
      let j : Told = with_pushed (word_as_known (pos w) (s.frame (pos w))) k in
      record {
        after = record j { stack = record { a = j.stack.b; b = j.stack.a; c = j.stack.c } };
        falls = fall_both (constants_are_known g v s)
            (fall_both (loaded_words_are_known g w k counts may) (registers_are_reversed g j));
        b = word_pushed;
        a = refl;
        frame = refl;
      }

  -- both operands, as code pushes them
  word_first : (t : ℕ) (v : ℤ) (leaf small : Bool)
      → Two g (both true (comes_last true small) t (scalar_operand w) (constant_operand v leaf small)) (word_known w r)
      (known_constant v) s
  word_first t v leaf true = constant_on v
  word_first t v leaf false = constant_turned v

  word_second : (t : ℕ) (v : ℤ) (leaf small : Bool)
      → Two g (both true (comes_last leaf true) t (constant_operand v leaf small) (scalar_operand w)) (known_constant v)
      (word_known w r) s
  word_second t v true small = constant_below v
  word_second t v false small = constant_below v

  word_is_number : IsNumberIn (word_known w r) r
  word_is_number = record { is = refl; range = ranged }

  constant_is_number : (v : ℤ) → FitsSigned w32 v → IsNumberIn (known_constant v) (ranges.constant v)
  constant_is_number v fits = record { is = refl; range = constant_ranged v fits }

  above_shown : (ps : List Piece) (v : ℤ) → FitsSigned w32 v → Two g ps (word_known w r) (known_constant v) s
      → Shown g (ps ++ operates GREATER ∷ []) w (true, words_above v) s
  above_shown ps v fits two =
      greater_shown g ps w (word_known w r) (known_constant v) (true, words_above v) r (ranges.constant v) s two
      word_is_number (constant_is_number v fits)
      (greater_words_are_told (word_known w r) (known_constant v) (pos w) v refl (constant_is v fits)
      ∙ tests_above w (words_above v))

  below_shown : (ps : List Piece) (v : ℤ) → FitsSigned w32 v → Two g ps (known_constant v) (word_known w r) s
      → Shown g (ps ++ operates GREATER ∷ []) w (true, words_below v) s
  below_shown ps v fits two =
      greater_shown g ps w (known_constant v) (word_known w r) (true, words_below v) (ranges.constant v) r s two
      (constant_is_number v fits) word_is_number
      (lesser_words_are_told (known_constant v) (word_known w r) (pos w) v refl refl (constant_is v fits)
      ∙ tests_above w (words_below v))

  equal_shown : (v : ℤ) → FitsSigned w32 v
      → Shown g (loads w ∷ Direct fun.EqualsConstant v ∷ []) w (true, Some (ranges.constant v)) s
  equal_shown v fits =
      let k : Told = with_pushed (word_as_known (pos w) (s.frame (pos w))) s in
      record {
        after = compared_told v k;
        falls = fall_both (loaded_words_are_known g w s counts may)
            (compared_falls g v r k (ap (λ (a : Known). a.fact) word_pushed) ranged fits);
        fact = refl;
        source = equal_words_are_told k.stack.a (pos w) v (ap (λ (a : Known). a.source) word_pushed);
        frame = refl;
      }

  unequal_shown : (v : ℤ) → FitsSigned w32 v
      → Shown g (loads w ∷ Direct fun.EqualsConstant v ∷ negates ∷ []) w (false, Some (ranges.constant v)) s
  unfolding equal_shown
  unequal_shown v fits =
      let shown = equal_shown v fits in
      let k = shown.after in
      record {
        after = compared_told (pos 0) k;
        falls = fall_both shown.falls (compared_falls g (pos 0) truths k shown.fact truths_ranged zero_fits);
        fact = refl;
        source = opposite_source k.stack.a w (Some (ranges.constant v)) shown.source;
        frame = refl;
      }

  -- ---- comparisons

  -- code shows of the word what the comparison with this constant leaves
  pub record ShowsIt (c : Comparison) (v : ℤ) (ps : List Piece) : Type 0 where
    pub test : Bool × Option Ends
    pub shown : Shown g ps w test s
    pub tells : IsTestOf c v r test
    pub between : (q : Ends) → test.1 ≡ Some q → range_between q.lo q.hi ≡ Some q

  between_again : (lo hi : ℤ) (q : Ends) → range_between lo hi ≡ Some q → range_between q.lo q.hi ≡ Some q
  between_again lo hi q is =
      (words_in_order_are_ranges q.lo q.hi q).1 (((words_in_order_are_ranges lo hi q).0 is).0, refl, refl)

  constant_again : (v : ℤ) → FitsSigned w32 v → (q : Ends) → Some (ranges.constant v) ≡ Some q
      → range_between q.lo q.hi ≡ Some q
  constant_again v fits q is =
      let same : ranges.constant v ≡ q = cc in
      subst (λ (e : Ends). range_between e.lo e.hi ≡ Some e) same
      ((words_in_order_are_ranges v v (ranges.constant v)).1 (constant_ranged v fits, refl, refl))

  module _ (t : ℕ) (v : ℤ) (fits : FitsSigned w32 v) (leaf small : Bool) where
    above_it : (c : Comparison) (ps : List Piece) → as_test c v ≡ (true, words_above v)
        → Two g ps (word_known w r) (known_constant v) s → ShowsIt c v (ps ++ operates GREATER ∷ [])
    above_it c ps by two = record {
      test = (true, words_above v);
      shown = above_shown ps v fits two;
      tells = subst (λ (test : Bool × Option Ends). IsTestOf c v r test) by (by_as_test c v r fits ranged);
      between = between_again (v +ℤ pos 1) greatest_word;
    }

    below_it : (c : Comparison) (ps : List Piece) → as_test c v ≡ (true, words_below v)
        → Two g ps (known_constant v) (word_known w r) s → ShowsIt c v (ps ++ operates GREATER ∷ [])
    below_it c ps by two = record {
      test = (true, words_below v);
      shown = below_shown ps v fits two;
      tells = subst (λ (test : Bool × Option Ends). IsTestOf c v r test) by (by_as_test c v r fits ranged);
      between = between_again least_word (v -ℤ pos 1);
    }

    not_above_it : (c : Comparison) (ps : List Piece) → as_test c v ≡ (false, words_above v)
        → Two g ps (word_known w r) (known_constant v) s → ShowsIt c v (ps ++ (operates GREATER ∷ negates ∷ []))
    not_above_it c ps by two = record {
      test = (false, words_above v);
      shown = negated_shown g ps w (words_above v) s (above_shown ps v fits two);
      tells = subst (λ (test : Bool × Option Ends). IsTestOf c v r test) by (by_as_test c v r fits ranged);
      between = between_again (v +ℤ pos 1) greatest_word;
    }

    not_below_it : (c : Comparison) (ps : List Piece) → as_test c v ≡ (false, words_below v)
        → Two g ps (known_constant v) (word_known w r) s → ShowsIt c v (ps ++ (operates GREATER ∷ negates ∷ []))
    not_below_it c ps by two = record {
      test = (false, words_below v);
      shown = negated_shown g ps w (words_below v) s (below_shown ps v fits two);
      tells = subst (λ (test : Bool × Option Ends). IsTestOf c v r test) by (by_as_test c v r fits ranged);
      between = between_again least_word (v -ℤ pos 1);
    }

    equal_it : ShowsIt comparison.Equal v (loads w ∷ Direct fun.EqualsConstant v ∷ [])
    equal_it = record {
      test = (true, Some (ranges.constant v));
      shown = equal_shown v fits;
      tells = by_as_test comparison.Equal v r fits ranged;
      between = constant_again v fits;
    }

    unequal_it : ShowsIt comparison.NotEqual v (loads w ∷ Direct fun.EqualsConstant v ∷ negates ∷ [])
    unequal_it = record {
      test = (false, Some (ranges.constant v));
      shown = unequal_shown v fits;
      tells = by_as_test comparison.NotEqual v r fits ranged;
      between = constant_again v fits;
    }

    abbrev x : Operand
    x = scalar_operand w

    abbrev y : Operand
    y = constant_operand v leaf small

    less_or_equal : (o : Option ℤ) → next_above (Some v) ≡ o
        → ShowsIt comparison.LessOrEqual v (pushed
        (on_constant (pushes_of (pair.Comparison comparison.Greater) None None) o)
        t x y ++ operates GREATER ∷ negated_unless o)
    less_or_equal None next =
        not_above_it comparison.LessOrEqual (both true (comes_last true small) t x y) refl (word_first t v leaf small)
    less_or_equal (Some d) next = record {
      test = (true, words_below d);
      shown = below_shown (constant d ∷ loads w ∷ []) d (above_fits v d next) (constant_below d);
      tells = by_below_next v d r fits next;
      between = between_again least_word (d -ℤ pos 1);
    }

    greater_or_equal : (o : Option ℤ) → next_below (Some v) ≡ o
        → ShowsIt comparison.GreaterOrEqual v (pushed
        (below_constant (pushes_of (pair.Comparison comparison.Less) None None)
        o) t x y ++ operates GREATER ∷ negated_unless o)
    greater_or_equal None next =
        not_below_it comparison.GreaterOrEqual (both true (comes_last leaf true) t y x) refl
        (word_second t v leaf small)
    greater_or_equal (Some d) next = record {
      test = (true, words_above d);
      shown = above_shown (loads w ∷ constant d ∷ []) d (below_fits v d next) (constant_on d);
      tells = by_above_next v d r fits next;
      between = between_again (d +ℤ pos 1) greatest_word;
    }

    -- the scalar on the left
    pub on_left : (c : Comparison) → ShowsIt c v (pushed (pushes_of (pair.Comparison c) None (Some v)) t x y
        ++ pair_code (pair.Comparison c) None (Some v))
    on_left comparison.Equal = equal_it
    on_left comparison.NotEqual = unequal_it
    on_left comparison.Less = below_it comparison.Less (constant v ∷ loads w ∷ []) refl (constant_below v)
    on_left comparison.LessOrEqual = less_or_equal (next_above (Some v)) refl
    on_left comparison.Greater =
        above_it comparison.Greater (both true (comes_last true small) t x y) refl (word_first t v leaf small)
    on_left comparison.GreaterOrEqual = greater_or_equal (next_below (Some v)) refl

    -- and on the right
    pub on_right : (c : Comparison) → ShowsIt (turned c) v (pushed (pushes_of (pair.Comparison c) (Some v) None) t y x
        ++ pair_code (pair.Comparison c) (Some v) None)
    on_right comparison.Equal = equal_it
    on_right comparison.NotEqual = unequal_it
    on_right comparison.Less =
        above_it comparison.Greater (both true (comes_last true small) t x y) refl (word_first t v leaf small)
    on_right comparison.LessOrEqual =
        not_below_it comparison.GreaterOrEqual (both true (comes_last leaf true) t y x) refl
        (word_second t v leaf small)
    on_right comparison.Greater =
        below_it comparison.Less (both true (comes_last leaf true) t y x) refl (word_second t v leaf small)
    on_right comparison.GreaterOrEqual =
        not_above_it comparison.LessOrEqual (both true (comes_last true small) t x y) refl (word_first t v leaf small)
