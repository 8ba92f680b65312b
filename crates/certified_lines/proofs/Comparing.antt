-- What the code of prefixes and of comparisons leaves known.
use Rattle.std.proofs.Common.{◌≡◌, ℕ, ◌≤◌, inl, inr, ℤ, pos, Bool, true, false, ◌&&◌, List, [], ◌∷◌, ◌++◌}
use Rattle.std.proofs.Common.{Option, Some}
use Rattle.std.proofs.Common.{None, FitsSigned, refl, sym, ap, subst, arith, append_assoc}
use Rattle.std.specs.Prelude.{◌+ℤ◌, ◌-ℤ◌}
use Rattle.std.specs.Int.{w32}
use Rattle.std.proofs.lemmas.Int.{ints}
use Rattle.std.proofs.lemmas.Option.{same_Some}
use Rattle.std.proofs.lemmas.Bool.{and_parts}
use Rattle.word_arithmetic.specs.Word.{is_word}
use Rattle.word_arithmetic.specs.Range as ranges
use Rattle.word_arithmetic.specs.Range.{Ends, IsRange, truths, not_range, word_difference_range}
use Rattle.word_arithmetic.specs.Binary.{result_range}
use Rattle.word_arithmetic.specs.declared.binary.Binary.TheVariants as binary
use Rattle.word_arithmetic.specs.declared.compare.Comparison.{Comparison}
use Rattle.word_arithmetic.specs.declared.compare.Comparison.TheVariants as comparison
use Rattle.word_arithmetic.proofs.WordLaws.{is_word_out}
use Rattle.word_arithmetic.proofs.RangesOfRanges.{binary_gives_ranges}
use Rattle.prefix_decoder.specs.declared.function.Fun.TheVariants as fun
use Rattle.occam_parser.specs.declared.tree.PairOperator.TheVariants as pair
use Rattle.occam_parser.specs.declared.tree.PrefixOperator.{PrefixOperator}
use Rattle.occam_parser.specs.declared.tree.PrefixOperator.TheVariants as prefix
use Rattle.states.specs.declared.known.Known.{Known}
use Rattle.states.specs.declared.known.Source.TheVariants.{Nowhere}
use Rattle.states.specs.State.{Facts, known}
use Rattle.local_rules.specs.WordRules.{number_in, result_source, equal_source, known_constant}
use Rattle.scalar_ranges.specs.Entries.{Entry}
use Rattle.code_pieces.specs.declared.operations.TheConstants.{DIFFERENCE, GREATER, REVERSE, NOT}
use Rattle.code_pieces.specs.Pieces.{Piece, Direct, operates, constant}
use Rattle.line_pieces.specs.Expressions.{Operand, both, comes_last, pushed, pushes_of, pair_code, negates}
use Rattle.line_pieces.specs.Expressions.{after_constant, next_above, next_below, negated_unless, on_constant}
use Rattle.line_pieces.specs.Expressions.{below_constant, prefix_code}
use Rattle.placed_code.proofs.OperandsName.{operands_name}
use Rattle.placed_code.proofs.OperandsKeep.{kept_of, leaves_kept, exchanged_kept, by_next}
use Rattle.certified_lines.specs.StraightRules.{Setting, Told, FallOn, with_pushed}
use Rattle.certified_lines.specs.Instructions.{with_a, with_result}
use Rattle.certified_lines.specs.Numbers.{IsNumberIn}
use Rattle.certified_lines.specs.Scopes.{Scene, HoldsScope, IsScope}
use Rattle.certified_lines.specs.Telling.{StayBefore, IsQuiet, ComesFromNowhere, AreAllowed, PushedFact, IsFree}
use Rattle.certified_lines.specs.Telling.{OperandTells, AreTold, keeps}
use Rattle.certified_lines.specs.OperandLaws.{IsOnly, leaves_below, prefix_range, PrefixesTell, ComparisonsTell}
use Rattle.certified_lines.proofs.StraightRules.{fall_both}
use Rattle.certified_lines.proofs.Telling.{like_of, like_both}
use Rattle.certified_lines.proofs.Instructions.{constants_are_known, registers_are_reversed}
use Rattle.certified_lines.proofs.Numbers.{results_lie_in_ranges, comparisons_are_truths, turned_bits_lie_in_ranges}
use Rattle.certified_lines.proofs.Numbers.{sums_lie_in_ranges}
use Rattle.certified_lines.proofs.Numbers.{nothing_is_told_from_nowhere}
use Rattle.certified_lines.proofs.Ranges.{checked_by, constant_ranged, negative, not_ranged}
use Rattle.certified_lines.proofs.Operands.{both_tell, operations_tell, allowed_first}
use Rattle.certified_lines.proofs.Operands.{quiet_of, still_nowhere}
use Rattle.certified_lines.proofs.Arithmetic.{replaced, fewer_kept, first_of}

pub greater_range : (r s : Ends) → result_range binary.Greater r s ≡ Some truths
unfolding result_range
greater_range r s = refl

difference_is : (r s : Ends) → result_range binary.Difference r s ≡ Some (word_difference_range r s)
unfolding result_range
difference_is r s = refl

difference_ranged : (r s : Ends) → IsRange r → IsRange s → IsRange (word_difference_range r s)
difference_ranged r s x y =
    binary_gives_ranges binary.Difference r s (word_difference_range r s) x y (difference_is r s)

-- ---- what is in A is replaced

-- A is compared with a constant
abbrev pub compared_told : ℤ → Told → Told
compared_told e k = with_a (record { fact = number_in truths; source = equal_source k.stack.a e }) k

pub compared_falls : (g : Setting) (e : ℤ) (r : Ends) (k : Told) → k.stack.a.fact ≡ number_in r → IsRange r
    → FitsSigned w32 e → FallOn g (Direct fun.EqualsConstant e ∷ []) k (compared_told e k)
compared_falls g e r k is x fits = comparisons_are_truths g e r k (record { is = is; range = x }) fits

pub compared_with : (g : Setting) (ps : List Piece) (t : ℕ) (leaf small : Bool) (r : Ends) (e : ℤ) (before : Told)
    → IsRange r → FitsSigned w32 e → PushedFact g ps t leaf small r before
    → PushedFact g (ps ++ Direct fun.EqualsConstant e ∷ []) t false small truths before
compared_with g ps t leaf small r e before x fits p =
    replaced g ps (Direct fun.EqualsConstant e ∷ []) t leaf small r truths
    (record { fact = number_in truths; source = equal_source p.after.stack.a e }) before p refl
    (compared_falls g e r p.after p.a x fits)

pub zero_fits : FitsSigned w32 (pos 0)
zero_fits = omega (arith, ints)

pub truths_ranged : IsRange truths
truths_ranged = record { lo_fits = omega (arith, ints); hi_fits = omega (arith, ints); ordered = omega (arith, ints) }

-- the truth that it is not, behind pieces that follow others
turned_behind : (g : Scene) (ps qs : List Piece) (t : ℕ) (leaf small : Bool) (before : Told)
    → (AreAllowed g (ps ++ qs) → PushedFact g.setting (ps ++ qs) t leaf small truths before)
    → AreAllowed g (ps ++ (qs ++ negates ∷ [])) → PushedFact g.setting (ps ++ (qs ++ negates ∷ [])) t false small
    truths before
turned_behind g ps qs t leaf small before tells all =
    subst (λ (rs : List Piece). PushedFact g.setting rs t false small truths before) (append_assoc ps qs (negates ∷ []))
    (compared_with g.setting (ps ++ qs) t leaf small truths (pos 0) before truths_ranged zero_fits
    (tells (allowed_first g (ps ++ qs) (negates ∷ [])
    (subst (λ (rs : List Piece). AreAllowed g rs) (sym (append_assoc ps qs (negates ∷ []))) all))))

-- ---- prefixes

module _ (g : Setting) (t : ℕ) (ps : List Piece) (leaf small : Bool) (r q : Ends) (before : Told) (x : IsRange r)
    (p : PushedFact g ps t leaf small r before) where
  turned : PushedFact g (ps ++ operates NOT ∷ []) t false small (not_range r) before
  turned =
      replaced g ps (operates NOT ∷ []) t leaf small r (not_range r) (known (number_in (not_range r))) before p refl
      (turned_bits_lie_in_ranges g r p.after (record { is = p.a; range = x }))

  negated : result_range binary.Subtract (ranges.constant (pos 0)) r ≡ Some q
      → PushedFact g (ps ++ operates NOT ∷ Direct fun.AddConstant (pos 1) ∷ []) t false small q before
  negated gives =
      let k : Told = with_a (known (number_in (not_range r))) p.after in
      replaced g ps (operates NOT ∷ Direct fun.AddConstant (pos 1) ∷ []) t leaf small r q (known (number_in q)) before p
      refl
      (fall_both (turned_bits_lie_in_ranges g r p.after (record { is = p.a; range = x }))
      (sums_lie_in_ranges g (pos 1) (not_range r) q k (record { is = refl; range = not_ranged r x })
      (omega (arith, ints)) (negative r q x gives)))

  prefixed : (op : PrefixOperator) → prefix_range op r ≡ Some q
      → PushedFact g (ps ++ prefix_code op) t false small q before
  prefixed prefix.Negate gives = negated gives
  prefixed prefix.BitNot gives =
      subst (λ (e : Ends). PushedFact g (ps ++ operates NOT ∷ []) t false small e before)
      (same_Some (not_range r) q gives) turned
  prefixed prefix.Not gives =
      subst (λ (e : Ends). PushedFact g (ps ++ negates ∷ []) t false small e before) (same_Some truths q gives)
      (compared_with g ps t leaf small r (pos 0) before x zero_fits p)

pub prefixes_tell : PrefixesTell
prefixes_tell g t op ps leaf small r q before x gives p = prefixed g t ps leaf small r q before x p op gives

-- ---- two operands

-- two numbers differ, and the difference is compared with 0
pub record Differ (g : Setting) (k : Told) : Type 0 where
  pub after : Told
  pub falls : FallOn g (operates DIFFERENCE ∷ negates ∷ []) k after
  pub a : after.stack.a.fact ≡ number_in truths
  pub frame : after.frame ≡ k.frame
  pub below : after.stack.b ≡ k.stack.c
  pub source : after.stack.a.source ≡ Nowhere

differ : (g : Setting) (r s : Ends) (k : Told) → IsNumberIn k.stack.b r → IsNumberIn k.stack.a s → Differ g k
differ g r s k b a =
    let q = word_difference_range r s in
    let d : Told =
    with_result (record { fact = number_in q; source = result_source binary.Difference k.stack.b k.stack.a }) k in
    record {
      after = compared_told (pos 0) d;
      falls = fall_both (results_lie_in_ranges g DIFFERENCE binary.Difference r s q k operands_name.difference b a
          (difference_is r s))
          (compared_falls g (pos 0) q d refl (difference_ranged r s b.range a.range) zero_fits);
      a = refl;
      frame = refl;
      below = refl;
      source = nothing_is_told_from_nowhere d.stack.a (pos 0) refl;
    }

pub either_differ : (g : Setting) (r s : Ends) (k : Told) → IsRange r → IsRange s → AreTold false r s k.stack
    → Differ g k
either_differ g r s k x y (inl are) =
    differ g r s k (record { is = are.0; range = x }) (record { is = are.1; range = y })
either_differ g r s k x y (inr are) =
    differ g s r k (record { is = are.0; range = y }) (record { is = are.1; range = x })

pub above_fits : (c d : ℤ) → next_above (Some c) ≡ Some d → FitsSigned w32 d
above_fits c d is =
    let by = checked_by (is_word (c +ℤ pos 1)) (c +ℤ pos 1) d is in
    subst (FitsSigned w32) by.1 (is_word_out (c +ℤ pos 1) by.0)

pub below_fits : (c d : ℤ) → next_below (Some c) ≡ Some d → FitsSigned w32 d
below_fits c d is =
    let by = checked_by (is_word (c -ℤ pos 1)) (c -ℤ pos 1) d is in
    subst (FitsSigned w32) by.1 (is_word_out (c -ℤ pos 1) by.0)

pub only_fits : (c : ℤ) (r : Ends) → IsRange r → IsOnly (Some c) r → FitsSigned w32 c
only_fits c r x only = subst (FitsSigned w32) (ap (λ (e : Ends). e.lo) only) x.lo_fits

-- an operand was compared with a constant, and nothing is told of words where the operand's code tells nothing
pub record Compared (g : Setting) (ps qs : List Piece) (t : ℕ) (leaf : Bool) (before : Told) : Type 0 where
  pub told : PushedFact g qs t false leaf truths before
  pub left : Known
  pub right : Known
  pub source : told.after.stack.a.source ≡ result_source binary.Greater left right
  pub quiet : ComesFromNowhere g ps → IsQuiet t left.source × IsQuiet t right.source

module _ (g : Scene) (top t : ℕ) (es : List Entry) (scope : IsScope g top es) (low : top ≤ t) (few : IsFree t)
    (before : Told) (holds : HoldsScope g es before.frame) where
  -- whether the first one is greater
  greater_tells : (a b : Operand) (r s : Ends) → IsRange r → IsRange s → OperandTells g es t a r
      → OperandTells g es t b s
      → AreAllowed g (both true (comes_last a.leaf b.small) t a b ++ operates GREATER ∷ [])
      → PushedFact g.setting (both true (comes_last a.leaf b.small) t a b ++ operates GREATER ∷ []) t false (keeps a b)
      truths before
  greater_tells a b r s x y push_a push_b all =
      operations_tell g top t es true a b GREATER binary.Greater r s truths before scope low few x y push_a push_b
      operands_name.greater (greater_range r s) (λ no. absurd (cc no)) all holds

  -- whether they are equal
  equal_tells : (a b : Operand) (r s : Ends) → IsRange r → IsRange s → OperandTells g es t a r
      → OperandTells g es t b s
      → AreAllowed g (both false (comes_last a.leaf b.small) t a b ++ operates DIFFERENCE ∷ negates ∷ [])
      → PushedFact g.setting (both false (comes_last a.leaf b.small) t a b ++ operates DIFFERENCE ∷ negates ∷ []) t
      false (a.small && b.leaf) truths before
  equal_tells a b r s x y push_a push_b all =
      let code : List Piece = both false (comes_last a.leaf b.small) t a b in
      let two = both_tell g top t es false a b r s before scope low few push_a push_b
      (allowed_first g code (operates DIFFERENCE ∷ negates ∷ []) all) holds in
      let last = either_differ g.setting r s two.after x y two.operands in
      record {
        after = last.after;
        falls = fall_both two.falls last.falls;
        a = last.a;
        stay = subst (λ (f : Facts). StayBefore t before.frame f) (sym last.frame) two.stay;
        below = λ is.
            like_both (two.below (kept_of a.small a.leaf b.leaf is)) (like_of last.below);
        alone = λ is. absurd (cc is);
      }

  -- a constant that is pushed below an operand is compared with it
  pub over_constant : (small : Bool) (ps : List Piece) (leaf : Bool) (r : Ends) (c : ℤ) → IsRange r → FitsSigned w32 c
      → ((k : Told) → k.frame ≡ before.frame → PushedFact g.setting ps t leaf small r k)
      → Compared g.setting ps (after_constant c small ps ++ operates GREATER ∷ []) t leaf before
  over_constant true ps leaf r c x fits tells =
      let k : Told = with_pushed (known_constant c) before in
      let first = tells k refl in
      let last = first.after in
      record {
        told = record {
          after = with_result
              (record { fact = number_in truths; source = result_source binary.Greater last.stack.b last.stack.a }) last;
          falls = fall_both (constants_are_known g.setting c before) (fall_both first.falls
              (results_lie_in_ranges g.setting GREATER binary.Greater (ranges.constant c) r truths last
              operands_name.greater (record { is = (first.below refl).fact; range = constant_ranged c fits })
              (record { is = first.a; range = x }) (greater_range (ranges.constant c) r)));
          a = refl;
          stay = first.stay;
          below = λ is. like_of (ap (λ (j : Told). j.stack.c) (first.alone is));
          alone = λ is. absurd (cc is);
        };
        left = last.stack.b;
        right = last.stack.a;
        source = refl;
        quiet = λ calm. (
          quiet_of t last.stack.b.source (still_nowhere (known_constant c) last.stack.b (first.below refl) refl),
          quiet_of t last.stack.a.source (calm k last first.falls),
        );
      }
  over_constant false ps leaf r c x fits tells =
      let first = tells before refl in
      let k = first.after in
      let under : Told = with_pushed (known_constant c) k in
      let last : Told = record under { stack = record { a = k.stack.a; b = known_constant c; c = k.stack.b } } in
      let end : Told = with_result
      (record { fact = number_in truths; source = result_source binary.Greater last.stack.b last.stack.a }) last in
      record {
        told = record {
          after = end;
          falls = subst (λ (rs : List Piece). FallOn g.setting rs before end)
              (sym (append_assoc ps (constant c ∷ operates REVERSE ∷ []) (operates GREATER ∷ [])))
              (fall_both first.falls (fall_both (constants_are_known g.setting c k)
              (fall_both (registers_are_reversed g.setting under)
              (results_lie_in_ranges g.setting GREATER binary.Greater (ranges.constant c) r truths last
              operands_name.greater (record { is = refl; range = constant_ranged c fits })
              (record { is = first.a; range = x }) (greater_range (ranges.constant c) r)))));
          a = refl;
          stay = first.stay;
          below = λ is. like_of (ap (λ (j : Told). j.stack.b) (first.alone is));
          alone = λ is. absurd (cc is);
        };
        left = known_constant c;
        right = k.stack.a;
        source = refl;
        quiet = λ calm. (tt, quiet_of t k.stack.a.source (calm before k first.falls));
      }

  -- an operand is compared with a constant that is pushed on it
  pub under_constant : (ps : List Piece) (leaf small : Bool) (r : Ends) (c : ℤ) → IsRange r → FitsSigned w32 c
      → PushedFact g.setting ps t leaf small r before
      → Compared g.setting ps ((ps ++ constant c ∷ []) ++ operates GREATER ∷ []) t leaf before
  under_constant ps leaf small r c x fits first =
      let k = first.after in
      let last : Told = with_pushed (known_constant c) k in
      record {
        told = record {
          after = with_result
              (record { fact = number_in truths; source = result_source binary.Greater last.stack.b last.stack.a }) last;
          falls = fall_both (fall_both first.falls (constants_are_known g.setting c k))
              (results_lie_in_ranges g.setting GREATER binary.Greater r (ranges.constant c) truths last
              operands_name.greater (record { is = first.a; range = x })
              (record { is = refl; range = constant_ranged c fits }) (greater_range r (ranges.constant c)));
          a = refl;
          stay = first.stay;
          below = λ is. like_of (ap (λ (j : Told). j.stack.b) (first.alone is));
          alone = λ is. absurd (cc is);
        };
        left = k.stack.a;
        right = known_constant c;
        source = refl;
        quiet = λ calm. (quiet_of t k.stack.a.source (calm before k first.falls), tt);
      }

-- what is allowed behind a constant
pub constant_allowed : (g : Scene) (c : ℤ) (small : Bool) (ps : List Piece)
    → AreAllowed g (after_constant c small ps ++ operates GREATER ∷ []) → AreAllowed g ps
constant_allowed g c true ps all = allowed_first g ps (operates GREATER ∷ []) all.1
constant_allowed g c false ps all =
    allowed_first g ps (constant c ∷ operates REVERSE ∷ [])
    (allowed_first g (ps ++ constant c ∷ operates REVERSE ∷ []) (operates GREATER ∷ []) all)

-- A comparison of two operands, which may be constants.
module _ (g : Scene) (top t : ℕ) (es : List Entry) (scope : IsScope g top es) (low : top ≤ t) (few : IsFree t)
    (before : Told) (holds : HoldsScope g es before.frame) (a b : Operand) (r s : Ends) (x : IsRange r) (y : IsRange s)
    (push_a : OperandTells g es t a r) (push_b : OperandTells g es t b s) where
  -- the left operand alone, wherever what is known of words is as before
  left_alone : AreAllowed g a.first → (k : Told) → k.frame ≡ before.frame
      → PushedFact g.setting a.first t a.leaf a.small r k
  left_alone all k same = push_a.first all k (subst (HoldsScope g es) (sym same) holds)

  in_order : AreAllowed g (both true (comes_last a.leaf b.small) t a b ++ operates GREATER ∷ [])
      → PushedFact g.setting (both true (comes_last a.leaf b.small) t a b ++ operates GREATER ∷ []) t false (keeps a b)
      truths before
  in_order all = greater_tells g top t es scope low few before holds a b r s x y push_a push_b all

  in_turn : AreAllowed g (both true (comes_last b.leaf a.small) t b a ++ operates GREATER ∷ [])
      → PushedFact g.setting (both true (comes_last b.leaf a.small) t b a ++ operates GREATER ∷ []) t false
      (a.leaf && b.leaf) truths before
  in_turn all =
      fewer_kept g.setting (both true (comes_last b.leaf a.small) t b a ++ operates GREATER ∷ []) t (a.leaf && b.leaf)
      (keeps b a) truths before (exchanged_kept b.small b.leaf a.leaf)
      (greater_tells g top t es scope low few before holds b a s r y x push_b push_a all)

  over : (c : ℤ) → FitsSigned w32 c → AreAllowed g (after_constant c a.small a.first ++ operates GREATER ∷ [])
      → PushedFact g.setting (after_constant c a.small a.first ++ operates GREATER ∷ []) t false (a.leaf && b.leaf)
      truths before
  over c fits all =
      fewer_kept g.setting (after_constant c a.small a.first ++ operates GREATER ∷ []) t (a.leaf && b.leaf) a.leaf
      truths before (first_of a.leaf b.leaf)
      (over_constant g top t es scope low few before holds a.small a.first a.leaf r c x fits
      (left_alone (constant_allowed g c a.small a.first all))).told

  under : (c : ℤ) → FitsSigned w32 c → AreAllowed g ((a.first ++ constant c ∷ []) ++ operates GREATER ∷ [])
      → PushedFact g.setting ((a.first ++ constant c ∷ []) ++ operates GREATER ∷ []) t false (a.leaf && b.leaf) truths
      before
  under c fits all =
      fewer_kept g.setting ((a.first ++ constant c ∷ []) ++ operates GREATER ∷ []) t (a.leaf && b.leaf) a.leaf truths
      before (first_of a.leaf b.leaf)
      (under_constant g top t es scope low few before holds a.first a.leaf a.small r c x fits
      (left_alone (allowed_first g a.first (constant c ∷ [])
      (allowed_first g (a.first ++ constant c ∷ []) (operates GREATER ∷ []) all)) before refl)).told

  -- the code of a comparison by the constants that it has
  abbrev Compares : Comparison → (first second : Option ℤ) → Type 0
  Compares op first second =
      AreAllowed g (pushed (pushes_of (pair.Comparison op) first second) t a b
      ++ pair_code (pair.Comparison op) first second)
      → PushedFact g.setting (pushed (pushes_of (pair.Comparison op) first second) t a b
      ++ pair_code (pair.Comparison op) first second) t false (leaves_below (pair.Comparison op) a b) truths before

  less : (first second : Option ℤ) → IsOnly second s → Compares comparison.Less first second
  less first None only all = in_turn all
  less first (Some c) only all = over c (only_fits c s y only) all

  -- which operands are pushed where none is a constant
  abbrev first_greater : List Piece
  first_greater = both true (comes_last a.leaf b.small) t a b

  abbrev second_greater : List Piece
  second_greater = both true (comes_last b.leaf a.small) t b a

  not_greater : AreAllowed g (first_greater ++ operates GREATER ∷ negates ∷ [])
      → PushedFact g.setting (first_greater ++ operates GREATER ∷ negates ∷ []) t false (a.leaf && b.leaf) truths before
  not_greater all =
      turned_behind g first_greater (operates GREATER ∷ []) t false (a.leaf && b.leaf) before
      (λ all. fewer_kept g.setting (first_greater ++ operates GREATER ∷ []) t (a.leaf && b.leaf) (keeps a b) truths
      before (leaves_kept a.small a.leaf b.leaf) (in_order all)) all

  not_less : AreAllowed g (second_greater ++ operates GREATER ∷ negates ∷ [])
      → PushedFact g.setting (second_greater ++ operates GREATER ∷ negates ∷ []) t false (a.leaf && b.leaf) truths
      before
  not_less all =
      turned_behind g second_greater (operates GREATER ∷ []) t false (a.leaf && b.leaf) before in_turn all

  -- with a constant that is next to the second operand, or with both operands
  abbrev NextTells : (Option ℤ → List Piece) → Option ℤ → Type 0
  NextTells operands o =
      let code : List Piece = operands o ++ operates GREATER ∷ negated_unless o in
      AreAllowed g code → PushedFact g.setting code t false (a.leaf && b.leaf) truths before

  -- the second operand alone
  second_compared : (c : ℤ) → FitsSigned w32 c → PushedFact g.setting b.first t b.leaf b.small s before
      → PushedFact g.setting (b.first ++ Direct fun.EqualsConstant c ∷ []) t false (a.small && b.leaf) truths before
  second_compared c fits p = record {
    after = compared_told c p.after;
    falls = fall_both p.falls (compared_falls g.setting c s p.after p.a y fits);
    a = refl;
    stay = p.stay;
    below = λ is. like_of (ap (λ (j : Told). j.stack.b) (p.alone (and_parts a.small b.leaf is).1));
    alone = λ is. absurd (cc is);
  }

  equal : (first second : Option ℤ) → IsOnly first r → IsOnly second s → Compares comparison.Equal first second
  equal first (Some c) is only all =
      fewer_kept g.setting (a.first ++ Direct fun.EqualsConstant c ∷ []) t (a.small && b.leaf) a.small truths before
      (first_of a.small b.leaf)
      (compared_with g.setting a.first t a.leaf a.small r c before x (only_fits c s y only)
      (left_alone (allowed_first g a.first (Direct fun.EqualsConstant c ∷ []) all) before refl))
  equal (Some c) None is only all =
      second_compared c (only_fits c r x is)
      (push_b.first (allowed_first g b.first (Direct fun.EqualsConstant c ∷ []) all) before holds)
  equal None None is only all = equal_tells g top t es scope low few before holds a b r s x y push_a push_b all

  compared : (op : Comparison) (first second : Option ℤ) → IsOnly first r → IsOnly second s → Compares op first second
  compared comparison.Equal first second is only all = equal first second is only all
  compared comparison.NotEqual first second is only all =
      turned_behind g (pushed (pushes_of (pair.Comparison comparison.Equal) first second) t a b)
      (pair_code (pair.Comparison comparison.Equal) first second) t false (a.small && b.leaf) before
      (equal first second is only) all
  compared comparison.Less first second is only all = less first second only all
  compared comparison.LessOrEqual first second is only all =
      by_next next_above (λ o. IsOnly o s)
      (NextTells (λ o. pushed (on_constant (pushes_of (pair.Comparison comparison.Greater) None None) o) t a b)) refl
      not_greater (λ c d is next all. over d (above_fits c d next) all) second only all
  compared comparison.Greater first second is only all =
      fewer_kept g.setting (both true (comes_last a.leaf b.small) t a b ++ operates GREATER ∷ []) t
      (a.small && b.leaf) (keeps a b) truths before (kept_of a.small a.leaf b.leaf) (in_order all)
  compared comparison.GreaterOrEqual first second is only all =
      by_next next_below (λ o. IsOnly o s)
      (NextTells (λ o. pushed (below_constant (pushes_of (pair.Comparison comparison.Less) None None) o) t a b)) refl
      not_less (λ c d is next all. under d (below_fits c d next) all) second only all

pub comparisons_tell : ComparisonsTell
comparisons_tell g top t es op a b first second r s before scope low few x y push_a push_b is only all holds =
    compared g top t es scope low few before holds a b r s x y push_a push_b op first second is only all
