-- Comparisons of constants and of elements whose number is not known: what they leave comes from no word of a scope.
use Rattle.std.proofs.Common.{◌≡◌, ℕ, ◌≤◌, ℤ, pos, ◌+ℤ◌, ◌*ℤ◌, ◌≤ℤ◌, not, Bool, true, false, cond, List, [], ◌∷◌, ◌++◌}
use Rattle.std.proofs.Common.{Option, Some, None}
use Rattle.std.proofs.Common.{Result, Ok, Err, refl, sym, ap, subst, arith, FitsSigned, append_assoc}
use Rattle.std.specs.Prelude.{option_map}
use Rattle.std.specs.Int.{w32}
use Rattle.std.specs.Ordering.{int_eq}
use Rattle.word_arithmetic.specs.Word.{least_word}
use Rattle.word_arithmetic.specs.Range.{Ends, IsRange, truths, words_above, words_below}
use Rattle.word_arithmetic.specs.declared.compare.Comparison.{Comparison}
use Rattle.word_arithmetic.specs.declared.compare.Comparison.TheVariants as comparison
use Rattle.word_arithmetic.specs.declared.binary.Binary.TheVariants as binary
use Rattle.prefix_decoder.specs.declared.function.Fun.TheVariants as fun
use Rattle.module_format.specs.Rows.{Fact}
use Rattle.machine_state.specs.Instructions.{instruction_of, op_of}
use Rattle.states.specs.declared.known.Known.{Known}
use Rattle.states.specs.declared.known.Source.{Source}
use Rattle.states.specs.declared.known.Source.TheVariants.{Nowhere, From, Test}
use Rattle.states.specs.declared.rule.Rule.{Rule}
use Rattle.states.specs.declared.rule.Rule.TheVariants as rules
use Rattle.rulings.specs.Reach.{may_read_bytes}
use Rattle.states.specs.State.{Facts, State, is_same_number}
use Rattle.rulings.specs.Rulings.{Ruling, Site, falls, breaks, outside_alternation, outside_starts, settles, pays}
use Rattle.rulings.specs.Rulings.{goes_on}
use Rattle.rulings.specs.Pointers.{pointer_of, reads_bytes, word_read, byte_read}
use Rattle.local_rules.specs.LocalRules.{local_operation_rule, local_rule}
use Rattle.local_rules.specs.MemoryRules.{words_behind, with_fact_a}
use Rattle.local_rules.specs.WordRules.{number_in, constant_in, greater_source, equal_source}
use Rattle.local_rules.specs.WordRules.{result_source}
use Rattle.local_rules.specs.WordRules.{word_and_constant, test_of}
use Rattle.facts.specs.Rules.{rule, rule_of, instruction_rule, operation_rule}
use Rattle.occam_parser.specs.declared.tree.PairOperator.TheVariants as pair
use Rattle.scalar_ranges.specs.Entries.{Entry}
use Rattle.code_pieces.specs.declared.operations.TheConstants.{DIFFERENCE, GREATER, LOAD_BYTE, MINIMUM_INTEGER}
use Rattle.code_pieces.specs.Pieces.{Piece, Direct, operates, constant}
use Rattle.line_pieces.specs.Expressions.{Operand, both, comes_last, pushed, pushes_of, pair_code, negates}
use Rattle.line_pieces.specs.Expressions.{after_constant}
use Rattle.line_pieces.specs.Expressions.{next_above, next_below, on_constant, below_constant, negated_unless, loads_at}
use Rattle.placed_code.proofs.OperandsName.{operands_name}
use Rattle.placed_code.proofs.OperandsKeep.{by_next}
use Rattle.certified_lines.specs.StraightRules.{Setting, Told, Falls, FallOn, state_of}
use Rattle.certified_lines.specs.Instructions.{with_result}
use Rattle.certified_lines.specs.Scopes.{Scene, HoldsScope, IsScope}
use Rattle.certified_lines.specs.Telling.{StayBefore, IsQuiet, ComesFromNowhere, AreFromNowhere, AreAllowed, PushedFact}
use Rattle.certified_lines.specs.Telling.{IsFree, OperandTells}
use Rattle.certified_lines.specs.OperandLaws.{IsOnly}
use Rattle.certified_lines.proofs.StraightRules.{fall_both}
use Rattle.certified_lines.proofs.Numbers.{results_lie_in_ranges}
use Rattle.certified_lines.proofs.Operands.{both_tell, allowed_first, quiet_of}
use Rattle.certified_lines.proofs.Comparing.{greater_range, truths_ranged, zero_fits, above_fits, below_fits, only_fits}
use Rattle.certified_lines.proofs.Comparing.{either_differ, Compared, over_constant, under_constant, constant_allowed}
use Rattle.certified_lines.proofs.Comparing.{compared_told, compared_falls}
use Rattle.certified_lines.specs.TestLaws.{ShowsNothing}
use Rattle.certified_lines.proofs.Sources.{last_falls, one_falls, source_after, no_break, used}
use Rattle.word_arithmetic.specs.Range.{range_between, left_by}
use Rattle.states.specs.Frames.{with_alone}
use Rattle.local_rules.specs.WordRules.{narrowed_words, own_range, same}
use Rattle.certified_lines.specs.TestLaws.{QuietTruthsNarrowNothing}
use Rattle.states.specs.declared.known.WordFact.TheVariants.{Alone}
use Rattle.std.proofs.Common.{◌<◌}
use Rattle.std.proofs.lemmas.Int.{ints}

-- ---- what comes from nowhere

-- what ends with a piece from which that is left comes from nowhere
pub ends_nowhere : (g : Setting) (ps qs : List Piece) → ComesFromNowhere g qs → ComesFromNowhere g (ps ++ qs)
ends_nowhere g ps qs last s t x = let parts = last_falls ps x in last parts.0 t parts.1

settled : {A : Type 0} (r : Result A Rule) (rest : A → Ruling) (s : State) → settles r rest ≡ falls s
    → (x : A) × (rest x ≡ falls s)
unfolding settles
settled (Ok x) rest s is = (x, is)
settled (Err broken) rest s is = absurd (no_break broken s is)

passed : (b : Bool) (broken : Rule) (rest : Ruling) (s : State) → cond b rest (breaks broken) ≡ falls s
    → rest ≡ falls s
passed true broken rest s is = is
passed false broken rest s is = absurd (no_break broken s is)

-- the place of an instruction that takes nothing
abbrev free_site : Setting → Site
free_site g = record { contents = g.contents; at = 0; length = 0 }

-- a fact in A comes from nowhere
fact_nowhere : (g : Setting) (fact : Fact) (m : Told) (t : State)
    → with_fact_a (free_site g) fact (state_of g m 0) ≡ falls t → t.stack.a.source ≡ Nowhere
unfolding outside_alternation outside_starts goes_on pays source_after
fact_nowhere g fact m t is = sym (ap source_after is)

load_nowhere : (g : Setting) (v : ℤ) (s t : Told) → Falls g fun.LoadConstant v s t → t.stack.a.source ≡ Nowhere
unfolding rule rule_of instruction_rule local_rule instruction_of goes_on pays source_after
load_nowhere g v s t x = sym (ap source_after (x.falls 0 0 0 (omega arith)))

least_nowhere : (g : Setting) (s t : Told) → Falls g fun.Operate MINIMUM_INTEGER s t → t.stack.a.source ≡ Nowhere
unfolding rule rule_of instruction_rule operation_rule local_operation_rule instruction_of op_of outside_starts goes_on
    pays source_after
least_nowhere g s t x = sym (ap source_after (x.falls 0 0 0 (omega arith)))

constant_by : (g : Setting) (v : ℤ) (s t : Told) (least : Bool)
    → FallOn g (cond least (operates MINIMUM_INTEGER) (Direct fun.LoadConstant v) ∷ []) s t
    → t.stack.a.source ≡ Nowhere
constant_by g v s t true x = least_nowhere g s t (one_falls x)
constant_by g v s t false x = load_nowhere g v s t (one_falls x)

pub constants_come_from_nowhere : (g : Setting) (v : ℤ) → ComesFromNowhere g (constant v ∷ [])
constants_come_from_nowhere g v s t x = constant_by g v s t (int_eq v least_word) x

word_nowhere : (g : Setting) (e : ℤ) (s t : Told) → Falls g fun.LoadNonLocal e s t → t.stack.a.source ≡ Nowhere
unfolding rule rule_of instruction_rule local_rule instruction_of reads_bytes
word_nowhere g e s t x =
    let first = used s.stack.a _ (state_of g t 0) (x.falls 0 0 0 (omega arith)) in
    let pointer = settled (pointer_of s.stack.a.fact) _ (state_of g t 0) first in
    let further = settled (words_behind (pos 4 *ℤ e) pointer.0) _ (state_of g t 0) pointer.1 in
    fact_nowhere g (word_read g.contents (state_of g s 0) further.0.region further.0.lo further.0.hi) s (state_of g t 0)
    (passed (may_read_bytes g.contents g.context further.0.region further.0.lo (further.0.hi +ℤ pos 4)) rules.Pointer _
    (state_of g t 0) further.1)

byte_nowhere : (g : Setting) (s t : Told) → Falls g fun.Operate LOAD_BYTE s t → t.stack.a.source ≡ Nowhere
unfolding rule rule_of instruction_rule operation_rule local_operation_rule instruction_of op_of reads_bytes
byte_nowhere g s t x =
    let first = used s.stack.a _ (state_of g t 0) (x.falls 0 0 0 (omega arith)) in
    let pointer = settled (pointer_of s.stack.a.fact) _ (state_of g t 0) first in
    fact_nowhere g (byte_read (state_of g s 0) pointer.0.region pointer.0.lo pointer.0.hi) s (state_of g t 0)
    (passed (may_read_bytes g.contents g.context pointer.0.region pointer.0.lo (pointer.0.hi +ℤ pos 1)) rules.Pointer _
    (state_of g t 0) pointer.1)

pub words_come_from_nowhere : (g : Setting) (e : ℤ) → ComesFromNowhere g (loads_at e ∷ [])
words_come_from_nowhere g e s t x = word_nowhere g e s t (one_falls x)

pub bytes_come_from_nowhere : (g : Setting) → ComesFromNowhere g (operates LOAD_BYTE ∷ [])
bytes_come_from_nowhere g s t x = byte_nowhere g s t (one_falls x)

-- ---- comparisons

quiet_test : (t : ℕ) (word : ℤ) (o : Option Ends) → pos t ≤ℤ word → IsQuiet t (test_of word o)
quiet_test t word None up = tt
quiet_test t word (Some r) up = up

-- what a register and a constant show
found_quiet : (t : ℕ) (words : ℤ → Option Ends) (one other : Known) (rest : Source) → IsQuiet t one.source
    → IsQuiet t rest
    → IsQuiet t (elim (word_and_constant one other) as (λ o. Source) [
      | Some found ↦ test_of found.0 (words found.1)
      | None ↦ rest
    ])
found_quiet t words one other rest quiet then = by_source one.source (constant_in other.fact) quiet
  where
    by_source : (source : Source) (o : Option ℤ) → IsQuiet t source
        → IsQuiet t (elim (elim source as (λ s. Option (ℤ × ℤ)) [
          | From word ↦ option_map (λ v. (word, v)) o
          | _ ↦ None
        ]) as (λ o. Source) [ Some found ↦ test_of found.0 (words found.1) | None ↦ rest ])
    by_source Nowhere o quiet = then
    by_source (From word) None quiet = then
    by_source (From word) (Some v) quiet = quiet_test t word (words v) quiet
    by_source (Test word lo hi inside) o quiet = then

greater_quiet : (t : ℕ) (left right : Known) → IsQuiet t left.source → IsQuiet t right.source
    → IsQuiet t (greater_source left right)
unfolding greater_source
greater_quiet t left right l r =
    found_quiet t words_above left right _ l (found_quiet t words_below right left Nowhere r tt)

equal_quiet : (t : ℕ) (k : Known) (v : ℤ) → IsQuiet t k.source → IsQuiet t (equal_source k v)
unfolding equal_source
equal_quiet t k v quiet = by_source k.source quiet
  where
    by_zero : (b : Bool) (word lo hi : ℤ) (inside : Bool) → pos t ≤ℤ word
        → IsQuiet t (cond b (Test word lo hi (not inside)) Nowhere)
    by_zero true word lo hi inside up = up
    by_zero false word lo hi inside up = tt

    by_source : (source : Source) → IsQuiet t source
        → IsQuiet t (elim source as (λ s. Source) [
          | Nowhere ↦ Nowhere
          | From word ↦ Test word v v true
          | Test word lo hi inside ↦ cond (is_same_number v (pos 0)) (Test word lo hi (not inside)) Nowhere
        ])
    by_source Nowhere quiet = tt
    by_source (From word) quiet = quiet
    by_source (Test word lo hi inside) quiet = by_zero (is_same_number v (pos 0)) word lo hi inside quiet

negated_shows : (g : Setting) (ps : List Piece) (t : ℕ) (before : Told) → ShowsNothing g ps t before
    → ShowsNothing g (ps ++ negates ∷ []) t before
negated_shows g ps t before shown =
    let k = shown.after in
    record {
      after = compared_told (pos 0) k;
      falls = fall_both shown.falls (compared_falls g (pos 0) truths k shown.fact truths_ranged zero_fits);
      fact = refl;
      source = equal_quiet t k.stack.a (pos 0) shown.source;
      stay = shown.stay;
    }

-- behind a comparison
negated_behind : (g : Setting) (ps qs : List Piece) (t : ℕ) (before : Told) → ShowsNothing g (ps ++ qs) t before
    → ShowsNothing g (ps ++ (qs ++ negates ∷ [])) t before
negated_behind g ps qs t before shown =
    subst (λ (rs : List Piece). ShowsNothing g rs t before) (append_assoc ps qs (negates ∷ []))
    (negated_shows g (ps ++ qs) t before shown)

-- a comparison with a constant of an operand that comes from nowhere
told_from_nowhere : (g : Setting) (ps qs : List Piece) (t : ℕ) (leaf : Bool) (before : Told)
    → Compared g ps qs t leaf before → ComesFromNowhere g ps → ShowsNothing g qs t before
told_from_nowhere g ps qs t leaf before c calm =
    let told = c.told in
    let quiet = c.quiet calm in
    record {
      after = told.after;
      falls = told.falls;
      fact = told.a;
      source = subst (IsQuiet t) (sym c.source) (greater_quiet t c.left c.right quiet.0 quiet.1);
      stay = told.stay;
    }

module _ (g : Scene) (top t : ℕ) (es : List Entry) (scope : IsScope g top es) (low : top ≤ t) (few : IsFree t)
    (before : Told) (holds : HoldsScope g es before.frame) where
  -- whether the first one is greater
  greater_shows : (a b : Operand) (r s : Ends) → IsRange r → IsRange s → OperandTells g es t a r
      → OperandTells g es t b s → AreFromNowhere g.setting a b
      → AreAllowed g (both true (comes_last a.leaf b.small) t a b)
      → ShowsNothing g.setting (both true (comes_last a.leaf b.small) t a b ++ operates GREATER ∷ []) t before
  greater_shows a b r s x y push_a push_b calm all =
      let two = both_tell g top t es true a b r s before scope low few push_a push_b all holds in
      let k = two.after in
      let quiet = two.sources calm in
      record {
        after = with_result
            (record { fact = number_in truths; source = result_source binary.Greater k.stack.b k.stack.a }) k;
        falls = fall_both two.falls (results_lie_in_ranges g.setting GREATER binary.Greater r s truths k
            operands_name.greater (record { is = two.operands.0; range = x })
            (record { is = two.operands.1; range = y })
            (greater_range r s));
        fact = refl;
        source = greater_quiet t k.stack.b k.stack.a quiet.0 quiet.1;
        stay = two.stay;
      }

  -- whether they are equal
  equal_shows : (a b : Operand) (r s : Ends) → IsRange r → IsRange s → OperandTells g es t a r
      → OperandTells g es t b s → AreAllowed g (both false (comes_last a.leaf b.small) t a b)
      → ShowsNothing g.setting (both false (comes_last a.leaf b.small) t a b ++ operates DIFFERENCE ∷ negates ∷ []) t
      before
  equal_shows a b r s x y push_a push_b all =
      let two = both_tell g top t es false a b r s before scope low few push_a push_b all holds in
      let last = either_differ g.setting r s two.after x y two.operands in
      record {
        after = last.after;
        falls = fall_both two.falls last.falls;
        fact = last.a;
        source = quiet_of t last.after.stack.a.source last.source;
        stay = subst (λ (f : Facts). StayBefore t before.frame f) (sym last.frame) two.stay;
      }

  -- a number and a constant
  constant_shows : (ps : List Piece) (leaf small : Bool) (r : Ends) (c : ℤ) → IsRange r → FitsSigned w32 c
      → ComesFromNowhere g.setting ps → PushedFact g.setting ps t leaf small r before
      → ShowsNothing g.setting (ps ++ Direct fun.EqualsConstant c ∷ []) t before
  constant_shows ps leaf small r c x fits calm p =
      let k = p.after in
      record {
        after = compared_told c k;
        falls = fall_both p.falls (compared_falls g.setting c r k p.a x fits);
        fact = refl;
        source = equal_quiet t k.stack.a c (quiet_of t k.stack.a.source (calm before k p.falls));
        stay = p.stay;
      }

-- A comparison of two operands that come from nowhere, and may be constants.
module _ (g : Scene) (top t : ℕ) (es : List Entry) (scope : IsScope g top es) (low : top ≤ t) (few : IsFree t)
    (before : Told) (holds : HoldsScope g es before.frame) (a b : Operand) (r s : Ends) (x : IsRange r) (y : IsRange s)
    (push_a : OperandTells g es t a r) (push_b : OperandTells g es t b s)
    (calm : AreFromNowhere g.setting a b) (turned_calm : AreFromNowhere g.setting b a) where
  left_alone : AreAllowed g a.first → (k : Told) → k.frame ≡ before.frame
      → PushedFact g.setting a.first t a.leaf a.small r k
  left_alone all k same = push_a.first all k (subst (HoldsScope g es) (sym same) holds)

  abbrev first_second : List Piece
  first_second = both true (comes_last a.leaf b.small) t a b

  abbrev second_first : List Piece
  second_first = both true (comes_last b.leaf a.small) t b a

  in_order : AreAllowed g first_second → ShowsNothing g.setting (first_second ++ operates GREATER ∷ []) t before
  in_order all = greater_shows g top t es scope low few before holds a b r s x y push_a push_b calm all

  in_turn : AreAllowed g second_first → ShowsNothing g.setting (second_first ++ operates GREATER ∷ []) t before
  in_turn all = greater_shows g top t es scope low few before holds b a s r y x push_b push_a turned_calm all

  over : (c : ℤ) → FitsSigned w32 c
      → AreAllowed g (after_constant c a.small a.first ++ operates GREATER ∷ [])
      → ShowsNothing g.setting (after_constant c a.small a.first ++ operates GREATER ∷ []) t before
  over c fits all =
      told_from_nowhere g.setting a.first (after_constant c a.small a.first ++ operates GREATER ∷ []) t a.leaf before
      (over_constant g top t es scope low few before holds a.small a.first a.leaf r c x fits
      (left_alone (constant_allowed g c a.small a.first all))) calm.0

  under : (c : ℤ) → FitsSigned w32 c → AreAllowed g ((a.first ++ constant c ∷ []) ++ operates GREATER ∷ [])
      → ShowsNothing g.setting ((a.first ++ constant c ∷ []) ++ operates GREATER ∷ []) t before
  under c fits all =
      told_from_nowhere g.setting a.first ((a.first ++ constant c ∷ []) ++ operates GREATER ∷ []) t a.leaf before
      (under_constant g top t es scope low few before holds a.first a.leaf a.small r c x fits
      (left_alone (allowed_first g a.first (constant c ∷ [])
      (allowed_first g (a.first ++ constant c ∷ []) (operates GREATER ∷ []) all)) before refl)) calm.0

  abbrev Shows : Comparison → (first second : Option ℤ) → Type 0
  Shows op first second =
      AreAllowed g (pushed (pushes_of (pair.Comparison op) first second) t a b
      ++ pair_code (pair.Comparison op) first second)
      → ShowsNothing g.setting (pushed (pushes_of (pair.Comparison op) first second) t a b
      ++ pair_code (pair.Comparison op) first second) t before

  less : (first second : Option ℤ) → IsOnly second s → Shows comparison.Less first second
  less first None only all = in_turn (allowed_first g second_first (operates GREATER ∷ []) all)
  less first (Some c) only all = over c (only_fits c s y only) all

  -- with a constant that is next to the second operand, or with both operands
  abbrev NextShows : (Option ℤ → List Piece) → Option ℤ → Type 0
  NextShows operands o =
      let code : List Piece = operands o ++ operates GREATER ∷ negated_unless o in
      AreAllowed g code → ShowsNothing g.setting code t before

  -- the opposite of the comparison of both operands
  opposite : (code : List Piece) → (AreAllowed g code → ShowsNothing g.setting (code ++ operates GREATER ∷ []) t before)
      → AreAllowed g (code ++ operates GREATER ∷ negates ∷ [])
      → ShowsNothing g.setting (code ++ operates GREATER ∷ negates ∷ []) t before
  opposite code shows all =
      negated_behind g.setting code (operates GREATER ∷ []) t before
      (shows (allowed_first g code (operates GREATER ∷ negates ∷ []) all))

  equal : (first second : Option ℤ) → IsOnly first r → IsOnly second s → Shows comparison.Equal first second
  equal first (Some c) is only all =
      constant_shows g top t es scope low few before holds a.first a.leaf a.small r c x (only_fits c s y only) calm.0
      (left_alone (allowed_first g a.first (Direct fun.EqualsConstant c ∷ []) all) before refl)
  equal (Some c) None is only all =
      constant_shows g top t es scope low few before holds b.first b.leaf b.small s c y (only_fits c r x is) calm.1
      (push_b.first (allowed_first g b.first (Direct fun.EqualsConstant c ∷ []) all) before holds)
  equal None None is only all =
      equal_shows g top t es scope low few before holds a b r s x y push_a push_b
      (allowed_first g (both false (comes_last a.leaf b.small) t a b) (operates DIFFERENCE ∷ negates ∷ []) all)

  pub compared_shows : (op : Comparison) (first second : Option ℤ) → IsOnly first r → IsOnly second s
      → Shows op first second
  compared_shows comparison.Equal first second is only all = equal first second is only all
  compared_shows comparison.NotEqual first second is only all =
      let code : List Piece = pushed (pushes_of (pair.Comparison comparison.Equal) first second) t a b in
      let compares : List Piece = pair_code (pair.Comparison comparison.Equal) first second in
      negated_behind g.setting code compares t before
      (equal first second is only (allowed_first g (code ++ compares) (negates ∷ [])
      (subst (λ (rs : List Piece). AreAllowed g rs) (sym (append_assoc code compares (negates ∷ []))) all)))
  compared_shows comparison.Less first second is only all = less first second only all
  compared_shows comparison.LessOrEqual first second is only all =
      by_next next_above (λ o. IsOnly o s)
      (NextShows (λ o. pushed (on_constant (pushes_of (pair.Comparison comparison.Greater) None None) o) t a b)) refl
      (opposite first_second in_order) (λ c d is next all. over d (above_fits c d next) all) second only all
  compared_shows comparison.Greater first second is only all =
      in_order (allowed_first g first_second (operates GREATER ∷ []) all)
  compared_shows comparison.GreaterOrEqual first second is only all =
      by_next next_below (λ o. IsOnly o s)
      (NextShows (λ o. pushed (below_constant (pushes_of (pair.Comparison comparison.Less) None None) o) t a b)) refl
      (opposite second_first in_turn) (λ c d is next all. under d (below_fits c d next) all) second only all

-- ---- what it narrows

not_there : (t k : ℕ) (word : ℤ) → k < t → pos t ≤ℤ word → is_same_number (pos k) word ≡ false
not_there t k word before up = grind (arith, ints)

alone_stays : (t : ℕ) (word : ℤ) (fact : Fact) (f : Facts) → pos t ≤ℤ word → StayBefore t f (with_alone word fact f)
alone_stays t word fact f up k before whole =
    ap (λ (b : Bool). cond b (Alone fact) (f (pos k))) (not_there t k word before up)

narrowed_stays : (t : ℕ) (word : ℤ) (f : Facts) (left : Ends → Ends → Ends) (o p : Option Ends) → pos t ≤ℤ word
    → StayBefore t f (elim o as (λ o. Facts) [
      | None ↦ f
      | Some r ↦ elim p as (λ p. Facts) [ None ↦ f | Some other ↦ with_alone word (number_in (left r other)) f ]
    ])
narrowed_stays t word f left None p up = λ k before whole. refl
narrowed_stays t word f left (Some r) None up = λ k before whole. refl
narrowed_stays t word f left (Some r) (Some other) up = alone_stays t word (number_in (left r other)) f up

source_narrows : (t : ℕ) (source : Source) (holds : Bool) (f : Facts) → IsQuiet t source
    → StayBefore t f (narrowed_words source holds f)
unfolding narrowed_words
source_narrows t Nowhere holds f quiet = λ k before whole. refl
source_narrows t (From word) holds f quiet = λ k before whole. refl
source_narrows t (Test word lo hi inside) holds f quiet =
    narrowed_stays t word f (left_by (same inside holds)) (own_range (f word)) (range_between lo hi) quiet

pub quiet_truths_narrow_nothing : QuietTruthsNarrowNothing
quiet_truths_narrow_nothing t s holds quiet = source_narrows t s.stack.a.source holds s.frame quiet
