-- What the code of chains leaves known.
use Rattle.std.proofs.Common.{◌≡◌, ℕ, ◌+◌, ◌≤◌, ℤ, Bool, true, false, ◌&&◌, ◌||◌, cond, List, [], ◌∷◌, ◌++◌}
use Rattle.std.proofs.Common.{Option, Some, None, FitsSigned, refl, sym, ap, subst, ◌∙◌, append_assoc}
use Rattle.std.specs.Prelude.{unwrap_or}
use Rattle.std.specs.Int.{w32}
use Rattle.std.specs.Ordering.{int_eq}
use Rattle.std.proofs.lemmas.List.{append-nil}
use Rattle.std.proofs.lemmas.Bool.{and_parts}
use Rattle.word_arithmetic.specs.Word.{least_word}
use Rattle.word_arithmetic.specs.Range as ranges
use Rattle.word_arithmetic.specs.Range.{Ends, IsRange, full, product_range, word_sum_range, word_product_range}
use Rattle.word_arithmetic.specs.Range.{and_range}
use Rattle.word_arithmetic.specs.Range.{or_range, xor_range}
use Rattle.word_arithmetic.specs.Binary.{result_range}
use Rattle.word_arithmetic.specs.declared.binary.Binary.{Binary}
use Rattle.word_arithmetic.specs.declared.binary.Binary.TheVariants as binary
use Rattle.machine_state.specs.Instructions.{op_of}
use Rattle.prefix_decoder.specs.declared.function.Fun.TheVariants as fun
use Rattle.occam_parser.specs.declared.tree.ChainOperator.{ChainOperator}
use Rattle.occam_parser.specs.declared.tree.ChainOperator.TheVariants as chain
use Rattle.occam_parser.specs.declared.tree.ArithmeticChain.TheVariants as arithmetic_chain
use Rattle.occam_parser.specs.declared.tree.Logic.TheVariants as logic
use Rattle.occam_parser.specs.Expressions.{Terms, Term}
use Rattle.states.specs.State.{known}
use Rattle.local_rules.specs.WordRules.{number_in}
use Rattle.scalar_ranges.specs.Bounds.{bound_of_term, exact_value}
use Rattle.scalar_ranges.specs.Entries.{Entry}
use Rattle.scalar_ranges.specs.Fronts.{Front, count_of}
use Rattle.code_pieces.specs.Pieces.{Piece, Direct, operates, word_after}
use Rattle.line_pieces.specs.Expressions.{Operand, beside, term_code, terms_code, covered, are_small, is_small_term}
use Rattle.line_pieces.specs.Expressions.{is_leaf_term, constant_or, first_two, joined, unless, is_known, added_by}
use Rattle.line_pieces.specs.Expressions.{adds_or, onto, chain_operation}
use Rattle.placed_code.specs.OperandsName.{IsBinary}
use Rattle.placed_code.proofs.OperandsKeep.{kept_of}
use Rattle.placed_code.proofs.ChainsOperate.{word_operation, commutes, chains_commute}
use Rattle.placed_code.proofs.FrontsCover.{covered_before, whole_or_uncovered}
use Rattle.certified_lines.specs.StraightRules.{Told}
use Rattle.certified_lines.specs.Instructions.{with_a}
use Rattle.certified_lines.specs.Scopes.{Scene, HoldsScope, IsScope}
use Rattle.certified_lines.specs.Telling.{ComesFromNowhere}
use Rattle.certified_lines.specs.Telling.{AreAllowed, PushedFact, PushedBoth, Tells, IsFree, OperandTells, keeps}
use Rattle.certified_lines.specs.OperandLaws.{IsOnly, chain_range, FirstTwoTell, OneMoreTells}
use Rattle.certified_lines.specs.ChainLaws.{TermTells, IsFrontOf, TermsRange, two, then_one, front_or, TermsTell}
use Rattle.certified_lines.proofs.StraightRules.{fall_both}
use Rattle.certified_lines.proofs.Numbers.{sums_lie_in_ranges}
use Rattle.certified_lines.proofs.Ranges.{sums_turned, products_turned, and_ranges_turned, or_ranges_turned}
use Rattle.certified_lines.proofs.Ranges.{xor_ranges_turned}
use Rattle.certified_lines.proofs.Telling.{constants_tell}
use Rattle.certified_lines.proofs.Operands.{operations_tell, operation_behind, on_it, waiting, allowed_first, keeps_a}
use Rattle.certified_lines.proofs.Arithmetic.{fewer_kept, sum_tells}
use Rattle.certified_lines.proofs.Arithmetic.{first_of}

-- ---- operations

-- the operation of words that an operator is, whose results have the range in either order
pub record IsOperation (op : ChainOperator) (r s q : Ends) : Type 0 where
  pub operation : Binary
  pub named : IsBinary (chain_operation op) operation
  pub gives : result_range operation r s ≡ Some q
  pub turned : result_range operation s r ≡ Some q

turned_range : (op : Binary) (r s : Ends) → commutes op ≡ true → result_range op s r ≡ result_range op r s
unfolding result_range
turned_range binary.Add r s is = sums_turned r s
turned_range binary.Sum r s is = ap (λ (o : Option Ends). Some (unwrap_or o full)) (sums_turned r s)
turned_range binary.Product r s is = ap (λ (o : Option Ends). Some (unwrap_or o full)) (products_turned r s)
turned_range binary.And r s is = ap Some (and_ranges_turned r s)
turned_range binary.Or r s is = ap Some (or_ranges_turned r s)
turned_range binary.ExclusiveOr r s is = ap Some (xor_ranges_turned r s)
turned_range op r s is = absurd (cc)

-- a product in a range is the one modulo 2^32
words_lie : (op : ChainOperator) (r s q : Ends) → chain_range op r s ≡ Some q
    → result_range (word_operation op) r s ≡ Some q
unfolding result_range
words_lie (chain.Arithmetic arithmetic_chain.Multiply) r s q gives =
    ap (λ (o : Option Ends). Some (unwrap_or o full)) gives
words_lie (chain.Logic logic.And) r s q gives = gives
words_lie op r s q gives = gives

named_in_chains : (op : ChainOperator) → IsBinary (chain_operation op) (word_operation op)
unfolding op_of
named_in_chains (chain.Arithmetic arithmetic_chain.Add) = refl
named_in_chains (chain.Logic logic.And) = refl
named_in_chains op = refl

pub chains_operate : (op : ChainOperator) (r s q : Ends) → chain_range op r s ≡ Some q → IsOperation op r s q
chains_operate op r s q gives =
    let lies = words_lie op r s q gives in
    record {
      operation = word_operation op;
      named = named_in_chains op;
      gives = lies;
      turned = turned_range (word_operation op) r s (chains_commute op) ∙ lies;
    }

-- ---- the constant that is added

-- a constant is added by `+` alone
added_range : (op : ChainOperator) (constant : Option ℤ) (d : ℤ) (r s q : Ends) → added_by op constant ≡ Some d
    → IsRange s → IsOnly constant s → chain_range op r s ≡ Some q
    → FitsSigned w32 d × (result_range binary.Add r (ranges.constant d) ≡ Some q)
added_range (chain.Arithmetic arithmetic_chain.Add) (Some c) d r s q is y only gives =
    let same : s ≡ ranges.constant d = only ∙ ap ranges.constant (by_test (int_eq c least_word) c d is) in (
      subst (FitsSigned w32) (ap (λ (e : Ends). e.lo) same) y.lo_fits,
      subst (λ (e : Ends). result_range binary.Add r e ≡ Some q) same gives,
    )
  where
    by_test : (t : Bool) (c d : ℤ) → cond t None (Some c) ≡ Some d → c ≡ d
    by_test true c d is = absurd (cc)
    by_test false c d is = cc
added_range op constant d r s q is y only gives = absurd (cc)

-- ---- the first two operands

module _ (g : Scene) (top t : ℕ) (es : List Entry) (r s q : Ends) (before : Told) (scope : IsScope g top es)
    (low : top ≤ t) (few : IsFree t) (x : IsRange r) (y : IsRange s) (holds : HoldsScope g es before.frame) where
  first_by : (o : Option ℤ) (op : ChainOperator) (constant : Option ℤ) (a b : Operand) → added_by op constant ≡ o
      → OperandTells g es t a r → OperandTells g es t b s → IsOnly constant s → chain_range op r s ≡ Some q
      → AreAllowed g (first_two t op o a b)
      → PushedFact g.setting (first_two t op o a b) t false (a.small && b.leaf) q before
  first_by None op constant a b is push_a push_b only gives all =
      let operation = chains_operate op r s q gives in
      fewer_kept g.setting (first_two t op None a b) t (a.small && b.leaf) (keeps a b) q before
      (kept_of a.small a.leaf b.leaf)
      (operations_tell g top t es false a b (chain_operation op) operation.operation r s q before scope low few x y
      push_a push_b operation.named operation.gives (λ no. operation.turned) all holds)
  first_by (Some d) op constant a b is push_a push_b only gives all =
      let added = added_range op constant d r s q is y only gives in
      sum_tells g top t es a b r s q before scope low few x y push_a push_b holds d added.0 added.1 all

  -- the next operand is pushed on what is in A
  onto_by : (lx sx leaf small : Bool) (ps right : List Piece) → Tells g es ps t lx sx r
      → Tells g es right (word_after t 1) leaf small s → AreAllowed g (ps ++ onto false t small right)
      → PushedBoth g.setting (ps ++ onto false t small right) t false ((sx || lx) && leaf)
      (ComesFromNowhere g.setting ps × ComesFromNowhere g.setting right) r s before
  onto_by lx sx leaf true ps right first second all =
      on_it g top t es scope low few false r s ps right lx sx leaf true before holds first second refl all
  onto_by lx sx leaf false ps right first second all =
      waiting g top t es scope low few false r s ps right lx sx leaf false before holds first second all

  one_more_by : (o : Option ℤ) (op : ChainOperator) (constant : Option ℤ) (lx sx leaf small : Bool)
      (ps right : List Piece) → added_by op constant ≡ o → Tells g es ps t lx sx r
      → Tells g es right (word_after t 1) leaf small s → IsOnly constant s → chain_range op r s ≡ Some q
      → AreAllowed g (ps ++ adds_or o (onto false t small right ++ operates (chain_operation op) ∷ []))
      → PushedFact g.setting (ps ++ adds_or o (onto false t small right ++ operates (chain_operation op) ∷ [])) t false
      ((sx || lx) && leaf) q before
  one_more_by None op constant lx sx leaf small ps right is first second only gives all =
      let operation = chains_operate op r s q gives in
      let last : List Piece = operates (chain_operation op) ∷ [] in
      let same = append_assoc ps (onto false t small right) last in
      subst (λ (code : List Piece). PushedFact g.setting code t false ((sx || lx) && leaf) q before) same
      (operation_behind g.setting (ps ++ onto false t small right) t false ((sx || lx) && leaf)
      (ComesFromNowhere g.setting ps × ComesFromNowhere g.setting right) (chain_operation op)
      operation.operation r s q before x y operation.named operation.gives (λ no. operation.turned)
      (onto_by lx sx leaf small ps right first second (allowed_first g (ps ++ onto false t small right) last
      (subst (λ (code : List Piece). AreAllowed g code) (sym same) all))))
  one_more_by (Some d) op constant lx sx leaf small ps right is first second only gives all =
      let added = added_range op constant d r s q is y only gives in
      let p = first (allowed_first g ps (Direct fun.AddConstant d ∷ []) all) before holds in
      record {
        after = with_a (known (number_in q)) p.after;
        falls = fall_both p.falls
            (sums_lie_in_ranges g.setting d r q p.after (record { is = p.a; range = x }) added.0 added.1);
        a = refl;
        stay = p.stay;
        below = λ is. keeps_a g.setting ps t lx sx r before p (and_parts (sx || lx) leaf is).0;
        alone = λ is. absurd (cc is);
      }

pub first_two_tell : FirstTwoTell
first_two_tell g top t es op a b constant r s q before scope low few x y push_a push_b only gives all holds =
    first_by g top t es r s q before scope low few x y holds (added_by op constant) op constant a b refl push_a push_b
    only gives all

pub one_more_tells : OneMoreTells
one_more_tells g top t es op ps right lx sx leaf small constant r s q before scope low few x y first second only gives
    all holds =
    one_more_by g top t es r s q before scope low few x y holds (added_by op constant) op constant lx sx leaf small ps
    right refl first second only gives all

-- ---- fronts

still_covered : (front : Option Front) (n : ℕ) (c : ℤ) → covered front (n + 1) ≡ Some c → covered front n ≡ Some c
still_covered None n c is = is
still_covered (Some front) n c is = covered_before front n c is

front_ends : (front : Option Front) (n : ℕ) (r : Ends) → covered front (n + 1) ≡ None
    → ((f : Front) → front ≡ Some f → f.operands ≡ n → r ≡ ranges.constant f.value)
    → front_or (covered front n) r ≡ r
front_ends None n r is same = refl
front_ends (Some f) n r is same =
    whole_or_uncovered (λ o. front_or o r) f n is (λ whole. sym (same f refl whole))

here_of : {g : Scene} {es : List Entry} {t : ℕ} {op : ChainOperator} {front : Option Front} {ts : Terms} {r : Ends}
    → TermsRange g es t op front ts r → IsFrontOf front ts r
here_of (two a b ranged gives is) = is
here_of (then_one before x ranged gives is) = is

-- ---- whole chains

module _ (g : Scene) (top t : ℕ) (es : List Entry) (op : ChainOperator) (front : Option Front)
    (scope : IsScope g top es) (low : top ≤ t) (few : IsFree t) where
  abbrev operand : Term → Operand
  operand x = beside es x (term_code g.homes es t x) (term_code g.homes es (word_after t 1) x)

  abbrev Gives : Terms → Ends → Type 0
  Gives ts r =
      IsRange r × Tells g es (terms_code g.homes es t op front ts) t false (are_small es ts)
      (front_or (covered front (count_of ts)) r)

  first_of_two : (o : Option ℤ) (a b : Term) (r s q : Ends) → TermTells g es t a r → TermTells g es t b s
      → (o ≡ None → chain_range op r s ≡ Some q)
      → Tells g es (constant_or o (first_two t op (added_by op (exact_value (bound_of_term es b))) (operand a)
      (operand b))) t false (is_small_term es a && is_leaf_term es b) (front_or o q)
  first_of_two (Some c) a b r s q first second gives all before holds =
      constants_tell g.setting t false (is_small_term es a && is_leaf_term es b) c before
  first_of_two None a b r s q first second gives all before holds =
      first_two_tell g top t es op (operand a) (operand b) (exact_value (bound_of_term es b)) r s q before scope low few
      first.ranged second.ranged first.tells second.tells second.only (gives refl) all holds

  more_by : (o : Option ℤ) (ts : Terms) (x : Term) (r s q : Ends) → covered front (count_of ts + 1) ≡ o
      → IsFrontOf front ts r → Gives ts r → TermTells g es t x s → (o ≡ None → chain_range op r s ≡ Some q)
      → Tells g es (terms_code g.homes es t op front ts ++ unless (is_known o)
      (joined t op (exact_value (bound_of_term es x)) (is_small_term es x) (term_code g.homes es (word_after t 1) x))) t
      false (are_small es ts && is_leaf_term es x) (front_or o q)
  more_by (Some c) ts x r s q is here before second gives =
      let code : List Piece = terms_code g.homes es t op front ts in
      subst (λ (ps : List Piece). Tells g es ps t false (are_small es ts && is_leaf_term es x) (ranges.constant c))
      (sym (append-nil code))
      (λ all told holds.
      fewer_kept g.setting code t (are_small es ts && is_leaf_term es x) (are_small es ts) (ranges.constant c) told
      (first_of (are_small es ts) (is_leaf_term es x))
      (subst (λ (e : Ends). PushedFact g.setting code t false (are_small es ts) e told)
      (ap (λ (o : Option ℤ). front_or o r) (still_covered front (count_of ts) c is)) (before.1 all told holds)))
  more_by None ts x r s q is here before second gives =
      let code : List Piece = terms_code g.homes es t op front ts in
      let range = front_ends front (count_of ts) r is (λ f same many. here f same many) in
      let tells : Tells g es code t false (are_small es ts) r =
      subst (λ (e : Ends). Tells g es code t false (are_small es ts) e) range before.1 in
      (λ all told holds.
      fewer_kept g.setting (code ++ joined t op (exact_value (bound_of_term es x)) (is_small_term es x)
      (term_code g.homes es (word_after t 1) x)) t (are_small es ts && is_leaf_term es x)
      ((are_small es ts || false) && is_leaf_term es x) q told (kept_of (are_small es ts) false (is_leaf_term es x))
      (one_more_tells g top t es op code (term_code g.homes es (word_after t 1) x) false (are_small es ts)
      (is_leaf_term es x) (is_small_term es x) (exact_value (bound_of_term es x)) r s q told scope low few before.0
      second.ranged tells second.tells.second second.only (gives refl) all holds))

  chain_gives : {ts : Terms} {r : Ends} → TermsRange g es t op front ts r → Gives ts r
  chain_gives (two {a} {b} {r} {s} {q} first second ranged gives is) =
      (ranged, first_of_two (covered front 2) a b r s q first second gives)
  chain_gives (then_one {ts} {x} {r} {s} {q} before second ranged gives is) = (
    ranged,
    more_by (covered front (count_of ts + 1)) ts x r s q refl (here_of before) (chain_gives before) second gives,
  )

pub terms_tell : TermsTell
terms_tell g top t es op front ts r scope low few range = chain_gives g top t es op front scope low few range
