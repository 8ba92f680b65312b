-- The code of an expression pushes its number, and that of a condition 1 or 0.
use Rattle.std.proofs.Common.{◌≡◌, ℕ, ◌≤◌, ℤ, pos, Bool, true, false, ◌&&◌, cond, nat_le, List, [], ◌∷◌}
use Rattle.std.proofs.Common.{◌++◌, Option, Some, None, Ok}
use Rattle.std.proofs.Common.{refl, sym, ap, subst, ◌∙◌, arith}
use Rattle.std.specs.Prelude.{unwrap_or, option_and_then}
use Rattle.std.proofs.lemmas.Bool.{leb-true}
use Rattle.std.proofs.lemmas.List.{append-nil}
use Rattle.std.proofs.lemmas.Option.{same_Some}
use Rattle.word_arithmetic.specs.Word.{least_word, greatest_word, checked_sum}
use Rattle.word_arithmetic.specs.Word as word
use Rattle.occam_parser.specs.declared.tree.PrefixOperator.{PrefixOperator}
use Rattle.occam_parser.specs.declared.tree.PrefixOperator.TheVariants as prefix
use Rattle.occam_parser.specs.declared.tree.PairOperator.{PairOperator}
use Rattle.occam_parser.specs.declared.tree.PairOperator.TheVariants as pair
use Rattle.occam_parser.specs.declared.tree.ChainOperator.{ChainOperator}
use Rattle.occam_parser.specs.Expressions.{Expression, Alone, Prefixed, Paired, Chained, Terms, Two, Then, Term}
use Rattle.occam_parser.specs.Expressions.{Number, Byte, Truth, MostPos, MostNeg, Named, Element, Bracketed, Converted}
use Rattle.scalar_ranges.specs.declared.types.ExprType.{ExprType}
use Rattle.scalar_ranges.specs.declared.types.ExprType.TheVariants as types
use Rattle.scalar_ranges.specs.Bounds.{bound_of, bound_of_term, exact_value, named_bound}
use Rattle.scalar_ranges.specs.Entries.{Meaning, Constant, Scalar, Entry}
use Rattle.scalar_ranges.specs.Entries.{meaning_in}
use Rattle.scalar_ranges.specs.Environments.{Held, Nothing, One, Many, Environment, held_in, one_of, element_of, item_of}
use Rattle.scalar_ranges.specs.Fronts.{Front, count_of, front_in}
use Rattle.scalar_ranges.specs.Narrowing.{Tested, test_of}
use Rattle.scalar_ranges.specs.Types.{prefix_type, named_type}
use Rattle.scalar_ranges.specs.Values.{number_of, number_of_term, truth_of, truth_of_term, pair_value}
use Rattle.scalar_ranges.proofs.Lookups.{found_held}
use Rattle.scalar_ranges.proofs.Parts.{both_are}
use Rattle.program_meaning.specs.GoingWell.{IsTrueIn}
use Rattle.code_pieces.specs.Pieces.{Piece, constant, counted, word_after}
use Rattle.line_pieces.specs.Homes.{home_of}
use Rattle.line_pieces.specs.Actions.{forgets, may_show}
use Rattle.line_pieces.specs.Expressions.{constant_or, is_known, is_pushed, is_byte_reference, scalar_code, prefix_code}
use Rattle.line_pieces.specs.Expressions.{is_leaf, is_leaf_term, is_small, is_small_term, are_small, expression_code}
use Rattle.line_pieces.specs.Expressions.{term_code, terms_code, first_code, first_of_terms, covered, beside, pushed}
use Rattle.line_pieces.specs.Expressions.{pushes_of, pair_code}
use Rattle.placed_code.specs.StraightPieces as pieces
use Rattle.meant_lines.specs.Carrying.{Ground}
use Rattle.meant_lines.specs.Pushing.{Pushed, Pushes, IsCounted}
use Rattle.meant_lines.specs.OperatorLaws.{IsValue, prefixed_value}
use Rattle.meant_lines.specs.ChainLaws.{word_of_term, TermHolds, TermsHold, IsFrontHere}
use Rattle.meant_lines.specs.ChainLaws.{FrontHolds}
use Rattle.meant_lines.specs.ExpressionLaws.{IsChecked, NumbersArePushed, ConditionsArePushed}
use Rattle.meant_lines.specs.ExpressionLaws.{SubscriptsArePushed, TestsArePushed, IsReady, SubscriptPushes}
use Rattle.meant_lines.proofs.Arithmetic.{arithmetic_pushes}
use Rattle.meant_lines.proofs.Checking.{prefixed_part, paired_parts, two_parts, then_parts, converted_part}
use Rattle.meant_lines.proofs.Checking.{bracketed_part, element_part}
use Rattle.meant_lines.proofs.Comparisons.{comparisons_push, replaced}
use Rattle.meant_lines.proofs.Elements.{word_of_first, word_of_first_term, element_pushes, subscript_pushes}
use Rattle.meant_lines.proofs.Elements.{single_value}
use Rattle.meant_lines.proofs.Fronts.{IsExactHere, IsExactFront, fronts_are_exact, fronts_end}
use Rattle.meant_lines.proofs.Instructions.{constants_are_added}
use Rattle.meant_lines.proofs.Operators.{first_stand, both_true}
use Rattle.meant_lines.proofs.Prefixes.{prefixes_push}
use Rattle.meant_lines.proofs.Pushing.{constants_push, scalars_push}
use Rattle.meant_lines.proofs.WholeChains.{terms_push}
use Rattle.meant_lines.proofs.WordsKnown.{word_of, words_are_known, some_word, either_number, truth_word, negated_word}
use Rattle.meant_lines.proofs.WordsKnown.{turned_word, denied_word, compared_word, converted_word, chain_word}
use Rattle.meant_lines.proofs.WordsKnown.{exact_chain}

-- ---- constants and names

pushed_constant : (g : Ground) (t : ℕ) (leaf small : Bool) (c v : ℤ) (h : pieces.Held) → c ≡ v
    → Pushed g (constant c ∷ []) t leaf small v h
pushed_constant g t leaf small c v h same =
    subst (λ (u : ℤ). Pushed g (constant c ∷ []) t leaf small u h) same (constants_push g t leaf small c h)

module _ (g : Ground) (top : ℕ) (es : List Entry) (env : Environment) where
  -- the value of a constant in place of its code
  constant_or_pushes : (o : Option ℤ) (ps : List Piece) (t : ℕ) (leaf small : Bool) (v : ℤ) → IsValue o v
      → Pushes g top es env ps t leaf small v → Pushes g top es env (constant_or o ps) t leaf small v
  constant_or_pushes None ps t leaf small v value pushes = pushes
  constant_or_pushes (Some c) ps t leaf small v value pushes = λ stand h carries.
      pushed_constant g t leaf small c v h value

  -- it is one push, and the code is not
  constant_or_code : (o : Option ℤ) (ps : List Piece) (t : ℕ) (small : Bool) (v : ℤ) → IsValue o v
      → Pushes g top es env ps t false small v → Pushes g top es env (constant_or o ps) t (is_known o) small v
  constant_or_code None ps t small v value pushes = pushes
  constant_or_code (Some c) ps t small v value pushes = λ stand h carries. pushed_constant g t true small c v h value

  held_number : (h : Held) (v : ℤ) → one_of h ≡ Some v → h ≡ One v
  held_number Nothing v is = absurd (cc is)
  held_number (One u) v is = ap One (same_Some u v is)
  held_number (Many vs) v is = absurd (cc is)

  named_by : (m : Option Meaning) (name : List ℕ) (type : ExprType) (t : ℕ) (v : ℤ) → IsTrueIn es env
      → meaning_in name es ≡ m → named_type m ≡ Ok type → held_in name env ≡ One v
      → IsValue (exact_value (named_bound m)) v
      → Pushes g top es env (constant_or (exact_value (named_bound m))
      (scalar_code (is_byte_reference m) (home_of g.homes es name))) t (is_pushed m) true v
  named_by (Some (Scalar kind type range)) name u t v holds means is held value = λ stand h carries.
      scalars_push g top t es env name kind type range (is_byte_reference (Some (Scalar kind type range)))
      (is_pushed (Some (Scalar kind type range))) true v holds.meets means held h carries
  named_by (Some (Constant type (Some c))) name u t v holds means is held value = λ stand h carries.
      pushed_constant g t true true c v h value
  named_by (Some (Constant type None)) name u t v holds means is held value =
      absurd (found_held name es env (Constant type None) holds.meets means)
  named_by None name u t v holds means is held value = absurd (cc is)
  named_by (Some m) name u t v holds means is held value = absurd (cc is)

-- what A keeps is kept by less
first_small : (g : Ground) (top : ℕ) (es : List Entry) (env : Environment) (ps : List Piece) (t : ℕ)
    (leaf small last : Bool) (v : ℤ) → Pushes g top es env ps t leaf small v
    → Pushes g top es env ps t false (small && last) v
first_small g top es env ps t leaf small last v pushes stand h carries =
    let p = pushes stand h carries in
    record {
      after = p.after;
      leads = p.leads;
      a = p.a;
      changes = p.changes;
      below = λ is. p.below (both_true small last is).0;
      alone = λ is. absurd (cc is);
    }

nothing_more : (g : Ground) (ps : List Piece) (t : ℕ) (leaf small : Bool) (v : ℤ) (h : pieces.Held)
    → Pushed g ps t leaf small v h → Pushed g (ps ++ []) t false small v h
nothing_more g ps t leaf small v h p =
    subst (λ (qs : List Piece). Pushed g qs t false small v h) (sym (append-nil ps)) (record {
      after = p.after;
      leads = p.leads;
      a = p.a;
      changes = p.changes;
      below = p.below;
      alone = λ is. absurd (cc is);
    })

subscript_number : (f : ℤ → Option ℤ) (n : Option ℤ) (v : ℤ) → option_and_then f n ≡ Some v
    → (i : ℤ) × (n ≡ Some i)
subscript_number f None v is = absurd (cc is)
subscript_number f (Some i) v is = (i, refl)

-- ---- fronts

whole_front : (front : Option Front) (n : ℕ) (v : ℤ) → ((f : Front) → front ≡ Some f → f.operands ≤ n)
    → ((f : Front) → front ≡ Some f → f.operands ≡ n → f.value ≡ v) → unwrap_or (covered front n) v ≡ v
whole_front None n v ends same = refl
whole_front (Some f) n v ends same = by_test (nat_le n f.operands) refl
  where
    by_test : (t : Bool) → nat_le n f.operands ≡ t → unwrap_or (cond t (Some f.value) None) v ≡ v
    by_test false test = refl
    by_test true test =
        let far = leb-true n f.operands test in
        let near = ends f refl in
        same f refl (omega (arith, far, near))

module _ (es : List Entry) (env : Environment) (holds : IsTrueIn es env) (op : ChainOperator) (front : Option Front)
  where
    front_here : (ts : Terms) (type : ExprType) → IsChecked es (Chained op ts) type → IsExactHere es op front ts
        → IsFrontHere env op front ts
    front_here ts type c exact f is same = exact_chain es env op ts type f.value holds c (exact f is same)

    front_holds : (ts : Terms) (type : ExprType) → IsChecked es (Chained op ts) type → IsExactFront es op front ts
        → FrontHolds env op front ts
    front_holds (Two a b) type c exact = front_here (Two a b) type c exact
    front_holds (Then ts x) type c exact =
        let parts = then_parts es op ts x type c in
        (front_holds ts parts.0 parts.2 exact.0, front_here (Then ts x) type c exact.1)

    -- the whole chain
    front_last : (ts : Terms) (type : ExprType) → IsChecked es (Chained op ts) type → IsExactFront es op front ts
        → IsFrontHere env op front ts
    front_last (Two a b) type c exact = front_here (Two a b) type c exact
    front_last (Then ts x) type c exact = front_here (Then ts x) type c exact.1

-- ---- expressions

module _ (g : Ground) (top : ℕ) (es : List Entry) (env : Environment) (holds : IsTrueIn es env) where
  -- where words are free, in an expression of which nothing but its word is asked
  record HasRoom (t : ℕ) : Type 0 where
    low : top ≤ t
    few : IsCounted t

  next_free : (t : ℕ) → HasRoom t → HasRoom (word_after t 1)
  unfolding word_after counted
  next_free t free = record {
    low = let low = free.low in let few = free.few in omega (arith, low, few);
    few = omega arith;
  }

  abbrev TermGives : Term → ℕ → ℤ → Type 0
  TermGives x t v = Pushes g top es env (term_code g.homes es t x) t (is_leaf_term es x) (is_small_term es x) v

  abbrev Gives : Expression → ℕ → ℤ → Type 0
  Gives e t v = Pushes g top es env (expression_code g.homes es t e) t (is_leaf es e) (is_small es e) v

  -- a term pushes its word, wherever words are free
  abbrev TermIsPushed : Term → Type 0
  TermIsPushed x = (type : ExprType) (t : ℕ) (v : ℤ) → HasRoom t → IsChecked es (Alone x) type
      → word_of_term env x ≡ Some v → TermGives x t v

  known : (e : Expression) (type : ExprType) (v : ℤ) → IsChecked es e type → word_of env e ≡ Some v
      → IsValue (exact_value (bound_of es e)) v
  known e type v c is = (words_are_known es env e type v holds c is).known

  operand_holds : (x : Term) (type : ExprType) (t : ℕ) → HasRoom t → IsChecked es (Alone x) type → TermIsPushed x
      → TermHolds g top es env t x
  operand_holds x type t free c pushes v is =
      let facts = words_are_known es env (Alone x) type v holds c is in
      record {
        fits = facts.fits;
        pushes = record {
          first = pushes type t v free c is;
          second = pushes type (word_after t 1) v (next_free t free) c is;
        };
        known = facts.known;
      }

  -- ---- prefixes

  prefixed_word : (op : PrefixOperator) (x : Term) (type : ExprType) (v : ℤ) → IsChecked es (Prefixed op x) type
      → word_of env (Prefixed op x) ≡ Some v
      → (u : ℤ) × (word_of_term env x ≡ Some u) × (prefixed_value op u ≡ Some v)
  prefixed_word prefix.Negate x type v c is = negated_word (number_of_term env x) (truth_of_term env x) v is
  prefixed_word prefix.BitNot x type v c is = turned_word (number_of_term env x) (truth_of_term env x) v is
  prefixed_word prefix.Not x type v c is =
      let part = prefixed_part es prefix.Not x type c in
      let b = denied_word (truth_of_term env x) v is in (
        word.truth b.0,
        truth_word es env (Alone x) b.0 (part.1.type_is ∙ ap Ok (denied part.0 part.2)) b.1,
        b.2,
      )
    where
      denied : (s : ExprType) → prefix_type prefix.Not s ≡ Ok type → s ≡ types.Condition
      denied types.Condition is = refl
      denied types.Int is = absurd (cc is)
      denied types.Byte is = absurd (cc is)

  prefixed_pushes : (op : PrefixOperator) (x : Term) (type : ExprType) (t : ℕ) (v : ℤ) → HasRoom t
      → IsChecked es (Prefixed op x) type → word_of env (Prefixed op x) ≡ Some v → TermIsPushed x
      → Gives (Prefixed op x) t v
  prefixed_pushes op x type t v free c is pushes =
      let part = prefixed_part es op x type c in
      let u = prefixed_word op x type v c is in
      let fits = (words_are_known es env (Alone x) part.0 u.0 holds part.1 u.1).fits in
      constant_or_code g top es env (exact_value (bound_of es (Prefixed op x)))
      (term_code g.homes es t x ++ prefix_code op) t (is_small_term es x) v (known (Prefixed op x) type v c is)
      (λ stand h carries.
      prefixes_push g t op (term_code g.homes es t x) (is_leaf_term es x) (is_small_term es x) u.0 v h fits u.2
      (pushes part.0 t u.0 free part.1 u.1 (first_stand g (term_code g.homes es t x) (prefix_code op) stand) h carries))

  -- ---- operators between two

  paired_pushes : (op : PairOperator) (x y : Term) (type : ExprType) (t : ℕ) (v : ℤ) → HasRoom t
      → IsChecked es (Paired op x y) type → word_of env (Paired op x y) ≡ Some v → TermIsPushed x → TermIsPushed y
      → Pushes g top es env
      (pushed (pushes_of op (exact_value (bound_of_term es x)) (exact_value (bound_of_term es y))) t
      (beside es x (term_code g.homes es t x) (term_code g.homes es (word_after t 1) x))
      (beside es y (term_code g.homes es t y) (term_code g.homes es (word_after t 1) y))
      ++ pair_code op (exact_value (bound_of_term es x)) (exact_value (bound_of_term es y))) t false
      (is_small es (Paired op x y)) v
  paired_pushes (pair.Arithmetic op) x y type t v free c is push_x push_y stand h carries =
      let parts = paired_parts es (pair.Arithmetic op) x y type c in
      let p = both_are (number_of_term env x) (number_of_term env y) (pair_value op) v
      (either_number (number_of env (Paired (pair.Arithmetic op) x y)) v is) in
      let first = operand_holds x parts.0 t free parts.2 push_x p.0
      (some_word (number_of_term env x) (truth_of_term env x) p.0 p.2) in
      let second = operand_holds y parts.1 t free parts.3 push_y p.1
      (some_word (number_of_term env y) (truth_of_term env y) p.1 p.3) in
      arithmetic_pushes g top t es env op
      (beside es x (term_code g.homes es t x) (term_code g.homes es (word_after t 1) x))
      (beside es y (term_code g.homes es t y) (term_code g.homes es (word_after t 1) y))
      (exact_value (bound_of_term es x)) (exact_value (bound_of_term es y)) p.0 p.1 v h holds.meets free.low free.few
      first.fits second.fits first.pushes second.pushes second.known p.4 stand carries
  paired_pushes (pair.Comparison op) x y type t v free c is push_x push_y stand h carries =
      let parts = paired_parts es (pair.Comparison op) x y type c in
      let p = compared_word op (number_of_term env x) (number_of_term env y) v is in
      let first = operand_holds x parts.0 t free parts.2 push_x p.0
      (some_word (number_of_term env x) (truth_of_term env x) p.0 p.2) in
      let second = operand_holds y parts.1 t free parts.3 push_y p.1
      (some_word (number_of_term env y) (truth_of_term env y) p.1 p.3) in
      let a = beside es x (term_code g.homes es t x) (term_code g.homes es (word_after t 1) x) in
      let b = beside es y (term_code g.homes es t y) (term_code g.homes es (word_after t 1) y) in
      let k = exact_value (bound_of_term es x) in
      let l = exact_value (bound_of_term es y) in
      subst (λ (u : ℤ). Pushed g (pushed (pushes_of (pair.Comparison op) k l) t a b
      ++ pair_code (pair.Comparison op) k l) t false (is_small es (Paired (pair.Comparison op) x y)) u h) p.4
      (comparisons_push g top t es env op a b k l p.0 p.1 h holds.meets free.low free.few first.fits second.fits
      first.pushes second.pushes first.known second.known stand carries)

  -- ---- chains

  chained_pushes : (op : ChainOperator) (ts : Terms) (type : ExprType) (t : ℕ) (v : ℤ) → HasRoom t
      → IsChecked es (Chained op ts) type → word_of env (Chained op ts) ≡ Some v → TermsHold g top es env t ts
      → Gives (Chained op ts) t v
  chained_pushes op ts type t v free c is hold =
      let front : Option Front = front_in es op ts in
      let exact = fronts_are_exact es op ts in
      let whole = chain_word es env op ts type v c is in
      let value : unwrap_or (covered front (count_of ts)) v ≡ v =
      whole_front front (count_of ts) v (fronts_end es op ts)
      (λ f same long. same_Some f.value v (sym (front_last es env holds op front ts type c exact f same long) ∙ whole)) in
      let chain = terms_push g top t es env op front ts v holds.meets free.low free.few hold
      (front_holds es env holds op front ts type c exact) whole in
      constant_or_code g top es env (exact_value (bound_of es (Chained op ts))) (terms_code g.homes es t op front ts) t
      (are_small es ts) v (known (Chained op ts) type v c is)
      (subst (λ (u : ℤ). Pushes g top es env (terms_code g.homes es t op front ts) t false (are_small es ts) u) value
      chain.1)

  -- ---- the induction

  mutual
    expression_pushes : (e : Expression) (type : ExprType) (t : ℕ) (v : ℤ) → HasRoom t → IsChecked es e type
        → word_of env e ≡ Some v → Gives e t v
    expression_pushes (Alone x) type t v free c is =
        constant_or_pushes g top es env (exact_value (bound_of es (Alone x))) (term_code g.homes es t x) t
        (is_leaf_term es x) (is_small_term es x) v (known (Alone x) type v c is) (term_pushes x type t v free c is)
    expression_pushes (Prefixed op x) type t v free c is =
        prefixed_pushes op x type t v free c is (term_pushes x)
    expression_pushes (Paired op x y) type t v free c is =
        constant_or_code g top es env (exact_value (bound_of es (Paired op x y)))
        (pushed (pushes_of op (exact_value (bound_of_term es x)) (exact_value (bound_of_term es y))) t
        (beside es x (term_code g.homes es t x) (term_code g.homes es (word_after t 1) x))
        (beside es y (term_code g.homes es t y) (term_code g.homes es (word_after t 1) y))
        ++ pair_code op (exact_value (bound_of_term es x)) (exact_value (bound_of_term es y))) t
        (is_small es (Paired op x y)) v (known (Paired op x y) type v c is)
        (paired_pushes op x y type t v free c is (term_pushes x) (term_pushes y))
    expression_pushes (Chained op ts) type t v free c is =
        chained_pushes op ts type t v free c is (operands_hold ts op type t free c)

    -- the first operand of a chain
    first_pushes : (e : Expression) (type : ExprType) (t : ℕ) (v : ℤ) → HasRoom t → IsChecked es e type
        → word_of_first env e ≡ Some v
        → Pushes g top es env (first_code g.homes es t e) t false (is_small es e) v
    first_pushes (Chained op ts) type t v free c is = first_operand_pushes ts op type t v free c is
    first_pushes (Alone x) type t v free c is = absurd (cc is)
    first_pushes (Prefixed op x) type t v free c is = absurd (cc is)
    first_pushes (Paired op x y) type t v free c is = absurd (cc is)

    first_operand_pushes : (ts : Terms) (op : ChainOperator) (type : ExprType) (t : ℕ) (v : ℤ) → HasRoom t
        → IsChecked es (Chained op ts) type → word_of_first_term env ts ≡ Some v
        → Pushes g top es env (first_of_terms g.homes es t ts) t false (are_small es ts) v
    first_operand_pushes (Two x y) op type t v free c is =
        let parts = two_parts es op x y type c in
        let pushes = term_pushes x parts.0 t v free parts.2 is in
        first_small g top es env (term_code g.homes es t x) t (is_leaf_term es x) (is_small_term es x)
        (is_leaf_term es y) v pushes
    first_operand_pushes (Then ts x) op type t v free c is = absurd (cc is)

    operands_hold : (ts : Terms) (op : ChainOperator) (type : ExprType) (t : ℕ) → HasRoom t
        → IsChecked es (Chained op ts) type → TermsHold g top es env t ts
    operands_hold (Two x y) op type t free c =
        let parts = two_parts es op x y type c in (
          operand_holds x parts.0 t free parts.2 (term_pushes x),
          operand_holds y parts.1 t free parts.3 (term_pushes y),
        )
    operands_hold (Then ts y) op type t free c =
        let parts = then_parts es op ts y type c in
        (operands_hold ts op parts.0 t free parts.2, operand_holds y parts.1 t free parts.3 (term_pushes y))

    term_pushes : (x : Term) (type : ExprType) (t : ℕ) (v : ℤ) → HasRoom t → IsChecked es (Alone x) type
        → word_of_term env x ≡ Some v → TermGives x t v
    term_pushes (Number value) type t v free c is = λ stand h carries.
        pushed_constant g t true true value v h (same_Some value v is)
    term_pushes (Byte byte) type t v free c is = λ stand h carries.
        pushed_constant g t true true (pos byte) v h (same_Some (pos byte) v is)
    term_pushes (Truth true) type t v free c is = λ stand h carries.
        pushed_constant g t true true (pos 1) v h (same_Some (pos 1) v is)
    term_pushes (Truth false) type t v free c is = λ stand h carries.
        pushed_constant g t true true (pos 0) v h (same_Some (pos 0) v is)
    term_pushes MostPos type t v free c is = λ stand h carries.
        pushed_constant g t true true greatest_word v h (same_Some greatest_word v is)
    term_pushes MostNeg type t v free c is = λ stand h carries.
        pushed_constant g t true true least_word v h (same_Some least_word v is)
    term_pushes (Named name) type t v free c is =
        named_by g top es env (meaning_in name es) name type t v holds refl c.type_is
        (held_number g top es env (held_in name env) v (either_number (one_of (held_in name env)) v is))
        (known (Alone (Named name)) type v c is)
    term_pushes (Element name e) type t v free c is =
        let part = element_part es name e type c in
        let value = either_number (number_of env (Alone (Element name e))) v is in
        let i = subscript_number (element_of (held_in name env)) (number_of env e) v value in
        element_pushes g top t es env holds free.low e i.0 v part.0 i.1
        (expression_pushes e types.Int t i.0 free part.0 (some_word (number_of env e) (truth_of env e) i.0 i.1))
        (λ x first. first_pushes e types.Int t x free part.0 first) name type c value
    term_pushes (Bracketed e) type t v free c is =
        expression_pushes e type t v free (bracketed_part es e type c) is
    term_pushes (Converted to x) type t v free c is =
        let part = converted_part es to x type c in
        term_pushes x part.0 t v free part.1
        (converted_word to (number_of_term env x) (truth_of_term env x) v is)

pub numbers_are_pushed : NumbersArePushed
numbers_are_pushed g top t es env e type v at c is =
    let word = some_word (number_of env e) (truth_of env e) v is in (
      (words_are_known es env e type v at.holds c word).fits,
      expression_pushes g top es env at.holds e type t v (record { low = at.free; few = at.counted }) c word,
    )

pub conditions_are_pushed : ConditionsArePushed
conditions_are_pushed g top t es env e b at c is =
    expression_pushes g top es env at.holds e types.Condition t (word.truth b)
    (record { low = at.free; few = at.counted }) c (truth_word es env e b c.type_is is)

-- ---- tests

zero_added : (b : Bool) → checked_sum (word.truth b) (pos 0) ≡ Some (word.truth b)
zero_added true = refl
zero_added false = refl

-- what is pushed stays where 0 is added, or nothing
forgotten : (g : Ground) (top : ℕ) (es : List Entry) (env : Environment) (shows : Bool) (test : Option Tested)
    (ps : List Piece) (t : ℕ) (leaf small b : Bool) → Pushes g top es env ps t leaf small (word.truth b)
    → Pushes g top es env (ps ++ forgets shows test) t false small (word.truth b)
forgotten g top es env true None ps t leaf small b pushes stand h carries =
    let code : List Piece = forgets true None in
    let p = pushes (first_stand g ps code stand) h carries in
    replaced g ps code t leaf small (word.truth b) (word.truth b) h p
    (constants_are_added g.footing (pos 0) (word.truth b) p.after
    (ap (λ (u : ℤ). checked_sum u (pos 0)) p.a ∙ zero_added b))
forgotten g top es env true (Some test) ps t leaf small b pushes stand h carries =
    nothing_more g ps t leaf small (word.truth b) h (pushes (first_stand g ps [] stand) h carries)
forgotten g top es env false test ps t leaf small b pushes stand h carries =
    nothing_more g ps t leaf small (word.truth b) h (pushes (first_stand g ps [] stand) h carries)

pub tests_are_pushed : TestsArePushed
tests_are_pushed g top t es env e b at c is =
    forgotten g top es env (may_show es e) (test_of es e) (expression_code g.homes es t e) t (is_leaf es e)
    (is_small es e) b (conditions_are_pushed g top t es env e b at c is)

-- ---- subscripts

subscripts_pushed : (g : Ground) (top t : ℕ) (es : List Entry) (env : Environment) (e : Expression) (i v : ℤ)
    (vs : List ℤ) → IsReady top es env t → IsChecked es e types.Int → number_of env e ≡ Some i → item_of vs i ≡ Some v
    → SubscriptPushes g top es env t e vs v
subscripts_pushed g top t es env e i v vs at c is item =
    subscript_pushes g top t es env at.holds at.free e i v c is
    (expression_pushes g top es env at.holds e types.Int t i (record { low = at.free; few = at.counted }) c
    (some_word (number_of env e) (truth_of env e) i is))
    (λ x first. first_pushes g top es env at.holds e types.Int t x (record { low = at.free; few = at.counted }) c first)
    vs item

pub subscripts_are_pushed : SubscriptsArePushed
subscripts_are_pushed = record { pushed = subscripts_pushed; single = single_value }
