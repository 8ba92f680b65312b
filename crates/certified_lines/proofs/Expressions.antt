-- What the code of whole expressions leaves known.
use Rattle.std.proofs.Common.{◌≡◌, ℕ, ◌≤◌, inl, inr, ℤ, Bool, false, ◌&&◌}
use Rattle.std.proofs.Common.{List, [], ◌∷◌, ◌++◌, Option, Some, None, Result, Ok, refl, sym, ap, subst, ◌∙◌, arith}
use Rattle.std.proofs.Common.{FitsSigned}
use Rattle.std.specs.Int.{w32}
use Rattle.std.proofs.lemmas.Option.{same_Some}
use Rattle.word_arithmetic.specs.Range as ranges
use Rattle.word_arithmetic.specs.Range.{Ends, IsRange, full, bytes, truths, not_range}
use Rattle.occam_parser.specs.declared.tree.ValueType.{ValueType}
use Rattle.occam_parser.specs.declared.tree.ValueType.TheVariants as value_type
use Rattle.occam_parser.specs.declared.tree.ArithmeticPair.{ArithmeticPair}
use Rattle.occam_parser.specs.declared.tree.ArithmeticChain.{ArithmeticChain}
use Rattle.occam_parser.specs.declared.tree.PairOperator.{PairOperator}
use Rattle.occam_parser.specs.declared.tree.PairOperator.TheVariants as pair
use Rattle.occam_parser.specs.declared.tree.PrefixOperator.{PrefixOperator}
use Rattle.occam_parser.specs.declared.tree.PrefixOperator.TheVariants as prefix
use Rattle.word_arithmetic.specs.declared.compare.Comparison.{Comparison}
use Rattle.occam_parser.specs.declared.tree.ChainOperator.{ChainOperator}
use Rattle.occam_parser.specs.declared.tree.ChainOperator.TheVariants as chain
use Rattle.occam_parser.specs.declared.tree.Logic.{Logic}
use Rattle.occam_parser.specs.declared.tree.Logic.TheVariants as logic
use Rattle.occam_parser.specs.Expressions.{Alone, Prefixed, Paired, Chained, Terms, Two, Then, Term}
use Rattle.scalar_ranges.specs.declared.types.ExprType.{ExprType}
use Rattle.scalar_ranges.specs.declared.types.ExprType.TheVariants as types
use Rattle.scalar_ranges.specs.Bounds.{Bound, Exactly, Within, ends, arithmetic_bound, pair_bound, prefix_bound}
use Rattle.scalar_ranges.specs.Bounds.{chain_bound}
use Rattle.scalar_ranges.specs.Bounds.{bound_of, bound_of_term, bound_of_terms, exact_value}
use Rattle.scalar_ranges.specs.Entries.{Entry}
use Rattle.scalar_ranges.specs.Types.{type_of_values}
use Rattle.scalar_ranges.specs.Types.{prefix_type, pair_type, chain_type}
use Rattle.scalar_ranges.specs.Fronts.{Front, count_of, front_in}
use Rattle.scalar_ranges.proofs.Parts.{ok_same}
use Rattle.code_pieces.specs.Pieces.{Piece, constant, word_after}
use Rattle.line_pieces.specs.Expressions.{Operand, beside, constant_or, is_known, term_code}
use Rattle.line_pieces.specs.Expressions.{terms_code}
use Rattle.line_pieces.specs.Expressions.{is_leaf_term, is_small, is_small_term, are_small, pushed, pushes_of}
use Rattle.line_pieces.specs.Expressions.{pair_code, prefix_code, covered}
use Rattle.certified_lines.specs.Scopes.{Scene, IsScope}
use Rattle.certified_lines.specs.Telling.{Tells, IsFree, OperandTells, truth_range}
use Rattle.certified_lines.specs.OperandLaws.{IsOnly, pair_range, prefix_range, chain_range}
use Rattle.certified_lines.specs.ChainLaws.{TermTells, IsFrontOf, TermsRange, two, then_one, front_or}
use Rattle.certified_lines.specs.ExpressionLaws.{IsRangeOf, IsTold, ExpressionTells}
use Rattle.certified_lines.proofs.Telling.{constants_tell}
use Rattle.certified_lines.proofs.Ranges.{constant_ranged, not_ranged, truth_ranged, both_truths, either_truth}
use Rattle.certified_lines.proofs.Operands.{next_counted, next_free, allowed_first}
use Rattle.certified_lines.proofs.Arithmetic.{arithmetic_tells}
use Rattle.certified_lines.proofs.Comparing.{comparisons_tell, prefixes_tell, truths_ranged}
use Rattle.certified_lines.proofs.Chains.{terms_tell}
use Rattle.certified_lines.proofs.Bounded.{IsEither, IsExact, arithmetic_is, chain_is, negate_is, bit_not_is}
use Rattle.certified_lines.proofs.Bounded.{pair_ranged, negate_ranged, chain_ranged}
use Rattle.certified_lines.proofs.Fronts.{FrontFits, fits_here, fronts_fit, uncovered}

-- ---- constants

pub exact_is : (b : Bound) (v : ℤ) → exact_value (Ok b) ≡ Some v → b ≡ Exactly v
exact_is (Exactly u) v is = let same : u ≡ v = cc in ap (λ (w : ℤ). Exactly w) same
exact_is (Within r) v is = absurd (cc)

-- a bound with a value has no other number
only_of : (b : Bound) → IsOnly (exact_value (Ok b)) (ends b)
only_of (Exactly v) = refl
only_of (Within r) = tt

only_there : (result : Result Bound ℕ) (b : Bound) → result ≡ Ok b → IsOnly (exact_value result) (ends b)
only_there result b is = subst (λ (o : Option ℤ). IsOnly o (ends b)) (sym (ap exact_value is)) (only_of b)

pub exactly_same : (u v : ℤ) → ◌≡◌ {A = Bound} (Exactly u) (Exactly v) → u ≡ v
exactly_same u v is = cc

module _ (g : Scene) (top : ℕ) (es : List Entry) where
  abbrev pub Code : Type 0
  Code = ℕ → List Piece

  -- the value of a constant in place of code, which leaves the range where there is none
  pub constant_told : (code : Code) (leaf : Option ℤ → Bool) (small : Bool) (type : ExprType) (b : Bound) (o : Option ℤ)
      → exact_value (Ok b) ≡ o → (IsExact b → IsRangeOf type b (ends b))
      → ((v : ℤ) → b ≡ Exactly v → FitsSigned w32 v)
      → (o ≡ None → IsTold g top es code (leaf None) small type b)
      → IsTold g top es (λ t. constant_or o (code t)) (leaf o) small type b
  constant_told code leaf small type b None is typed fits told = told refl
  constant_told code leaf small type b (Some v) is typed fits told =
      let exact = exact_is b v is in
      record {
        range = ranges.constant v;
        is = subst (λ (c : Bound). IsRangeOf type b (ends c)) exact
            (typed (record { value = v; is = exact; fits = fits v exact }));
        ranged = constant_ranged v (fits v exact);
        tells = λ t low few all s holds. constants_tell g.setting t (leaf (Some v)) small v s;
      }

  -- the same of a literal
  pub literal_told : (leaf small : Bool) (type : ExprType) (v : ℤ) → FitsSigned w32 v
      → IsRangeOf type (Exactly v) (ranges.constant v)
      → IsTold g top es (λ t. constant v ∷ []) leaf small type (Exactly v)
  literal_told leaf small type v fits typed = record {
    range = ranges.constant v;
    is = typed;
    ranged = constant_ranged v fits;
    tells = λ t low few all s holds. constants_tell g.setting t leaf small v s;
  }

  pub as_bound : {code : Code} {leaf small : Bool} {type other : ExprType} {b c : Bound} → type ≡ other → b ≡ c
      → IsTold g top es code leaf small type b → IsTold g top es code leaf small other c
  as_bound {code = code} {leaf = leaf} {small = small} {other = other} {b = b} same is told =
      subst (λ (c : Bound). IsTold g top es code leaf small other c) is
      (subst (λ (t : ExprType). IsTold g top es code leaf small t b) same told)

  -- a number is told whatever its type is
  pub of_values : (type : ValueType) (b : Bound) (r : Ends) → r ≡ ends b → IsRangeOf (type_of_values type) b r
  of_values value_type.Int b r is = is
  of_values value_type.Byte b r is = is

  -- a bound that is a constant or a range
  either_told : (P : Ends → Type 0) (code : Code) (leaf : Option ℤ → Bool) (small : Bool) (b : Bound) (o : Option ℤ)
      → exact_value (Ok b) ≡ o → IsEither P b
      → ((q : Ends) → P q → IsRange q × ((t : ℕ) → top ≤ t → IsFree t → Tells g es (code t) t (leaf None) small q))
      → IsTold g top es (λ t. constant_or o (code t)) (leaf o) small types.Int b
  either_told P code leaf small b o is (inl exact) inner =
      constant_told code leaf small types.Int b o is (λ e. refl)
      (λ v same. subst (FitsSigned w32) (exactly_same exact.value v (sym exact.is ∙ same)) exact.fits)
      (λ none. absurd (cc (sym (ap (λ (c : Bound). exact_value (Ok c)) exact.is) ∙ (is ∙ none))))
  either_told P code leaf small b o is (inr within) inner =
      constant_told code leaf small types.Int b o is (λ e. refl) (λ v same. absurd (cc (sym within.is ∙ same)))
      (λ none. let i = inner within.range within.holds in record {
        range = within.range;
        is = ap ends (sym within.is);
        ranged = i.0;
        tells = i.1;
      })

  -- ---- operands

  -- code leaves a number in exactly the range of a bound
  record NumberTold (code : Code) (leaf small : Bool) (b : Bound) : Type 0 where
    ranged : IsRange (ends b)
    tells : (t : ℕ) → top ≤ t → IsFree t → Tells g es (code t) t leaf small (ends b)

  number_at : (code : Code) (leaf small : Bool) (b : Bound) (r : Ends) → r ≡ ends b → IsRange r
      → ((t : ℕ) → top ≤ t → IsFree t → Tells g es (code t) t leaf small r) → NumberTold code leaf small b
  number_at code leaf small b r is ranged tells = record {
    ranged = subst IsRange is ranged;
    tells = λ t low few. subst (λ (q : Ends). Tells g es (code t) t leaf small q) is (tells t low few);
  }

  number_told : (code : Code) (leaf small : Bool) (b : Bound) → IsTold g top es code leaf small types.Int b
      → NumberTold code leaf small b
  number_told code leaf small b told = number_at code leaf small b told.range told.is told.ranged told.tells

  byte_told : (code : Code) (leaf small : Bool) (b : Bound) → IsTold g top es code leaf small types.Byte b
      → NumberTold code leaf small b
  byte_told code leaf small b told = number_at code leaf small b told.range told.is told.ranged told.tells

  abbrev pub code_of : Term → Code
  code_of x = λ t. term_code g.homes es t x

  abbrev pub TermTold : Term → ExprType → Bound → Type 0
  TermTold x type b = IsTold g top es (code_of x) (is_leaf_term es x) (is_small_term es x) type b

  abbrev NumberOf : Term → Bound → Type 0
  NumberOf x b = NumberTold (code_of x) (is_leaf_term es x) (is_small_term es x) b

  abbrev operand : Term → ℕ → Operand
  operand x t = beside es x (term_code g.homes es t x) (term_code g.homes es (word_after t 1) x)

  -- an operand is told beside another one
  operand_told : (x : Term) (r : Ends)
      → ((t : ℕ) → top ≤ t → IsFree t
      → Tells g es (term_code g.homes es t x) t (is_leaf_term es x) (is_small_term es x) r)
      → (t : ℕ) → top ≤ t → IsFree t → OperandTells g es t (operand x t) r
  operand_told x r tells t low few = record {
    first = tells t low few;
    second = tells (word_after t 1) (let more = next_counted t few in omega (arith, low, more)) (next_free t);
  }

  -- ---- what is known of a range that is told

  exact_typed : (type : ExprType) (b : Bound) (r : Ends) → IsRangeOf type b r → IsExact b
      → IsRangeOf type b (ends b)
  exact_typed types.Int b r is exact = refl
  exact_typed types.Byte b r is exact = refl
  exact_typed types.Condition b r is exact = absurd (cc (sym exact.is ∙ is.0))

  pub exact_fits : (type : ExprType) (b : Bound) (r : Ends) → IsRangeOf type b r → IsRange r → (v : ℤ) → b ≡ Exactly v
      → FitsSigned w32 v
  exact_fits types.Int b r is ranged v same =
      subst (FitsSigned w32) (ap (λ (e : Ends). e.lo) (is ∙ ap ends same)) ranged.lo_fits
  exact_fits types.Byte b r is ranged v same =
      subst (FitsSigned w32) (ap (λ (e : Ends). e.lo) (is ∙ ap ends same)) ranged.lo_fits
  exact_fits types.Condition b r is ranged v same = absurd (cc (sym same ∙ is.0))

  only_told : (type : ExprType) (b : Bound) (r : Ends) → IsRangeOf type b r → IsOnly (exact_value (Ok b)) r
  only_told types.Int b r is = subst (IsOnly (exact_value (Ok b))) (sym is) (only_of b)
  only_told types.Byte b r is = subst (IsOnly (exact_value (Ok b))) (sym is) (only_of b)
  only_told types.Condition b r is = subst (λ (c : Bound). IsOnly (exact_value (Ok c)) r) (sym is.0) tt

  pub term_tells : (x : Term) (type : ExprType) (b : Bound) → bound_of_term es x ≡ Ok b → (told : TermTold x type b)
      → (t : ℕ) → top ≤ t → IsFree t → TermTells g es t x told.range
  term_tells x type b is told t low few = record {
    ranged = told.ranged;
    tells = operand_told x told.range told.tells t low few;
    only = subst (λ (o : Option ℤ). IsOnly o told.range) (sym (ap exact_value is))
        (only_told type b told.range told.is);
  }

  module _ (scope : IsScope g top es) where
    -- ---- expressions of one or two operands

    pub alone_told : (x : Term) (type : ExprType) (d : Bound) → bound_of_term es x ≡ Ok d → TermTold x type d
        → ExpressionTells g top es (Alone x) type d
    alone_told x type d is told =
        constant_told (code_of x) (λ o. is_leaf_term es x) (is_small_term es x) type d
        (exact_value (bound_of_term es x)) (sym (ap exact_value is)) (exact_typed type d told.range told.is)
        (exact_fits type d told.range told.is told.ranged) (λ none. told)

    arithmetic_told : (op : ArithmeticPair) (x y : Term) (b c d : Bound) → bound_of_term es y ≡ Ok c
        → bound_of es (Paired (pair.Arithmetic op) x y) ≡ Ok d → arithmetic_bound op b c ≡ Ok d → NumberOf x b
        → NumberOf y c → ExpressionTells g top es (Paired (pair.Arithmetic op) x y) types.Int d
    arithmetic_told op x y b c d y_is is gives first second =
        either_told (λ q. pair_range op (ends b) (ends c) ≡ Some q)
        (λ t. pushed (pushes_of (pair.Arithmetic op) (exact_value (bound_of_term es x))
        (exact_value (bound_of_term es y)))
        t (operand x t) (operand y t)
        ++ pair_code (pair.Arithmetic op) (exact_value (bound_of_term es x)) (exact_value (bound_of_term es y)))
        is_known (is_small_term es x && is_leaf_term es y) d
        (exact_value (bound_of es (Paired (pair.Arithmetic op) x y))) (sym (ap exact_value is))
        (arithmetic_is op b c d first.ranged second.ranged gives)
        (λ q range. (
          pair_ranged op (ends b) (ends c) q first.ranged second.ranged range,
          λ t low few all told holds.
              arithmetic_tells g top t es op (operand x t) (operand y t) (exact_value (bound_of_term es x))
              (exact_value (bound_of_term es y)) (ends b) (ends c) q told scope low few first.ranged second.ranged
              (operand_told x (ends b) first.tells t low few) (operand_told y (ends c) second.tells t low few)
              (only_there (bound_of_term es y) c y_is) range all holds,
        ))

    -- a condition, of which it is not known how it holds
    pub truths_told : (code : Code) (leaf small : Bool) (d : Bound) → d ≡ Within truths
        → ((t : ℕ) → top ≤ t → IsFree t → Tells g es (code t) t leaf small truths)
        → IsTold g top es code leaf small types.Condition d
    truths_told code leaf small d is tells = record {
      range = truths;
      is = (is, None, refl);
      ranged = truths_ranged;
      tells = tells;
    }

    -- and is no constant
    truths_or : (code : Code) (small : Bool) (d : Bound) (o : Option ℤ) → exact_value (Ok d) ≡ o → d ≡ Within truths
        → ((t : ℕ) → top ≤ t → IsFree t → Tells g es (code t) t false small truths)
        → IsTold g top es (λ t. constant_or o (code t)) (is_known o) small types.Condition d
    truths_or code small d o is truths tells =
        constant_told code is_known small types.Condition d o is (λ exact. absurd (cc (sym exact.is ∙ truths)))
        (λ v same. absurd (cc (sym same ∙ truths))) (λ none. truths_told code false small d truths tells)

    compared_told : (op : Comparison) (x y : Term) (b c d : Bound) → bound_of_term es x ≡ Ok b
        → bound_of_term es y ≡ Ok c → bound_of es (Paired (pair.Comparison op) x y) ≡ Ok d → d ≡ Within truths
        → NumberOf x b → NumberOf y c → ExpressionTells g top es (Paired (pair.Comparison op) x y) types.Condition d
    compared_told op x y b c d x_is y_is is truths first second =
        truths_or
        (λ t. pushed (pushes_of (pair.Comparison op) (exact_value (bound_of_term es x))
        (exact_value (bound_of_term es y)))
        t (operand x t) (operand y t)
        ++ pair_code (pair.Comparison op) (exact_value (bound_of_term es x)) (exact_value (bound_of_term es y)))
        (is_small es (Paired (pair.Comparison op) x y)) d (exact_value (bound_of es (Paired (pair.Comparison op) x y)))
        (sym (ap exact_value is)) truths
        (λ t low few all told holds.
        comparisons_tell g top t es op (operand x t) (operand y t) (exact_value (bound_of_term es x))
        (exact_value (bound_of_term es y)) (ends b) (ends c) told scope low few first.ranged second.ranged
        (operand_told x (ends b) first.tells t low few) (operand_told y (ends c) second.tells t low few)
        (only_there (bound_of_term es x) b x_is) (only_there (bound_of_term es y) c y_is) all holds)

    pub paired_told : (op : PairOperator) (x y : Term) (s u type : ExprType) (b c d : Bound) → bound_of_term es x ≡ Ok b
        → bound_of_term es y ≡ Ok c → bound_of es (Paired op x y) ≡ Ok d → pair_type op s u ≡ Ok type
        → pair_bound op b c ≡ Ok d → TermTold x s b → TermTold y u c → ExpressionTells g top es (Paired op x y) type d
    paired_told (pair.Arithmetic op) x y types.Int types.Int type b c d x_is y_is is typed gives first second =
        as_bound (ok_same types.Int type typed) refl
        (arithmetic_told op x y b c d y_is is gives
        (number_told (code_of x) (is_leaf_term es x) (is_small_term es x) b first)
        (number_told (code_of y) (is_leaf_term es y) (is_small_term es y) c second))
    paired_told (pair.Comparison op) x y types.Int types.Int type b c d x_is y_is is typed gives first second =
        as_bound (ok_same types.Condition type typed) refl
        (compared_told op x y b c d x_is y_is is (sym (ok_same (Within truths) d gives))
        (number_told (code_of x) (is_leaf_term es x) (is_small_term es x) b first)
        (number_told (code_of y) (is_leaf_term es y) (is_small_term es y) c second))
    paired_told (pair.Comparison op) x y types.Byte types.Byte type b c d x_is y_is is typed gives first second =
        as_bound (ok_same types.Condition type typed) refl
        (compared_told op x y b c d x_is y_is is (sym (ok_same (Within truths) d gives))
        (byte_told (code_of x) (is_leaf_term es x) (is_small_term es x) b first)
        (byte_told (code_of y) (is_leaf_term es y) (is_small_term es y) c second))
    paired_told op x y s u type b c d x_is y_is is typed gives first second = absurd (cc typed)

    abbrev prefixed_code : PrefixOperator → Term → Code
    prefixed_code op x = λ t. term_code g.homes es t x ++ prefix_code op

    prefixed_number : (op : PrefixOperator) (x : Term) (b d : Bound) → bound_of es (Prefixed op x) ≡ Ok d
        → IsEither (λ q. prefix_range op (ends b) ≡ Some q) d
        → ((q : Ends) → prefix_range op (ends b) ≡ Some q → IsRange q) → NumberOf x b
        → ExpressionTells g top es (Prefixed op x) types.Int d
    prefixed_number op x b d is gives ranged told =
        either_told (λ q. prefix_range op (ends b) ≡ Some q) (prefixed_code op x) is_known (is_small_term es x) d
        (exact_value (bound_of es (Prefixed op x))) (sym (ap exact_value is)) gives
        (λ q range. (
          ranged q range,
          λ t low few all before holds.
              prefixes_tell g.setting t op (term_code g.homes es t x) (is_leaf_term es x) (is_small_term es x)
              (ends b) q before told.ranged range
              (told.tells t low few (allowed_first g (term_code g.homes es t x) (prefix_code op) all) before holds),
        ))

    pub prefixed_told : (op : PrefixOperator) (x : Term) (s type : ExprType) (b d : Bound)
        → bound_of es (Prefixed op x) ≡ Ok d → prefix_type op s ≡ Ok type → prefix_bound op b ≡ Ok d → TermTold x s b
        → ExpressionTells g top es (Prefixed op x) type d
    prefixed_told prefix.Negate x types.Int type b d is typed gives told =
        let number = number_told (code_of x) (is_leaf_term es x) (is_small_term es x) b told in
        as_bound (ok_same types.Int type typed) refl
        (prefixed_number prefix.Negate x b d is (negate_is b d number.ranged gives)
        (λ q range. negate_ranged (ends b) q number.ranged range) number)
    prefixed_told prefix.BitNot x types.Int type b d is typed gives told =
        let number = number_told (code_of x) (is_leaf_term es x) (is_small_term es x) b told in
        as_bound (ok_same types.Int type typed) refl
        (prefixed_number prefix.BitNot x b d is (bit_not_is b d number.ranged gives)
        (λ q range. subst IsRange (same_Some (not_range (ends b)) q range) (not_ranged (ends b) number.ranged)) number)
    prefixed_told prefix.Not x types.Condition type b d is typed gives told =
        as_bound (ok_same types.Condition type typed) refl
        (truths_or (prefixed_code prefix.Not x) (is_small_term es x) d
        (exact_value (bound_of es (Prefixed prefix.Not x)))
        (sym (ap exact_value is)) (sym (ok_same (Within truths) d gives))
        (λ t low few all before holds.
        prefixes_tell g.setting t prefix.Not (term_code g.homes es t x) (is_leaf_term es x) (is_small_term es x)
        told.range truths before told.ranged refl
        (told.tells t low few (allowed_first g (term_code g.homes es t x) (prefix_code prefix.Not) all) before holds)))
    prefixed_told op x s type b d is typed gives told = absurd (cc typed)

    -- ---- chains

    -- what the operator of a chain makes of what is before an operand and of the operand
    record JoinedTold (op : ChainOperator) (ts : Terms) (r s : Ends) (type : ExprType) (d : Bound) : Type 0 where
      range : Ends
      is : IsRangeOf type d range
      ranged : IsRange range
      gives : (front : Option Front) → FrontFits es op front ts → covered front (count_of ts) ≡ None
          → chain_range op r s ≡ Some range
      fronts : (front : Option Front) → FrontFits es op front ts → IsFrontOf front ts range

    exact_front : (op : ChainOperator) (ts : Terms) (d : Bound) → bound_of_terms es op ts ≡ Ok d
        → (front : Option Front) → FrontFits es op front ts → IsFrontOf front ts (ends d)
    exact_front op ts d is front fits f same many =
        ap ends (exact_is d f.value (sym (ap exact_value is) ∙ (fits_here es op front ts fits).value f same many))

    either_joined : (op : ArithmeticChain) (ts : Terms) (b c d : Bound)
        → bound_of_terms es (chain.Arithmetic op) ts ≡ Ok d → IsRange (ends b) → IsRange (ends c)
        → IsEither (λ q. chain_range (chain.Arithmetic op) (ends b) (ends c) ≡ Some q) d
        → JoinedTold (chain.Arithmetic op) ts (ends b) (ends c) types.Int d
    either_joined op ts b c d is x y (inl exact) = record {
      range = ends d;
      is = refl;
      ranged = subst (λ (e : Bound). IsRange (ends e)) (sym exact.is) (constant_ranged exact.value exact.fits);
      gives = λ front fits none. absurd ((fits_here es (chain.Arithmetic op) front ts fits).covers exact.value
          (ap exact_value is ∙ ap (λ (e : Bound). exact_value (Ok e)) exact.is) none);
      fronts = exact_front (chain.Arithmetic op) ts d is;
    }
    either_joined op ts b c d is x y (inr within) = record {
      range = ends d;
      is = refl;
      ranged = subst (λ (e : Bound). IsRange (ends e)) (sym within.is)
          (chain_ranged op (ends b) (ends c) within.range x y within.holds);
      gives = λ front fits none. within.holds ∙ ap (λ (e : Bound). Some (ends e)) (sym within.is);
      fronts = exact_front (chain.Arithmetic op) ts d is;
    }

    -- of truths
    truths_joined : (op : Logic) (o p : Option Bool)
        → (q : Option Bool) × (chain_range (chain.Logic op) (truth_range o) (truth_range p) ≡ Some (truth_range q))
    truths_joined logic.And o p = both_truths o p
    truths_joined logic.Or o p = either_truth o p

    logic_joined : (op : Logic) (ts : Terms) (r s : Ends) (b c d : Bound)
        → bound_of_terms es (chain.Logic op) ts ≡ Ok d → d ≡ Within truths → IsRangeOf types.Condition b r
        → IsRangeOf types.Condition c s → JoinedTold (chain.Logic op) ts r s types.Condition d
    logic_joined op ts r s b c d is truths x y =
        let q = truths_joined op x.1 y.1 in
        record {
          range = truth_range q.0;
          is = (truths, q.0, refl);
          ranged = truth_ranged q.0;
          gives = λ front fits none. (λ i. chain_range (chain.Logic op) (x.2 i) (y.2 i)) ∙ q.1;
          fronts = λ front fits f same many.
              absurd (cc (sym (ap (λ (e : Bound). exact_value (Ok e)) truths) ∙ (sym (ap exact_value is)
              ∙ (fits_here es (chain.Logic op) front ts fits).value f same many)));
        }

    joined_told : (op : ChainOperator) (ts : Terms) (r s : Ends) (p u type : ExprType) (b c d : Bound)
        → bound_of_terms es op ts ≡ Ok d → chain_type op p u ≡ Ok type → chain_bound op b c ≡ Ok d → IsRangeOf p b r
        → IsRangeOf u c s → IsRange r → IsRange s → JoinedTold op ts r s type d
    joined_told (chain.Arithmetic op) ts r s types.Int types.Int type b c d is typed gives x y x_ranged y_ranged =
        subst (λ (t : ExprType). JoinedTold (chain.Arithmetic op) ts r s t d) (ok_same types.Int type typed)
        (subst (λ (e : Ends). JoinedTold (chain.Arithmetic op) ts e s types.Int d) (sym x)
        (subst (λ (e : Ends). JoinedTold (chain.Arithmetic op) ts (ends b) e types.Int d) (sym y)
        (either_joined op ts b c d is (subst IsRange x x_ranged) (subst IsRange y y_ranged)
        (chain_is op b c d (subst IsRange x x_ranged) (subst IsRange y y_ranged) gives))))
    joined_told (chain.Logic op) ts r s types.Condition types.Condition type b c d is typed gives x y x_ranged
        y_ranged =
        subst (λ (t : ExprType). JoinedTold (chain.Logic op) ts r s t d) (ok_same types.Condition type typed)
        (logic_joined op ts r s b c d is (sym (ok_same (Within truths) d gives)) x y)
    joined_told op ts r s p u type b c d is typed gives x y x_ranged y_ranged = absurd (cc typed)

    -- what a whole chain makes of its operands
    pub record TermsTold (op : ChainOperator) (ts : Terms) (type : ExprType) (d : Bound) : Type 0 where
      pub range : Ends
      pub is : IsRangeOf type d range
      pub ranged : IsRange range
      pub terms : (front : Option Front) → FrontFits es op front ts → (t : ℕ) → top ≤ t → IsFree t
          → TermsRange g es t op front ts range

    pub two_told : (op : ChainOperator) (x y : Term) (p u type : ExprType) (b c d : Bound) → bound_of_term es x ≡ Ok b
        → bound_of_term es y ≡ Ok c → bound_of_terms es op (Two x y) ≡ Ok d → chain_type op p u ≡ Ok type
        → chain_bound op b c ≡ Ok d → TermTold x p b → TermTold y u c → TermsTold op (Two x y) type d
    two_told op x y p u type b c d x_is y_is is typed gives first second =
        let joined = joined_told op (Two x y) first.range second.range p u type b c d is typed gives first.is second.is
        first.ranged second.ranged in
        record {
          range = joined.range;
          is = joined.is;
          ranged = joined.ranged;
          terms = λ front fits t low few.
              two (term_tells x p b x_is first t low few) (term_tells y u c y_is second t low few) joined.ranged
              (joined.gives front fits) (joined.fronts front fits);
        }

    pub more_told : (op : ChainOperator) (ts : Terms) (x : Term) (p u type : ExprType) (b c d : Bound)
        → bound_of_term es x ≡ Ok c → bound_of_terms es op (Then ts x) ≡ Ok d → chain_type op p u ≡ Ok type
        → chain_bound op b c ≡ Ok d → TermsTold op ts p b → TermTold x u c → TermsTold op (Then ts x) type d
    more_told op ts x p u type b c d x_is is typed gives first second =
        let joined = joined_told op (Then ts x) first.range second.range p u type b c d is typed gives first.is
        second.is first.ranged second.ranged in
        record {
          range = joined.range;
          is = joined.is;
          ranged = joined.ranged;
          terms = λ front fits t low few.
              then_one (first.terms front fits.0 t low few) (term_tells x u c x_is second t low few) joined.ranged
              (joined.gives front fits) (joined.fronts front fits);
        }

    pub chained_told : (op : ChainOperator) (ts : Terms) (type : ExprType) (d : Bound) → bound_of_terms es op ts ≡ Ok d
        → TermsTold op ts type d → ExpressionTells g top es (Chained op ts) type d
    chained_told op ts type d is told =
        constant_told (λ t. terms_code g.homes es t op (front_in es op ts) ts) is_known (are_small es ts) type d
        (exact_value (bound_of_terms es op ts)) (sym (ap exact_value is)) (exact_typed type d told.range told.is)
        (exact_fits type d told.range told.is told.ranged)
        (λ none. record {
          range = told.range;
          is = told.is;
          ranged = told.ranged;
          tells = λ t low few.
              subst (λ (q : Ends). Tells g es (terms_code g.homes es t op (front_in es op ts) ts) t false
              (are_small es ts) q)
              (ap (λ (o : Option ℤ). front_or o told.range) (uncovered es op ts none))
              (terms_tell g top t es op (front_in es op ts) ts told.range scope low few
              (told.terms (front_in es op ts) (fronts_fit es op ts) t low few)).1;
        })
