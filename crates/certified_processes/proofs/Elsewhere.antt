-- Code that stores nothing from the first free word on is the same, wherever the words are free.
use Rattle.std.proofs.Common.{◌≡◌, ℕ, ◌+◌, ◌≤◌, ℤ, Bool, true, false, List, [], ◌∷◌, ◌++◌, Option, Some, None, refl}
use Rattle.std.proofs.Common.{sym}
use Rattle.std.proofs.Common.{ap, subst, ◌∙◌, arith}
use Rattle.module_format.specs.declared.limits.TheConstants.{MAX_DATA_WORDS}
use Rattle.word_arithmetic.specs.declared.compare.Comparison.{Comparison}
use Rattle.word_arithmetic.specs.declared.compare.Comparison.TheVariants as comparison
use Rattle.occam_parser.specs.declared.tree.PairOperator.{PairOperator}
use Rattle.occam_parser.specs.declared.tree.PairOperator.TheVariants as pair
use Rattle.occam_parser.specs.declared.tree.ValueType.{ValueType}
use Rattle.occam_parser.specs.declared.tree.ValueType.TheVariants as value_type
use Rattle.occam_parser.specs.Expressions.{Alone, Bracketed, Byte, Chained, Converted, Element, Expression, MostNeg}
use Rattle.occam_parser.specs.Expressions.{MostPos}
use Rattle.occam_parser.specs.Expressions.{Named, Number, Paired, Prefixed, Term, Terms, Then, Truth, Two}
use Rattle.occam_parser.specs.Lines.{Action, Assign, Input, Instance, Output, Place, Skip, Stop}
use Rattle.scalar_ranges.specs.Bounds.{bound_of, bound_of_term, exact_value, range_found}
use Rattle.scalar_ranges.specs.Entries.{Array, Entry, Meaning, meaning_in}
use Rattle.scalar_ranges.specs.Fronts.{Front, count_of, front_in}
use Rattle.code_pieces.specs.declared.operations.TheConstants.{INPUT, OUTPUT}
use Rattle.code_pieces.specs.Pieces.{Code, Piece, counted, points, stores, word_after, written}
use Rattle.code_pieces.proofs.AllOfPieces.{all_first, all_last}
use Rattle.line_pieces.specs.Actions.{KnownElement, NoTarget, OtherElement, OwnWord, Target, action_code, assign_code}
use Rattle.line_pieces.specs.Actions.{by_number, cleaned, element_target, exchange, input_code, message_code}
use Rattle.line_pieces.specs.Actions.{output_code}
use Rattle.line_pieces.specs.Actions.{source_of, store_after, store_code, stored_offset, target_address, target_of}
use Rattle.line_pieces.specs.Actions.{whole_target}
use Rattle.line_pieces.specs.Declarations.{Frame}
use Rattle.line_pieces.specs.Expressions.{added_for, below_constant, comparison_pushes, element_of_table}
use Rattle.line_pieces.specs.Expressions.{element_of_words}
use Rattle.line_pieces.specs.Expressions.{equality_pushes, next_above, next_below, on_constant}
use Rattle.line_pieces.specs.Expressions.{Operand, Subscript, added_by, after_constant, both, comes_last, constant_or}
use Rattle.line_pieces.specs.Expressions.{covered}
use Rattle.line_pieces.specs.Expressions.{element_code, expression_code, first_code, first_of_terms, is_known, is_small}
use Rattle.line_pieces.specs.Expressions.{is_small_term, adds_or, offset_of, onto, or_zero, pushed, pushes_of, single}
use Rattle.line_pieces.specs.Expressions.{term_code, terms_code, unless, unless_added, without}
use Rattle.line_pieces.specs.Homes as home
use Rattle.line_pieces.specs.Homes.{Block, Home, Link, Nowhere, Passed, Word, home_of}
use Rattle.certified_actions.specs.Actions.{GoesOn}
use Rattle.meant_processes.specs.Places.{AllFit, FitsIn}
use Rattle.meant_processes.proofs.CodeParts.{written_is}
use Rattle.certified_processes.specs.Places.{Coded}

module _ (p : Coded) (few : p.program.words ≤ MAX_DATA_WORDS) where
  -- no word of the frame
  abbrev pub IsOutside : ℕ → Type 0
  IsOutside t = p.program.words ≤ counted t

  -- nor is the next one
  next_outside : (t : ℕ) → IsOutside t → IsOutside (word_after t 1)
  unfolding counted word_after
  next_outside t out = omega (arith, few, out)

  -- pieces that fit are these others
  abbrev Keeps : List Piece → List Piece → Type 0
  Keeps ps qs = AllFit p.program ps → ps ≡ qs

  -- the same pieces
  same : (ps : List Piece) → Keeps ps ps
  same ps fit = refl

  -- pieces one after the other
  keeps_both : (ps qs us vs : List Piece) → Keeps ps qs → Keeps us vs → Keeps (ps ++ us) (qs ++ vs)
  keeps_both ps qs us vs one two fit =
      λ i. one (all_first (FitsIn p.program) ps us fit) i ++ two (all_last (FitsIn p.program) ps us fit) i

  keeps_then : (ps qs us : List Piece) → Keeps ps qs → Keeps (ps ++ us) (qs ++ us)
  keeps_then ps qs us one = keeps_both ps qs us us one (same us)

  keeps_behind : (piece : Piece) (ps qs : List Piece) → Keeps ps qs → Keeps (piece ∷ ps) (piece ∷ qs)
  keeps_behind piece ps qs one fit = ap (λ (xs : List Piece). piece ∷ xs) (one fit.1)

  -- what is stored there does not fit
  no_store : (t : ℕ) (ps qs : List Piece) → IsOutside t → Keeps (stores t ∷ ps) qs
  no_store t ps qs out fit = let less = fit.0 in absurd (omega (arith, less, out))

  -- a constant in place of pieces
  constant_keeps : (o : Option ℤ) (ps qs : List Piece) → Keeps ps qs → Keeps (constant_or o ps) (constant_or o qs)
  constant_keeps None ps qs one = one
  constant_keeps (Some v) ps qs one = λ fit. refl

  without_keeps : (o : Option ℤ) (whole first others firsts : List Piece) → Keeps whole others → Keeps first firsts
      → Keeps (without o whole first) (without o others firsts)
  without_keeps None whole first others firsts one two = one
  without_keeps (Some v) whole first others firsts one two = two

  unless_keeps : (b : Bool) (ps qs : List Piece) → Keeps ps qs → Keeps (unless b ps) (unless b qs)
  unless_keeps true ps qs one = λ fit. refl
  unless_keeps false ps qs one = one

  adds_keeps : (o : Option ℤ) (ps qs : List Piece) → Keeps ps qs → Keeps (adds_or o ps) (adds_or o qs)
  adds_keeps None ps qs one = one
  adds_keeps (Some v) ps qs one = λ fit. refl

  -- ---- operands

  module _ (t u : ℕ) (out : IsOutside t) where
    onto_keeps : (in_order small : Bool) (ps qs : List Piece) → Keeps ps qs
        → Keeps (onto in_order t small ps) (onto in_order u small qs)
    onto_keeps in_order true ps qs one = one
    onto_keeps in_order false ps qs one = no_store t _ _ out

    -- two operands, both at the one word and at the other
    module _ (lx mx ly my : Bool) (fx sx fy sy gx tx gy ty : List Piece) (kx : Keeps fx gx) (nx : Keeps sx tx)
        (ky : Keeps fy gy) (ny : Keeps sy ty) where
      abbrev x : Operand
      x = record { first = fx; second = sx; leaf = lx; small = mx }

      abbrev y : Operand
      y = record { first = fy; second = sy; leaf = ly; small = my }

      abbrev v : Operand
      v = record { first = gx; second = tx; leaf = lx; small = mx }

      abbrev w : Operand
      w = record { first = gy; second = ty; leaf = ly; small = my }

      both_keep : (in_order last : Bool) → Keeps (both in_order last t x y) (both in_order last u v w)
      both_keep in_order true = keeps_both fy gy _ _ ky (keeps_then fx gx _ kx)
      both_keep in_order false = keeps_both fx gx _ _ kx (onto_keeps in_order my sy ty ny)

      other_keep : (in_order last : Bool) → Keeps (both in_order last t y x) (both in_order last u w v)
      other_keep in_order true = keeps_both fx gx _ _ kx (keeps_then fy gy _ ky)
      other_keep in_order false = keeps_both fy gy _ _ ky (onto_keeps in_order mx sx tx nx)

      behind_constant : (c : ℤ) (small : Bool) → Keeps (after_constant c small fx) (after_constant c small gx)
      behind_constant c true = keeps_behind _ fx gx kx
      behind_constant c false = keeps_then fx gx _ kx

      -- the operands of a pair, and the first two of a chain
      added_keep : (o : Option ℤ)
          → Keeps (pushed (unless_added o (comparison_pushes comparison.Greater None None)) t x y)
          (pushed (unless_added o (comparison_pushes comparison.Greater None None)) u v w)
      added_keep None = both_keep true (comes_last lx my)
      added_keep (Some c) = kx

      upper_keep : (o : Option ℤ)
          → Keeps (pushed (on_constant (comparison_pushes comparison.Greater None None) o) t x y)
          (pushed (on_constant (comparison_pushes comparison.Greater None None) o) u v w)
      upper_keep None = both_keep true (comes_last lx my)
      upper_keep (Some c) = behind_constant c mx

      lower_keep : (o : Option ℤ)
          → Keeps (pushed (below_constant (comparison_pushes comparison.Less None None) o) t x y)
          (pushed (below_constant (comparison_pushes comparison.Less None None) o) u v w)
      lower_keep None = other_keep true (comes_last ly mx)
      lower_keep (Some c) = keeps_then fx gx _ kx

      equal_keep : (a b : Option ℤ) → Keeps (pushed (equality_pushes a b) t x y) (pushed (equality_pushes a b) u v w)
      equal_keep a (Some c) = kx
      equal_keep (Some c) None = ky
      equal_keep None None = both_keep false (comes_last lx my)

      compared_keep : (c : Comparison) (a b : Option ℤ)
          → Keeps (pushed (comparison_pushes c a b) t x y) (pushed (comparison_pushes c a b) u v w)
      compared_keep comparison.Greater a b = both_keep true (comes_last lx my)
      compared_keep comparison.LessOrEqual a b = upper_keep (next_above b)
      compared_keep comparison.Less a None = other_keep true (comes_last ly mx)
      compared_keep comparison.Less a (Some c) = behind_constant c mx
      compared_keep comparison.GreaterOrEqual a b = lower_keep (next_below b)
      compared_keep comparison.Equal a b = equal_keep a b
      compared_keep comparison.NotEqual a b = equal_keep a b

      pair_keeps : (op : PairOperator) (a b : Option ℤ)
          → Keeps (pushed (pushes_of op a b) t x y) (pushed (pushes_of op a b) u v w)
      pair_keeps (pair.Arithmetic op) a b = added_keep (added_for op b)
      pair_keeps (pair.Comparison c) a b = compared_keep c a b

      chain_keeps : (o : Option ℤ) → Keeps (pushed (unless_added o (equality_pushes None None)) t x y)
          (pushed (unless_added o (equality_pushes None None)) u v w)
      chain_keeps None = both_keep false (comes_last lx my)
      chain_keeps (Some c) = kx

  -- ---- elements

  module _ (whole first others firsts : List Piece) (o : Option ℤ) (small : Bool) (one : Keeps whole others)
      (two : Keeps first firsts) where
    abbrev here : Subscript
    here = record { whole = whole; offset = o; first = first; small = small }

    abbrev there : Subscript
    there = record { whole = others; offset = o; first = firsts; small = small }

    words_keep : (type : ValueType) (w : ℕ) (c : Option ℤ)
        → Keeps (element_of_words type w c here) (element_of_words type w c there)
    words_keep value_type.Int w (Some c) = λ fit. refl
    words_keep value_type.Int w None =
        keeps_then _ _ _ (keeps_then _ _ _ (without_keeps o whole first others firsts one two))
    words_keep value_type.Byte w (Some c) = λ fit. refl
    words_keep value_type.Byte w None = keeps_then _ _ _ (keeps_then whole others _ one)

    table_keeps : (values : List ℤ) (c : Option ℤ)
        → Keeps (element_of_table values c here) (element_of_table values c there)
    table_keeps values (Some c) = λ fit. refl
    table_keeps values None = keeps_then _ _ _ (without_keeps o whole first others firsts one two)

    element_keeps : (h : Option Home) (m : Option Meaning) (c : Option ℤ)
        → Keeps (element_code h m c here) (element_code h m c there)
    element_keeps (Some (Word w)) (Some (Array kind type size range)) c = words_keep type w c
    element_keeps (Some (Word w)) m c = λ fit. refl
    element_keeps (Some (Passed w)) (Some (Array kind type size range)) c = words_keep type w c
    element_keeps (Some (Passed w)) m c = λ fit. refl
    element_keeps (Some (home.Table values)) m c = table_keeps values c
    element_keeps h m c = λ fit. refl

    -- an element that is stored into, or whose address is pushed
    module _ (t u : ℕ) (out : IsOutside t) where
      after_keeps : (type : ValueType) (w : ℕ) (taken : Bool) (n : ℤ) (ps qs : List Piece) → Keeps ps qs
          → Keeps (store_after type w taken n ps t) (store_after type w taken n qs u)
      after_keeps type w true n ps qs keep = keeps_then _ _ _ (keeps_then ps qs _ keep)
      after_keeps type w false n ps qs keep = no_store t _ _ out

      numbered_store : (type : ValueType) (w : ℕ) (c : Option ℤ)
          → Keeps (store_code (by_number type w c here) t) (store_code (by_number type w c there) u)
      numbered_store type w (Some c) = no_store t _ _ out
      numbered_store type w None =
          after_keeps type w small (or_zero (stored_offset type o)) _ _
          (without_keeps (stored_offset type o) whole first others firsts one two)

      element_store : (h : Option Home) (m : Option Meaning) (c : Option ℤ)
          → Keeps (store_code (element_target h m c here) t) (store_code (element_target h m c there) u)
      element_store (Some (Word w)) (Some (Array kind type size range)) c = numbered_store type w c
      element_store (Some (Word w)) m c = λ fit. refl
      element_store (Some (Passed w)) (Some (Array kind type size range)) c = numbered_store type w c
      element_store (Some (Passed w)) m c = λ fit. refl
      element_store h m c = λ fit. refl

      -- an element that is sent
      numbered_message : (type : ValueType) (w : ℕ) (c : Option ℤ) (ps qs : List Piece)
          → Keeps (message_code (by_number type w c here) t ps) (message_code (by_number type w c there) u qs)
      numbered_message type w (Some c) ps qs = λ fit. refl
      numbered_message type w None ps qs = keeps_then whole others _ one

      no_message : (ps qs : List Piece) → Keeps (message_code NoTarget t ps) qs
      no_message ps qs fit =
          let less = (all_last (FitsIn p.program) ps (stores t ∷ points t ∷ []) fit).0 in
          absurd (omega (arith, less, out))

      element_message : (h : Option Home) (m : Option Meaning) (c : Option ℤ) (ps qs : List Piece)
          → Keeps (message_code (element_target h m c here) t ps) (message_code (element_target h m c there) u qs)
      element_message (Some (Word w)) (Some (Array kind type size range)) c ps qs = numbered_message type w c ps qs
      element_message (Some (Word w)) m c ps qs = no_message ps _
      element_message (Some (Passed w)) (Some (Array kind type size range)) c ps qs = numbered_message type w c ps qs
      element_message (Some (Passed w)) m c ps qs = no_message ps _
      element_message h m c ps qs = no_message ps _

    numbered_address : (type : ValueType) (w : ℕ) (c : Option ℤ)
        → Keeps (target_address (by_number type w c here)) (target_address (by_number type w c there))
    numbered_address type w (Some c) = λ fit. refl
    numbered_address type w None = keeps_then whole others _ one

    element_address : (h : Option Home) (m : Option Meaning) (c : Option ℤ)
        → Keeps (target_address (element_target h m c here)) (target_address (element_target h m c there))
    element_address (Some (Word w)) (Some (Array kind type size range)) c = numbered_address type w c
    element_address (Some (Word w)) m c = λ fit. refl
    element_address (Some (Passed w)) (Some (Array kind type size range)) c = numbered_address type w c
    element_address (Some (Passed w)) m c = λ fit. refl
    element_address h m c = λ fit. refl

    numbered_cleaned : (type : ValueType) (w : ℕ) (c : Option ℤ)
        → cleaned (by_number type w c here) ≡ cleaned (by_number type w c there)
    numbered_cleaned type w (Some c) = refl
    numbered_cleaned type w None = refl

    element_cleaned : (h : Option Home) (m : Option Meaning) (c : Option ℤ)
        → cleaned (element_target h m c here) ≡ cleaned (element_target h m c there)
    element_cleaned (Some (Word w)) (Some (Array kind type size range)) c = numbered_cleaned type w c
    element_cleaned (Some (Word w)) m c = refl
    element_cleaned (Some (Passed w)) (Some (Array kind type size range)) c = numbered_cleaned type w c
    element_cleaned (Some (Passed w)) m c = refl
    element_cleaned h m c = refl

  -- ---- expressions

  module _ (hs : List Home) (es : List Entry) where
    mutual
      -- expressions, chains and operands
      expression_keeps : (e : Expression) (t u : ℕ) → IsOutside t
          → Keeps (expression_code hs es t e) (expression_code hs es u e)
      expression_keeps (Alone x) t u out =
          constant_keeps (exact_value (bound_of es (Alone x))) _ _ (term_keeps x t u out)
      expression_keeps (Prefixed op x) t u out =
          constant_keeps (exact_value (bound_of es (Prefixed op x))) _ _ (keeps_then _ _ _ (term_keeps x t u out))
      expression_keeps (Paired op x y) t u out =
          let next = next_outside t out in
          constant_keeps (exact_value (bound_of es (Paired op x y))) _ _
          (keeps_then _ _ _
          (pair_keeps t u out _ _ _ _ _ _ _ _ _ _ _ _ (term_keeps x t u out)
          (term_keeps x (word_after t 1) (word_after u 1) next) (term_keeps y t u out)
          (term_keeps y (word_after t 1) (word_after u 1) next) op (exact_value (bound_of_term es x))
          (exact_value (bound_of_term es y))))
      expression_keeps (Chained op xs) t u out =
          constant_keeps (exact_value (bound_of es (Chained op xs))) _ _ (terms_keep xs t u out op (front_in es op xs))

      first_keeps : (e : Expression) (t u : ℕ) → IsOutside t → Keeps (first_code hs es t e) (first_code hs es u e)
      first_keeps (Chained op xs) t u out = first_term_keeps xs t u out
      first_keeps e t u out = λ fit. refl

      first_term_keeps : (xs : Terms) (t u : ℕ) → IsOutside t
          → Keeps (first_of_terms hs es t xs) (first_of_terms hs es u xs)
      first_term_keeps (Two x y) t u out = term_keeps x t u out
      first_term_keeps (Then xs x) t u out = first_term_keeps xs t u out

      terms_keep : (xs : Terms) (t u : ℕ) → IsOutside t → (op : _) (front : Option Front)
          → Keeps (terms_code hs es t op front xs) (terms_code hs es u op front xs)
      terms_keep (Two x y) t u out op front =
          let next = next_outside t out in
          constant_keeps (covered front 2) _ _
          (keeps_then _ _ _
          (chain_keeps t u out _ _ _ _ _ _ _ _ _ _ _ _ (term_keeps x t u out)
          (term_keeps x (word_after t 1) (word_after u 1) next) (term_keeps y t u out)
          (term_keeps y (word_after t 1) (word_after u 1) next) (added_by op (exact_value (bound_of_term es y)))))
      terms_keep (Then xs x) t u out op front =
          let next = next_outside t out in
          keeps_both _ _ _ _ (terms_keep xs t u out op front)
          (unless_keeps (is_known (covered front (count_of xs + 1))) _ _
          (adds_keeps (added_by op (exact_value (bound_of_term es x))) _ _
          (keeps_then _ _ _ (onto_keeps t u out false (is_small_term es x) _ _
          (term_keeps x (word_after t 1) (word_after u 1) next)))))

      term_keeps : (x : Term) (t u : ℕ) → IsOutside t → Keeps (term_code hs es t x) (term_code hs es u x)
      term_keeps (Number value) t u out = λ fit. refl
      term_keeps (Byte byte) t u out = λ fit. refl
      term_keeps (Truth holds) t u out = λ fit. refl
      term_keeps MostPos t u out = λ fit. refl
      term_keeps MostNeg t u out = λ fit. refl
      term_keeps (Named name) t u out = λ fit. refl
      term_keeps (Element name e) t u out =
          element_keeps _ _ _ _ (offset_of es e) (is_small es e) (expression_keeps e t u out) (first_keeps e t u out)
          (home_of hs es name) (meaning_in name es) (single (range_found (bound_of es e)))
      term_keeps (Bracketed e) t u out = expression_keeps e t u out
      term_keeps (Converted to x) t u out = term_keeps x t u out

    -- ---- actions

    -- what is stored in the same place
    target_stays : (t u : ℕ) → IsOutside t → (target : Target) → Keeps (store_code target t) (store_code target u)
    target_stays t u out NoTarget = λ fit. refl
    target_stays t u out (OwnWord type w) = λ fit. refl
    target_stays t u out (KnownElement type w n) = no_store t _ _ out
    target_stays t u out (OtherElement type w s) =
        after_keeps [] [] [] [] None true (λ fit. refl) (λ fit. refl) t u out type w s.small
        (or_zero (stored_offset type s.offset)) _ _ (same (without (stored_offset type s.offset) s.whole s.first))

    -- a target, by the words from which its subscript has them free
    store_keeps : (name : List ℕ) (o : Option Expression) (t u a b : ℕ) → IsOutside t → IsOutside a
        → Keeps (store_code (target_of hs es a (record { name = name; subscript = o })) t)
        (store_code (target_of hs es b (record { name = name; subscript = o })) u)
    store_keeps name None t u a b out next =
        target_stays t u out (whole_target (home_of hs es name) (meaning_in name es))
    store_keeps name (Some e) t u a b out next =
        element_store _ _ _ _ (offset_of es e) (is_small es e) (expression_keeps e a b next)
        (first_keeps e a b next) t u out
        (home_of hs es name) (meaning_in name es) (single (range_found (bound_of es e)))

    address_keeps : (name : List ℕ) (o : Option Expression) (t u : ℕ) → IsOutside t
        → Keeps (target_address (target_of hs es t (record { name = name; subscript = o })))
        (target_address (target_of hs es u (record { name = name; subscript = o })))
    address_keeps name None t u out = λ fit. refl
    address_keeps name (Some e) t u out =
        element_address _ _ _ _ (offset_of es e) (is_small es e) (expression_keeps e t u out) (first_keeps e t u out)
        (home_of hs es name) (meaning_in name es) (single (range_found (bound_of es e)))

    cleaned_keeps : (name : List ℕ) (o : Option Expression) (t u : ℕ) → IsOutside t
        → Keeps (cleaned (target_of hs es t (record { name = name; subscript = o })))
        (cleaned (target_of hs es u (record { name = name; subscript = o })))
    cleaned_keeps name None t u out = λ fit. refl
    cleaned_keeps name (Some e) t u out = λ fit.
        element_cleaned _ _ _ _ (offset_of es e) (is_small es e) (expression_keeps e t u out) (first_keeps e t u out)
        (home_of hs es name) (meaning_in name es) (single (range_found (bound_of es e)))

    -- the code of each action
    assign_keeps : (target : Place) (value : Expression) (t u : ℕ) → IsOutside t
        → Keeps (assign_code hs es t target value) (assign_code hs es u target value)
    assign_keeps target value t u out =
        keeps_both _ _ _ _ (expression_keeps value t u out)
        (store_keeps target.name target.subscript t u (word_after t 1) (word_after u 1) out (next_outside t out))

    input_keeps : (channel target : Place) (t u : ℕ) → IsOutside t
        → Keeps (input_code hs es t channel target) (input_code hs es u channel target)
    input_keeps channel target t u out =
        keeps_both _ _ _ _
        (keeps_then _ _ (exchange hs es channel INPUT) (address_keeps target.name target.subscript t u out))
        (cleaned_keeps target.name target.subscript t u out)

    -- a value is where it is already, or waits in a temporary
    whole_message : (t u : ℕ) → IsOutside t → (source : Target) (ps qs : List Piece)
        → Keeps (message_code source t ps) (message_code source u qs)
    whole_message t u out NoTarget ps qs =
        no_message [] [] [] [] None true (λ fit. refl) (λ fit. refl) t u out ps _
    whole_message t u out (OwnWord type w) ps qs = λ fit. refl
    whole_message t u out (KnownElement type w n) ps qs = λ fit. refl
    whole_message t u out (OtherElement type w s) ps qs = λ fit. refl

    message_keeps : (value : Expression) (t u : ℕ) → IsOutside t → (ps qs : List Piece)
        → Keeps (message_code (source_of hs es t value) t ps) (message_code (source_of hs es u value) u qs)
    message_keeps (Alone (Named name)) t u out ps qs =
        whole_message t u out (whole_target (home_of hs es name) (meaning_in name es)) ps qs
    message_keeps (Alone (Element name e)) t u out ps qs =
        element_message _ _ _ _ (offset_of es e) (is_small es e) (expression_keeps e t u out)
        (first_keeps e t u out) t u out
        (home_of hs es name) (meaning_in name es) (single (range_found (bound_of es e))) ps qs
    message_keeps (Alone x) t u out ps qs = whole_message t u out NoTarget ps qs
    message_keeps e t u out ps qs = whole_message t u out NoTarget ps qs

    output_keeps : (channel : Place) (value : Expression) (t u : ℕ) → IsOutside t
        → Keeps (output_code hs es t channel value) (output_code hs es u channel value)
    output_keeps channel value t u out =
        keeps_then _ _ (exchange hs es channel OUTPUT) (message_keeps value t u out _ _)

  -- what is written of them
  written_keeps : (ps qs : List Piece) (label : ℕ) (c : Code) → written ps label ≡ Some c → AllFit p.program c.pieces
      → Keeps ps qs → written qs label ≡ Some c
  written_keeps ps qs label c is fit keep =
      ap (λ (xs : List Piece). written xs label)
      (sym (keep (subst (AllFit p.program) (written_is ps label c is) fit))) ∙ is

  -- So is that of an action.
  pub action_elsewhere : (f : Frame) (u : ℕ) (es : List Entry) (label : ℕ) (action : Action) (c : Code)
      → IsOutside f.top → GoesOn action → action_code f es label action ≡ Some c → AllFit p.program c.pieces
      → action_code (record f { top = u }) es label action ≡ Some c
  action_elsewhere f u es label Skip c out goes is fit = is
  action_elsewhere f u es label (Assign target value) c out goes is fit =
      written_keeps _ _ label c is fit (assign_keeps f.homes es target value f.top u out)
  action_elsewhere f u es label (Input channel target) c out goes is fit =
      written_keeps _ _ label c is fit (input_keeps f.homes es channel target f.top u out)
  action_elsewhere f u es label (Output channel value) c out goes is fit =
      written_keeps _ _ label c is fit (output_keeps f.homes es channel value f.top u out)
  action_elsewhere f u es label Stop c out goes is fit = absurd goes
  action_elsewhere f u es label (Instance name actuals) c out goes is fit = absurd goes
