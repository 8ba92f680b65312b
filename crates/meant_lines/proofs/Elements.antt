-- The code of an element pushes it, where the code of its subscript pushes that.
use Rattle.std.proofs.Common.{◌≡◌, ℕ, ◌≤◌, ℤ, pos, Bool, true, false, cond, ◌&&◌, List, [], ◌∷◌, ◌++◌, Option, Some}
use Rattle.std.proofs.Common.{None, Result, Ok, FitsSigned, IsSomeAnd, refl, sym, ap, subst, ◌∙◌, arith, int_le}
use Rattle.std.specs.Prelude.{◌+ℤ◌, option_and_then, IfSome}
use Rattle.std.specs.Int.{w32}
use Rattle.std.specs.Ordering.{int_eq}
use Rattle.std.proofs.lemmas.Bool.{and_parts}
use Rattle.std.proofs.lemmas.Bool.Decides.{Decides-int_eq}
use Rattle.std.proofs.lemmas.Int.{ints}
use Rattle.word_arithmetic.specs.Range.{Ends, InRange, bytes}
use Rattle.word_arithmetic.specs.Word.{is_word}
use Rattle.machine_state.specs.Memory.{Memory}
use Rattle.occam_parser.specs.declared.tree.ValueType.{ValueType}
use Rattle.occam_parser.specs.declared.tree.ValueType.TheVariants as value_type
use Rattle.occam_parser.specs.declared.tree.ChainOperator.{ChainOperator}
use Rattle.occam_parser.specs.declared.tree.ChainOperator.TheVariants as chain
use Rattle.occam_parser.specs.Expressions.{Expression, Alone, Prefixed, Paired, Chained, Terms, Two, Then}
use Rattle.occam_parser.specs.Expressions.{Element}
use Rattle.scalar_ranges.specs.declared.scope.ArrayKind.{ArrayKind}
use Rattle.scalar_ranges.specs.declared.types.ExprType.{ExprType}
use Rattle.scalar_ranges.specs.declared.types.ExprType.TheVariants as types
use Rattle.scalar_ranges.specs.Bounds.{Bound, ends, bound_of, bound_of_term, exact_value, range_found}
use Rattle.scalar_ranges.specs.Entries.{Meaning, Array, Entry, meaning_in}
use Rattle.scalar_ranges.specs.Environments.{Held, Nothing, One, Many, Environment, held_in, item_of, element_of}
use Rattle.scalar_ranges.specs.Laws.{IsBound}
use Rattle.scalar_ranges.specs.Types.{element_type, type_of_values}
use Rattle.scalar_ranges.specs.Values.{number_of, number_of_term, truth_of_term, chain_value}
use Rattle.scalar_ranges.proofs.BoundLaws.{bounds_hold}
use Rattle.scalar_ranges.proofs.Operators.{bound_lies}
use Rattle.scalar_ranges.proofs.Parts.{both_are, ok_same}
use Rattle.program_meaning.specs.GoingWell.{IsTrueIn}
use Rattle.program_meaning.specs.TypedValues.{IsNumberOf}
use Rattle.code_pieces.specs.declared.operations.TheConstants.{LOAD_BYTE, WORD_SUBSCRIPT}
use Rattle.code_pieces.specs.Pieces.{Piece, TableAddress, operates}
use Rattle.line_pieces.specs.Homes as home
use Rattle.line_pieces.specs.Homes.{Home, Nowhere, Word, Block, Link, Passed, home_of}
use Rattle.line_pieces.specs.Expressions.{Subscript, single, offset_of, offset_of_terms, offset_or_none, added_by}
use Rattle.line_pieces.specs.Expressions.{greatest_offset, without, or_zero, before_offset, subscript_code, loads_at}
use Rattle.line_pieces.specs.Expressions.{element_of_words, element_of_table}
use Rattle.line_pieces.specs.Expressions.{element_code, first_code, expression_code, is_leaf, is_small, subscript_of}
use Rattle.line_pieces.specs.Expressions.{term_code}
use Rattle.meant_lines.specs.Carrying.{Ground, IsKeptThere, Carries}
use Rattle.meant_lines.specs.Pushing.{Pushes}
use Rattle.meant_lines.specs.PushingLaws.{IsArray, AreSubscripts}
use Rattle.meant_lines.specs.ChainLaws.{word_of_term}
use Rattle.meant_lines.specs.ExpressionLaws.{IsChecked, SubscriptPushes}
use Rattle.meant_lines.proofs.Arithmetic.{checked_by}
use Rattle.meant_lines.proofs.Carrying.{names_are_kept}
use Rattle.meant_lines.proofs.Chains.{added_value}
use Rattle.meant_lines.proofs.Checking.{bound_in, two_parts, element_part}
use Rattle.meant_lines.proofs.Operators.{first_stand, rest_stand}
use Rattle.meant_lines.proofs.Pushing as pushing
use Rattle.meant_lines.proofs.WordsKnown.{words_are_known, number_typed, some_word}

-- ---- subscripts

-- the number that a range of one number has
single_by : (t : Bool) (r : Ends) (i c : ℤ) → int_eq r.lo r.hi ≡ t → cond t (Some r.lo) None ≡ Some c → InRange r i
    → i ≡ c
single_by true r i c test is lies =
    let low = lies.from_lo in
    let high = lies.to_hi in
    let same : r.lo ≡ c = cc is in
    let one : r.lo ≡ r.hi = (Decides-int_eq r.lo r.hi).0 test in
    omega (arith, ints, low, high, same, one)
single_by false r i c test is lies = absurd (cc is)

-- a subscript is the single value of its range
pub single_value : (es : List Entry) (env : Environment) (e : Expression) (i c : ℤ) → IsTrueIn es env
    → IsChecked es e types.Int → number_of env e ≡ Some i → single (range_found (bound_of es e)) ≡ Some c → i ≡ c
single_value es env e i c holds check is one =
    let b = bound_in es e types.Int check in
    let has = bounds_hold es env e types.Int b.0 holds.meets check.type_is b.1 in
    let lies : IsBound b.0 i = subst (λ (n : Option ℤ). IsSomeAnd n (IsBound b.0)) is has in
    single_by (int_eq (ends b.0).lo (ends b.0).hi) (ends b.0) i c refl
    (ap (λ (r : Result Bound ℕ). single (range_found r)) (sym b.1) ∙ one) (bound_lies b.0 i lies)

-- the first of two operands
abbrev pub word_of_first_term : Environment → Terms → Option ℤ
word_of_first_term env (Two x y) = word_of_term env x
word_of_first_term env (Then ts x) = None

abbrev pub word_of_first : Environment → Expression → Option ℤ
word_of_first env (Chained op ts) = word_of_first_term env ts
word_of_first env (Alone x) = None
word_of_first env (Prefixed op x) = None
word_of_first env (Paired op x y) = None

offset_by : (t : Bool) (c d : ℤ) → (int_le (pos 0) c && int_le c greatest_offset) ≡ t → cond t (Some c) None ≡ Some d
    → (c ≡ d) × FitsSigned w32 d
offset_by true c d test is =
    let parts = and_parts (int_le (pos 0) c) (int_le c greatest_offset) test in
    let same : c ≡ d = cc is in
    (same, subst (FitsSigned w32) same (omega (arith, ints, parts.0, parts.1)))
offset_by false c d test is = absurd (cc is)

offset_is : (o : Option ℤ) (d : ℤ) → offset_or_none o ≡ Some d → (o ≡ Some d) × FitsSigned w32 d
offset_is None d is = absurd (cc is)
offset_is (Some c) d is =
    let by = offset_by (int_le (pos 0) c && int_le c greatest_offset) c d refl is in (ap Some by.0, by.1)

-- a subscript is the sum of its first operand and its constant
pub record IsSum (env : Environment) (e : Expression) (i c : ℤ) : Type 0 where
  pub x : ℤ
  pub first : word_of_first env e ≡ Some x
  pub x_fits : FitsSigned w32 x
  pub c_fits : FitsSigned w32 c
  pub sum : x +ℤ c ≡ i

sum_of_terms : (es : List Entry) (env : Environment) (op : ChainOperator) (ts : Terms) (i c : ℤ) → IsTrueIn es env
    → IsChecked es (Chained op ts) types.Int → offset_of_terms es op ts ≡ Some c
    → number_of env (Chained op ts) ≡ Some i → IsSum env (Chained op ts) i c
sum_of_terms es env op (Then ts y) i c holds check offset is = absurd (cc offset)
sum_of_terms es env (chain.Logic op) (Two x y) i c holds check offset is = absurd (cc is)
sum_of_terms es env (chain.Arithmetic op) (Two x y) i c holds check offset is =
    let p = both_are (number_of_term env x) (number_of_term env y) (chain_value op) i is in
    let parts = two_parts es (chain.Arithmetic op) x y types.Int check in
    let first : word_of_term env x ≡ Some p.0 = some_word (number_of_term env x) (truth_of_term env x) p.0 p.2 in
    let second : word_of_term env y ≡ Some p.1 = some_word (number_of_term env y) (truth_of_term env y) p.1 p.3 in
    let known = words_are_known es env (Alone y) parts.1 p.1 holds parts.3 second in
    let added = offset_is (added_by (chain.Arithmetic op) (exact_value (bound_of_term es y))) c offset in
    record {
      x = p.0;
      first = first;
      x_fits = (words_are_known es env (Alone x) parts.0 p.0 holds parts.2 first).fits;
      c_fits = added.1;
      sum = checked_by (is_word (p.0 +ℤ c)) (p.0 +ℤ c) i
          (added_value (chain.Arithmetic op) (exact_value (bound_of_term es y)) c p.0 p.1 i added.0 known.known p.4);
    }

pub sum_of : (es : List Entry) (env : Environment) (e : Expression) (i c : ℤ) → IsTrueIn es env
    → IsChecked es e types.Int → offset_of es e ≡ Some c → number_of env e ≡ Some i → IsSum env e i c
sum_of es env (Chained op ts) i c holds check offset is = sum_of_terms es env op ts i c holds check offset is
sum_of es env (Alone x) i c holds check offset is = absurd (cc offset)
sum_of es env (Prefixed op x) i c holds check offset is = absurd (cc offset)
sum_of es env (Paired op x y) i c holds check offset is = absurd (cc offset)

typed_byte : (n : Option ℤ) (u : ExprType) (v : ℤ) → n ≡ Some v → u ≡ types.Byte → IfSome n (IsNumberOf u)
    → InRange bytes v
typed_byte n u v number byte typed =
    subst (λ (o : Option ℤ). IfSome o (IsNumberOf types.Byte)) number
    (subst (λ (x : ExprType). IfSome n (IsNumberOf x)) byte typed)

no_offset : (i : ℤ) → i +ℤ pos 0 ≡ i
no_offset i = omega (arith, ints)

module _ (g : Ground) (top t : ℕ) (es : List Entry) (env : Environment) (holds : IsTrueIn es env) (low : top ≤ t)
    (e : Expression) (i v : ℤ) (check : IsChecked es e types.Int) (is : number_of env e ≡ Some i)
    (whole : Pushes g top es env (expression_code g.homes es t e) t (is_leaf es e) (is_small es e) i)
    (first : (x : ℤ) → word_of_first env e ≡ Some x
    → Pushes g top es env (first_code g.homes es t e) t false (is_small es e) x) where
  abbrev s : Subscript
  s = subscript_of g.homes es t e

  -- what the code of a subscript without its constant pushes
  record HasSubscript (vs : List ℤ) (o : Option ℤ) : Type 0 where
    leaf : Bool
    x : ℤ
    are : AreSubscripts vs x (or_zero o) v
    pushes : Pushes g top es env (without o s.whole s.first) t leaf (is_small es e) x

  has_by : (vs : List ℤ) (o : Option ℤ) → offset_of es e ≡ o → item_of vs i ≡ Some v → HasSubscript vs o
  has_by vs None offset item =
      let fits = (words_are_known es env e types.Int i holds check (some_word (number_of env e) _ i is)).fits in
      record {
        leaf = is_leaf es e;
        x = i;
        are = record {
          first = fits;
          offset = omega (arith, ints);
          both = subst (FitsSigned w32) (sym (no_offset i)) fits;
          selects = ap (item_of vs) (no_offset i) ∙ item;
        };
        pushes = whole;
      }
  has_by vs (Some c) offset item =
      let sum = sum_of es env e i c holds check offset is in
      let fits = (words_are_known es env e types.Int i holds check (some_word (number_of env e) _ i is)).fits in
      record {
        leaf = false;
        x = sum.x;
        are = record {
          first = sum.x_fits;
          offset = sum.c_fits;
          both = subst (FitsSigned w32) (sym sum.sum) fits;
          selects = ap (item_of vs) sum.sum ∙ item;
        };
        pushes = first sum.x sum.first;
      }

  pub subscript_pushes : (vs : List ℤ) → item_of vs i ≡ Some v → SubscriptPushes g top es env t e vs v
  subscript_pushes vs item =
      let has = has_by vs (offset_of es e) refl item in
      record { leaf = has.leaf; i = has.x; are = has.are; pushes = has.pushes }

  -- ---- elements

  module _ (name : List ℕ) (kind : ArrayKind) (type : ValueType) (size : Option ℕ) (range : Ends) (vs : List ℤ)
      (means : meaning_in name es ≡ Some (Array kind type size range)) (held : held_in name env ≡ Many vs)
      (item : item_of vs i ≡ Some v) (typed : type ≡ value_type.Byte → InRange bytes v) where
    array_at : (h : Home) → home_of g.homes es name ≡ Some h → IsArray g es env name type h vs
    array_at h at =
        record {
          kind = kind;
          size = size;
          range = range;
          meets = holds.meets;
          means = means;
          at = at;
          holds = held;
        }

    sub : SubscriptPushes g top es env t e vs v
    sub = subscript_pushes vs item

    known_item : (c : ℤ) → i ≡ c → item_of vs c ≡ Some v
    known_item c same = ap (item_of vs) (sym same) ∙ item

    words_by : (u : ValueType) (w : ℕ) (o : Option ℤ) → type ≡ u → home_of g.homes es name ≡ Some (Word w)
        → ((c : ℤ) → o ≡ Some c → i ≡ c)
        → Pushes g top es env (element_of_words u w o s) t false (is_small es e) v
    words_by value_type.Int w (Some c) same at one stand h carries =
        pushing.known_words_push g top t w es env name vs s false (is_small es e) c v
        (subst (λ (u : ValueType). IsArray g es env name u (Word w) vs) same (array_at (Word w) at))
        (known_item c (one c refl)) h carries
    words_by value_type.Byte w (Some c) same at one stand h carries =
        pushing.known_bytes_push g top t w es env name vs s (is_small es e) c v
        (subst (λ (u : ValueType). IsArray g es env name u (Word w) vs) same (array_at (Word w) at))
        (known_item c (one c refl)) h carries
    words_by value_type.Int w None same at one stand h carries =
        let code : List Piece = before_offset s ++ subscript_code value_type.Int w in
        pushing.words_push g top t w es env name vs s sub.leaf (is_small es e) sub.i v low
        (subst (λ (u : ValueType). IsArray g es env name u (Word w) vs) same (array_at (Word w) at)) sub.are
        (λ k kept. sub.pushes (first_stand g (before_offset s) (subscript_code value_type.Int w)
        (first_stand g code (loads_at (or_zero s.offset) ∷ []) stand)) k kept) h carries
    words_by value_type.Byte w None same at one stand h carries =
        let code : List Piece = s.whole ++ subscript_code value_type.Byte w in
        pushing.bytes_push g top t w es env name vs s (is_leaf es e) (is_small es e) i v low
        (subst (λ (u : ValueType). IsArray g es env name u (Word w) vs) same (array_at (Word w) at)) item
        (λ k kept. whole (first_stand g s.whole (subscript_code value_type.Byte w)
        (first_stand g code (operates LOAD_BYTE ∷ []) stand)) k kept) h carries

    table_by : (values : List ℤ) (o : Option ℤ) → home_of g.homes es name ≡ Some (home.Table values)
        → ((c : ℤ) → o ≡ Some c → i ≡ c) → Pushes g top es env (element_of_table values o s) t false (is_small es e) v
    table_by values (Some c) at one stand h carries =
        pushing.known_items_push g top t es env name type values vs s (is_small es e) c v
        (array_at (home.Table values) at) stand.0 (known_item c (one c refl)) h carries
    table_by values None at one stand h carries =
        let rest : List Piece =
        TableAddress values ∷ operates WORD_SUBSCRIPT ∷ loads_at (or_zero s.offset) ∷ [] in
        pushing.items_push g top t es env name type values vs s sub.leaf (is_small es e) sub.i v low
        (array_at (home.Table values) at) (rest_stand g (before_offset s) rest stand).0 sub.are
        (λ k kept. sub.pushes (first_stand g (before_offset s) rest stand) k kept) h carries

    -- what is in memory of the array
    kept_in : (o : Option Home) (m : Memory) → home_of g.homes es name ≡ o → Carries g top es env m
        → IsKeptThere g m o (Array kind type size range) (Many vs)
    kept_in o m at carries =
        subst (λ (x : Option Home). IsKeptThere g m x (Array kind type size range) (Many vs)) at
        (subst (λ (x : Held). IsKeptThere g m (home_of g.homes es name) (Array kind type size range) x) held
        (names_are_kept g m es env name (Array kind type size range) holds.meets carries.kept means))

    element_by : (o : Option Home) (c : Option ℤ) → home_of g.homes es name ≡ o → ((d : ℤ) → c ≡ Some d → i ≡ d)
        → Pushes g top es env (element_code o (Some (Array kind type size range)) c s) t false (is_small es e) v
    element_by (Some (Word w)) c at one stand h carries = words_by type w c refl at one stand h carries
    element_by (Some (home.Table values)) c at one stand h carries =
        table_by values c at one stand h carries
    element_by None c at one stand h carries = absurd (kept_in None h.memory at carries)
    element_by (Some Nowhere) c at one stand h carries = absurd (kept_in (Some Nowhere) h.memory at carries)
    element_by (Some (Block w head)) c at one stand h carries =
        absurd (kept_in (Some (Block w head)) h.memory at carries)
    element_by (Some (Link n)) c at one stand h carries = absurd (kept_in (Some (Link n)) h.memory at carries)
    element_by (Some (Passed w)) c at one stand h carries = absurd (kept_in (Some (Passed w)) h.memory at carries)

  -- ---- what a name denotes

  meaning_by : (name : List ℕ) (m : Option Meaning) (h : Held) (u : ExprType) → meaning_in name es ≡ m
      → held_in name env ≡ h → element_type m ≡ Ok u → element_of h i ≡ Some v → (u ≡ types.Byte → InRange bytes v)
      → Pushes g top es env (element_code (home_of g.homes es name) m (single (range_found (bound_of es e))) s) t false
      (is_small es e) v
  meaning_by name (Some (Array kind type size range)) (Many vs) u means held element item typed =
      element_by name kind type size range vs means held item
      (λ same. typed (sym (ok_same (type_of_values type) u element) ∙ ap type_of_values same))
      (home_of g.homes es name) (single (range_found (bound_of es e))) refl
      (λ c one. single_value es env e i c holds check is one)
  meaning_by name (Some (Array kind type size range)) Nothing u means held element item typed = absurd (cc item)
  meaning_by name (Some (Array kind type size range)) (One w) u means held element item typed = absurd (cc item)
  meaning_by name None h u means held element item typed = absurd (cc element)
  meaning_by name (Some m) h u means held element item typed = absurd (cc element)

  pub element_pushes : (name : List ℕ) (u : ExprType) → IsChecked es (Alone (Element name e)) u
      → option_and_then (element_of (held_in name env)) (number_of env e) ≡ Some v
      → Pushes g top es env (term_code g.homes es t (Element name e)) t false (is_small es e) v
  element_pushes name u checked value =
      let part = element_part es name e u checked in
      let number : number_of env (Alone (Element name e)) ≡ Some v = value in
      let typed = number_typed es env (Alone (Element name e)) u holds checked in
      meaning_by name (meaning_in name es) (held_in name env) u refl refl part.1
      (ap (option_and_then (element_of (held_in name env))) (sym is) ∙ value)
      (λ byte. typed_byte (number_of env (Alone (Element name e))) u v number byte typed)
