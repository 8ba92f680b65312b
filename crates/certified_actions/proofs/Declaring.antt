-- What the code of declarations leaves known.
use Rattle.std.proofs.Common.{◌≡◌, ℕ, suc, ◌+◌, ◌<◌, ◌≤◌, ℤ, pos, Bool, true, false, cond, List, [], ◌∷◌}
use Rattle.std.proofs.Common.{◌++◌, length, map, Option, Some, None, Result, Ok, Err, FitsSigned, refl, sym, ap, subst}
use Rattle.std.proofs.Common.{◌∙◌, arith}
use Rattle.std.specs.Prelude.{slice_get, fold, option_map, unwrap_or}
use Rattle.std.specs.Int.{w32}
use Rattle.std.specs.List.{AllByRecursion, list_all}
use Rattle.std.proofs.lemmas.Bool.{and_parts}
use Rattle.std.proofs.lemmas.Int.{ints, clamps}
use Rattle.std.proofs.lemmas.List.{length-map}
use Rattle.small_laws.proofs.Comparisons.{eqb-self}
use Rattle.module_format.specs.declared.limits.TheConstants.{MAX_DATA_WORDS}
use Rattle.word_arithmetic.specs.Range.{Ends, IsRange, constant, full, hull}
use Rattle.states.specs.State.{Facts}
use Rattle.occam_layout.specs.Words.{is_byte, are_bytes}
use Rattle.occam_parser.specs.declared.tree.ValueType.{ValueType}
use Rattle.occam_parser.specs.declared.tree.ValueType.TheVariants as value_type
use Rattle.occam_parser.specs.Expressions.{Expression}
use Rattle.occam_parser.specs.Lines.{Value, Declaration, Constants, Variables, Channels}
use Rattle.occam_parser.specs.Lines as lines
use Rattle.occam_parser.specs.OneOrMore.{as_list}
use Rattle.occam_parser.specs.Words.{has_words, value_has_words}
use Rattle.scalar_ranges.specs.declared.scope.ArrayKind.TheVariants as array
use Rattle.scalar_ranges.specs.declared.scope.ScalarKind.TheVariants as scalar
use Rattle.scalar_ranges.specs.declared.types.ExprType.{ExprType}
use Rattle.scalar_ranges.specs.Bounds.{Exactly, bound_of, exact_value}
use Rattle.scalar_ranges.specs.Entries.{Meaning, Entry, type_range}
use Rattle.scalar_ranges.specs.Entries as entries
use Rattle.scalar_ranges.specs.Types.{type_of, type_of_values}
use Rattle.program_meaning.proofs.ValuesTyped.{byte_in_range}
use Rattle.program_uses.specs.Constants.{value_as, size_in, has_type}
use Rattle.program_uses.specs.Declaring.{add, add_all, with_value, range_of_items, range_of_bytes, table_of}
use Rattle.program_uses.specs.Declaring.{constant_meaning, variable_meaning, channel_meaning}
use Rattle.usage_checks.specs.Holding.{HasValue, SizeHoldsIfAny, ValueHolds}
use Rattle.usage_checks.proofs.KnownValues.{types_agree, size_positive}
use Rattle.code_pieces.specs.Pieces.{Piece, word_after}
use Rattle.line_pieces.specs.Declarations.{Frame, with_words, with_names, home_for, item_values, words_in}
use Rattle.line_pieces.specs.Declarations.{channels_in, zero_code, zero_names}
use Rattle.line_pieces.specs.Homes as home
use Rattle.line_pieces.specs.Homes.{Home, Nowhere, Word, Block, Link, Passed, words_for}
use Rattle.certified_lines.specs.StraightRules.{Told, FallOn, done}
use Rattle.certified_lines.specs.ExpressionLaws.{IsRangeOf}
use Rattle.certified_lines.specs.Scopes.{Scene, EachNameHas, IsNumber, AreKnown, AreKnownThere, HoldsScope, IsHoused}
use Rattle.certified_lines.specs.Scopes.{IsHousedThere, IsScope}
use Rattle.certified_lines.specs.Telling.{StayBefore, AreAllowed}
use Rattle.certified_lines.proofs.StraightRules.{fall_both}
use Rattle.certified_lines.proofs.Conditions.{exact_bound}
use Rattle.certified_lines.proofs.Induction.{expressions_tell}
use Rattle.certified_lines.proofs.Operands.{allowed_first, allowed_rest}
use Rattle.certified_lines.proofs.Ranges.{constant_ranged}
use Rattle.certified_lines.proofs.Telling.{scopes_stay, stay_alike}
use Rattle.meant_lines.proofs.Housing.{get_before, get_last, long_more, whole_words, after_counted, names_further}
use Rattle.certified_actions.specs.Declaring.{on_frame, MayUse, HasItems, DeclarationsFall}
use Rattle.certified_actions.specs.Keeping.{FallsTo}
use Rattle.certified_actions.proofs.Zeroing.{scalars_are_zero, arrays_are_full}

-- ---- one name more

-- what each name has is had among more homes
each_longer : (P Q : Option Home → Meaning → Type 0) (hs : List Home) (h : Home) (es : List Entry)
    → ((o : Option Home) (k : Meaning) → P o k → Q o k) → length es ≤ length hs → EachNameHas P hs es
    → EachNameHas Q (hs ++ h ∷ []) es
each_longer P Q hs h [] follows few each = tt
each_longer P Q hs h (e ∷ es) follows few each = (
  subst (λ (o : Option Home). Q o e.meaning) (sym (get_before hs h (length es) (omega (arith, few))))
      (follows (slice_get hs (length es)) e.meaning each.0),
  each_longer P Q hs h es follows (omega (arith, few)) each.1,
)

module _ (g : Scene) (hs : List Home) (f : Facts) where
  -- what is known of a name does not hang on the homes of others
  known_there : (h : Option Home) (k : Meaning) → AreKnownThere g f h k → AreKnownThere (record g { homes = hs }) f h k
  known_there None k is = absurd is
  known_there (Some h) (entries.Constant type value) is = is
  known_there (Some h) (entries.Channel type) is = is
  known_there (Some h) (entries.Channels type size) is = is
  known_there (Some h) (entries.Procedure number) is = is
  known_there (Some Nowhere) (entries.Scalar kind type range) is = is
  known_there (Some (Word w)) (entries.Scalar kind type range) is = is
  known_there (Some (Block w head)) (entries.Scalar kind type range) is = is
  known_there (Some (Link n)) (entries.Scalar kind type range) is = is
  known_there (Some (home.Table values)) (entries.Scalar kind type range) is = is
  known_there (Some (Passed w)) (entries.Scalar kind type range) is = is
  known_there (Some h) (entries.Array kind type size range) is = is

module _ (g : Scene) (hs : List Home) (top more : ℕ) (up : top ≤ more) where
  -- a home that ends before a word ends before a later one
  housed_there : (h : Option Home) (k : Meaning) → IsHousedThere g top h k
      → IsHousedThere (record g { homes = hs }) more h k
  housed_there None k is = absurd is
  housed_there (Some h) (entries.Constant type None) is = absurd is
  housed_there (Some h) (entries.Constant type (Some v)) is = is
  housed_there (Some h) (entries.Channel type) is = is
  housed_there (Some h) (entries.Channels type size) is = is
  housed_there (Some h) (entries.Procedure number) is = is
  housed_there (Some Nowhere) (entries.Scalar kind type range) is = absurd is
  housed_there (Some (Word w)) (entries.Scalar kind type range) is =
      let less = is.1 in (is.0, omega (arith, less, up), is.2)
  housed_there (Some (Block w head)) (entries.Scalar kind type range) is =
      let less = is.1 in (is.0, omega (arith, less, up), is.2, is.3)
  housed_there (Some (Link n)) (entries.Scalar kind type range) is = absurd is
  housed_there (Some (home.Table values)) (entries.Scalar kind type range) is = absurd is
  housed_there (Some (Passed w)) (entries.Scalar kind type range) is = absurd is
  housed_there (Some Nowhere) (entries.Array kind type size range) is = absurd is
  housed_there (Some (Word w)) (entries.Array kind type None range) is = absurd is
  housed_there (Some (Word w)) (entries.Array kind type (Some size) range) is =
      let ends = is.1 in (is.0, omega (arith, ends, up), is.2)
  housed_there (Some (Block w head)) (entries.Array kind type size range) is = absurd is
  housed_there (Some (Link n)) (entries.Array kind type size range) is = absurd is
  housed_there (Some (home.Table values)) (entries.Array array.Table type None range) is = absurd is
  housed_there (Some (home.Table values)) (entries.Array array.Table type (Some size) range) is = is
  housed_there (Some (home.Table values)) (entries.Array array.Variable type size range) is = absurd is
  housed_there (Some (home.Table values)) (entries.Array array.Value type size range) is = absurd is
  housed_there (Some (Passed w)) (entries.Array kind type size range) is = absurd is

-- a name more has its home behind the others, where what is known of words before their top stays
module _ (g : Scene) (hs : List Home) (top more : ℕ) (es : List Entry) (name : List ℕ) (k : Meaning) (h : Home)
    (long : length hs ≡ length es) (up : top ≤ more) where
  abbrev outside : Scene
  outside = record g { homes = hs }

  abbrev inside : Scene
  inside = record g { homes = hs ++ h ∷ [] }

  pub scope_more : more ≤ MAX_DATA_WORDS → IsScope outside top es → IsHousedThere inside more (Some h) k
      → IsScope inside more (add name k es)
  scope_more few scope housed = record {
    housed = (
      subst (λ (o : Option Home). IsHousedThere inside more o k) (sym (get_last hs h (length es) long)) housed,
      each_longer (IsHousedThere outside top) (IsHousedThere inside more) hs h es
          (housed_there outside (hs ++ h ∷ []) top more up) (omega (arith, long)) scope.housed,
    );
    few = few;
  }

  pub holds_more : (old new : Facts) → IsScope outside top es → StayBefore top old new
      → AreKnownThere inside new (Some h) k → HoldsScope outside es old → HoldsScope inside (add name k es) new
  holds_more old new scope stay known holds = (
    subst (λ (o : Option Home). AreKnownThere inside new o k) (sym (get_last hs h (length es) long)) known,
    each_longer (AreKnownThere outside new) (AreKnownThere inside new) hs h es
        (known_there outside (hs ++ h ∷ []) new) (omega (arith, long))
        (scopes_stay outside top top es old new scope (omega arith) stay holds),
  )

-- pieces that fall to a scope behind others
falls_behind : {g : Scene} {top : ℕ} {es : List Entry} {ps qs : List Piece} {s t : Told} → FallOn g.setting ps s t
    → FallsTo g top es qs t → FallsTo g top es (ps ++ qs) s
falls_behind first rest = record {
  after = rest.after;
  falls = fall_both first rest.falls;
  holds = rest.holds;
  scope = rest.scope;
}

-- ---- names one after another

-- the code for each of these names
abbrev codes : (ℕ → List Piece) → ℕ → List (List ℕ) → ℕ → List Piece
codes code count [] word = []
codes code count (name ∷ names) word = code word ++ codes code count names (word_after word count)

-- The code for one name leads to where of its words that is known which a scope says.
record IsSet (g : Scene) (k : Meaning) (word count : ℕ) (ps : List Piece) (before : Told) : Type 0 where
  after : Told
  falls : FallOn g.setting ps before after
  stay : StayBefore word before.frame after.frame
  known : AreKnown g after.frame (Word word) k
  housed : IsHoused g (word + count) (Word word) k

module _ (g : Scene) (k : Meaning) (count first end : ℕ) (code : ℕ → List Piece) (few : end ≤ MAX_DATA_WORDS)
    (set : (hs : List Home) (word : ℕ) (s : Told) → first ≤ word → word + count ≤ end → AreAllowed g (code word)
    → IsSet (record g { homes = hs }) k word count (code word) s) where
  names_fall : (names : List (List ℕ)) (f : Frame) (es : List Entry) (s : Told) → length f.homes ≡ length es
      → first ≤ f.top → (with_names count names f).top ≤ end → AreAllowed g (codes code count names f.top)
      → IsScope (on_frame f g) f.top es → HoldsScope (on_frame f g) es s.frame
      → FallsTo (on_frame (with_names count names f) g) (with_names count names f).top (add_all names k es)
      (codes code count names f.top) s
  names_fall [] f es s long low room all scope holds =
      record { after = s; falls = done; holds = holds; scope = scope }
  names_fall (name ∷ names) f es s long low room all scope holds =
      let later : List Piece = codes code count names (word_after f.top count) in
      let further = names_further count names (with_words count f) (after_counted f.top count) in
      let below : word_after f.top count ≤ end = omega (arith, further, room) in
      let whole = whole_words f.top count (omega (arith, below, few)) in
      let one = set (f.homes ++ Word f.top ∷ []) f.top s low (omega (arith, below, whole))
      (allowed_first g (code f.top) later all) in
      let up : f.top ≤ word_after f.top count = omega (arith, whole) in
      let inner = scope_more g f.homes f.top (word_after f.top count) es name k (Word f.top) long up
      (omega (arith, below, few)) scope
      (subst (λ (n : ℕ). IsHoused (record g { homes = f.homes ++ Word f.top ∷ [] }) n (Word f.top) k) (sym whole)
      one.housed) in
      let held = holds_more g f.homes f.top (word_after f.top count) es name k (Word f.top) long up s.frame
      one.after.frame scope one.stay one.known holds in
      let rest = names_fall names (with_words count f) (add name k es) one.after
      (long_more f.homes (Word f.top) ∙ ap suc long) (omega (arith, low, whole)) room
      (allowed_rest g (code f.top) later all) inner held in
      falls_behind one.falls rest

zero_codes : (size : Option Expression) (count : ℕ) (names : List (List ℕ)) (word : ℕ)
    → codes (λ w. zero_code size w count) count names word ≡ zero_names size count names word
zero_codes size count [] word = refl
zero_codes size count (name ∷ names) word =
    ap (λ (ps : List Piece). zero_code size word count ++ ps) (zero_codes size count names (word_after word count))

no_codes : (count : ℕ) (names : List (List ℕ)) (word : ℕ) → codes (λ w. []) count names word ≡ []
no_codes count [] word = refl
no_codes count (name ∷ names) word = no_codes count names (word_after word count)

-- ---- variables

zero_ranged : IsRange (constant (pos 0))
zero_ranged = constant_ranged (pos 0) (omega (arith, ints))

one_word : (word : ℕ) → word + 0 ≡ word
one_word word = omega arith

scalar_set : (g : Scene) (type : ValueType) (first end : ℕ) (may : MayUse g.setting first end) (hs : List Home)
    (word : ℕ) (s : Told) → first ≤ word → word + 1 ≤ end → AreAllowed g (zero_code None word 1)
    → IsSet (record g { homes = hs }) (entries.Scalar scalar.Variable type (constant (pos 0))) word 1
    (zero_code None word 1) s
scalar_set g type first end may hs word s low high all =
    let few = may.few in
    let zeroed = scalars_are_zero g word s (omega (arith, high, few)) all in
    record {
      after = zeroed.after;
      falls = zeroed.falls;
      stay = zeroed.stay;
      known = subst (λ (n : ℕ). IsNumber zeroed.after.frame n (constant (pos 0))) (one_word word)
          (zeroed.there 0 (omega arith));
      housed = (zero_ranged, omega arith, may.reads word low (omega (arith, high)));
    }

array_set : (g : Scene) (type : ValueType) (size : Expression) (n count first end : ℕ) → count ≡ words_for type n
    → 1 ≤ count → (may : MayUse g.setting first end) (hs : List Home) (word : ℕ) (s : Told) → first ≤ word
    → word + count ≤ end → AreAllowed g (zero_code (Some size) word count)
    → IsSet (record g { homes = hs }) (entries.Array array.Variable type (Some n) (type_range type)) word count
    (zero_code (Some size) word count) s
array_set g type size n count first end same some may hs word s low high all =
    let few = may.few in
    let here : MayUse g.setting word (word + count) = record {
      few = omega (arith, high, few);
      reads = λ k from to. may.reads k (omega (arith, low, from)) (omega (arith, high, to));
      writes = λ k from to. may.writes k (omega (arith, low, from)) (omega (arith, high, to));
    } in
    let zeroed = arrays_are_full g word count s some here all in
    record {
      after = zeroed.after;
      falls = zeroed.falls;
      stay = zeroed.stay;
      known = subst (λ (c : ℕ). (i : ℕ) → i < c → IsNumber zeroed.after.frame (word + i) full) same zeroed.there;
      housed = (
        refl,
        omega (arith, same),
        λ i less. may.reads (word + i) (omega (arith, low)) (omega (arith, high, same, less)),
      );
    }

some_words : (type : ValueType) (n : ℕ) → 1 ≤ n → 1 ≤ words_for type n
some_words value_type.Int n some = some
some_words value_type.Byte n some = omega (arith, some)

module _ (g : Scene) (f : Frame) (es : List Entry) (s : Told) (long : length f.homes ≡ length es)
    (scope : IsScope (on_frame f g) f.top es) (holds : HoldsScope (on_frame f g) es s.frame) where
  -- the scope with these names is led to
  abbrev NamesFall : ℕ → List (List ℕ) → Meaning → List Piece → Type 0
  NamesFall count names k ps =
      FallsTo (on_frame (with_names count names f) g) (with_names count names f).top (add_all names k es) ps s

  variables_fall : (type : ValueType) (size : Option Expression) (names : List (List ℕ)) → SizeHoldsIfAny es size
      → MayUse g.setting f.top (with_names (words_in es type size) names f).top
      → AreAllowed g (zero_names size (words_in es type size) names f.top)
      → NamesFall (words_in es type size) names (variable_meaning es type size)
      (zero_names size (words_in es type size) names f.top)
  variables_fall type None names size may all =
      let code = zero_codes None 1 names f.top in
      let end = (with_names 1 names f).top in
      let k : Meaning = entries.Scalar scalar.Variable type (constant (pos 0)) in
      subst (NamesFall 1 names k) code
      (names_fall g k 1 f.top end (λ w. zero_code None w 1) may.few (scalar_set g type f.top end may) names f es s long
      (omega arith) (omega arith) (subst (AreAllowed g) (sym code) all) scope holds)
  variables_fall type (Some size) names (n, is) may all =
      let count : ℕ = words_in es type (Some size) in
      let words : count ≡ words_for type n = ap (λ (o : Option ℕ). words_for type (unwrap_or o 0)) is in
      let code = zero_codes (Some size) count names f.top in
      let end = (with_names count names f).top in
      let k : Meaning = entries.Array array.Variable type (Some n) (type_range type) in
      subst (λ (m : Meaning). NamesFall count names m (zero_names (Some size) count names f.top))
      (ap (λ (o : Option ℕ). entries.Array array.Variable type o (type_range type)) (sym is))
      (subst (NamesFall count names k) code
      (names_fall g k count f.top end (λ w. zero_code (Some size) w count) may.few
      (array_set g type size n count f.top end words
      (subst (λ (c : ℕ). 1 ≤ c) (sym words) (some_words type n (size_positive es size n is))) may) names f es s long
      (omega arith) (omega arith) (subst (AreAllowed g) (sym code) all) scope holds))

  -- ---- channels

  channel_set : (type : ValueType) (size : Option Expression) (count : ℕ) (hs : List Home) (word : ℕ) (b : Told)
      → IsSet (record g { homes = hs }) (channel_meaning es type size) word count [] b
  channel_set type None count hs word b =
      record { after = b; falls = done; stay = stay_alike word b.frame; known = tt; housed = tt }
  channel_set type (Some size) count hs word b =
      record { after = b; falls = done; stay = stay_alike word b.frame; known = tt; housed = tt }

  channels_fall : (type : ValueType) (size : Option Expression) (names : List (List ℕ))
      → (with_names (channels_in es size) names f).top ≤ MAX_DATA_WORDS
      → NamesFall (channels_in es size) names (channel_meaning es type size) []
  channels_fall type size names few =
      let count : ℕ = channels_in es size in
      let k : Meaning = channel_meaning es type size in
      let code = no_codes count names f.top in
      subst (NamesFall count names k) code
      (names_fall g k count f.top (with_names count names f).top (λ w. []) few
      (λ hs word b low high all. channel_set type size count hs word b) names f es s long (omega arith) (omega arith)
      (subst (AreAllowed g) (sym code) tt) scope holds)

-- ---- constants

hull_ranged : (r : Ends) (v : ℤ) → IsRange r → FitsSigned w32 v → IsRange (hull r (constant v))
hull_ranged r v ranged fits =
    let order = ranged.ordered in
    let lo = ranged.lo_fits in
    let hi = ranged.hi_fits in
    record {
      lo_fits = omega (arith, ints, clamps, lo, fits);
      hi_fits = omega (arith, ints, clamps, hi, fits);
      ordered = omega (arith, ints, clamps, order);
    }

has_its_type : (r : Result ExprType ℕ) (t : ExprType) → has_type t r ≡ true → r ≡ Ok t
has_its_type (Ok s) t is = ap (λ (u : ExprType). Ok u) (types_agree s t (λ no. absurd (cc (sym no ∙ is))))
has_its_type (Err n) t is = absurd (cc is)

value_of_range : (type : ValueType) (v : ℤ) (r : Ends) → IsRangeOf (type_of_values type) (Exactly v) r → IsRange r
    → FitsSigned w32 v
value_of_range value_type.Int v r is ranged = subst (λ (q : Ends). FitsSigned w32 q.lo) is ranged.lo_fits
value_of_range value_type.Byte v r is ranged = subst (λ (q : Ends). FitsSigned w32 q.lo) is ranged.lo_fits

module _ (g : Scene) (top : ℕ) (es : List Entry) (scope : IsScope g top es) (type : ValueType) where
  -- the value of a constant is a word
  value_fits : (e : Expression) (v : ℤ) → has_words e ≡ true → value_as es (type_of_values type) e ≡ Some v
      → FitsSigned w32 v
  value_fits e v words is = by (has_type (type_of_values type) (type_of es e)) refl is
    where
      by : (t : Bool) → has_type (type_of_values type) (type_of es e) ≡ t
          → cond t (exact_value (bound_of es e)) None ≡ Some v → FitsSigned w32 v
      by true test same =
          let told = expressions_tell g top es e (type_of_values type) (Exactly v) scope words
          (has_its_type (type_of es e) (type_of_values type) test) (exact_bound (bound_of es e) v same) in
          value_of_range type v told.range told.is told.ranged
      by false test same = absurd (cc same)

  -- the range of the first items
  abbrev joined : Option Ends → List Expression → Option Ends
  joined o items = fold (λ range e. with_value range (value_as es (type_of_values type) e)) o items

  abbrev AreRanged : Option Ends → Type 0
  AreRanged o = (q : Ends) → o ≡ Some q → IsRange q

  next_ranged : (o : Option Ends) (value : Option ℤ) (e : Expression) → has_words e ≡ true
      → value_as es (type_of_values type) e ≡ value → AreRanged o → AreRanged (with_value o value)
  next_ranged None value e words is ranged q same = absurd (cc same)
  next_ranged (Some p) None e words is ranged q same = absurd (cc same)
  next_ranged (Some p) (Some v) e words is ranged q same =
      let one : hull p (constant v) ≡ q = cc in
      subst IsRange one (hull_ranged p v (ranged p refl) (value_fits e v words is))

  items_ranged : (items : List Expression) (o : Option Ends) → list_all has_words items ≡ true → AreRanged o
      → AreRanged (joined o items)
  items_ranged [] o words ranged = ranged
  items_ranged (e ∷ items) o words ranged =
      let both = and_parts (has_words e) (list_all has_words items) words in
      items_ranged items (with_value o (value_as es (type_of_values type) e)) both.1
      (next_ranged o (value_as es (type_of_values type) e) e both.0 refl ranged)

  first_ranged : (value : Option ℤ) (e : Expression) → has_words e ≡ true → value_as es (type_of_values type) e ≡ value
      → AreRanged (option_map constant value)
  first_ranged None e words is q same = absurd (cc same)
  first_ranged (Some v) e words is q same =
      let one : constant v ≡ q = cc in subst IsRange one (constant_ranged v (value_fits e v words is))

  -- items that have values have a range
  items_found : (items : List Expression) (p : Ends) (o : Option Ends) → o ≡ Some p
      → AllByRecursion (HasValue es (type_of_values type)) items → (r : Ends) × (joined o items ≡ Some r)
  items_found [] p o is each = (p, is)
  items_found (e ∷ items) p o is each =
      items_found items (hull p (constant each.0.0)) (with_value o (value_as es (type_of_values type) e))
      (λ i. with_value (is i) (each.0.1 i)) each.1

-- the bytes of a text
bytes_ranged : (bs : List ℕ) (r : Ends) → are_bytes bs ≡ true → IsRange r
    → IsRange (fold (λ range b. hull range (constant (pos b))) r bs)
bytes_ranged [] r all ranged = ranged
bytes_ranged (b ∷ bs) r all ranged =
    let both = and_parts (is_byte b) (are_bytes bs) all in
    bytes_ranged bs (hull r (constant (pos b))) both.1 (hull_ranged r (pos b) ranged (byte_fits b both.0))
  where
    byte_fits : (b : ℕ) → is_byte b ≡ true → FitsSigned w32 (pos b)
    byte_fits b is =
        let within = byte_in_range b is in
        let low = within.from_lo in
        let high = within.to_hi in
        omega (arith, ints, low, high)

text_found : (bs : List ℕ) → 1 ≤ length bs → are_bytes bs ≡ true
    → (r : Ends) × (range_of_bytes value_type.Byte bs ≡ Some r) × IsRange r
text_found [] some all = absurd (omega (arith, some))
text_found (b ∷ bs) some all =
    let both = and_parts (is_byte b) (are_bytes bs) all in
    (_, refl, bytes_ranged bs (constant (pos b)) both.1 (byte_ranged b both.0))
  where
    byte_ranged : (b : ℕ) → is_byte b ≡ true → IsRange (constant (pos b))
    byte_ranged b is =
        let within = byte_in_range b is in
        let low = within.from_lo in
        let high = within.to_hi in
        constant_ranged (pos b) (omega (arith, ints, low, high))

-- a table that has its items is in the constants
table_set : (g : Scene) (hs : List Home) (top : ℕ) (f : Facts) (type : ValueType) (size : Option ℕ) (count : ℕ)
    (range : Option Ends) (values : List ℤ) (r : Ends) → size ≡ Some count → range ≡ Some r → length values ≡ count
    → IsRange r → HasItems g (home.Table values) (table_of type size count range)
    → IsHoused (record g { homes = hs }) top (home.Table values) (table_of type size count range)
    × AreKnown (record g { homes = hs }) f (home.Table values) (table_of type size count range)
table_set g hs top f type size count range values r sized ranged long is_range items =
    let k : Meaning = entries.Array array.Table type (Some count) r in
    let is : table_of type size count range ≡ k =
    (λ i. table_of type (sized i) count (ranged i))
    ∙ ap (λ (b : Bool). cond b k (entries.Array array.Table type None (type_range type))) (eqb-self count) in
    let there = subst (HasItems g (home.Table values)) is items in (
      subst (IsHoused (record g { homes = hs }) top (home.Table values)) (sym is) (is_range, long, there),
      subst (AreKnown (record g { homes = hs }) f (home.Table values)) (sym is) tt,
    )

items_long : (es : List Entry) (type : ValueType) (items : List Expression)
    → length (item_values es type items) ≡ length items
items_long es type items =
    length-map items (λ e. unwrap_or (value_as es (type_of_values type) e) (pos 0))

module _ (g : Scene) (f : Frame) (es : List Entry) (scope : IsScope (on_frame f g) f.top es) (facts : Facts) where
  -- a constant has its home, and nothing is known of words for it
  constant_set : (type : ValueType) (value : Value) (hs : List Home) → ValueHolds es type value
      → value_has_words value ≡ true → HasItems g (home_for es type value) (constant_meaning es type value)
      → IsHoused (record g { homes = hs }) f.top (home_for es type value) (constant_meaning es type value)
      × AreKnown (record g { homes = hs }) facts (home_for es type value) (constant_meaning es type value)
  constant_set type (lines.Scalar e) hs (v, is) words items = (
    subst (λ (o : Option ℤ). IsHoused (record g { homes = hs }) f.top Nowhere (entries.Constant type o)) (sym is)
        (value_fits (on_frame f g) f.top es scope type e v words is),
    tt,
  )
  constant_set type (lines.Table size items) hs holds words there =
      let all = (and_parts (has_words size) (list_all has_words (as_list items)) words).1 in
      let each = and_parts (has_words items.first) (list_all has_words items.others) all in
      let first = holds.1.0 in
      let t = type_of_values type in
      let begun : option_map constant (value_as es t items.first) ≡ Some (constant first.0) =
      ap (option_map constant) first.1 in
      let found = items_found (on_frame f g) f.top es scope type items.others (constant first.0)
      (option_map constant (value_as es t items.first)) begun holds.1.1 in
      table_set g hs f.top facts type (size_in es size) (length (as_list items)) (range_of_items es type items)
      (item_values es type (as_list items)) found.0 holds.0 found.1 (items_long es type (as_list items))
      (items_ranged (on_frame f g) f.top es scope type items.others
      (option_map constant (value_as es t items.first)) each.1
      (first_ranged (on_frame f g) f.top es scope type (value_as es t items.first) items.first each.0 refl) found.0
      found.1) there
  constant_set value_type.Byte (lines.Bytes size bs) hs holds words there =
      let all = (and_parts (has_words size) (are_bytes bs) words).1 in
      let found = text_found bs (size_positive es size (length bs) holds.0) all in
      table_set g hs f.top facts value_type.Byte (size_in es size) (length bs) (range_of_bytes value_type.Byte bs)
      (map pos bs) found.0 holds.0 found.1 (length-map bs pos) found.2 there
  constant_set value_type.Int (lines.Bytes size bs) hs holds words there = absurd (cc (holds.1))

-- ---- declarations

pub declarations_fall : DeclarationsFall
declarations_fall g f es (Variables n) s long holds words may scope all held =
    variables_fall g f es s long scope held n.value_type n.size (as_list n.names) holds may all
declarations_fall g f es (Channels n) s long holds words few scope all held =
    channels_fall g f es s long scope held n.value_type n.size (as_list n.names) few
declarations_fall g f es (Constants c) s long holds words items scope all held =
    let h : Home = home_for es c.value_type c.value in
    let k : Meaning = constant_meaning es c.value_type c.value in
    let set = constant_set g f es scope s.frame c.value_type c.value (f.homes ++ h ∷ []) holds words items in
    record {
      after = s;
      falls = done;
      holds = holds_more g f.homes f.top f.top es c.name k h long (omega arith) s.frame s.frame scope
          (stay_alike f.top s.frame) set.1 held;
      scope = scope_more g f.homes f.top f.top es c.name k h long (omega arith) scope.few scope set.0;
    }
