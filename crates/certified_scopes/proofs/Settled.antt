-- Scopes are settled after each move.
use Rattle.std.proofs.Common.{◌≡◌, ℕ, zero, suc, ◌+◌, ◌<◌, ◌≤◌, ℤ, pos, Bool, true, false, cond, List, [], ◌∷◌, ◌++◌}
use Rattle.std.proofs.Common.{length, map, Option, Some, None, FitsSigned, refl, sym, ap, subst, ◌∙◌, arith}
use Rattle.std.specs.Prelude.{◌+ℤ◌, ◌-ℤ◌, min}
use Rattle.std.specs.Prelude.{fold, slice_get, unwrap_or, unsigned_abs, int_le, option_and_then, option_map, ◌≤ℤ◌}
use Rattle.std.specs.Int.{w32, int_min, int_max}
use Rattle.std.specs.List.{AllByRecursion}
use Rattle.std.proofs.lemmas.Int.{ints}
use Rattle.std.proofs.lemmas.Bool.{and_parts}
use Rattle.std.proofs.lemmas.List.{length-map}
use Rattle.small_laws.proofs.Comparisons.{eqb-self, int_le-true}
use Rattle.word_arithmetic.specs.Range.{Ends, InRange, IsRange, constant, hull}
use Rattle.word_arithmetic.specs.Word.{greatest_word, is_word}
use Rattle.word_arithmetic.proofs.WordLaws.{is_word_out}
use Rattle.module_format.specs.declared.limits.TheConstants.{MAX_DATA_WORDS}
use Rattle.occam_parser.specs.declared.tree.ValueType.{ValueType}
use Rattle.occam_parser.specs.declared.tree.ValueType.TheVariants as value_type
use Rattle.occam_parser.specs.Expressions.{Expression}
use Rattle.occam_parser.specs.OneOrMore.{OneOrMore, as_list}
use Rattle.occam_parser.specs.Lines.{Value, Declaration, Constants, Variables, Channels, Formal}
use Rattle.occam_parser.specs.Lines as lines
use Rattle.scalar_ranges.specs.declared.scope.ScalarKind.{ScalarKind}
use Rattle.scalar_ranges.specs.declared.scope.ScalarKind.TheVariants as kinds
use Rattle.scalar_ranges.specs.declared.scope.ArrayKind.{ArrayKind}
use Rattle.scalar_ranges.specs.declared.scope.ArrayKind.TheVariants as array
use Rattle.scalar_ranges.specs.Entries.{Meaning, Constant, Scalar, Array, Channel, Procedure, Entry, type_range}
use Rattle.scalar_ranges.specs.Entries as entries
use Rattle.scalar_ranges.specs.MoveLaws.{shape}
use Rattle.scalar_ranges.specs.Types.{type_of_values}
use Rattle.scalar_ranges.proofs.MoveLaws.{flat}
use Rattle.scalar_ranges.proofs.Nesting.{long_alike}
use Rattle.program_uses.specs.Constants.{from_one, size_in, value_as}
use Rattle.program_uses.specs.Declaring.{add, add_all, constant_meaning, variable_meaning}
use Rattle.program_uses.specs.Declaring.{channel_meaning, table_of, with_value, range_of_items, range_of_bytes}
use Rattle.program_meaning.specs.RangesWithin.{RangeWithin}
use Rattle.usage_checks.specs.Holding.{HasValue, SizeHoldsIfAny, ValueHolds}
use Rattle.usage_checks.specs.TypedRanges.{IsInType, AreInTypes}
use Rattle.code_pieces.specs.Pieces.{counted, stores, word_after}
use Rattle.code_pieces.specs.Tables.{lower, higher, lowest, highest}
use Rattle.line_pieces.specs.Homes as home
use Rattle.line_pieces.specs.Homes.{Home, Nowhere, Word, Block, Link, Passed, words_for, count_in}
use Rattle.program_uses.specs.Indices.{is_count}
use Rattle.line_pieces.specs.Declarations.{Frame, with_words, with_names, with_home, home_for, item_values, words_in}
use Rattle.line_pieces.specs.Declarations.{channels_in, zero_code, zero_names}
use Rattle.meant_lines.proofs.Housing.{long_more, get_last}
use Rattle.certified_lines.specs.Instructions.{MayRead}
use Rattle.certified_lines.specs.Scopes.{Scene, EachNameHas, AreKnown, AreKnownThere, HasTurns, IsHoused}
use Rattle.certified_lines.specs.Scopes.{IsHousedThere}
use Rattle.states.specs.State.{Facts}
use Rattle.occam_parser.specs.declared.tree.FormalKind.{FormalKind}
use Rattle.occam_parser.specs.declared.tree.FormalKind.TheVariants as formal_kind
use Rattle.usage_checks.specs.MainRules.{is_link_as, are_links}
use Rattle.program_uses.specs.Declaring.{add_formals, formal_meaning}
use Rattle.std.proofs.Common.{append_assoc, append-nil}
use Rattle.certified_lines.specs.Telling.{IsAllowed, AreAllowed}
use Rattle.certified_lines.proofs.Induction.{bytes_ranged}
use Rattle.certified_lines.proofs.Operands.{allowed_first, allowed_rest}
use Rattle.certified_lines.proofs.Ranges.{full_ranged}
use Rattle.certified_scopes.specs.Beside.{first_word, last_end, AreInTurn}
use Rattle.certified_scopes.specs.Kept.{at_homes}
use Rattle.certified_scopes.specs.Within.{index_of_loop, indices_of}
use Rattle.certified_scopes.specs.Settled.{range_of_values, IsFounded, IsOrdered, AreOrdered, IsOfIndex, IsSettled}
use Rattle.certified_scopes.specs.Settled.{BeginningsAreSettled, HasNoWord, WordlessNamesAreSettled}
use Rattle.certified_scopes.specs.Settled.{DeclarationsAreSettled, BlocksAreSettled, MovedScopesAreSettled}
use Rattle.certified_scopes.specs.Settled.{IndicesHaveTurns, LinksAreSettled, BareScopesAreHeld}
use Rattle.certified_scopes.proofs.Alike.{alike_cases}
use Rattle.certified_scopes.proofs.Beside.{more_words_are_in_turn}
use Rattle.certified_scopes.proofs.EachName.{get_front, each_then, each_with}
use Rattle.certified_scopes.proofs.Indices.{index_there, shape_there}

-- ---- ranges of words

-- the values of a type are words
type_ranged : (type : ValueType) → IsRange (type_range type)
type_ranged value_type.Int = full_ranged
type_ranged value_type.Byte = bytes_ranged

range_fits : (type : ValueType) (r : Ends) → RangeWithin r (type_range type) → r.lo ≤ℤ r.hi → IsRange r
range_fits type r within up =
    let all = type_ranged type in
    let low = all.lo_fits in
    let high = all.hi_fits in
    let a = within.0 in
    let b = within.1 in
    record {
      lo_fits = omega (arith, ints, low, high, a, b, up);
      hi_fits = omega (arith, ints, low, high, a, b, up);
      ordered = up;
    }

value_fits : (type : ValueType) (v : ℤ) → InRange (type_range type) v → FitsSigned w32 v
value_fits type v is =
    let all = type_ranged type in
    let low = all.lo_fits in
    let high = all.hi_fits in
    let a = is.from_lo in
    let b = is.to_hi in
    omega (arith, ints, low, high, a, b)

-- ---- further words

module _ (g : Scene) (top more : ℕ) (low : top ≤ more) where
  pub housed_more : (o : Option Home) (k : Meaning) → IsHousedThere g top o k → IsHousedThere g more o k
  housed_more None k housed = housed
  housed_more (Some h) (Constant type None) housed = housed
  housed_more (Some h) (Constant type (Some v)) housed = housed
  housed_more (Some h) (Channel type) housed = housed
  housed_more (Some h) (entries.Channels type size) housed = housed
  housed_more (Some h) (Procedure number) housed = housed
  housed_more (Some Nowhere) (Scalar kind type range) housed = housed
  housed_more (Some (Word w)) (Scalar kind type range) housed =
      let less = housed.1 in
      (housed.0, omega (arith, less, low), housed.2)
  housed_more (Some (Block w head)) (Scalar kind type range) housed =
      let less = housed.1 in
      (housed.0, omega (arith, less, low), housed.2, housed.3)
  housed_more (Some (Link n)) (Scalar kind type range) housed = housed
  housed_more (Some (home.Table values)) (Scalar kind type range) housed = housed
  housed_more (Some (Passed w)) (Scalar kind type range) housed = housed
  housed_more (Some Nowhere) (Array kind type size range) housed = housed
  housed_more (Some (Word w)) (Array kind type None range) housed = housed
  housed_more (Some (Word w)) (Array kind type (Some size) range) housed =
      let ends = housed.1 in
      (housed.0, omega (arith, ends, low), housed.2)
  housed_more (Some (Block w head)) (Array kind type size range) housed = housed
  housed_more (Some (Link n)) (Array kind type size range) housed = housed
  housed_more (Some (home.Table values)) (Array array.Table type None range) housed = housed
  housed_more (Some (home.Table values)) (Array array.Table type (Some size) range) housed = housed
  housed_more (Some (home.Table values)) (Array array.Variable type size range) housed = housed
  housed_more (Some (home.Table values)) (Array array.Value type size range) housed = housed
  housed_more (Some (Passed w)) (Array kind type size range) housed = housed

-- homes behind leave the words of those before
pub turn_before : (hs more : List Home) (es : List Entry) (top : ℕ) → length es ≤ length hs → AreInTurn hs es top
    → AreInTurn (hs ++ more) es top
turn_before hs more [] top few turn = tt
turn_before hs more (e ∷ es) top few turn =
    let same = get_front hs more (length es) (omega (arith, few)) in (
      subst (λ (o : Option Home). last_end o e.meaning ≤ top) (sym same) turn.0,
      subst (λ (o : Option Home). AreInTurn (hs ++ more) es (first_word o e.meaning top)) (sym same)
          (turn_before hs more es (first_word (slice_get hs (length es)) e.meaning top) (omega (arith, few)) turn.1),
    )

-- ---- one name more

-- a name whose words begin at the old end or later, and end before the new one
named : (g : Scene) (f : Frame) (es : List Entry) (name : List ℕ) (k : Meaning) (h : Home) (top end : ℕ)
    → (s : IsSettled g f es) → s.end ≤ end → end ≤ top → end ≤ MAX_DATA_WORDS → last_end (Some h) k ≤ end
    → s.end ≤ first_word (Some h) k end → IsHoused g end h k → IsOfIndex (Some h) k
    → IsSettled g (record f { homes = f.homes ++ h ∷ []; top = top }) (add name k es)
named g f es name k h top end s up under few ends starts housed index =
    let e : Entry = record { name = name; meaning = k } in
    let last = get_last f.homes h (length es) s.long in
    let long = s.long in
    record {
      long = long_more f.homes h ∙ ap suc s.long;
      end = end;
      under = under;
      scope = record {
        housed = each_with (IsHousedThere g end) f.homes h e es s.long housed
            (each_then (IsHousedThere g s.end) (IsHousedThere g end) f.homes es (housed_more g s.end end up)
            s.scope.housed);
        few = few;
      };
      turn = (
        subst (λ (o : Option Home). last_end o k ≤ end) (sym last) ends,
        subst (λ (o : Option Home). AreInTurn (f.homes ++ h ∷ []) es (first_word o k end)) (sym last)
            (turn_before f.homes (h ∷ []) es (first_word (Some h) k end) (omega (arith, long))
            (more_words_are_in_turn f.homes es s.end (first_word (Some h) k end) starts s.turn)),
      );
      loops = each_with IsOfIndex f.homes h e es s.long index s.loops;
    }

pub beginnings_are_settled : BeginningsAreSettled
beginnings_are_settled g f none = record {
  long = ap (λ (hs : List Home). length hs) none;
  end = 0;
  under = omega arith;
  scope = record { housed = tt; few = omega arith };
  turn = tt;
  loops = tt;
}

wordless_end : (h : Home) (k : Meaning) (top : ℕ) → HasNoWord h
    → (last_end (Some h) k ≤ top) × (top ≤ first_word (Some h) k top) × IsOfIndex (Some h) k
wordless_end Nowhere k top none = (omega arith, omega arith, tt)
wordless_end (Link number) k top none = (omega arith, omega arith, tt)
wordless_end (home.Table values) k top none = (omega arith, omega arith, tt)
wordless_end (Word w) k top none = absurd none
wordless_end (Block w head) k top none = absurd none
wordless_end (Passed w) k top none = absurd none

pub wordless_names_are_settled : WordlessNamesAreSettled
wordless_names_are_settled g f es name k h none housed s =
    let parts = wordless_end h k s.end none in
    named g f es name k h f.top s.end s (omega arith) s.under s.scope.few parts.0 parts.1 (housed s.end) parts.2

-- ---- the formals of main

link_housed : (g : Scene) (top : ℕ) (h : Home) (outer : List Entry) (x : Formal)
    → is_link_as x.kind x.size x.name ≡ true → IsHoused g top h (formal_meaning outer x)
link_housed g top h outer x is = by_kind x.kind x.size is
  where
    by_kind : (kind : FormalKind) (size : Option Expression) → is_link_as kind size x.name ≡ true → IsHoused g top h
        (formal_meaning outer (record { kind = kind; size = size; value_type = x.value_type; name = x.name }))
    by_kind formal_kind.Channel None is = tt
    by_kind formal_kind.Channel (Some e) is = absurd (cc is)
    by_kind formal_kind.Value size is = absurd (cc is)
    by_kind formal_kind.Variable size is = absurd (cc is)

pub links_are_settled : LinksAreSettled
links_are_settled g f es outer [] [] long bare links s =
    subst (λ (hs : List Home). IsSettled g (record f { homes = hs }) es) (sym (append-nil f.homes)) s
links_are_settled g f es outer [] (h ∷ hs) long bare links s = absurd (omega (arith, long))
links_are_settled g f es outer (x ∷ fs) [] long bare links s = absurd (omega (arith, long))
links_are_settled g f es outer (x ∷ fs) (h ∷ hs) long bare links s =
    let parts = and_parts (is_link_as x.kind x.size x.name) (are_links fs) links in
    subst (λ (all : List Home). IsSettled g (record f { homes = all })
    (add_formals outer fs (add x.name (formal_meaning outer x) es))) (append_assoc f.homes (h ∷ []) hs)
    (links_are_settled g (with_home h f) (add x.name (formal_meaning outer x) es) outer fs hs (omega (arith, long))
    bare.1
    parts.1
    (wordless_names_are_settled g f es x.name (formal_meaning outer x) h bare.0
    (λ top. link_housed g top h outer x parts.0) s))

-- ---- nothing is known

bare_known : (g : Scene) (f : Facts) (h : Home) (m : Meaning) → HasNoWord h → AreKnown g f h m
bare_known g f h (Constant type value) bare = tt
bare_known g f h (Channel type) bare = tt
bare_known g f h (entries.Channels type size) bare = tt
bare_known g f h (Procedure number) bare = tt
bare_known g f Nowhere (Scalar kind type r) bare = tt
bare_known g f (Link n) (Scalar kind type r) bare = tt
bare_known g f (home.Table values) (Scalar kind type r) bare = tt
bare_known g f (Word w) (Scalar kind type r) bare = absurd bare
bare_known g f (Block w head) (Scalar kind type r) bare = absurd bare
bare_known g f (Passed w) (Scalar kind type r) bare = absurd bare
bare_known g f Nowhere (Array kind type size r) bare = tt
bare_known g f (Link n) (Array kind type size r) bare = tt
bare_known g f (home.Table values) (Array kind type size r) bare = tt
bare_known g f (Word w) (Array kind type size r) bare = absurd bare
bare_known g f (Block w head) (Array kind type size r) bare = absurd bare
bare_known g f (Passed w) (Array kind type size r) bare = absurd bare

bare_home : (hs : List Home) (i : ℕ) → i < length hs → AllByRecursion HasNoWord hs
    → (h : Home) × (slice_get hs i ≡ Some h) × HasNoWord h
bare_home [] i less bare = absurd (omega (arith, less))
bare_home (h ∷ hs) zero less bare = (h, refl, bare.0)
bare_home (h ∷ hs) (suc i) less bare = bare_home hs i (omega (arith, less)) bare.1

bare_names : (g : Scene) (hs : List Home) (es : List Entry) (f : Facts) → length es ≤ length hs
    → AllByRecursion HasNoWord hs → EachNameHas (AreKnownThere g f) hs es
bare_names g hs [] f few bare = tt
bare_names g hs (e ∷ es) f few bare =
    let found = bare_home hs (length es) (omega (arith, few)) bare in (
      subst (λ (o : Option Home). AreKnownThere g f o e.meaning) (sym found.1)
          (bare_known g f found.0 e.meaning found.2),
      bare_names g hs es f (omega (arith, few)) bare,
    )

pub bare_scopes_are_held : BareScopesAreHeld
bare_scopes_are_held g es f few bare = bare_names g g.homes es f few bare

-- ---- words that code stores

pub allowed_counted : (word : ℕ) → counted word < MAX_DATA_WORDS → (word < MAX_DATA_WORDS) × (counted word ≡ word)
unfolding counted
allowed_counted word few = (omega (arith, few), omega (arith, few))

pub after_counted_is : (top count : ℕ) → word_after top count < MAX_DATA_WORDS → word_after top count ≡ top + count
unfolding word_after counted
after_counted_is top count few = omega (arith, few)

allowed_word : (g : Scene) (word : ℕ) → IsAllowed g (stores word) → (word < MAX_DATA_WORDS) × MayRead g.setting word
allowed_word g word may =
    let parts = allowed_counted word may.0 in
    (parts.0, subst (λ (w : ℕ). MayRead g.setting w) parts.1 may.2)

allowed_after : (g : Scene) (top count : ℕ) → IsAllowed g (stores (word_after top count))
    → (top + count < MAX_DATA_WORDS) × (word_after top count ≡ top + count) × MayRead g.setting (top + count)
allowed_after g top count may =
    let word = allowed_word g (word_after top count) may in
    let whole = after_counted_is top count word.0 in
    let few = word.0 in
    (omega (arith, few, whole), whole, subst (λ (w : ℕ). MayRead g.setting w) whole word.1)

-- what is free after few words
after_few : (top count : ℕ) → top + count ≤ MAX_DATA_WORDS → word_after top count ≡ top + count
unfolding word_after counted
after_few top count few = omega (arith, few)

after_further : (top count end : ℕ) → end ≤ top → end ≤ MAX_DATA_WORDS → end ≤ word_after top count
unfolding word_after counted
after_further top count end under few = omega (arith, under, few)

-- ---- variables

-- An array that is declared has a size.
array_settled : (g : Scene) (f : Frame) (es : List Entry) (name : List ℕ) (kind : ArrayKind) (type : ValueType)
    (o : Option ℕ) (n : ℕ) → IsFounded g → o ≡ Some n
    → IsAllowed g (stores (word_after f.top (words_for type (unwrap_or o 0)))) → IsSettled g f es
    → IsSettled g (with_words (words_for type (unwrap_or o 0)) f) (add name (Array kind type o (type_range type)) es)
array_settled g f es name kind type None n founded is may s = absurd (cc is)
array_settled g f es name kind type (Some m) n founded is may s =
    let count = words_for type m in
    let parts = allowed_after g f.top count may in
    let few = parts.0 in
    let whole = parts.1 in
    let under = s.under in
    named g f es name (Array kind type (Some m) (type_range type)) (Word f.top) (word_after f.top count) (f.top + count)
    s (omega (arith, under)) (omega (arith, whole)) (omega (arith, few)) (omega arith) (omega (arith, under))
    (refl, omega arith, λ i less. founded.lower (f.top + i) (f.top + count) (omega (arith, less)) parts.2) tt

variable_settled : (g : Scene) (f : Frame) (es outer : List Entry) (name : List ℕ) (type : ValueType)
    (size : Option Expression) → IsFounded g → ((e : Expression) → size ≡ Some e → (n : ℕ) × (size_in outer e ≡ Some n))
    → AreAllowed g (zero_code size f.top (words_in outer type size)) → IsSettled g f es
    → IsSettled g (with_words (words_in outer type size) f) (add name (variable_meaning outer type size) es)
variable_settled g f es outer name type None founded sized may s =
    let parts = allowed_word g f.top may.1.0 in
    let few = parts.0 in
    let whole = after_few f.top 1 (omega (arith, few)) in
    let under = s.under in
    named g f es name (variable_meaning outer type None) (Word f.top) (word_after f.top 1) (f.top + 1) s
    (omega (arith, under)) (omega (arith, whole)) (omega (arith, few)) (omega arith) (omega (arith, under))
    (zero_is_range, omega arith, parts.1) tt
  where
    zero_is_range : IsRange (constant (pos 0))
    zero_is_range = record {
      lo_fits = omega (arith, ints);
      hi_fits = omega (arith, ints);
      ordered = omega (arith, ints);
    }
variable_settled g f es outer name type (Some e) founded sized may s =
    let found = sized e refl in
    array_settled g f es name array.Variable type (size_in outer e) found.0 founded found.1 may.1.0 s

variables_settled : (names : List (List ℕ)) (g : Scene) (f : Frame) (es outer : List Entry) (type : ValueType)
    (size : Option Expression) → IsFounded g → ((e : Expression) → size ≡ Some e → (n : ℕ) × (size_in outer e ≡ Some n))
    → AreAllowed g (zero_names size (words_in outer type size) names f.top) → IsSettled g f es
    → IsSettled g (with_names (words_in outer type size) names f)
    (add_all names (variable_meaning outer type size) es)
variables_settled [] g f es outer type size founded sized may s = s
variables_settled (name ∷ names) g f es outer type size founded sized may s =
    let count = words_in outer type size in
    let first = zero_code size f.top count in
    let rest = zero_names size count names (word_after f.top count) in
    variables_settled names g (with_words count f) (add name (variable_meaning outer type size) es) outer type size
    founded
    sized (allowed_rest g first rest may)
    (variable_settled g f es outer name type size founded sized (allowed_first g first rest may) s)

-- ---- channels

channel_settled : (g : Scene) (f : Frame) (es outer : List Entry) (name : List ℕ) (type : ValueType)
    (size : Option Expression) (count : ℕ) → IsSettled g f es
    → IsSettled g (with_words count f) (add name (channel_meaning outer type size) es)
channel_settled g f es outer name type None count s =
    named g f es name (Channel type) (Word f.top) (word_after f.top count) s.end s (omega arith)
    (after_further f.top count s.end s.under s.scope.few) s.scope.few (omega arith) (omega arith) tt tt
channel_settled g f es outer name type (Some e) count s =
    named g f es name (entries.Channels type (size_in outer e)) (Word f.top) (word_after f.top count) s.end s
    (omega arith) (after_further f.top count s.end s.under s.scope.few) s.scope.few (omega arith) (omega arith) tt tt

channels_settled : (names : List (List ℕ)) (g : Scene) (f : Frame) (es outer : List Entry) (type : ValueType)
    (size : Option Expression) (count : ℕ) → IsSettled g f es
    → IsSettled g (with_names count names f) (add_all names (channel_meaning outer type size) es)
channels_settled [] g f es outer type size count s = s
channels_settled (name ∷ names) g f es outer type size count s =
    channels_settled names g (with_words count f) (add name (channel_meaning outer type size) es) outer type size count
    (channel_settled g f es outer name type size count s)

-- ---- constants

-- the range of items, one after the other
items_from : (es : List Entry) (type : ValueType) (ws : List Expression) (lo hi : ℤ)
    → AllByRecursion (HasValue es (type_of_values type)) ws
    → fold (λ range e. with_value range (value_as es (type_of_values type) e)) (Some (record { lo = lo; hi = hi })) ws
    ≡ Some (record { lo = lowest lo (item_values es type ws); hi = highest hi (item_values es type ws) })
unfolding lower higher
items_from es type [] lo hi all = refl
items_from es type (w ∷ ws) lo hi all =
    let v = all.0.0 in
    let is = all.0.1 in
    let step : Option Ends → Expression → Option Ends =
    λ range e. with_value range (value_as es (type_of_values type) e) in
    let vs = item_values es type ws in
    ap (λ (o : Option ℤ). fold step (with_value (Some (record { lo = lo; hi = hi })) o) ws) is
    ∙ items_from es type ws (int_min lo v) (int_max hi v) all.1
    ∙ ap (λ (o : Option ℤ). Some (record {
      lo = lowest (int_min lo (unwrap_or o (pos 0))) vs;
      hi = highest (int_max hi (unwrap_or o (pos 0))) vs;
    })) (sym is)

bytes_from : (bs : List ℕ) (lo hi : ℤ)
    → fold (λ range b. hull range (constant (pos b))) (record { lo = lo; hi = hi }) bs
    ≡ record { lo = lowest lo (map pos bs); hi = highest hi (map pos bs) }
unfolding lower higher
bytes_from [] lo hi = refl
bytes_from (b ∷ bs) lo hi = bytes_from bs (int_min lo (pos b)) (int_max hi (pos b))

-- a table with a size, whose values have a range
table_housed : (g : Scene) (top : ℕ) (type : ValueType) (v : ℤ) (vs : List ℤ) (size : Option ℕ) (count : ℕ)
    (range : Option Ends) → IsFounded g → size ≡ Some count → length (v ∷ vs) ≡ count
    → range ≡ Some (range_of_values v vs) → IsInType (table_of type size count range)
    → IsOrdered (table_of type size count range) → IsHoused g top (home.Table (v ∷ vs)) (table_of type size count range)
table_housed g top type v vs size count range founded sized long ranged typed ordered =
    let whole : table_of type size count range ≡ Array array.Table type (Some count) (range_of_values v vs) =
    ap (λ (o : Option ℕ). table_of type o count range) sized
    ∙ ap (λ (o : Option Ends). table_of type (Some count) count o) ranged
    ∙ ap (λ (t : Bool). cond t (Array array.Table type (Some count) (range_of_values v vs))
    (Array array.Table type None (type_range type))) (eqb-self count) in
    subst (λ (m : Meaning). IsHoused g top (home.Table (v ∷ vs)) m) (sym whole) (
      range_fits type (range_of_values v vs) (subst IsInType whole typed) (subst IsOrdered whole ordered),
      long,
      λ reads. founded.tables v vs reads,
    )

one_by : (b : Bool) (v : ℤ) (n : ℕ) → int_le (pos 1) v ≡ b → cond b (Some (unsigned_abs v)) None ≡ Some n → n ≡ 0 → ⊥
one_by true v n is same none =
    let low = int_le-true (pos 1) v is in
    let size : unsigned_abs v ≡ n = cc in
    omega (arith, ints, low, size, none)
one_by false v n is same none = absurd (cc same)

-- what has a size has an element
some_size : (o : Option ℤ) → option_and_then from_one o ≡ Some 0 → ⊥
some_size None is = absurd (cc is)
some_size (Some v) is = one_by (int_le (pos 1) v) v 0 refl is refl

values_long : (es : List Entry) (type : ValueType) (ws : List Expression) → length (item_values es type ws) ≡ length ws
values_long es type ws = length-map ws (λ (e : Expression). unwrap_or (value_as es (type_of_values type) e) (pos 0))

items_housed : (g : Scene) (top : ℕ) (es : List Entry) (type : ValueType) (size : Expression)
    (items : OneOrMore Expression)
    → IsFounded g → ValueHolds es type (lines.Table size items)
    → IsInType (constant_meaning es type (lines.Table size items))
    → IsOrdered (constant_meaning es type (lines.Table size items))
    → IsHoused g top (home_for es type (lines.Table size items)) (constant_meaning es type (lines.Table size items))
items_housed g top es type size items founded holds typed ordered =
    let first = holds.1.0 in
    let v = first.0 in
    let o = value_as es (type_of_values type) items.first in
    let vs = item_values es type items.others in
    let step : Option Ends → Expression → Option Ends =
    λ range e. with_value range (value_as es (type_of_values type) e) in
    let range : range_of_items es type items ≡ Some (range_of_values v vs) =
    ap (λ (x : Option ℤ). fold step (option_map constant x) items.others) first.1
    ∙ items_from es type items.others v v holds.1.1 in
    let values : home_for es type (lines.Table size items) ≡ home.Table (v ∷ vs) =
    ap (λ (x : Option ℤ). home.Table (unwrap_or x (pos 0) ∷ vs)) first.1 in
    subst (λ (h : Home). IsHoused g top h (constant_meaning es type (lines.Table size items))) (sym values)
    (table_housed g top type v vs (size_in es size) (length (as_list items)) (range_of_items es type items) founded
    holds.0 (ap suc (values_long es type items.others)) range typed ordered)

bytes_housed : (g : Scene) (top : ℕ) (es : List Entry) (type : ValueType) (size : Expression) (bs : List ℕ)
    → IsFounded g
    → size_in es size ≡ Some (length bs) → type ≡ value_type.Byte
    → IsInType (constant_meaning es type (lines.Bytes size bs))
    → IsOrdered (constant_meaning es type (lines.Bytes size bs))
    → IsHoused g top (home.Table (map pos bs)) (constant_meaning es type (lines.Bytes size bs))
bytes_housed g top es type size [] founded sized is typed ordered =
    absurd (some_size (value_as es _ size) sized)
bytes_housed g top es type size (b ∷ bs) founded sized is typed ordered =
    let vs = map pos bs in
    let range : range_of_bytes type (b ∷ bs) ≡ Some (range_of_values (pos b) vs) =
    ap (λ (t : ValueType). range_of_bytes t (b ∷ bs)) is
    ∙ ap (λ (r : Ends). Some r) (bytes_from bs (pos b) (pos b)) in
    table_housed g top type (pos b) vs (size_in es size) (length (b ∷ bs)) (range_of_bytes type (b ∷ bs)) founded sized
    (ap suc (length-map bs (λ (n : ℕ). pos n))) range typed ordered

constant_settled : (g : Scene) (f : Frame) (es : List Entry) (name : List ℕ) (type : ValueType) (value : Value)
    → IsFounded g → ValueHolds es type value → IsInType (constant_meaning es type value)
    → IsOrdered (constant_meaning es type value) → IsSettled g f es
    → IsSettled g (with_home (home_for es type value) f) (add name (constant_meaning es type value) es)
constant_settled g f es name type (lines.Scalar e) founded holds typed ordered s =
    wordless_names_are_settled g f es name (Constant type (value_as es (type_of_values type) e)) Nowhere tt
    (λ top. subst (λ (o : Option ℤ). IsHoused g top Nowhere (Constant type o)) (sym holds.1)
    (value_fits type holds.0 (subst (λ (o : Option ℤ). IsInType (Constant type o)) holds.1 typed))) s
constant_settled g f es name type (lines.Table size items) founded holds typed ordered s =
    wordless_names_are_settled g f es name (constant_meaning es type (lines.Table size items))
    (home_for es type (lines.Table size items)) tt
    (λ top. items_housed g top es type size items founded holds typed ordered) s
constant_settled g f es name type (lines.Bytes size bs) founded holds typed ordered s =
    wordless_names_are_settled g f es name (constant_meaning es type (lines.Bytes size bs))
    (home_for es type (lines.Bytes size bs)) tt
    (λ top. bytes_housed g top es type size bs founded holds.0 holds.1 typed ordered) s

-- ---- declarations

pub declarations_are_settled : DeclarationsAreSettled
declarations_are_settled g f es (Constants c) founded holds typed ordered may s =
    constant_settled g f es c.name c.value_type c.value founded holds typed.0 ordered.0 s
declarations_are_settled g f es (Variables n) founded holds typed ordered may s =
    variables_settled (as_list n.names) g f es es n.value_type n.size founded (sizes n.size holds) may s
  where
    sizes : (size : Option Expression) → SizeHoldsIfAny es size → (e : Expression) → size ≡ Some e
        → (m : ℕ) × (size_in es e ≡ Some m)
    sizes None holds e is = absurd (cc is)
    sizes (Some x) holds e is =
        let same : x ≡ e = cc in
        subst (λ (y : Expression). (m : ℕ) × (size_in es y ≡ Some m)) same holds
declarations_are_settled g f es (Channels n) founded holds typed ordered may s =
    channels_settled (as_list n.names) g f es es n.value_type n.size (channels_in es n.size) s

pub blocks_are_settled : BlocksAreSettled
blocks_are_settled g f es name type range head founded may is turns s =
    let parts = allowed_after g f.top 1 may in
    let few = parts.0 in
    let whole = after_few f.top 2 (omega (arith, few)) in
    let under = s.under in
    named g f es name (Scalar kinds.Index type range) (Block f.top head) (word_after f.top 2) (f.top + 2) s
    (omega (arith, under)) (omega (arith, whole)) (omega (arith, few)) (omega arith) (omega (arith, under))
    (is, omega arith, founded.lower f.top (f.top + 1) (omega arith) parts.2, turns) tt

-- ---- other ranges

-- the same name with another range, in the same home
abbrev StaysHoused : Scene → ℕ → Option Home → Meaning → Meaning → Type 0
StaysHoused g top o m n = index_of_loop m ≡ index_of_loop n → IsInType m → IsOrdered m → IsHousedThere g top o n
    → IsOfIndex o n → IsHousedThere g top o m × IsOfIndex o m

block_stays : (g : Scene) (top w head : ℕ) (kind : ScalarKind) (type : ValueType) (r s : Ends)
    → StaysHoused g top (Some (Block w head)) (Scalar kind type r) (Scalar kind type s)
block_stays g top w head kinds.Index type r s same typed ordered housed index =
    let one : s ≡ r = cc in
    ((range_fits type r typed ordered, housed.1, housed.2, subst HasTurns one housed.3), tt)
block_stays g top w head kinds.Variable type r s same typed ordered housed index = absurd index
block_stays g top w head kinds.Value type r s same typed ordered housed index = absurd index
block_stays g top w head kinds.Reference type r s same typed ordered housed index = absurd index

scalar_stays : (g : Scene) (top : ℕ) (o : Option Home) (kind : ScalarKind) (type : ValueType) (r s : Ends)
    → StaysHoused g top o (Scalar kind type r) (Scalar kind type s)
scalar_stays g top None kind type r s same typed ordered housed index = absurd housed
scalar_stays g top (Some (Word w)) kind type r s same typed ordered housed index =
    ((range_fits type r typed ordered, housed.1, housed.2), tt)
scalar_stays g top (Some (Block w head)) kind type r s same typed ordered housed index =
    block_stays g top w head kind type r s same typed ordered housed index
scalar_stays g top (Some Nowhere) kind type r s same typed ordered housed index = absurd housed
scalar_stays g top (Some (Link n)) kind type r s same typed ordered housed index = absurd housed
scalar_stays g top (Some (home.Table values)) kind type r s same typed ordered housed index = absurd housed
scalar_stays g top (Some (Passed w)) kind type r s same typed ordered housed index = absurd housed

housed_stays : (g : Scene) (top : ℕ) (o : Option Home) (m n : Meaning) → flat m ≡ flat n → StaysHoused g top o m n
housed_stays g top o m n alike =
    alike_cases (StaysHoused g top o) (scalar_stays g top o) (λ k same typed ordered housed index. (housed, index)) m n
    alike

-- and so its words
abbrev HasSameWords : Option Home → ℕ → Meaning → Meaning → Type 0
HasSameWords o top m n = (last_end o m ≡ last_end o n) × (first_word o m top ≡ first_word o n top)

scalar_words : (o : Option Home) (top : ℕ) (kind : ScalarKind) (type : ValueType) (r s : Ends)
    → HasSameWords o top (Scalar kind type r) (Scalar kind type s)
scalar_words None top kind type r s = (refl, refl)
scalar_words (Some (Word w)) top kind type r s = (refl, refl)
scalar_words (Some (Block w head)) top kind type r s = (refl, refl)
scalar_words (Some h) top kind type r s = (refl, refl)

words_stay : (o : Option Home) (top : ℕ) (m n : Meaning) → flat m ≡ flat n → HasSameWords o top m n
words_stay o top m n alike =
    alike_cases (HasSameWords o top) (scalar_words o top) (λ k. (refl, refl)) m n alike

turn_stays : (hs : List Home) (ds es : List Entry) (top : ℕ) → shape ds ≡ shape es → AreInTurn hs es top
    → AreInTurn hs ds top
turn_stays hs [] es top alike turn = tt
turn_stays hs (d ∷ ds) [] top alike turn = absurd (cc alike)
turn_stays hs (d ∷ ds) (e ∷ es) top alike turn =
    let both = shape_there d e ds es alike in
    let o : Option Home = slice_get hs (length es) in
    let same = words_stay o top d.meaning e.meaning both.0 in
    subst (λ (n : ℕ). (last_end (slice_get hs n) d.meaning ≤ top)
    × AreInTurn hs ds (first_word (slice_get hs n) d.meaning top)) (sym (long_alike ds es both.1)) (
      subst (λ (n : ℕ). n ≤ top) (sym same.0) turn.0,
      subst (λ (n : ℕ). AreInTurn hs ds n) (sym same.1)
          (turn_stays hs ds es (first_word o e.meaning top) both.1 turn.1),
    )

all_stay : (g : Scene) (top : ℕ) (hs : List Home) (ds es : List Entry) → shape ds ≡ shape es
    → indices_of ds ≡ indices_of es → AreInTypes ds → AreOrdered ds → EachNameHas (IsHousedThere g top) hs es
    → EachNameHas IsOfIndex hs es → EachNameHas (IsHousedThere g top) hs ds × EachNameHas IsOfIndex hs ds
all_stay g top hs [] es alike same typed ordered housed index = (tt, tt)
all_stay g top hs (d ∷ ds) [] alike same typed ordered housed index = absurd (cc alike)
all_stay g top hs (d ∷ ds) (e ∷ es) alike same typed ordered housed index =
    let both = shape_there d e ds es alike in
    let indices = index_there d e ds es same in
    let rest = all_stay g top hs ds es both.1 indices.1 typed.1 ordered.1 housed.1 index.1 in
    let here = subst (λ (n : ℕ). IsHousedThere g top (slice_get hs n) d.meaning × IsOfIndex (slice_get hs n) d.meaning)
    (sym (long_alike ds es both.1))
    (housed_stays g top (slice_get hs (length es)) d.meaning e.meaning both.0 indices.0 typed.0 ordered.0 housed.0
    index.0)
    in
    ((here.0, rest.0), (here.1, rest.1))

pub moved_scopes_are_settled : MovedScopesAreSettled
moved_scopes_are_settled g f ds es alike same typed ordered s =
    let all = all_stay (at_homes f.homes g) s.end f.homes ds es alike same typed ordered s.scope.housed s.loops in
    record {
      long = s.long ∙ sym (long_alike ds es alike);
      end = s.end;
      under = s.under;
      scope = record { housed = all.0; few = s.scope.few };
      turn = turn_stays f.homes ds es s.end alike s.turn;
      loops = all.1;
    }

-- ---- indices of loops

-- as many turns as are counted
abbrev most_turns : ℕ
most_turns = 4294967295

range_turns : (base count : ℤ) → is_word base ≡ true → is_count base count ≡ true → count ≤ℤ greatest_word
    → let r : Ends = record { lo = base; hi = base +ℤ (count -ℤ pos 1) } in
    IsRange r × HasTurns r × (pos (count_in r) ≡ count)
range_turns base count word is few =
    let r : Ends = record { lo = base; hi = base +ℤ (count -ℤ pos 1) } in
    let fits = is_word_out base word in
    let parts = and_parts (int_le (pos 1) count) (int_le (base +ℤ count) (greatest_word +ℤ pos 1)) is in
    let low = int_le-true (pos 1) count parts.0 in
    let high = int_le-true (base +ℤ count) (greatest_word +ℤ pos 1) parts.1 in
    let numbers : (r.hi -ℤ r.lo) +ℤ pos 1 ≡ count = omega (arith, ints) in
    let counted_in : pos (count_in r) ≡ count =
    ap (λ (z : ℤ). pos (min (unsigned_abs z) most_turns)) numbers ∙ all_counted count low few in (
      record {
        lo_fits = omega (arith, ints, fits);
        hi_fits = omega (arith, ints, fits, low, high);
        ordered = omega (arith, ints, low);
      },
      counted_in ∙ sym numbers,
      counted_in,
    )
  where
    all_counted : (z : ℤ) → pos 1 ≤ℤ z → z ≤ℤ greatest_word → pos (min (unsigned_abs z) most_turns) ≡ z
    all_counted z low few = omega (arith, ints, low, few)

pub indices_have_turns : IndicesHaveTurns
indices_have_turns base count word is few =
    subst (λ (r : Ends). IsRange r × HasTurns r × (pos (count_in r) ≡ count))
    (ap (λ (t : Bool). cond t (record { lo = base; hi = base +ℤ (count -ℤ pos 1) }) (constant base)) (sym is))
    (range_turns base count word is few)
