-- Declarations and loops give names homes that do not overlap.
use Rattle.std.proofs.Common.{◌≡◌, ℕ, zero, suc, ◌+◌, ◌<◌, ◌≤◌, List, [], ◌∷◌, ◌++◌, length, Option, Some, None}
use Rattle.std.proofs.Common.{refl, sym, ap, subst, ◌∙◌, arith}
use Rattle.std.specs.Prelude.{slice_get, unwrap_or}
use Rattle.module_format.specs.declared.limits.TheConstants.{MAX_DATA_WORDS}
use Rattle.occam_parser.specs.declared.tree.ValueType.{ValueType}
use Rattle.occam_parser.specs.Expressions.{Expression}
use Rattle.occam_parser.specs.OneOrMore.{as_list}
use Rattle.occam_parser.specs.Lines.{Value, Declaration, Constants, Variables, Channels}
use Rattle.occam_parser.specs.Lines as lines
use Rattle.scalar_ranges.specs.Entries.{Meaning, Entry, type_range}
use Rattle.scalar_ranges.specs.Entries as entries
use Rattle.scalar_ranges.specs.declared.scope.ArrayKind.TheVariants as array
use Rattle.program_uses.specs.Constants.{size_in}
use Rattle.program_uses.specs.Declaring.{add, add_all, constant_meaning, variable_meaning, channel_meaning}
use Rattle.code_pieces.specs.declared.words.TheConstants.{GREATEST_WORD}
use Rattle.code_pieces.specs.Pieces.{counted, word_after}
use Rattle.line_pieces.specs.Homes as home
use Rattle.line_pieces.specs.Homes.{Home, Nowhere, Word, Block, Link, Passed, words_for}
use Rattle.line_pieces.specs.Declarations.{Frame, with_words, with_home, with_names, home_for, words_in, channels_in}
use Rattle.meant_lines.specs.Carrying.{start_of, end_with, words_of, RiseWith, HomesRise}
use Rattle.meant_lines.specs.Housing.{DeclaredHomesRise, BlocksRise, MoreWordsRise}

-- ---- more words, and one name more

start_more : (h : Option Home) (top more : ℕ) → top ≤ more → start_of h top ≤ start_of h more
start_more None top more low = low
start_more (Some Nowhere) top more low = low
start_more (Some (Word w)) top more low = omega arith
start_more (Some (Block w head)) top more low = omega arith
start_more (Some (Link number)) top more low = low
start_more (Some (home.Table values)) top more low = low
start_more (Some (Passed w)) top more low = low

pub more_words_rise : MoreWordsRise
more_words_rise words hs [] top more low rise = tt
more_words_rise words hs (e ∷ es) top more low rise =
    let h : Option Home = slice_get hs (length es) in (
      omega (arith, low, rise.0),
      more_words_rise words hs es (start_of h top) (start_of h more) (start_more h top more low) rise.1,
    )

pub get_before : (hs : List Home) (h : Home) (i : ℕ) → i < length hs → slice_get (hs ++ h ∷ []) i ≡ slice_get hs i
get_before [] h i less = absurd (omega (arith, less))
get_before (x ∷ hs) h zero less = refl
get_before (x ∷ hs) h (suc i) less = get_before hs h i (omega (arith, less))

pub get_last : (hs : List Home) (h : Home) (i : ℕ) → length hs ≡ i → slice_get (hs ++ h ∷ []) i ≡ Some h
get_last [] h zero same = refl
get_last [] h (suc i) same = absurd (omega (arith, same))
get_last (x ∷ hs) h zero same = absurd (omega (arith, same))
get_last (x ∷ hs) h (suc i) same = get_last hs h i (omega (arith, same))

pub long_more : (hs : List Home) (h : Home) → length (hs ++ h ∷ []) ≡ suc (length hs)
long_more [] h = refl
long_more (x ∷ hs) h = ap suc (long_more hs h)

-- the homes before one more stay
rise_before : (words : Meaning → ℕ) (hs : List Home) (h : Home) (es : List Entry) (top : ℕ) → length es ≤ length hs
    → RiseWith words hs es top → RiseWith words (hs ++ h ∷ []) es top
rise_before words hs h [] top less rise = tt
rise_before words hs h (e ∷ es) top less rise =
    let same = get_before hs h (length es) (omega (arith, less)) in (
      subst (λ (o : Option Home). end_with words o e.meaning ≤ top) (sym same) rise.0,
      subst (λ (o : Option Home). RiseWith words (hs ++ h ∷ []) es (start_of o top)) (sym same)
          (rise_before words hs h es (start_of (slice_get hs (length es)) top) (omega (arith, less)) rise.1),
    )

-- a name more, whose home ends before the new top, and begins at the old one or later
pub rises_further : (words : Meaning → ℕ) (hs : List Home) (es : List Entry) (name : List ℕ) (k : Meaning) (h : Home)
    (top more : ℕ) → length hs ≡ length es → RiseWith words hs es top → end_with words (Some h) k ≤ more
    → top ≤ start_of (Some h) more → RiseWith words (hs ++ h ∷ []) (add name k es) more
rises_further words hs es name k h top more long rise ends starts =
    let last = get_last hs h (length es) long in (
      subst (λ (o : Option Home). end_with words o k ≤ more) (sym last) ends,
      subst (λ (o : Option Home). RiseWith words (hs ++ h ∷ []) es (start_of o more)) (sym last)
          (rise_before words hs h es (start_of (Some h) more) (omega (arith, long))
          (more_words_rise words hs es top (start_of (Some h) more) starts rise)),
    )

one_more : (f : Frame) (es : List Entry) (name : List ℕ) (k : Meaning) (h : Home) (top : ℕ) → HomesRise f es
    → end_with words_of (Some h) k ≤ top → f.top ≤ start_of (Some h) top
    → HomesRise (record f { homes = f.homes ++ h ∷ []; top = top }) (add name k es)
one_more f es name k h top homes ends starts = record {
  long = long_more f.homes h ∙ ap suc homes.long;
  rise = rises_further words_of f.homes es name k h f.top top homes.long homes.rise ends starts;
}

-- ---- tops

pub whole_words : (top count : ℕ) → word_after top count ≤ MAX_DATA_WORDS → word_after top count ≡ top + count
unfolding word_after counted
whole_words top count few = omega (arith, few)

pub after_counted : (top count : ℕ) → word_after top count ≤ GREATEST_WORD
unfolding word_after counted
after_counted top count = omega arith

pub after_further : (top count : ℕ) → top ≤ GREATEST_WORD → top ≤ word_after top count
unfolding word_after counted
after_further top count few = omega (arith, few)

pub names_further : (count : ℕ) (names : List (List ℕ)) (f : Frame) → f.top ≤ GREATEST_WORD
    → f.top ≤ (with_names count names f).top
names_further count [] f few = omega arith
names_further count (name ∷ names) f few =
    let here = after_further f.top count few in
    let rest = names_further count names (with_words count f) (after_counted f.top count) in
    omega (arith, here, rest)

-- ---- declarations

words_rise : (f : Frame) (es : List Entry) (name : List ℕ) (k : Meaning) (count : ℕ) → HomesRise f es
    → words_of k ≤ count → word_after f.top count ≤ MAX_DATA_WORDS → HomesRise (with_words count f) (add name k es)
words_rise f es name k count homes within few =
    let whole = whole_words f.top count few in
    one_more f es name k (Word f.top) (word_after f.top count) homes (omega (arith, whole, within)) (omega arith)

names_rise : (names : List (List ℕ)) (f : Frame) (es : List Entry) (k : Meaning) (count : ℕ) → HomesRise f es
    → words_of k ≤ count → (with_names count names f).top ≤ MAX_DATA_WORDS
    → HomesRise (with_names count names f) (add_all names k es)
names_rise [] f es k count homes within few = homes
names_rise (name ∷ names) f es k count homes within few =
    let rest = names_further count names (with_words count f) (after_counted f.top count) in
    names_rise names (with_words count f) (add name k es) k count
    (words_rise f es name k count homes within (omega (arith, rest, few))) within few

sized : (type : ValueType) (o : Option ℕ)
    → words_of (entries.Array array.Variable type o (type_range type)) ≤ words_for type (unwrap_or o 0)
sized type None = omega arith
sized type (Some n) = omega arith

pub variables_within : (es : List Entry) (type : ValueType) (size : Option Expression)
    → words_of (variable_meaning es type size) ≤ words_in es type size
variables_within es type None = omega arith
variables_within es type (Some size) = sized type (size_in es size)

pub channels_within : (es : List Entry) (type : ValueType) (size : Option Expression)
    → words_of (channel_meaning es type size) ≤ channels_in es size
channels_within es type None = omega arith
channels_within es type (Some size) = omega arith

constant_rises : (es : List Entry) (type : ValueType) (value : Value) (f : Frame) (name : List ℕ) (k : Meaning)
    → HomesRise f es → HomesRise (with_home (home_for es type value) f) (add name k es)
constant_rises es type (lines.Scalar e) f name k homes =
    one_more f es name k Nowhere f.top homes (omega arith) (omega arith)
constant_rises es type (lines.Table size items) f name k homes =
    one_more f es name k (home_for es type (lines.Table size items)) f.top homes (omega arith) (omega arith)
constant_rises es type (lines.Bytes size bytes) f name k homes =
    one_more f es name k (home_for es type (lines.Bytes size bytes)) f.top homes (omega arith) (omega arith)

pub declared_homes_rise : DeclaredHomesRise
declared_homes_rise f es (Constants c) homes few =
    constant_rises es c.value_type c.value f c.name (constant_meaning es c.value_type c.value) homes
declared_homes_rise f es (Variables n) homes few =
    names_rise (as_list n.names) f es (variable_meaning es n.value_type n.size) (words_in es n.value_type n.size) homes
    (variables_within es n.value_type n.size) few
declared_homes_rise f es (Channels n) homes few =
    names_rise (as_list n.names) f es (channel_meaning es n.value_type n.size) (channels_in es n.size) homes
    (channels_within es n.value_type n.size) few

pub blocks_rise : BlocksRise
blocks_rise f es name k head homes few =
    let whole = whole_words f.top 2 few in
    one_more f es name k (Block f.top head) (word_after f.top 2) homes (omega (arith, whole)) (omega arith)
