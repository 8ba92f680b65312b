-- A scope is held where names come and go.
use Rattle.std.proofs.Common.{◌≡◌, ℕ, suc, ◌+◌, ◌≤◌, ℤ, pos, Bool, true, false, cond, List, [], ◌∷◌, length}
use Rattle.std.proofs.Common.{map, Option, Some, None, sym, ap, subst, ◌∙◌, arith}
use Rattle.std.proofs.Common.{nat_eq}
use Rattle.std.specs.Prelude.{unwrap_or, ◌+ℤ◌}
use Rattle.std.proofs.lemmas.Int.{ints}
use Rattle.word_arithmetic.specs.Range.{Ends, full}
use Rattle.module_format.specs.declared.limits.TheConstants.{MAX_DATA_WORDS}
use Rattle.module_format.specs.Rows.{Fact}
use Rattle.module_format.specs.declared.fact.Fact.TheVariants.{Number}
use Rattle.states.specs.State.{Facts, with_fact, written}
use Rattle.local_rules.specs.LoopRules.{after_loop}
use Rattle.occam_parser.specs.declared.tree.ValueType.{ValueType}
use Rattle.occam_parser.specs.Expressions.{Expression}
use Rattle.occam_parser.specs.OneOrMore.{as_list}
use Rattle.occam_parser.specs.Lines.{Value, Declaration, Constants, Variables, Channels}
use Rattle.occam_parser.specs.Lines as lines
use Rattle.scalar_ranges.specs.declared.scope.ArrayKind.TheVariants as array
use Rattle.scalar_ranges.specs.Entries.{Meaning, Entry, type_range}
use Rattle.scalar_ranges.specs.Entries as entries
use Rattle.program_uses.specs.Constants.{size_in}
use Rattle.program_uses.specs.Declaring.{add, add_all, add_declaration, constant_meaning, variable_meaning}
use Rattle.program_uses.specs.Declaring.{channel_meaning, table_of, range_of_items, range_of_bytes}
use Rattle.line_pieces.specs.Homes as home
use Rattle.line_pieces.specs.Homes.{Home, Word, words_for}
use Rattle.line_pieces.specs.Declarations.{Frame, with_words, with_names, words_in, channels_in, home_for}
use Rattle.line_pieces.specs.Declarations.{item_values, declared}
use Rattle.meant_lines.proofs.Housing.{long_more, whole_words, names_further, after_counted}
use Rattle.certified_lines.specs.Scopes.{Scene, AreKnown, AreKnownThere, HoldsScope}
use Rattle.certified_lines.specs.Telling.{StayBefore}
use Rattle.certified_lines.proofs.Operands.{stored_stay}
use Rattle.certified_lines.proofs.Telling.{scopes_stay, stay_both, stay_fewer}
use Rattle.certified_scopes.specs.Kept.{at_homes, NewNamesAreHeld, BlocksAreHeld, AreNumbers, cleared, AreDeclared}
use Rattle.certified_scopes.specs.Kept.{HasFew, DeclaredNamesAreHeld, EndedLoopsAreHeld}
use Rattle.certified_scopes.specs.Kept.{LeftScopesAreHeld}
use Rattle.certified_scopes.proofs.EachName.{each_with, each_left}

pub new_names_are_held : NewNamesAreHeld
new_names_are_held g es name k h f long known holds =
    each_with (AreKnownThere g f) g.homes h (record { name = name; meaning = k }) es long known holds

pub blocks_are_held : BlocksAreHeld
blocks_are_held g es name kind type range word head f long index count holds =
    new_names_are_held g es name (entries.Scalar kind type range) (home.Block word head) f long (index, count) holds

pub left_scopes_are_held : LeftScopesAreHeld
left_scopes_are_held g more es f holds = each_left (AreKnownThere g f) g.homes more es holds

-- ---- names one after another

module _ (g : Scene) (f : Facts) (k : Meaning) (count : ℕ) where
  -- Of each of some names the words are known, from here on.
  abbrev WordsAreKnown : (first end : ℕ) → Type 0
  WordsAreKnown first end = (w : ℕ) → first ≤ w → w + count ≤ end → AreKnown g f (Word w) k

  names_held : (names : List (List ℕ)) (at : Frame) (es : List Entry) → length at.homes ≡ length es
      → (with_names count names at).top ≤ MAX_DATA_WORDS → WordsAreKnown at.top (with_names count names at).top
      → HoldsScope (at_homes at.homes g) es f
      → HoldsScope (at_homes (with_names count names at).homes g) (add_all names k es) f
  names_held [] at es long few known holds = holds
  names_held (name ∷ names) at es long few known holds =
      let next : Frame = with_words count at in
      let further = names_further count names next (after_counted at.top count) in
      let whole = whole_words at.top count (omega (arith, further, few)) in
      names_held names next (add name k es) (long_more at.homes (Word at.top) ∙ ap suc long) few
      (λ w low high. known w (omega (arith, whole, low)) high)
      (new_names_are_held (at_homes at.homes g) es name k (Word at.top) f long
      (known at.top (omega arith) (omega (arith, whole, further))) holds)

  -- words of which nothing is said
  unknown_names : (names : List (List ℕ)) (at : Frame) (es : List Entry) → ((w : ℕ) → AreKnown g f (Word w) k)
      → length at.homes ≡ length es → HoldsScope (at_homes at.homes g) es f
      → HoldsScope (at_homes (with_names count names at).homes g) (add_all names k es) f
  unknown_names [] at es known long holds = holds
  unknown_names (name ∷ names) at es known long holds =
      unknown_names names (with_words count at) (add name k es) known (long_more at.homes (Word at.top) ∙ ap suc long)
      (new_names_are_held (at_homes at.homes g) es name k (Word at.top) f long (known at.top) holds)

-- ---- declarations

-- the words of an array with a size, or with none
array_known : (g : Scene) (f : Facts) (type : ValueType) (o : Option ℕ) (first end w : ℕ)
    → AreNumbers f first end full → first ≤ w → w + words_for type (unwrap_or o 0) ≤ end
    → AreKnown g f (Word w) (entries.Array array.Variable type o (type_range type))
array_known g f type None first end w numbers low high = tt
array_known g f type (Some n) first end w numbers low high =
    λ i less. numbers (w + i) (omega (arith, low)) (omega (arith, high, less))

variable_known : (g : Scene) (f : Facts) (es : List Entry) (type : ValueType) (size : Option Expression)
    (first end w : ℕ) → AreNumbers f first end (cleared size) → first ≤ w → w + words_in es type size ≤ end
    → AreKnown g f (Word w) (variable_meaning es type size)
variable_known g f es type None first end w numbers low high = numbers w low (omega (arith, high))
variable_known g f es type (Some e) first end w numbers low high =
    array_known g f type (size_in es e) first end w numbers low high

channel_known : (g : Scene) (f : Facts) (es : List Entry) (type : ValueType) (size : Option Expression) (w : ℕ)
    → AreKnown g f (Word w) (channel_meaning es type size)
channel_known g f es type None w = tt
channel_known g f es type (Some e) w = tt

table_by : (b : Bool) (g : Scene) (f : Facts) (values : List ℤ) (type : ValueType) (n : ℕ) (r : Ends)
    → AreKnown g f (home.Table values)
    (cond b (entries.Array array.Table type (Some n) r) (entries.Array array.Table type None (type_range type)))
table_by true g f values type n r = tt
table_by false g f values type n r = tt

table_known : (g : Scene) (f : Facts) (values : List ℤ) (type : ValueType) (size : Option ℕ) (count : ℕ)
    (range : Option Ends) → AreKnown g f (home.Table values) (table_of type size count range)
table_known g f values type None count range = tt
table_known g f values type (Some n) count None = tt
table_known g f values type (Some n) count (Some r) = table_by (nat_eq n count) g f values type n r

constant_known : (g : Scene) (f : Facts) (es : List Entry) (type : ValueType) (value : Value)
    → AreKnown g f (home_for es type value) (constant_meaning es type value)
constant_known g f es type (lines.Scalar e) = tt
constant_known g f es type (lines.Table size items) =
    table_known g f (item_values es type (as_list items)) type (size_in es size) (length (as_list items))
    (range_of_items es type items)
constant_known g f es type (lines.Bytes size bytes) =
    table_known g f (map pos bytes) type (size_in es size) (length bytes) (range_of_bytes type bytes)

declared_held : (g : Scene) (f : Frame) (es : List Entry) (d : Declaration) (new : Facts)
    → length f.homes ≡ length es → HasFew d (declared es d f).top → AreDeclared d new f.top (declared es d f).top
    → HoldsScope (at_homes f.homes g) es new
    → HoldsScope (at_homes (declared es d f).homes g) (add_declaration d es) new
declared_held g f es (Constants c) new long few known holds =
    new_names_are_held (at_homes f.homes g) es c.name (constant_meaning es c.value_type c.value)
    (home_for es c.value_type c.value) new long (constant_known g new es c.value_type c.value) holds
declared_held g f es (Variables n) new long few known holds =
    names_held g new (variable_meaning es n.value_type n.size) (words_in es n.value_type n.size) (as_list n.names) f es
    long few
    (λ w low high. variable_known g new es n.value_type n.size f.top (declared es (Variables n) f).top w known low high)
    holds
declared_held g f es (Channels n) new long few known holds =
    unknown_names g new (channel_meaning es n.value_type n.size) (channels_in es n.size) (as_list n.names) f es
    (channel_known g new es n.value_type n.size) long holds

pub declared_names_are_held : DeclaredNamesAreHeld
declared_names_are_held g f es d top old new long scope under few stay known holds =
    declared_held g f es d new long few known
    (scopes_stay (at_homes f.homes g) top f.top es old new scope under stay holds)

-- ---- loops that end

-- both words of a block
block_stays : (w : ℕ) (last : Fact) (f : Facts) → StayBefore w f
    (with_fact (pos w) last (with_fact (pos w +ℤ pos 1) (Number (pos 0) (pos 0)) f))
block_stays w last f =
    let none : Fact = Number (pos 0) (pos 0) in
    let next : pos w +ℤ pos 1 ≡ pos (w + 1) = omega (arith, ints) in
    subst (λ (z : ℤ). StayBefore w f (with_fact (pos w) last (with_fact z none f))) (sym next)
    (stay_both w f (with_fact (pos (w + 1)) none f) (with_fact (pos w) last (with_fact (pos (w + 1)) none f))
    (stay_fewer w (w + 1) f (with_fact (pos (w + 1)) none f) (omega arith) (stored_stay (w + 1) none f))
    (stored_stay w last (with_fact (pos (w + 1)) none f)))

pub ended_loops_are_held : EndedLoopsAreHeld
unfolding written
ended_loops_are_held g es top word b s scope low at holds =
    let last : Fact = Number b.last b.last in
    scopes_stay g top word es s.frame (after_loop b s).frame scope low
    (subst (λ (z : ℤ). StayBefore word s.frame
    (with_fact z last (with_fact (z +ℤ pos 1) (Number (pos 0) (pos 0)) s.frame))) (sym at)
    (block_stays word last s.frame)) holds
