-- The code of a declaration leads to where memory carries the environment with its names.
use Rattle.std.proofs.Common.{◌≡◌, ℕ, zero, suc, ◌+◌, ◌<◌, ◌≤◌, ℤ, pos, Bool, true, false, cond, nat_eq, List, []}
use Rattle.std.proofs.Common.{◌∷◌, ◌++◌, length, map, Option, Some, None, FitsSigned, refl, sym, ap, subst, ◌∙◌, arith}
use Rattle.std.specs.Prelude.{fold, replicate, int_le, unsigned_abs, unwrap_or, option_map, option_and_then, IfSome}
use Rattle.std.specs.Int.{w32}
use Rattle.std.specs.List.{AllByRecursion}
use Rattle.std.proofs.lemmas.Int.{ints, clamps}
use Rattle.std.proofs.lemmas.Option.{same_Some}
use Rattle.module_format.specs.declared.limits.TheConstants.{MAX_DATA_WORDS}
use Rattle.word_arithmetic.specs.Range.{Ends, InRange, constant}
use Rattle.machine_state.specs.Memory.{Memory}
use Rattle.occam_parser.specs.declared.tree.ValueType.{ValueType}
use Rattle.occam_parser.specs.declared.tree.ValueType.TheVariants as value_type
use Rattle.occam_parser.specs.Expressions.{Expression}
use Rattle.occam_parser.specs.Lines.{Value, Declaration, Constants, Variables, Channels}
use Rattle.occam_parser.specs.Lines as lines
use Rattle.occam_parser.specs.OneOrMore.{as_list}
use Rattle.scalar_ranges.specs.declared.scope.ArrayKind.TheVariants as array
use Rattle.scalar_ranges.specs.declared.scope.ScalarKind.TheVariants as scalar
use Rattle.scalar_ranges.specs.declared.types.ExprType.TheVariants as types
use Rattle.scalar_ranges.specs.Entries.{Meaning, Entry, type_range}
use Rattle.scalar_ranges.specs.Entries as entries
use Rattle.scalar_ranges.specs.Environments.{Held, Nothing, One, Many, Environment, IsHeld, Meets}
use Rattle.scalar_ranges.specs.Steps.{both_some}
use Rattle.scalar_ranges.specs.Types.{type_of_values}
use Rattle.scalar_ranges.proofs.Parts.{mapped}
use Rattle.program_uses.specs.Constants.{value_as, from_one, size_in}
use Rattle.program_uses.specs.Declaring.{add, add_all, add_declaration, with_value, range_of_items, range_of_bytes}
use Rattle.program_uses.specs.Declaring.{table_of, constant_meaning, variable_meaning, channel_meaning}
use Rattle.program_meaning.specs.Declarations.{IsKnown}
use Rattle.program_meaning.specs.GoingWell.{IsTrueIn}
use Rattle.program_meaning.specs.Storing.{bind, bind_all, numbers_of, held_by, zeros, zero_for, declare}
use Rattle.program_meaning.specs.TypedValues.{IsOfType, HasType, HoldsOf, AreTyped}
use Rattle.program_meaning.proofs.DeclarationsHold.{value_is_number}
use Rattle.program_meaning.proofs.DeclarationsTyped.{declarations_typed}
use Rattle.code_pieces.specs.Pieces.{Piece, counted, word_after}
use Rattle.line_pieces.specs.Homes as home
use Rattle.line_pieces.specs.Homes.{Home, Word, words_for}
use Rattle.line_pieces.specs.Declarations.{Frame, with_words, with_names, home_for, item_values, words_in}
use Rattle.line_pieces.specs.Declarations.{channels_in, zero_code, zero_names, declared}
use Rattle.line_pieces.specs.Declarations.{declaration_code}
use Rattle.placed_code.specs.StraightPieces as pieces
use Rattle.placed_code.specs.StraightPieces.{LeadOn, done}
use Rattle.placed_code.proofs.StraightPieces.{lead_both}
use Rattle.meant_lines.specs.Words.{ChangesWithin}
use Rattle.meant_lines.specs.Carrying.{Ground, HasTables, IsArrayKept, IsKept, words_held, start_of, end_of, IsInside}
use Rattle.meant_lines.specs.Carrying.{HasFrame, Carries}
use Rattle.meant_lines.specs.Pushing.{AllStandOn, IsCounted}
use Rattle.meant_lines.specs.Zeroing.{AreZero}
use Rattle.meant_lines.specs.Opening.{on_frame, Opened, DeclarationsAreCarried}
use Rattle.meant_lines.proofs.Carrying.{ends_inside}
use Rattle.meant_lines.proofs.Declaring.{kept_there, new_names_are_carried, zero_scalars_are_kept, zero_arrays_are_kept}
use Rattle.meant_lines.proofs.Housing.{long_more, whole_words, after_counted, after_further, variables_within}
use Rattle.meant_lines.proofs.Operators.{first_stand, rest_stand, temporary_within}
use Rattle.meant_lines.proofs.Words.{all_alike, changes_both, changes_wider}
use Rattle.meant_lines.proofs.Zeroing.{scalars_are_zeroed, arrays_are_zeroed}

-- ---- names one after another

-- the code for one name leads to where its words have what it holds
record IsSet (g : Ground) (k : Meaning) (held : Held) (word : ℕ) (ps : List Piece) (before : pieces.Held)
    : Type 0 where
  after : pieces.Held
  leads : LeadOn g.footing ps before after
  changes : ChangesWithin word g.words before.memory after.memory
  kept : IsKept g after.memory (Word word) k held

-- the code for each of these names
abbrev codes : (ℕ → List Piece) → ℕ → List (List ℕ) → ℕ → List Piece
codes code count [] word = []
codes code count (name ∷ names) word = code word ++ codes code count names (word_after word count)

record AreNamed (g : Ground) (start : ℕ) (f : Frame) (ps : List Piece) (es : List Entry) (inner : Environment)
    (before : pieces.Held) : Type 0 where
  after : pieces.Held
  leads : LeadOn g.footing ps before after
  carries : Carries (on_frame f g) f.top es inner after.memory
  changes : ChangesWithin start g.words before.memory after.memory

frame_of : (f : Frame) (g : Ground) (m : Memory) → HasFrame (on_frame f g) m → HasFrame g m
frame_of f g m frame = record { workspace = frame.workspace; few = frame.few; inside = frame.inside }

module _ (g : Ground) (k : Meaning) (held : Held) (count : ℕ) (code : ℕ → List Piece)
    (is : IsHeld k held) (within : words_held k ≤ count)
    (fits : (word : ℕ) → g.words ≤ MAX_DATA_WORDS → IsCounted word → AllStandOn g (code word)
    → word_after word count ≤ g.words)
    (set : (word : ℕ) (h : pieces.Held) → HasFrame g h.memory → IsCounted word → AllStandOn g (code word)
    → IsSet g k held word (code word) h) where
  names_carried : (names : List (List ℕ)) (f : Frame) (es : List Entry) (env : Environment) (h : pieces.Held)
      → Meets env es → length f.homes ≡ length es → AllStandOn g (codes code count names f.top)
      → Carries (on_frame f g) f.top es env h.memory
      → AreNamed g f.top (with_names count names f) (codes code count names f.top) (add_all names k es)
      (bind_all names held env) h
  names_carried [] f es env h meets long stand carries =
      record { after = h; leads = done; carries = carries; changes = all_alike f.top g.words h.memory }
  names_carried (name ∷ names) f es env h meets long stand carries =
      let later : List Piece = codes code count names (word_after f.top count) in
      let here = first_stand g (code f.top) later stand in
      let first = set f.top h (frame_of f g h.memory carries.frame) carries.counted here in
      let few : word_after f.top count ≤ g.words = fits f.top carries.frame.few carries.counted here in
      let whole = whole_words f.top count (let most = carries.frame.few in omega (arith, few, most)) in
      let ends : f.top + words_held k ≤ word_after f.top count = omega (arith, whole, within) in
      let next = new_names_are_carried (on_frame f g) f.top (word_after f.top count) es env name k held (Word f.top)
      h.memory first.after.memory meets long ends (omega arith) (after_counted f.top count)
      (ends_inside g.words (Some (Word f.top)) k (omega (arith, ends, few))) first.changes
      (kept_there g f.homes first.after.memory (Word f.top) k held first.kept) carries in
      let rest = names_carried names (with_words count f) (add name k es) (bind name held env) first.after
      (refl, is, meets) (long_more f.homes (Word f.top) ∙ ap suc long) (rest_stand g (code f.top) later stand) next in
      record {
        after = rest.after;
        leads = lead_both first.leads rest.leads;
        carries = rest.carries;
        changes = changes_both first.changes (changes_wider (omega (arith, whole)) (omega arith) rest.changes);
      }

zero_codes : (size : Option Expression) (count : ℕ) (names : List (List ℕ)) (word : ℕ)
    → codes (λ w. zero_code size w count) count names word ≡ zero_names size count names word
zero_codes size count [] word = refl
zero_codes size count (name ∷ names) word =
    ap (λ (ps : List Piece). zero_code size word count ++ ps) (zero_codes size count names (word_after word count))

-- ---- variables

scalar_set : (g : Ground) (type : ValueType) (range : Ends) (count word : ℕ) (h : pieces.Held) → HasFrame g h.memory
    → IsCounted word → AllStandOn g (zero_code None word count)
    → IsSet g (entries.Scalar scalar.Variable type range) (One (pos 0)) word (zero_code None word count) h
scalar_set g type range count word h frame few stand =
    let zeroed = scalars_are_zeroed g word h frame (temporary_within g.words word few stand.1.0) in
    record {
      after = zeroed.after;
      leads = zeroed.leads;
      changes = zeroed.changes;
      kept = zero_scalars_are_kept g word zeroed.after.memory scalar.Variable type range zeroed.zeros;
    }

-- the word after an array is one of the frame
after_within : (words word count : ℕ) → words ≤ MAX_DATA_WORDS → counted (word_after word count) < words
    → word + count < words
unfolding counted word_after
after_within words word count few is = omega (arith, few, is)

array_set : (g : Ground) (type : ValueType) (range : Ends) (size : Expression) (n count word : ℕ) (h : pieces.Held)
    → count ≡ words_for type n → 1 ≤ count → HasFrame g h.memory → AllStandOn g (zero_code (Some size) word count)
    → IsSet g (entries.Array array.Variable type (Some n) range) (Many (replicate n (pos 0))) word
    (zero_code (Some size) word count) h
array_set g type range size n count word h same some frame stand =
    let zeroed = arrays_are_zeroed g word count h frame some
    (after_within g.words word count frame.few stand.1.0) in
    record {
      after = zeroed.after;
      leads = zeroed.leads;
      changes = zeroed.changes;
      kept = zero_arrays_are_kept g word n zeroed.after.memory array.Variable type range
          (subst (AreZero zeroed.after.memory word) same zeroed.zeros);
    }

-- the words of a scalar and of an array are in the frame, since code stores there
scalar_within : (g : Ground) (count word : ℕ) → g.words ≤ MAX_DATA_WORDS → IsCounted word
    → AllStandOn g (zero_code None word count) → word_after word 1 ≤ g.words
unfolding counted word_after
scalar_within g count word few low stand = let less = stand.1.0 in omega (arith, few, low, less)

array_within : (g : Ground) (size : Expression) (count word : ℕ) → g.words ≤ MAX_DATA_WORDS → IsCounted word
    → AllStandOn g (zero_code (Some size) word count) → word_after word count ≤ g.words
unfolding counted word_after
array_within g size count word few low stand = let less = stand.1.0 in omega (arith, less)

-- the size of an array, and what it holds
record HasSize (es : List Entry) (size : Expression) (held : Held) : Type 0 where
  n : ℕ
  is : size_in es size ≡ Some n
  some : 1 ≤ n
  holds : held ≡ Many (replicate n (pos 0))

sized_by : (t : Bool) (v : ℤ) (n : ℕ) (held : Held) → int_le (pos 1) v ≡ t → cond t (Some (unsigned_abs v)) None ≡ Some n
    → cond t (Some (Many (replicate (unsigned_abs v) (pos 0)))) None ≡ Some held
    → (1 ≤ n) × (held ≡ Many (replicate n (pos 0)))
sized_by true v n held test size is =
    let same : unsigned_abs v ≡ n = same_Some (unsigned_abs v) n size in (
      omega (arith, ints, clamps, test, same),
      sym (same_Some (Many (replicate (unsigned_abs v) (pos 0))) held is)
          ∙ ap (λ (k : ℕ). Many (replicate k (pos 0))) same,
    )
sized_by false v n held test size is = absurd (cc size)

size_found : (es : List Entry) (env : Environment) (type : ValueType) (size : Expression) (held : Held) (o : Option ℤ)
    (m : Option ℕ) → Meets env es → value_as es types.Int size ≡ o → size_in es size ≡ m
    → IsKnown (entries.Array array.Variable type m (type_range type)) → zero_for env (Some size) ≡ Some held
    → HasSize es size held
size_found es env type size held o None meets value sized known set = absurd known
size_found es env type size held None (Some n) meets value sized known set =
    absurd (no_size (sym (ap (option_and_then from_one) value) ∙ sized))
  where
    no_size : None ≡ Some n → ⊥
    no_size is = absurd (cc is)
size_found es env type size held (Some v) (Some n) meets value sized known set =
    let number = value_is_number value_type.Int es env size v meets value in
    let by = sized_by (int_le (pos 1) v) v n held refl (sym (ap (option_and_then from_one) value) ∙ sized)
    (sym (ap (option_and_then zeros) number) ∙ set) in
    record { n = n; is = sized; some = by.0; holds = by.1 }

some_words : (type : ValueType) (n : ℕ) → 1 ≤ n → 1 ≤ words_for type n
some_words value_type.Int n some = some
some_words value_type.Byte n some = omega (arith, some)

zero_in : (type : ValueType) → InRange (type_range type) (pos 0)
zero_in value_type.Int = record { from_lo = omega (arith, ints); to_hi = omega (arith, ints) }
zero_in value_type.Byte = record { from_lo = omega (arith, ints); to_hi = omega (arith, ints) }

all_zeros : (P : ℤ → Type 0) (n : ℕ) → P (pos 0) → AllByRecursion P (replicate n (pos 0))
all_zeros P zero is = tt
all_zeros P (suc n) is = (is, all_zeros P n is)

many_zeros : (n : ℕ) → length (replicate n (pos 0)) ≡ n
many_zeros zero = refl
many_zeros (suc n) = ap suc (many_zeros n)

module _ (g : Ground) (f : Frame) (es : List Entry) (env : Environment) (h : pieces.Held) (holds : IsTrueIn es env)
    (long : length f.homes ≡ length es) (carries : Carries (on_frame f g) f.top es env h.memory) where
  -- with the names of variables
  abbrev HaveVariables : ValueType → Option Expression → List (List ℕ) → Held → Type 0
  HaveVariables type size names held =
      AreNamed g f.top (with_names (words_in es type size) names f)
      (zero_names size (words_in es type size) names f.top) (add_all names (variable_meaning es type size) es)
      (bind_all names held env) h

  variables_named : (type : ValueType) (size : Option Expression) (names : List (List ℕ)) (held : Held)
      → IsKnown (variable_meaning es type size) → zero_for env size ≡ Some held
      → AllStandOn g (zero_names size (words_in es type size) names f.top) → HaveVariables type size names held
  variables_named type None names held known set stand =
      let one : One (pos 0) ≡ held = same_Some (One (pos 0)) held set in
      let code = zero_codes None 1 names f.top in
      let k : Meaning = variable_meaning es type None in
      subst (HaveVariables type None names) one
      (subst (λ (ps : List Piece). AreNamed g f.top (with_names 1 names f) ps (add_all names k es)
      (bind_all names (One (pos 0)) env) h) code
      (names_carried g k (One (pos 0)) 1 (λ w. zero_code None w 1)
      (record { from_lo = omega (arith, ints); to_hi = omega (arith, ints) }) (variables_within es type None)
      (scalar_within g 1) (scalar_set g type (constant (pos 0)) 1) names f es env h holds.meets long
      (subst (AllStandOn g) (sym code) stand) carries))
  variables_named type (Some size) names held known set stand =
      let sized = size_found es env type size held (value_as es types.Int size) (size_in es size) holds.meets refl refl
      known set in
      let n : ℕ = sized.n in
      let count : ℕ = words_in es type (Some size) in
      let words : count ≡ words_for type n =
      ap (λ (o : Option ℕ). words_for type (unwrap_or o 0)) sized.is in
      let zeros : Held = Many (replicate n (pos 0)) in
      let means : entries.Array array.Variable type (Some n) (type_range type) ≡ variable_meaning es type (Some size) =
      ap (λ (o : Option ℕ). entries.Array array.Variable type o (type_range type)) (sym sized.is) in
      let code = zero_codes (Some size) count names f.top in
      subst (HaveVariables type (Some size) names) (sym sized.holds)
      (subst (λ (k : Meaning). AreNamed g f.top (with_names count names f)
      (zero_names (Some size) count names f.top) (add_all names k es) (bind_all names zeros env) h) means
      (subst (λ (ps : List Piece). AreNamed g f.top (with_names count names f) ps
      (add_all names (entries.Array array.Variable type (Some n) (type_range type)) es) (bind_all names zeros env) h)
      code
      (names_carried g (entries.Array array.Variable type (Some n) (type_range type)) zeros count
      (λ w. zero_code (Some size) w count)
      (many_zeros n, all_zeros (InRange (type_range type)) n (zero_in type)) (omega (arith, words))
      (array_within g size count)
      (λ word b frame low here. array_set g type (type_range type) size n count word b words
      (subst (λ (c : ℕ). 1 ≤ c) (sym words) (some_words type n sized.some)) frame here) names f es env h
      holds.meets long (subst (AllStandOn g) (sym code) stand) carries)))

-- ---- channels

module _ (g : Ground) (es : List Entry) (type : ValueType) (size : Option Expression) (m : Memory) where
  abbrev channel : Meaning
  channel = channel_meaning es type size

  abbrev count_of : ℕ
  count_of = channels_in es size

  holds_nothing : (size : Option Expression) → IsHeld (channel_meaning es type size) Nothing
  holds_nothing None = tt
  holds_nothing (Some size) = tt

  nothing_kept : (size : Option Expression) (homes : List Home) (word : ℕ)
      → IsKept (record g { homes = homes }) m (Word word) (channel_meaning es type size) Nothing
  nothing_kept None homes word = tt
  nothing_kept (Some size) homes word = tt

  channel_inside : (size : Option Expression) (word : ℕ)
      → IsInside g.words (Some (Word word)) (channel_meaning es type size)
  channel_inside None word = tt
  channel_inside (Some size) word = tt

  channel_ends : (size : Option Expression) (top more : ℕ) → top ≤ more
      → end_of (Some (Word top)) (channel_meaning es type size) ≤ more
  channel_ends None top more low = omega (arith, low)
  channel_ends (Some size) top more low = omega (arith, low)

  -- Memory carries their names at once, as they hold nothing.
  channels_carried : (names : List (List ℕ)) (f : Frame) (outer : List Entry) (env : Environment) → Meets env outer
      → length f.homes ≡ length outer → Carries (on_frame f g) f.top outer env m
      → Carries (on_frame (with_names count_of names f) g) (with_names count_of names f).top
      (add_all names channel outer) (bind_all names Nothing env) m
  channels_carried [] f outer env meets long carries = carries
  channels_carried (name ∷ names) f outer env meets long carries =
      channels_carried names (with_words count_of f) (add name channel outer) (bind name Nothing env)
      (refl, holds_nothing size, meets) (long_more f.homes (Word f.top) ∙ ap suc long)
      (new_names_are_carried (on_frame f g) f.top (word_after f.top count_of) outer env name channel Nothing
      (Word f.top) m m meets long
      (channel_ends size f.top (word_after f.top count_of) (after_further f.top count_of carries.counted))
      (omega arith) (after_counted f.top count_of) (channel_inside size f.top) (all_alike f.top g.words m)
      (nothing_kept size f.homes f.top) carries)

-- ---- constants

-- the numbers of items that have values
record HaveValues (es : List Entry) (env : Environment) (type : ValueType) (o : Option Ends) (items : List Expression)
    : Type 0 where
  begun : Ends
  is : o ≡ Some begun
  numbers : numbers_of env items ≡ Some (item_values es type items)

module _ (es : List Entry) (env : Environment) (meets : Meets env es) (type : ValueType) where
  item_by : (o : Option Ends) (value : Option ℤ) (e : Expression) (items : List Expression)
      → value_as es (type_of_values type) e ≡ value → HaveValues es env type (with_value o value) items
      → HaveValues es env type o (e ∷ items)
  item_by None value e items is rest = let have = rest.is in absurd (cc have)
  item_by (Some r) None e items is rest = let have = rest.is in absurd (cc have)
  item_by (Some r) (Some v) e items is rest = record {
    begun = r;
    is = refl;
    numbers = ap (λ (n : Option ℤ). both_some n (numbers_of env items) (λ u us. Some (u ∷ us)))
        (value_is_number type es env e v meets is)
        ∙ ap (λ (ns : Option (List ℤ)). both_some (Some v) ns (λ u us. Some (u ∷ us))) rest.numbers
        ∙ ap (λ (n : Option ℤ). Some (unwrap_or n (pos 0) ∷ item_values es type items)) (sym is);
  }

  items_have : (items : List Expression) (o : Option Ends) (r : Ends)
      → fold (λ range e. with_value range (value_as es (type_of_values type) e)) o items ≡ Some r
      → HaveValues es env type o items
  items_have [] o r is = record { begun = r; is = is; numbers = refl }
  items_have (e ∷ items) o r is =
      item_by o (value_as es (type_of_values type) e) e items refl
      (items_have items (with_value o (value_as es (type_of_values type) e)) r is)

  first_by : (value : Option ℤ) (e : Expression) (items : List Expression)
      → value_as es (type_of_values type) e ≡ value → HaveValues es env type (option_map constant value) items
      → numbers_of env (e ∷ items) ≡ Some (item_values es type (e ∷ items))
  first_by None e items is rest = let have = rest.is in absurd (cc have)
  first_by (Some v) e items is rest =
      ap (λ (n : Option ℤ). both_some n (numbers_of env items) (λ u us. Some (u ∷ us)))
      (value_is_number type es env e v meets is)
      ∙ ap (λ (ns : Option (List ℤ)). both_some (Some v) ns (λ u us. Some (u ∷ us))) rest.numbers
      ∙ ap (λ (n : Option ℤ). Some (unwrap_or n (pos 0) ∷ item_values es type items)) (sym is)

-- a table whose items have values
table_ranges : (type : ValueType) (size : Option ℕ) (count : ℕ) (range : Option Ends)
    → IsKnown (table_of type size count range) → (r : Ends) × (range ≡ Some r)
table_ranges type (Some n) count (Some r) known = (r, refl)
table_ranges type (Some n) count None known = absurd known
table_ranges type None count range known = absurd known

-- what is kept of a table
table_kept : (g : Ground) (m : Memory) (h : Home) (type : ValueType) (size : Option ℕ) (count : ℕ)
    (range : Option Ends) (held : Held) → IsArrayKept g m h type held
    → IsKept g m h (table_of type size count range) held
table_kept g m h type (Some n) count (Some r) held is = by_test (nat_eq n count)
  where
    by_test : (t : Bool) → IsKept g m h (cond t (entries.Array array.Table type (Some n) r)
        (entries.Array array.Table type None (type_range type))) held
    by_test true = is
    by_test false = is
table_kept g m h type (Some n) count None held is = is
table_kept g m h type None count range held is = is

-- and the numbers that it holds
table_typed : (type : ValueType) (size : Option ℕ) (count : ℕ) (range : Option Ends) (held : Held)
    → HasType (table_of type size count range) held → HoldsOf type held
table_typed type (Some n) count (Some r) held is = by_test (nat_eq n count) is
  where
    by_test : (t : Bool) → HasType (cond t (entries.Array array.Table type (Some n) r)
        (entries.Array array.Table type None (type_range type))) held → HoldsOf type held
    by_test true has = has
    by_test false has = has
table_typed type (Some n) count None held is = is
table_typed type None count range held is = is

of_type_fits : (type : ValueType) (v : ℤ) → IsOfType type v → FitsSigned w32 v
of_type_fits value_type.Int v is = is
of_type_fits value_type.Byte v is = let low = is.from_lo in let high = is.to_hi in omega (arith, ints, low, high)

all_fit : (type : ValueType) (vs : List ℤ) → AllByRecursion (IsOfType type) vs → AllByRecursion (FitsSigned w32) vs
all_fit type [] all = tt
all_fit type (v ∷ vs) all = (of_type_fits type v all.0, all_fit type vs all.1)

module _ (g : Ground) (es : List Entry) (env : Environment) (m : Memory) (holds : IsTrueIn es env)
    (tables : HasTables g m) where
  table_in : (type : ValueType) (size : Option ℕ) (count : ℕ) (range : Option Ends) (values : List ℤ)
      → HasType (table_of type size count range) (Many values)
      → IsKept g m (home.Table values) (table_of type size count range) (Many values)
  table_in type size count range values has =
      table_kept g m (home.Table values) type size count range (Many values)
      (refl, λ reads. tables values reads (all_fit type values (table_typed type size count range (Many values) has)))

  constant_kept : (type : ValueType) (value : Value) (held : Held) → IsKnown (constant_meaning es type value)
      → held_by env value ≡ Some held → HasType (constant_meaning es type value) held
      → IsKept g m (home_for es type value) (constant_meaning es type value) held
  constant_kept type (lines.Scalar e) held known is has = tt
  constant_kept type (lines.Bytes size bs) held known is has =
      let same : Many (map pos bs) ≡ held = same_Some (Many (map pos bs)) held is in
      subst (IsKept g m (home_for es type (lines.Bytes size bs)) (constant_meaning es type (lines.Bytes size bs))) same
      (table_in type (size_in es size) (length bs) (range_of_bytes type bs) (map pos bs)
      (subst (HasType (constant_meaning es type (lines.Bytes size bs))) (sym same) has))
  constant_kept type (lines.Table size items) held known is has =
      let range = table_ranges type (size_in es size) (length (as_list items)) (range_of_items es type items) known in
      let all = items_have es env holds.meets type items.others
      (option_map constant (value_as es (type_of_values type) items.first)) range.0 range.1 in
      let numbers = first_by es env holds.meets type (value_as es (type_of_values type) items.first) items.first
      items.others refl all in
      let values : List ℤ = item_values es type (as_list items) in
      let same : Many values ≡ held =
      same_Some (Many values) held (sym (ap (option_map Many) numbers) ∙ is) in
      subst (IsKept g m (home_for es type (lines.Table size items)) (constant_meaning es type (lines.Table size items)))
      same
      (table_in type (size_in es size) (length (as_list items)) (range_of_items es type items) values
      (subst (HasType (constant_meaning es type (lines.Table size items))) (sym same) has))

-- its home has no words
home_ends : (es : List Entry) (type : ValueType) (value : Value) (k : Meaning) (top : ℕ)
    → end_of (Some (home_for es type value)) k ≤ top
home_ends es type (lines.Scalar e) k top = omega arith
home_ends es type (lines.Table size items) k top = omega arith
home_ends es type (lines.Bytes size bs) k top = omega arith

home_starts : (es : List Entry) (type : ValueType) (value : Value) (top : ℕ)
    → top ≤ start_of (Some (home_for es type value)) top
home_starts es type (lines.Scalar e) top = omega arith
home_starts es type (lines.Table size items) top = omega arith
home_starts es type (lines.Bytes size bs) top = omega arith

-- ---- declarations

typed_inside : (o : Option Environment) (inner : Environment) (es : List Entry) → o ≡ Some inner
    → IfSome o (λ (e : Environment). AreTyped e es) → AreTyped inner es
typed_inside o inner es is typed = subst (λ (x : Option Environment). IfSome x (λ (e : Environment). AreTyped e es)) is typed

opened : (g : Ground) (f : Frame) (es : List Entry) (d : Declaration) (env inner : Environment)
    (h : pieces.Held) → env ≡ inner
    → AreNamed g f.top (declared es d f) (declaration_code es d f.top) (add_declaration d es) env h
    → Opened g f es d inner h
opened g f es d env inner h same named = record {
  after = named.after;
  leads = named.leads;
  carries = subst (λ (e : Environment). Carries (on_frame (declared es d f) g) (declared es d f).top
      (add_declaration d es) e named.after.memory) same named.carries;
  changes = named.changes;
}

pub declarations_are_carried : DeclarationsAreCarried
declarations_are_carried g f es env inner (Variables n) h holds known words is long stand carries =
    let bound = mapped (λ (held : Held). bind_all (as_list n.names) held env) (zero_for env n.size) inner is in
    let named = variables_named g f es env h holds long carries n.value_type n.size (as_list n.names) bound.0 known
    bound.1 stand in
    opened g f es (Variables n) (bind_all (as_list n.names) bound.0 env) inner h bound.2 named
declarations_are_carried g f es env inner (Channels n) h holds known words is long stand carries =
    opened g f es (Channels n) (bind_all (as_list n.names) Nothing env) inner h (same_Some _ inner is)
    (record {
      after = h;
      leads = done;
      carries = channels_carried g es n.value_type n.size h.memory (as_list n.names) f es env holds.meets long carries;
      changes = all_alike f.top g.words h.memory;
    })
declarations_are_carried g f es env inner (Constants c) h holds known words is long stand carries =
    let bound = mapped (λ (held : Held). bind c.name held env) (held_by env c.value) inner is in
    let typed = typed_inside (declare (Constants c) env) inner (add_declaration (Constants c) es) is
    (declarations_typed es env (Constants c) holds.meets holds.typed known words) in
    let has : AreTyped (bind c.name bound.0 env) (add_declaration (Constants c) es) =
    subst (λ (e : Environment). AreTyped e (add_declaration (Constants c) es)) (sym bound.2) typed in
    let place : Home = home_for es c.value_type c.value in
    let k : Meaning = constant_meaning es c.value_type c.value in
    let kept = constant_kept (on_frame f g) es env h.memory holds carries.tables c.value_type c.value bound.0 known
    bound.1 has.0 in
    opened g f es (Constants c) (bind c.name bound.0 env) inner h bound.2 (record {
      after = h;
      leads = done;
      carries = new_names_are_carried (on_frame f g) f.top f.top es env c.name k bound.0 place h.memory h.memory
          holds.meets long (home_ends es c.value_type c.value k f.top) (home_starts es c.value_type c.value f.top)
          carries.counted (ends_inside g.words (Some place) k (home_ends es c.value_type c.value k g.words))
          (all_alike f.top g.words h.memory) kept carries;
      changes = all_alike f.top g.words h.memory;
    })
