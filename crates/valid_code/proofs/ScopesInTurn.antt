-- What a row says of a scope is of words in turn: those of each name are after those of the names before it.
use Rattle.std.proofs.Common.{◌≡◌, ℕ, ◌+◌, ◌≤◌, ℤ, pos, negsuc, Bool, true, false, cond, List, [], ◌∷◌, ◌++◌}
use Rattle.std.proofs.Common.{length, drop, get_or, Option, Some, None, refl, sym, ap, subst, ◌∙◌, arith, append_assoc}
use Rattle.std.proofs.Common.{append-nil, length-append}
use Rattle.std.specs.Prelude.{int_le, unsigned_abs, unwrap_or, map, reverse, option_and_then}
use Rattle.std.specs.List.{AllByRecursion}
use Rattle.std.proofs.lemmas.Int.{ints}
use Rattle.std.proofs.lemmas.List.{length-reverse, map-append}
use Rattle.small_laws.proofs.Comparisons.{int_le-true}
use Rattle.module_format.specs.declared.limits.TheConstants.{MAX_DATA_WORDS}
use Rattle.occam_parser.specs.declared.tree.ValueType.{ValueType}
use Rattle.occam_parser.specs.declared.tree.ValueType.TheVariants as value_type
use Rattle.occam_parser.specs.Expressions.{Expression}
use Rattle.occam_parser.specs.OneOrMore.{as_list}
use Rattle.occam_parser.specs.Lines.{Value, Declaration, Constants, Variables, Channels}
use Rattle.occam_parser.specs.Lines as lines
use Rattle.word_arithmetic.specs.Range.{full}
use Rattle.scalar_ranges.specs.Entries.{Meaning, Scalar, Array, Entry}
use Rattle.scalar_ranges.specs.MoveLaws.{shape}
use Rattle.scalar_ranges.specs.Narrowing.{with_range}
use Rattle.scalar_ranges.proofs.Numbered.{reverse_cons}
use Rattle.program_uses.specs.Constants.{from_one, size_in, value_as}
use Rattle.program_uses.specs.Declaring.{add, add_all, add_declaration, constant_meaning, variable_meaning}
use Rattle.program_uses.specs.Declaring.{channel_meaning}
use Rattle.code_pieces.specs.declared.piece.RowEntry.{RowEntry}
use Rattle.code_pieces.specs.declared.words.TheConstants.{GREATEST_WORD}
use Rattle.code_pieces.specs.Pieces.{Piece, counted, word_after}
use Rattle.code_pieces.proofs.AllOfPieces.{all_first, all_last}
use Rattle.line_pieces.specs.Homes.{Home, Nowhere, Word, Block, words_for, facts_at, facts_from, facts_of}
use Rattle.line_pieces.specs.Declarations.{Frame, with_words, with_home, with_names, home_for, words_in, channels_in}
use Rattle.line_pieces.specs.Declarations.{facts_in, declared, zero_code, zero_names, declaration_code}
use Rattle.meant_code.specs.AmongOthers.{NamesBelow}
use Rattle.valid_code.specs.ValidPieces.{InTurn}

-- ---- words in turn

pub turn_lower : (low at top : ℕ) (es : List RowEntry) → low ≤ at → InTurn at es top → InTurn low es top
turn_lower low at top [] under turn = omega (arith, under, turn)
turn_lower low at top (e ∷ es) under turn = (omega (arith, under, turn.0), turn.1, turn.2)

pub turn_higher : (low top more : ℕ) (es : List RowEntry) → top ≤ more → InTurn low es top → InTurn low es more
turn_higher low top more [] above turn = omega (arith, above, turn)
turn_higher low top more (e ∷ es) above turn =
    (turn.0, turn.1, turn_higher (e.word + e.span) top more es above turn.2)

turn_both : (low middle top : ℕ) (es fs : List RowEntry) → InTurn low es middle → InTurn middle fs top
    → InTurn low (es ++ fs) top
turn_both low middle top [] fs first second = turn_lower low middle top fs first second
turn_both low middle top (e ∷ es) fs first second =
    (first.0, first.1, turn_both (e.word + e.span) middle top es fs first.2 second)

-- the words of entries, without what is known of them
abbrev words_of : List RowEntry → List (ℕ × ℕ)
words_of es = map (λ (e : RowEntry). (e.word, e.span)) es

turn_as : (low top : ℕ) (es fs : List RowEntry) → words_of es ≡ words_of fs → InTurn low es top → InTurn low fs top
turn_as low top [] [] same turn = turn
turn_as low top [] (f ∷ fs) same turn = absurd (let long = ap length same in omega (arith, long))
turn_as low top (e ∷ es) [] same turn = absurd (let long = ap length same in omega (arith, long))
turn_as low top (e ∷ es) (f ∷ fs) same turn =
    let word : e.word ≡ f.word = ap (λ (xs : List (ℕ × ℕ)). (get_or xs 0 (0, 0)).0) same in
    let span : e.span ≡ f.span = ap (λ (xs : List (ℕ × ℕ)). (get_or xs 0 (0, 0)).1) same in
    let next : e.word + e.span ≡ f.word + f.span = omega (arith, word, span) in (
      omega (arith, turn.0, word),
      omega (arith, turn.1, span),
      subst (λ (n : ℕ). InTurn n fs top) next
          (turn_as (e.word + e.span) top es fs (ap (λ (xs : List (ℕ × ℕ)). drop 1 xs) same) turn.2),
    )

-- ---- scopes of one shape

-- an entry without its range
abbrev shaped : Entry → Entry
shaped e = record { name = e.name; meaning = with_range (λ r. full) e.meaning }

same_words_at : (h : Home) (m : Meaning) → words_of (facts_at h m) ≡ words_of (facts_at h (with_range (λ r. full) m))
same_words_at (Word w) (Scalar kind type range) = refl
same_words_at (Word w) (Array kind type (Some size) range) = refl
same_words_at (Word w) (Array kind type None range) = refl
same_words_at (Word w) m = refl
same_words_at (Block w head) (Scalar kind type range) = refl
same_words_at (Block w head) m = refl
same_words_at h m = refl

same_words_from : (hs : List Home) (es : List Entry)
    → words_of (facts_from hs es) ≡ words_of (facts_from hs (map shaped es))
same_words_from [] es = refl
same_words_from (h ∷ hs) [] = refl
same_words_from (h ∷ hs) (e ∷ es) =
    map-append (λ (x : RowEntry). (x.word, x.span)) (facts_at h e.meaning) (facts_from hs es)
    ∙ ap (λ (xs : List (ℕ × ℕ)). xs ++ words_of (facts_from hs es)) (same_words_at h e.meaning)
    ∙ ap (λ (xs : List (ℕ × ℕ)). words_of (facts_at h (shaped e).meaning) ++ xs) (same_words_from hs es)
    ∙ sym (map-append (λ (x : RowEntry). (x.word, x.span)) (facts_at h (shaped e).meaning)
    (facts_from hs (map shaped es)))

shape_is : (es : List Entry) → shape es ≡ map shaped es
shape_is [] = refl
shape_is (e ∷ es) = ap (λ (xs : List Entry). shaped e ∷ xs) (shape_is es)

reverse_shaped : (es : List Entry) → map shaped (reverse es) ≡ reverse (map shaped es)
reverse_shaped [] = refl
reverse_shaped (e ∷ es) =
    ap (map shaped) (reverse_cons e es) ∙ map-append shaped (reverse es) (e ∷ [])
    ∙ ap (λ (xs : List Entry). xs ++ shaped e ∷ []) (reverse_shaped es) ∙ sym (reverse_cons (shaped e) (map shaped es))

same_words : (hs : List Home) (es : List Entry)
    → words_of (facts_of hs es) ≡ words_of (facts_from hs (reverse (shape es)))
same_words hs es =
    same_words_from hs (reverse es)
    ∙ ap (λ (xs : List Entry). words_of (facts_from hs xs))
    (reverse_shaped es ∙ ap (λ (xs : List Entry). reverse xs) (sym (shape_is es)))

-- ---- one name more

facts_none : (hs : List Home) → facts_from hs [] ≡ []
facts_none [] = refl
facts_none (h ∷ hs) = refl

-- a further home is that of no name
facts_kept : (hs : List Home) (h : Home) (es : List Entry) → length es ≤ length hs
    → facts_from (hs ++ h ∷ []) es ≡ facts_from hs es
facts_kept [] h [] few = refl
facts_kept [] h (e ∷ es) few = absurd (omega (arith, few))
facts_kept (k ∷ hs) h [] few = refl
facts_kept (k ∷ hs) h (e ∷ es) few =
    ap (λ (fs : List RowEntry). facts_at k e.meaning ++ fs) (facts_kept hs h es (omega (arith, few)))

facts_last : (hs : List Home) (h : Home) (es : List Entry) (e : Entry) → length es ≡ length hs
    → facts_from (hs ++ h ∷ []) (es ++ e ∷ []) ≡ facts_from hs es ++ facts_at h e.meaning
facts_last [] h [] e same = append-nil (facts_at h e.meaning)
facts_last [] h (x ∷ es) e same = absurd (omega (arith, same))
facts_last (k ∷ hs) h [] e same = absurd (omega (arith, same))
facts_last (k ∷ hs) h (x ∷ es) e same =
    ap (λ (fs : List RowEntry). facts_at k x.meaning ++ fs) (facts_last hs h es e (omega (arith, same)))
    ∙ sym (append_assoc (facts_at k x.meaning) (facts_from hs es) (facts_at h e.meaning))

facts_added : (hs : List Home) (h : Home) (es : List Entry) (name : List ℕ) (m : Meaning) → length es ≡ length hs
    → facts_of (hs ++ h ∷ []) (add name m es) ≡ facts_of hs es ++ facts_at h m
facts_added hs h es name m same =
    let e : Entry = record { name = name; meaning = m } in
    ap (λ (xs : List Entry). facts_from (hs ++ h ∷ []) xs) (reverse_cons e es)
    ∙ facts_last hs h (reverse es) e (length-reverse es ∙ same)

-- ---- frames

-- Each name of a scope has a home in a frame, and what is known of their words is in turn, below this word.
pub record IsPlaced (words : ℕ) (f : Frame) (es : List Entry) : Type 0 where
  pub long : length es ≡ length f.homes
  pub outer : f.outer ≡ []
  pub end : ℕ
  pub turn : InTurn 0 (facts_of f.homes es) end
  pub under : end ≤ f.top
  pub inside : end ≤ words
  pub counts : f.top ≤ GREATEST_WORD

-- what a row says there, of a scope of the same shape
pub row_in_turn : (words : ℕ) (f : Frame) (es fs : List Entry) → IsPlaced words f es → shape fs ≡ shape es
    → InTurn 0 (facts_in f fs) words
row_in_turn words f es fs placed same =
    let alike : words_of (facts_of f.homes es) ≡ words_of (facts_of f.homes fs) =
    same_words f.homes es ∙ ap (λ (xs : List Entry). words_of (facts_from f.homes (reverse xs))) (sym same)
    ∙ sym (same_words f.homes fs) in
    subst (λ (outer : List RowEntry). InTurn 0 (outer ++ facts_of f.homes fs) words) (sym placed.outer)
    (turn_higher 0 placed.end words (facts_of f.homes fs) placed.inside
    (turn_as 0 placed.end (facts_of f.homes es) (facts_of f.homes fs) alike placed.turn))

-- so in a frame with one home more
pub row_in_turn_more : (words : ℕ) (f : Frame) (h : Home) (es fs : List Entry) → IsPlaced words f es
    → shape fs ≡ shape es → length fs ≡ length es → InTurn 0 (facts_in (with_home h f) fs) words
row_in_turn_more words f h es fs placed same long =
    subst (λ (all : List RowEntry). InTurn 0 (f.outer ++ all) words)
    (sym (facts_kept f.homes h (reverse fs)
    (let size = length-reverse fs in let homes = placed.long in omega (arith, size, homes, long))))
    (row_in_turn words f es fs placed same)

pub shape_placed : (words : ℕ) (f : Frame) (es fs : List Entry) → IsPlaced words f es → shape fs ≡ shape es
    → length fs ≡ length es → IsPlaced words f fs
shape_placed words f es fs placed same long =
    let alike : words_of (facts_of f.homes es) ≡ words_of (facts_of f.homes fs) =
    same_words f.homes es ∙ ap (λ (xs : List Entry). words_of (facts_from f.homes (reverse xs))) (sym same)
    ∙ sym (same_words f.homes fs) in
    record {
      long = long ∙ placed.long;
      outer = placed.outer;
      end = placed.end;
      turn = turn_as 0 placed.end (facts_of f.homes es) (facts_of f.homes fs) alike placed.turn;
      under = placed.under;
      inside = placed.inside;
      counts = placed.counts;
    }

-- a name more of whose words something is known, from the top on
pub some_placed : (words : ℕ) (f : Frame) (es : List Entry) (h : Home) (name : List ℕ) (m : Meaning) (end top : ℕ)
    → IsPlaced words f es → InTurn f.top (facts_at h m) end → end ≤ top → end ≤ words → top ≤ GREATEST_WORD
    → IsPlaced words (record f { homes = f.homes ++ h ∷ []; top = top }) (add name m es)
some_placed words f es h name m end top placed turn under inside counts =
    let homes = length-append f.homes (h ∷ []) in
    let long = placed.long in
    record {
      long = omega (arith, homes, long);
      outer = placed.outer;
      end = end;
      turn = subst (λ (fs : List RowEntry). InTurn 0 fs end) (sym (facts_added f.homes h es name m placed.long))
          (turn_both 0 f.top end (facts_of f.homes es) (facts_at h m)
          (turn_higher 0 placed.end f.top (facts_of f.homes es) placed.under placed.turn) turn);
      under = under;
      inside = inside;
      counts = counts;
    }

-- or nothing
pub none_placed : (words : ℕ) (f : Frame) (es : List Entry) (h : Home) (name : List ℕ) (m : Meaning) (top : ℕ)
    → IsPlaced words f es → facts_at h m ≡ [] → f.top ≤ top → top ≤ GREATEST_WORD
    → IsPlaced words (record f { homes = f.homes ++ h ∷ []; top = top }) (add name m es)
none_placed words f es h name m top placed none above counts =
    let homes = length-append f.homes (h ∷ []) in
    let long = placed.long in
    let under = placed.under in
    let facts : facts_of (f.homes ++ h ∷ []) (add name m es) ≡ facts_of f.homes es =
    facts_added f.homes h es name m placed.long
    ∙ ap (λ (fs : List RowEntry). facts_of f.homes es ++ fs) none ∙ append-nil (facts_of f.homes es) in
    record {
      long = omega (arith, homes, long);
      outer = placed.outer;
      end = placed.end;
      turn = subst (λ (fs : List RowEntry). InTurn 0 fs placed.end) (sym facts) placed.turn;
      under = omega (arith, under, above);
      inside = placed.inside;
      counts = counts;
    }

-- ---- words that code names

pub after_counts : (word count : ℕ) → word_after word count ≤ GREATEST_WORD
unfolding word_after counted
after_counts word count = omega arith

after_above : (word count : ℕ) → word ≤ GREATEST_WORD → word ≤ word_after word count
unfolding word_after counted
after_above word count few = omega (arith, few)

-- a word that is named is counted, where so few words are
pub named_word : (words word : ℕ) → words ≤ MAX_DATA_WORDS → counted word + 1 ≤ words → word + 1 ≤ words
unfolding counted
named_word words word few names = omega (arith, few, names)

pub named_after : (words word count : ℕ) → words ≤ MAX_DATA_WORDS → counted (word_after word count) + 1 ≤ words
    → word + count + 1 ≤ words
unfolding word_after counted
named_after words word count few names = omega (arith, few, names)

-- then what is after fewer words is counted too
pub whole_after : (words word count : ℕ) → words ≤ MAX_DATA_WORDS → word + count ≤ words
    → word_after word count ≡ word + count
unfolding word_after counted
whole_after words word count few less = omega (arith, few, less)

-- ---- declarations

-- an array has an element
positive_by : (b : Bool) (v : ℤ) (n : ℕ) → int_le (pos 1) v ≡ b → cond b (Some (unsigned_abs v)) None ≡ Some n → 1 ≤ n
positive_by true (pos k) n up is =
    let same : k ≡ n = cc in
    let low = int_le-true (pos 1) (pos k) up in
    omega (arith, ints, low, same)
positive_by true (negsuc k) n up is = absurd (let low = int_le-true (pos 1) (negsuc k) up in omega (arith, ints, low))
positive_by false v n up is = absurd (cc)

positive : (o : Option ℤ) (n : ℕ) → option_and_then from_one o ≡ Some n → 1 ≤ n
positive None n is = absurd (cc)
positive (Some v) n is = positive_by (int_le (pos 1) v) v n refl is

enough : (type : ValueType) (n : ℕ) → 1 ≤ n → 1 ≤ words_for type n
enough value_type.Int n some = some
enough value_type.Byte n some = omega (arith, some)

module _ (words : ℕ) (few : words ≤ MAX_DATA_WORDS) where
  -- these pieces name words below that one
  abbrev pub Names : List Piece → Type 0
  Names ps = AllByRecursion (NamesBelow words) ps

  -- an array, which has a size or none
  array_placed : (f : Frame) (es : List Entry) (name : List ℕ) (kind : _) (type : ValueType) (o : Option ℕ) (range : _)
      → ((n : ℕ) → o ≡ Some n → 1 ≤ n) → IsPlaced words f es
      → f.top + words_for type (unwrap_or o 0) ≤ words
      → IsPlaced words (with_words (words_for type (unwrap_or o 0)) f) (add name (Array kind type o range) es)
  array_placed f es name kind type None range some placed inside =
      none_placed words f es (Word f.top) name (Array kind type None range)
      (word_after f.top (words_for type 0)) placed refl (after_above f.top (words_for type 0) placed.counts)
      (after_counts f.top (words_for type 0))
  array_placed f es name kind type (Some n) range some placed inside =
      let count = words_for type n in
      let whole = whole_after words f.top count few inside in
      let size = enough type n (some n refl) in
      some_placed words f es (Word f.top) name (Array kind type (Some n) range) (f.top + count)
      (word_after f.top count) placed (omega arith, size, omega arith) (omega (arith, whole)) inside
      (after_counts f.top count)

  variable_placed : (f : Frame) (es outer : List Entry) (name : List ℕ) (type : ValueType) (size : Option Expression)
      → IsPlaced words f es → Names (zero_code size f.top (words_in outer type size))
      → IsPlaced words (with_words (words_in outer type size) f) (add name (variable_meaning outer type size) es)
  variable_placed f es outer name type None placed names =
      let named = named_word words f.top few names.1.0 in
      let whole = whole_after words f.top 1 few named in
      some_placed words f es (Word f.top) name (variable_meaning outer type None) (f.top + 1) (word_after f.top 1) placed
      (omega arith, omega arith, omega arith) (omega (arith, whole)) named (after_counts f.top 1)
  variable_placed f es outer name type (Some e) placed names =
      let count = words_in outer type (Some e) in
      let named = named_after words f.top count few names.1.0 in
      array_placed f es name _ type (size_in outer e) _
      (λ n is. positive (value_as outer _ e) n is) placed (omega (arith, named))

  variables_placed : (names : List (List ℕ)) (f : Frame) (es outer : List Entry) (type : ValueType)
      (size : Option Expression) → IsPlaced words f es
      → Names (zero_names size (words_in outer type size) names f.top)
      → IsPlaced words (with_names (words_in outer type size) names f)
      (add_all names (variable_meaning outer type size) es)
  variables_placed [] f es outer type size placed named = placed
  variables_placed (name ∷ names) f es outer type size placed named =
      let count = words_in outer type size in
      let first = zero_code size f.top count in
      let rest = zero_names size count names (word_after f.top count) in
      variables_placed names (with_words count f) (add name (variable_meaning outer type size) es) outer type size
      (variable_placed f es outer name type size placed (all_first (NamesBelow words) first rest named))
      (all_last (NamesBelow words) first rest named)

  channels_placed : (names : List (List ℕ)) (f : Frame) (es : List Entry) (m : Meaning) (count : ℕ)
      → ((w : ℕ) → facts_at (Word w) m ≡ []) → IsPlaced words f es
      → IsPlaced words (with_names count names f) (add_all names m es)
  channels_placed [] f es m count none placed = placed
  channels_placed (name ∷ names) f es m count none placed =
      channels_placed names (with_words count f) (add name m es) m count none
      (none_placed words f es (Word f.top) name m (word_after f.top count) placed (none f.top)
      (after_above f.top count placed.counts) (after_counts f.top count))

  channel_says_none : (es : List Entry) (type : ValueType) (size : Option Expression) (w : ℕ)
      → facts_at (Word w) (channel_meaning es type size) ≡ []
  channel_says_none es type None w = refl
  channel_says_none es type (Some e) w = refl

  -- what has no place in the frame
  pub elsewhere_placed : (f : Frame) (es : List Entry) (h : Home) (name : List ℕ) (m : Meaning) → IsPlaced words f es
      → facts_at h m ≡ [] → IsPlaced words (with_home h f) (add name m es)
  elsewhere_placed f es h name m placed none =
      none_placed words f es h name m f.top placed none (omega arith) placed.counts

  constant_placed : (f : Frame) (es : List Entry) (name : List ℕ) (m : Meaning) (type : ValueType) (value : Value)
      → IsPlaced words f es → IsPlaced words (with_home (home_for es type value) f) (add name m es)
  constant_placed f es name m type (lines.Scalar e) placed = elsewhere_placed f es Nowhere name m placed refl
  constant_placed f es name m type (lines.Table size items) placed =
      elsewhere_placed f es (home_for es type (lines.Table size items)) name m placed refl
  constant_placed f es name m type (lines.Bytes size bytes) placed =
      elsewhere_placed f es (home_for es type (lines.Bytes size bytes)) name m placed refl

  -- a declaration whose code names such words
  pub declared_placed : (f : Frame) (es : List Entry) (d : Declaration) → IsPlaced words f es
      → Names (declaration_code es d f.top) → IsPlaced words (declared es d f) (add_declaration d es)
  declared_placed f es (Constants c) placed names =
      constant_placed f es c.name (constant_meaning es c.value_type c.value) c.value_type c.value placed
  declared_placed f es (Variables n) placed names =
      variables_placed (as_list n.names) f es es n.value_type n.size placed names
  declared_placed f es (Channels n) placed names =
      channels_placed (as_list n.names) f es (channel_meaning es n.value_type n.size) (channels_in es n.size)
      (channel_says_none es n.value_type n.size) placed

  -- the block of a loop whose two words are named
  pub block_placed : (f : Frame) (es : List Entry) (name : List ℕ) (kind : _) (type : ValueType) (range : _) (head : ℕ)
      → IsPlaced words f es → f.top + 2 ≤ words
      → IsPlaced words (record f { homes = f.homes ++ Block f.top head ∷ []; top = word_after f.top 2 })
      (add name (Scalar kind type range) es)
  block_placed f es name kind type range head placed inside =
      let whole = whole_after words f.top 2 few inside in
      some_placed words f es (Block f.top head) name (Scalar kind type range) (f.top + 2) (word_after f.top 2) placed
      (omega arith, omega arith, omega arith) (omega (arith, whole)) inside (after_counts f.top 2)
