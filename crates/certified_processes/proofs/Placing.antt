-- Places among those that the walk reaches: what is asked of one holds at the next.
use Rattle.std.proofs.Common.{suc}
use Rattle.std.proofs.Common.{◌≡◌, ℕ, ◌≤◌, List, [], ◌∷◌, ◌++◌, length, Option, Some, None, refl, sym}
use Rattle.std.proofs.Common.{ap, subst, ◌∙◌, arith, append_assoc, append-nil}
use Rattle.std.specs.List.{AllByRecursion}
use Rattle.word_arithmetic.specs.Range.{full}
use Rattle.occam_parser.specs.Expressions.{Expression}
use Rattle.occam_parser.specs.Lines as lines
use Rattle.occam_parser.specs.Lines.{Channels, Constants, Declaration, Names, Value, Variables}
use Rattle.occam_parser.specs.declared.tree.ValueType.{ValueType}
use Rattle.occam_parser.specs.OneOrMore.{as_list}
use Rattle.scalar_ranges.specs.Entries as entries
use Rattle.scalar_ranges.specs.Entries.{Channel, Entry, Meaning}
use Rattle.scalar_ranges.specs.MoveLaws.{shape}
use Rattle.scalar_ranges.specs.Narrowing.{with_range}
use Rattle.scalar_ranges.specs.Moves.{Known, begun_with}
use Rattle.program_uses.specs.Declaring.{add, add_all, add_declaration, channel_meaning}
use Rattle.usage_checks.specs.Holding.{DeclarationHolds}
use Rattle.usage_checks.specs.TypedRanges.{AreInTypes}
use Rattle.code_pieces.specs.declared.words.TheConstants.{GREATEST_WORD}
use Rattle.code_pieces.specs.Pieces.{counted, word_after}
use Rattle.code_pieces.proofs.AllOfPieces.{all_first, all_last}
use Rattle.line_pieces.specs.Homes as home
use Rattle.line_pieces.specs.Homes.{Block, Home, Nowhere}
use Rattle.line_pieces.specs.Declarations.{Frame, channels_in, declaration_code, declared, home_for}
use Rattle.line_pieces.specs.Declarations.{with_names, with_words, words_in, zero_code, zero_names}
use Rattle.code_generator.specs.Processes.{Site, at_place, with_declaration}
use Rattle.meant_lines.proofs.Housing.{after_counted, get_last, names_further}
use Rattle.certified_lines.specs.Scopes as scopes
use Rattle.certified_lines.specs.Scopes.{Scene}
use Rattle.certified_scopes.specs.Beside.{AreInTurn, first_word, last_end}
use Rattle.certified_scopes.specs.Settled.{AreOrdered, IsOfIndex, IsSettled}
use Rattle.certified_scopes.proofs.EachName.{each_with}
use Rattle.certified_scopes.proofs.Settled.{declarations_are_settled, moved_scopes_are_settled, turn_before}
use Rattle.meant_processes.specs.Places.{AllFit, FitsIn, IsHoused, IsLinked, IsOwn}
use Rattle.meant_processes.proofs.Placing.{home_behind, sited_alike, sited_behind, sited_more}
use Rattle.certified_processes.specs.Places.{Coded, IsHeadBefore, IsInRoot, bare_scene, scene}
use Rattle.certified_processes.proofs.There.{IsSound, IsThere, free_from}
use Rattle.certified_processes.proofs.Allowed.{allowed}
use Rattle.certified_processes.proofs.Ordered.{declared_ordered, scope_ordered}

-- ---- heads of loops

-- a head
one_further : (label later : ℕ) → label ≤ later → (h : Home) → IsHeadBefore label h → IsHeadBefore later h
one_further label later low (Block word head) less = omega (arith, less, low)
one_further label later low h less = tt

-- heads before a label are before a later one
pub heads_further : (label later : ℕ) → label ≤ later → (hs : List Home) → AllByRecursion (IsHeadBefore label) hs
    → AllByRecursion (IsHeadBefore later) hs
heads_further label later low [] all = tt
heads_further label later low (h ∷ hs) all =
    (one_further label later low h all.0, heads_further label later low hs all.1)

-- and so with a home more
pub heads_more : (label : ℕ) (hs : List Home) (h : Home) → AllByRecursion (IsHeadBefore label) hs → IsHeadBefore label h
    → AllByRecursion (IsHeadBefore label) (hs ++ h ∷ [])
heads_more label [] h all less = (less, tt)
heads_more label (x ∷ hs) h all less = (all.0, heads_more label hs h all.1 less)

-- names have no loop
names_heads : (label count : ℕ) (names : List (List ℕ)) (f : Frame) → AllByRecursion (IsHeadBefore label) f.homes
    → AllByRecursion (IsHeadBefore label) (with_names count names f).homes
names_heads label count [] f all = all
names_heads label count (name ∷ names) f all =
    names_heads label count names (with_words count f) (heads_more label f.homes (home.Word f.top) all tt)

value_head : (label : ℕ) (es : List Entry) (type : ValueType) (value : Value) → IsHeadBefore label
    (home_for es type value)
value_head label es type (lines.Scalar e) = tt
value_head label es type (lines.Table size items) = tt
value_head label es type (lines.Bytes size bs) = tt

-- nor have declarations
declared_heads : (label : ℕ) (es : List Entry) (d : Declaration) (f : Frame)
    → AllByRecursion (IsHeadBefore label) f.homes → AllByRecursion (IsHeadBefore label) (declared es d f).homes
declared_heads label es (Constants c) f all =
    heads_more label f.homes (home_for es c.value_type c.value) all (value_head label es c.value_type c.value)
declared_heads label es (Variables n) f all =
    names_heads label (words_in es n.value_type n.size) (as_list n.names) f all
declared_heads label es (Channels n) f all = names_heads label (channels_in es n.size) (as_list n.names) f all

-- ---- another place with the same frame

-- The same names with other ranges, with a later label.
pub placed_alike : (p : Coded) (s : Site) (k : Known) (label : ℕ) → IsThere p s
    → s.label ≤ label → begun_with k.blocks ≤ length k.entries → IsSound p s k.entries → IsThere p (at_place k label s)
placed_alike p s k label placed further low sound = record {
  sited = sited_alike p.program s k label placed.sited sound.alike low;
  outer = placed.outer;
  heads = heads_further s.label label further s.frame.homes placed.heads;
  free = placed.free;
  end = placed.end;
  room = placed.room;
  under = placed.under;
  inner = moved_scopes_are_settled (bare_scene p) (free_from placed.end s.frame) k.entries s.known.entries sound.alike
      sound.indices sound.typed
      (scope_ordered (scene p s) sound.settled.end k.entries sound.settled.scope) placed.inner;
  settled = sound.settled;
}

-- the ranges of a place are in order
pub placed_ordered : (p : Coded) (s : Site) → IsThere p s → AreOrdered s.known.entries
placed_ordered p s placed = scope_ordered (scene p s) placed.settled.end s.known.entries placed.settled.scope

-- ---- frames

-- a frame with more homes, which come behind those that it had, inside the same others
abbrev pub MoreHomes : Frame → Frame → Type 0
MoreHomes f g = (more : List Home) × (g.homes ≡ f.homes ++ more) × (g.outer ≡ f.outer)

names_more : (count : ℕ) (names : List (List ℕ)) (f : Frame) → MoreHomes f (with_names count names f)
names_more count [] f = ([], sym (append-nil f.homes), refl)
names_more count (name ∷ names) f =
    let rest = names_more count names (with_words count f) in
    (home.Word f.top ∷ rest.0, rest.1 ∙ append_assoc f.homes (home.Word f.top ∷ []) rest.0, rest.2)

-- the frame of a declaration is one
pub declared_more : (es : List Entry) (d : Declaration) (f : Frame) → MoreHomes f (declared es d f)
declared_more es (Constants c) f = (home_for es c.value_type c.value ∷ [], refl, refl)
declared_more es (Variables n) f = names_more (words_in es n.value_type n.size) (as_list n.names) f
declared_more es (Channels n) f = names_more (channels_in es n.size) (as_list n.names) f

-- ---- words that are free

-- those behind names
names_free : (count : ℕ) (names : List (List ℕ)) (f : Frame) → f.top ≤ GREATEST_WORD
    → (with_names count names f).top ≤ GREATEST_WORD
names_free count [] f free = free
names_free count (name ∷ names) f free = names_free count names (with_words count f) (after_counted f.top count)

-- and behind a declaration
declared_free : (es : List Entry) (d : Declaration) (f : Frame) → f.top ≤ GREATEST_WORD
    → (declared es d f).top ≤ GREATEST_WORD
declared_free es (Constants c) f free = free
declared_free es (Variables n) f free = names_free (words_in es n.value_type n.size) (as_list n.names) f free
declared_free es (Channels n) f free = names_free (channels_in es n.size) (as_list n.names) f free

-- ---- channels, of whose words nothing is known

abbrev IsChannel : Meaning → Type 0
IsChannel (Channel type) = Unit {0}
IsChannel (entries.Channels type size) = Unit {0}
IsChannel m = ⊥

-- a declared channel is one
channel_is : (es : List Entry) (type : ValueType) (size : Option Expression) → IsChannel (channel_meaning es type size)
channel_is es type None = tt
channel_is es type (Some e) = tt

-- it has no word of which something is known
channel_turn : (hs : List Home) (w : ℕ) (es : List Entry) (m : Meaning) (end : ℕ) → IsChannel m → AreInTurn hs es end
    → (last_end (Some (home.Word w)) m ≤ end) × AreInTurn hs es (first_word (Some (home.Word w)) m end)
channel_turn hs w es (Channel type) end is turn = (omega arith, turn)
channel_turn hs w es (entries.Channels type size) end is turn = (omega arith, turn)
channel_turn hs w es m end is turn = absurd is

-- wherever it is
channel_housed : (g : Scene) (top w : ℕ) (m : Meaning) → IsChannel m → scopes.IsHoused g top (home.Word w) m
channel_housed g top w (Channel type) is = tt
channel_housed g top w (entries.Channels type size) is = tt
channel_housed g top w m is = absurd is

-- The scope with a channel more is settled, and ends where it did.
channel_settled : (g : Scene) (end count : ℕ) (m : Meaning) → IsChannel m → (name : List ℕ)
    (f : Frame) (es : List Entry)
    → IsSettled g (free_from end f) es → IsSettled g (free_from end (with_words count f)) (add name m es)
channel_settled g end count m is name f es s =
    let e : Entry = record { name = name; meaning = m } in
    let h : Home = home.Word f.top in
    let long = s.long in
    let last = get_last f.homes h (length es) s.long in
    let turn = channel_turn (f.homes ++ h ∷ []) f.top es m s.end is
    (turn_before f.homes (h ∷ []) es s.end (omega (arith, long)) s.turn) in
    record {
      long = home_behind f.homes h ∙ ap suc s.long;
      end = s.end;
      under = s.under;
      scope = record {
        housed = each_with (scopes.IsHousedThere g s.end) f.homes h e es s.long (channel_housed g s.end f.top m is)
            s.scope.housed;
        few = s.scope.few;
      };
      turn = (
        subst (λ (o : Option Home). last_end o m ≤ s.end) (sym last) turn.0,
        subst (λ (o : Option Home). AreInTurn (f.homes ++ h ∷ []) es (first_word o m s.end)) (sym last) turn.1,
      );
      loops = each_with IsOfIndex f.homes h e es s.long tt s.loops;
    }

-- so with several
channels_settled : (g : Scene) (end count : ℕ) (m : Meaning) → IsChannel m → (names : List (List ℕ)) (f : Frame)
    (es : List Entry) → IsSettled g (free_from end f) es
    → IsSettled g (free_from end (with_names count names f)) (add_all names m es)
channels_settled g end count m is [] f es s = s
channels_settled g end count m is (name ∷ names) f es s =
    channels_settled g end count m is names (with_words count f) (add name m es)
    (channel_settled g end count m is name f es s)

module _ (p : Coded) (root : IsInRoot p) where
  word_within : (word : ℕ) → word ≤ p.program.words → AllFit p.program (zero_code None word 1)
      → word_after word 1 ≤ p.program.words
  unfolding counted word_after
  word_within word low fit = let less = fit.1.0 in let few = root.few in omega (arith, few, low, less)

  array_within : (size : Expression) (count word : ℕ) → AllFit p.program (zero_code (Some size) word count)
      → word_after word count ≤ p.program.words
  unfolding counted word_after
  array_within size count word fit = let less = fit.1.0 in omega (arith, less)

  one_within : (size : Option Expression) (es : List Entry) (type : _) (word : ℕ) → word ≤ p.program.words
      → AllFit p.program (zero_code size word (words_in es type size))
      → word_after word (words_in es type size) ≤ p.program.words
  one_within None es type word low fit = word_within word low fit
  one_within (Some size) es type word low fit = array_within size (words_in es type (Some size)) word fit

  names_within : (size : Option Expression) (es : List Entry) (type : _) (names : List (List ℕ)) (f : Frame)
      → f.top ≤ p.program.words → AllFit p.program (zero_names size (words_in es type size) names f.top)
      → (with_names (words_in es type size) names f).top ≤ p.program.words
  names_within size es type [] f low fit = low
  names_within size es type (name ∷ names) f low fit =
      let count = words_in es type size in
      let first = zero_code size f.top count in
      let rest = zero_names size count names (word_after f.top count) in
      names_within size es type names (with_words count f)
      (one_within size es type f.top low (all_first (FitsIn p.program) first rest fit))
      (all_last (FitsIn p.program) first rest fit)

  -- what is set to 0 begins in the frame
  word_inside : (size : Option Expression) (word count : ℕ) → word ≤ GREATEST_WORD
      → AllFit p.program (zero_code size word count) → word ≤ p.program.words
  unfolding counted word_after
  word_inside None word count free fit = let less = fit.1.0 in omega (arith, free, less)
  word_inside (Some size) word count free fit = let less = fit.1.0 in let few = root.few in omega (arith, few, less)

  -- the words of declared variables are in the frame
  pub variables_within : (es : List Entry) (n : Names) (f : Frame) → f.top ≤ GREATEST_WORD
      → AllFit p.program (declaration_code es (Variables n) f.top)
      → (f.top ≤ p.program.words) × ((declared es (Variables n) f).top ≤ p.program.words)
  variables_within es n f free fit =
      let count = words_in es n.value_type n.size in
      let first = zero_code n.size f.top count in
      let rest = zero_names n.size count n.names.others (word_after f.top count) in
      let inside = word_inside n.size f.top count free (all_first (FitsIn p.program) first rest fit) in
      (inside, names_within n.size es n.value_type (as_list n.names) f inside fit)

  -- where the words of names end behind a declaration
  record Ends (s : Site) (d : Declaration) : Type 0 where
    end : ℕ
    room : end ≤ p.program.words
    under : end ≤ (declared s.known.entries d s.frame).top
    inner : IsSettled (bare_scene p) (free_from end (declared s.known.entries d s.frame))
        (add_declaration d s.known.entries)

  -- The words of names end in the frame behind each declaration.
  declared_ends : (s : Site) (d : Declaration) → IsThere p s → DeclarationHolds s.known.entries d
      → AreInTypes (add_declaration d s.known.entries)
      → AllFit p.program (declaration_code s.known.entries d s.frame.top) → Ends s d
  declared_ends s (Constants c) placed right typed fit = record {
    end = placed.end;
    room = placed.room;
    under = placed.under;
    inner = declarations_are_settled (bare_scene p) (free_from placed.end s.frame) s.known.entries
        (Constants c) root.founded
        right typed (declared_ordered (Constants c) s.known.entries (placed_ordered p s placed)) tt placed.inner;
  }
  declared_ends s (Variables n) placed right typed fit = record {
    end = (declared s.known.entries (Variables n) s.frame).top;
    room = (variables_within s.known.entries n s.frame placed.free fit).1;
    under = omega arith;
    inner = declarations_are_settled (bare_scene p) s.frame s.known.entries (Variables n) root.founded right typed
        (declared_ordered (Variables n) s.known.entries (placed_ordered p s placed))
        (allowed p root [] (declaration_code s.known.entries (Variables n) s.frame.top) fit) placed.settled;
  }
  declared_ends s (Channels n) placed right typed fit =
      let es = s.known.entries in
      let further = names_further (channels_in es n.size) (as_list n.names) s.frame placed.free in
      let under = placed.under in
      record {
        end = placed.end;
        room = placed.room;
        under = omega (arith, further, under);
        inner = channels_settled (bare_scene p) placed.end (channels_in es n.size)
            (channel_meaning es n.value_type n.size)
            (channel_is es n.value_type n.size) (as_list n.names) s.frame es placed.inner;
      }

  -- behind a declaration
  pub placed_behind : (s : Site) (d : Declaration) → IsThere p s → DeclarationHolds s.known.entries d
      → AreInTypes (add_declaration d s.known.entries)
      → AllFit p.program (declaration_code s.known.entries d s.frame.top) → IsThere p (with_declaration d s)
  placed_behind s d placed right typed fit =
      let es = s.known.entries in
      let ends = declared_ends s d placed right typed fit in
      record {
        sited = sited_behind p.program s d placed.sited placed.settled.long;
        outer = (declared_more es d s.frame).2 ∙ placed.outer;
        heads = declared_heads s.label es d s.frame placed.heads;
        free = declared_free es d s.frame placed.free;
        end = ends.end;
        room = ends.room;
        under = ends.under;
        inner = ends.inner;
        settled = declarations_are_settled (bare_scene p) s.frame es d root.founded right typed
            (declared_ordered d es (placed_ordered p s placed))
            (allowed p root [] (declaration_code es d s.frame.top) fit) placed.settled;
      }

-- a place with a name more, whose home is this one
pub placed_more : (p : Coded) (s t : Site) (h : Home) (e : Entry) (es : List Entry) → IsThere p s
    → s.label ≤ t.label → IsHeadBefore t.label h → t.frame.homes ≡ s.frame.homes ++ h ∷ [] →
    t.frame.outer ≡ s.frame.outer → t.known.entries ≡ e ∷ es
    → shape es ≡ shape s.known.entries → IsOwn (with_range (λ r. full) e.meaning)
    → IsHoused (Some h) (with_range (λ r. full) e.meaning)
    → IsLinked p.program (length (shape es)) e.name (with_range (λ r. full) e.meaning)
    → begun_with t.known.blocks ≤ length t.known.entries → t.frame.top ≤ GREATEST_WORD
    → (end : ℕ) → end ≤ p.program.words
    → end ≤ t.frame.top → IsSettled (bare_scene p) (free_from end t.frame) t.known.entries
    → IsSettled (bare_scene p) t.frame t.known.entries → IsThere p t
placed_more p s t h e es placed further head homes outer entries same own housed linked low free end room under at_end
    settled =
    record {
      sited = sited_more p.program s t h e es placed.sited placed.settled.long homes entries same own housed linked low;
      outer = outer ∙ placed.outer;
      heads = subst (λ (hs : List Home). AllByRecursion (IsHeadBefore t.label) hs) (sym homes)
          (heads_more t.label s.frame.homes h (heads_further s.label t.label further s.frame.homes placed.heads) head);
      free = free;
      end = end;
      room = room;
      under = under;
      inner = at_end;
      settled = settled;
    }
