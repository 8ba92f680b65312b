-- What a scope knows of words implies rows, name by name, and what a row tells of words is what its scope says.
use Rattle.std.proofs.Common.{◌≡◌, ℕ, zero, suc, ◌+◌, ◌<◌, ◌≤◌, pos, true, List, [], ◌∷◌, ◌++◌, length, Option, Some}
use Rattle.std.proofs.Common.{None, inl, inr, refl, sym, ap, subst, ◌∙◌, arith, append_assoc, append-nil}
use Rattle.std.specs.Prelude.{int_le, slice_get}
use Rattle.std.proofs.lemmas.Bool.{and_from}
use Rattle.std.proofs.lemmas.Int.{ints}
use Rattle.small_laws.proofs.Comparisons.{le-int_le}
use Rattle.word_arithmetic.specs.Range.{Ends, full}
use Rattle.module_format.specs.declared.fact.Fact.TheVariants.{Number}
use Rattle.states.specs.declared.known.Loop.{Loop as CountedLoop}
use Rattle.states.specs.declared.known.WordFact.{WordFact}
use Rattle.states.specs.declared.known.WordFact.TheVariants.{Alone, Index, Count}
use Rattle.states.specs.Below.{implies}
use Rattle.states.specs.State.{Facts, by_itself}
use Rattle.occam_parser.specs.declared.tree.ValueType.{ValueType}
use Rattle.scalar_ranges.specs.declared.scope.ScalarKind.{ScalarKind}
use Rattle.scalar_ranges.specs.declared.scope.ScalarKind.TheVariants as kinds
use Rattle.scalar_ranges.specs.Entries.{Meaning, Scalar, Array, Entry}
use Rattle.program_meaning.specs.RangesWithin.{RangeWithin}
use Rattle.code_pieces.specs.declared.piece.RowEntry.{RowEntry}
use Rattle.code_pieces.specs.declared.piece.WordFact.TheVariants.{Between, Turning}
use Rattle.line_pieces.specs.Homes as home
use Rattle.line_pieces.specs.Homes.{Home, Nowhere, Word, Block, Link, Passed, words_for, count_in, facts_of}
use Rattle.meant_lines.proofs.Housing.{get_last}
use Rattle.certified_lines.specs.Scopes.{Scene, EachNameHas, IsNumber, loop_of, AreKnownThere, HoldsScope}
use Rattle.certified_modules.specs.RowsSay.{facts_said, loop_said, Implies, NoneIsAbout, Enters}
use Rattle.certified_modules.proofs.RowsSay.{rows_tell_their_entries, implying_is_of_entries}
use Rattle.certified_modules.proofs.RowsSay.{loops_are_entered_among_others}
use Rattle.certified_scopes.specs.Beside.{first_word, last_end, AreInTurn}
use Rattle.certified_scopes.specs.Settled.{IsOfIndex}
use Rattle.certified_scopes.specs.Within.{TellsMore, LieWithin}
use Rattle.certified_scopes.proofs.EachName.{each_before}
use Rattle.certified_scopes.proofs.NamedFacts.{facts_there, facts_cons}
use Rattle.certified_scopes.proofs.Within.{lies_long}
use Rattle.certified_processes.specs.Rows.{ScopesImplyRows, ScopesEnterLoops, RowsTellScopes}

-- ---- one word

-- a number in a range is one in a range around it
number_implies : (f : Facts) (k : ℕ) (r s : Ends) → IsNumber f k r → RangeWithin r s
    → implies (by_itself (f (pos k))) (Number s.lo s.hi) ≡ true
number_implies f k r s is within =
    ap (λ (x : WordFact). implies (by_itself x) (Number s.lo s.hi)) is
    ∙ and_from (int_le s.lo r.lo) (int_le r.hi s.hi) (le-int_le s.lo r.lo within.0) (le-int_le r.hi s.hi within.1)

within_itself : (r : Ends) → RangeWithin r r
within_itself r = (omega (arith, ints), omega (arith, ints))

-- ---- names

module _ (g : Scene) (f : Facts) where
  -- what a row says of a name is implied
  abbrev IsImplied : Option Home → Meaning → Type 0
  IsImplied o m = Implies g.weights f (facts_there o m)

  scalar_implied : (o : Option Home) (kind k : ScalarKind) (type t : ValueType) (r s : Ends)
      → AreKnownThere g f o (Scalar kind type r) → RangeWithin r s → ((w head : ℕ) → o ≡ Some (Block w head) → r ≡ s)
      → IsImplied o (Scalar k t s)
  scalar_implied None kind k type t r s known within same = tt
  scalar_implied (Some (Word w)) kind k type t r s known within same = (
    λ n less. number_implies f (w + n) r s (subst (λ (i : ℕ). IsNumber f i r) (omega (arith, less)) known) within,
    tt,
  )
  scalar_implied (Some (Block w head)) kind k type t r s known within same =
      let loops : loop_of g head r ≡ loop_said g.weights head s.lo (count_in s) =
      ap (λ (x : Ends). loop_of g head x) (same w head refl) in (
        (
          refl,
          known.0 ∙ ap (λ (l : CountedLoop). Index l) loops,
          known.1 ∙ ap (λ (l : CountedLoop). Count l) loops,
        ),
        tt,
      )
  scalar_implied (Some Nowhere) kind k type t r s known within same = tt
  scalar_implied (Some (Link number)) kind k type t r s known within same = tt
  scalar_implied (Some (home.Table values)) kind k type t r s known within same = tt
  scalar_implied (Some (Passed w)) kind k type t r s known within same = tt

  -- what is known of a name is implied
  same_implied : (o : Option Home) (m : Meaning) → AreKnownThere g f o m → IsImplied o m
  same_implied None m known = tt
  same_implied o (Scalar kind type r) known =
      scalar_implied o kind kind type type r r known (within_itself r) (λ w head is. refl)
  same_implied (Some (Word w)) (Array kind type (Some size) r) known =
      (λ n less. number_implies f (w + n) full full (known n less) (within_itself full), tt)
  same_implied (Some (Word w)) (Array kind type None r) known = tt
  same_implied (Some (Word w)) m known = tt
  same_implied (Some (Block w head)) m known = tt
  same_implied (Some h) m known = tt

  -- the block of what is no index is none
  no_block : (o : Option Home) (k : ScalarKind) (t : ValueType) (s : Ends) (w head : ℕ) → IsOfIndex o (Scalar k t s)
      → (k ≡ kinds.Index → ⊥) → o ≡ Some (Block w head) → ⊥
  no_block o kinds.Index t s w head index other is = other refl
  no_block o kinds.Variable t s w head index other is =
      subst (λ (x : Option Home). IsOfIndex x (Scalar kinds.Variable t s)) is index
  no_block o kinds.Value t s w head index other is =
      subst (λ (x : Option Home). IsOfIndex x (Scalar kinds.Value t s)) is index
  no_block o kinds.Reference t s w head index other is =
      subst (λ (x : Option Home). IsOfIndex x (Scalar kinds.Reference t s)) is index

  name_implied : (o : Option Home) (m n : Meaning) → AreKnownThere g f o m → TellsMore m n → IsOfIndex o n
      → IsImplied o n
  name_implied o m n known (inl same) index = same_implied o n
      (subst (λ (x : Meaning). AreKnownThere g f o x) same known)
  name_implied o (Scalar kind type r) (Scalar k t s) known (inr h) index =
      scalar_implied o kind k type t r s known h.3
      (λ w head is. absurd (no_block o k t s w head index h.2 is))
  name_implied o (Scalar kind type r) n known (inr h) index = absurd h
  name_implied o m n known (inr h) index = absurd h

  names_implied : (hs : List Home) (ds es : List Entry) → LieWithin ds es → EachNameHas (AreKnownThere g f) hs ds
      → EachNameHas IsOfIndex hs es → Implies g.weights f (facts_of hs es)
  names_implied [] ds [] lies known index = tt
  names_implied (h ∷ hs) ds [] lies known index = tt
  names_implied hs [] (e ∷ es) lies known index = absurd lies
  names_implied hs (d ∷ ds) (e ∷ es) lies known index =
      let o : Option Home = slice_get hs (length es) in
      subst (Implies g.weights f) (sym (facts_cons hs e es))
      (implying_is_of_entries.both g.weights f (facts_of hs es) (facts_there o e.meaning)
      (names_implied hs ds es lies.1 known.1 index.1)
      (name_implied o d.meaning e.meaning
      (subst (λ (n : ℕ). AreKnownThere g f (slice_get hs n) d.meaning) (lies_long ds es lies.1) known.0) lies.0
      index.0))

-- A scope implies the row of one around it.
pub scopes_imply_rows : ScopesImplyRows
scopes_imply_rows g ds es f index lies known = names_implied g f g.homes ds es lies known index

-- It enters a loop.
pub scopes_enter_loops : ScopesEnterLoops
scopes_enter_loops g ds es name type range w head f long index lies known constants =
    let e : Entry = record { name = name; meaning = Scalar kinds.Index type range } in
    let hs : List Home = g.homes ++ Block w head ∷ [] in
    let front = names_implied g f hs ds es lies
    (each_before (AreKnownThere g f) g.homes (Block w head ∷ []) ds
    (let same = lies_long ds es lies in omega (arith, same, long)) known)
    (each_before IsOfIndex g.homes (Block w head ∷ []) es (omega (arith, long)) index) in
    subst (λ (fs : List RowEntry). Enters g.weights f head (count_in range) fs)
    (sym (facts_cons hs e es
    ∙ ap (λ (o : Option Home). facts_of hs es ++ facts_there o e.meaning)
    (get_last g.homes (Block w head) (length es) long)))
    (loops_are_entered_among_others g.weights f head (count_in range) (facts_of hs es) []
    (record { word = w; span = 2; fact = Turning head range.lo (count_in range) }) front (record {
      base = range.lo;
      turns = refl;
      span = refl;
      constants = constants;
    }) tt)

-- ---- what a row tells

-- the words of entries end before this one
none_there : (o : Option Home) (m : Meaning) (k : ℕ) → last_end o m ≤ k → NoneIsAbout k (facts_there o m)
none_there None m k ends = tt
none_there (Some (Word w)) (Scalar kind type range) k ends = (inr ends, tt)
none_there (Some (Word w)) (Array kind type (Some size) range) k ends = (inr ends, tt)
none_there (Some (Word w)) (Array kind type None range) k ends = tt
none_there (Some (Word w)) m k ends = tt
none_there (Some (Block w head)) (Scalar kind type range) k ends = (inr ends, tt)
none_there (Some (Block w head)) m k ends = tt
none_there (Some h) m k ends = tt

-- what begins before words that end is before their end
first_before : (o : Option Home) (m : Meaning) (top k : ℕ) → last_end o m ≤ k → top ≤ k → first_word o m top ≤ k
first_before None m top k ends low = low
first_before (Some (Word w)) (Scalar kind type range) top k ends low = omega (arith, ends)
first_before (Some (Word w)) (Array kind type (Some size) range) top k ends low = omega (arith, ends)
first_before (Some (Word w)) (Array kind type None range) top k ends low = low
first_before (Some (Word w)) m top k ends low = low
first_before (Some (Block w head)) (Scalar kind type range) top k ends low = omega (arith, ends)
first_before (Some (Block w head)) m top k ends low = low
first_before (Some h) m top k ends low = low

none_both : (k : ℕ) (es ds : List RowEntry) → NoneIsAbout k es → NoneIsAbout k ds → NoneIsAbout k (es ++ ds)
none_both k [] ds first second = second
none_both k (e ∷ es) ds first second = (first.0, none_both k es ds first.1 second)

none_before : (hs : List Home) (es : List Entry) (top k : ℕ) → AreInTurn hs es top → top ≤ k
    → NoneIsAbout k (facts_of hs es)
none_before [] [] top k turn low = tt
none_before (h ∷ hs) [] top k turn low = tt
none_before hs (e ∷ es) top k turn low =
    let o : Option Home = slice_get hs (length es) in
    let ends = turn.0 in
    subst (NoneIsAbout k) (sym (facts_cons hs e es))
    (none_both k (facts_of hs es) (facts_there o e.meaning)
    (none_before hs es (first_word o e.meaning top) k turn.1
    (first_before o e.meaning top k (omega (arith, ends, low)) low))
    (none_there o e.meaning k (omega (arith, ends, low))))

some_home : (hs : List Home) (i : ℕ) → i < length hs → (h : Home) × (slice_get hs i ≡ Some h)
some_home [] i less = absurd (omega (arith, less))
some_home (h ∷ hs) zero less = (h, refl)
some_home (h ∷ hs) (suc i) less = some_home hs i (omega (arith, less))

module _ (g : Scene) (hs : List Home) (es : List Entry) (top : ℕ) (rest : List RowEntry) where
  -- a row that goes on with what it says of a name tells of the words of that name
  tells_name : (h : Home) (m : Meaning) → AreInTurn hs es (first_word (Some h) m top)
      → AreKnownThere g (facts_said g.weights (facts_of hs es ++ (facts_there (Some h) m ++ rest))) (Some h) m
  tells_name (Word w) (Scalar kind type range) turn =
      let e : RowEntry = record { word = w; span = 1; fact = Between range.lo range.hi } in
      let at : w + 0 ≡ w = omega arith in
      subst (λ (i : ℕ). facts_said g.weights (facts_of hs es ++ e ∷ rest) (pos i) ≡ Alone (Number range.lo range.hi)) at
      (rows_tell_their_entries g.weights (facts_of hs es) rest e 0 (omega arith)
      (none_before hs es w (w + 0) turn (omega arith)))
  tells_name (Word w) (Array kind type (Some size) range) turn = λ n less.
      rows_tell_their_entries g.weights (facts_of hs es) rest
      (record { word = w; span = words_for type size; fact = Between full.lo full.hi }) n less
      (none_before hs es w (w + n) turn (omega arith))
  tells_name (Word w) (Array kind type None range) turn = tt
  tells_name (Word w) m turn = tt
  tells_name (Block w head) (Scalar kind type range) turn =
      let e : RowEntry = record { word = w; span = 2; fact = Turning head range.lo (count_in range) } in
      let at : w + 0 ≡ w = omega arith in (
        subst (λ (i : ℕ). facts_said g.weights (facts_of hs es ++ e ∷ rest) (pos i)
            ≡ Index (loop_said g.weights head range.lo (count_in range))) at
            (rows_tell_their_entries g.weights (facts_of hs es) rest e 0 (omega arith)
            (none_before hs es w (w + 0) turn (omega arith))),
        rows_tell_their_entries g.weights (facts_of hs es) rest e 1 (omega arith)
            (none_before hs es w (w + 1) turn (omega arith)),
      )
  tells_name (Block w head) m turn = tt
  tells_name Nowhere (Scalar kind type range) turn = tt
  tells_name Nowhere (Array kind type size range) turn = tt
  tells_name Nowhere m turn = tt
  tells_name (Link number) (Scalar kind type range) turn = tt
  tells_name (Link number) (Array kind type size range) turn = tt
  tells_name (Link number) m turn = tt
  tells_name (home.Table values) (Scalar kind type range) turn = tt
  tells_name (home.Table values) (Array kind type size range) turn = tt
  tells_name (home.Table values) m turn = tt
  tells_name (Passed w) (Scalar kind type range) turn = tt
  tells_name (Passed w) (Array kind type size range) turn = tt
  tells_name (Passed w) m turn = tt

-- a row that goes on tells of all names whose entries are at its front
tells_names : (g : Scene) (hs : List Home) (es : List Entry) (top : ℕ) (rest : List RowEntry) → length es ≤ length hs
    → AreInTurn hs es top → EachNameHas (AreKnownThere g (facts_said g.weights (facts_of hs es ++ rest))) hs es
tells_names g hs [] top rest few turn = tt
tells_names g hs (e ∷ es) top rest few turn =
    let o : Option Home = slice_get hs (length es) in
    let h = some_home hs (length es) (omega (arith, few)) in
    let there = facts_there o e.meaning in
    let whole : facts_of hs es ++ (there ++ rest) ≡ facts_of hs (e ∷ es) ++ rest =
    sym (append_assoc (facts_of hs es) there rest)
    ∙ ap (λ (fs : List RowEntry). fs ++ rest) (sym (facts_cons hs e es)) in
    subst (λ (fs : List RowEntry). EachNameHas (AreKnownThere g (facts_said g.weights fs)) hs (e ∷ es)) whole (
      subst (λ (x : Option Home).
          AreKnownThere g (facts_said g.weights (facts_of hs es ++ (facts_there x e.meaning ++ rest))) x e.meaning)
          (sym h.1)
          (tells_name g hs es top rest h.0 e.meaning
          (subst (λ (x : Option Home). AreInTurn hs es (first_word x e.meaning top)) h.1 turn.1)),
      tells_names g hs es (first_word o e.meaning top) (there ++ rest) (omega (arith, few)) turn.1,
    )

-- A row tells its scope.
pub rows_tell_scopes : RowsTellScopes
rows_tell_scopes g es top few turn =
    subst (λ (fs : List RowEntry). HoldsScope g es (facts_said g.weights fs)) (append-nil (facts_of g.homes es))
    (tells_names g g.homes es top [] few turn)
