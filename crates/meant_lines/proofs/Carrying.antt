-- What names hold is found in their homes, stays where other words change, and is there after a store.
use Rattle.std.proofs.Common.{◌≡◌, ℕ, zero, suc, ◌+◌, ◌/◌, ◌<◌, ◌≤◌, ◌⊎◌, inl, inr, ℤ, Bool, true, false}
use Rattle.std.proofs.Common.{cond, List, [], ◌∷◌, length, Option, Some, None, refl, sym, subst, ◌∙◌, arith, nat_eq}
use Rattle.std.proofs.Common.{bytes_eq}
use Rattle.std.specs.Prelude.{slice_get, option_and_then}
use Rattle.std.proofs.lemmas.Bool.{cases_lt, eqb-true}
use Rattle.machine_state.specs.Memory.{Memory, byte_at}
use Rattle.occam_parser.specs.declared.tree.ValueType.{ValueType}
use Rattle.occam_parser.specs.declared.tree.ValueType.TheVariants as value_type
use Rattle.scalar_ranges.specs.Entries.{Meaning, Constant, Scalar, Array, Channel, Channels, Procedure, Entry}
use Rattle.scalar_ranges.specs.Entries.{meaning_in, number_in}
use Rattle.scalar_ranges.specs.declared.scope.ScalarKind.{ScalarKind}
use Rattle.scalar_ranges.specs.declared.scope.ArrayKind.{ArrayKind}
use Rattle.word_arithmetic.specs.Range.{Ends}
use Rattle.scalar_ranges.specs.Environments.{Held, Nothing, One, Many, Binding, Environment, held_in, item_at, IsHeld}
use Rattle.scalar_ranges.specs.Environments.{Meets}
use Rattle.scalar_ranges.specs.MoveLaws.{put, meaning_at}
use Rattle.scalar_ranges.proofs.MoveLaws.{as_long}
use Rattle.scalar_ranges.proofs.Named.{meaning_found}
use Rattle.line_pieces.specs.Homes as home
use Rattle.line_pieces.specs.Homes.{Home, Nowhere, Word, Block, Link, Passed, home_of, words_for}
use Rattle.placed_code.specs.StraightPieces.{word_place}
use Rattle.placed_code.proofs.TablesInMemory.{tables_stay}
use Rattle.meant_lines.specs.Words.{Holds, ChangesWithin}
use Rattle.meant_lines.specs.Carrying.{Ground, HoldsByte, HoldsWord, HoldsArray, HoldsTable}
use Rattle.meant_lines.specs.Carrying.{IsScalarKept, IsArrayKept, IsKeptThere, AreKept, words_held, start_of}
use Rattle.meant_lines.specs.Carrying.{end_of, Rise, IsInside, AreInside, HasFrame, Carries}
use Rattle.meant_lines.specs.CarryingLaws.{NamesAreKept, HomesEndBefore, HomesAreInside, OuterWordsStay, IsPartOf}
use Rattle.meant_lines.specs.CarryingLaws.{OneNameChanges}
use Rattle.meant_lines.proofs.Words.{other_word}

-- ---- lookups

kept_by : (t : Bool) (g : Ground) (m : Memory) (name : List ℕ) (e k : Meaning) (held : Held) (es : List Entry)
    (bs : Environment) → cond t (Some e) (meaning_in name es) ≡ Some k
    → IsKeptThere g m (slice_get g.homes (length es)) e held
    → (meaning_in name es ≡ Some k → IsKeptThere g m (home_of g.homes es name) k (held_in name bs))
    → IsKeptThere g m (option_and_then (slice_get g.homes) (cond t (Some (length es)) (number_in name es))) k
    (cond t held (held_in name bs))
kept_by true g m name e k held es bs is here further =
    let same : e ≡ k = cc in
    subst (λ (x : Meaning). IsKeptThere g m (slice_get g.homes (length es)) x held) same here
kept_by false g m name e k held es bs is here further = further is

pub names_are_kept : NamesAreKept
names_are_kept g m [] env name k meets kept is = absurd (cc)
names_are_kept g m (e ∷ es) [] name k meets kept is = absurd meets
names_are_kept g m (e ∷ es) (b ∷ bs) name k meets kept is =
    subst (λ (n : List ℕ). IsKeptThere g m (home_of g.homes (e ∷ es) name) k
    (cond (bytes_eq n name) b.held (held_in name bs))) (sym meets.0)
    (kept_by (bytes_eq e.name name) g m name e.meaning k b.held es bs is kept.0
    (names_are_kept g m es bs name k meets.2 kept.1))

-- ---- where homes end

pub starts_before : (h : Option Home) (k : Meaning) (top first : ℕ) → end_of h k ≤ top → top ≤ first
    → start_of h top ≤ first
starts_before None k top first ends low = low
starts_before (Some Nowhere) k top first ends low = low
starts_before (Some (Word w)) k top first ends low = omega (arith, ends, low)
starts_before (Some (Block w head)) k top first ends low = omega (arith, ends, low)
starts_before (Some (Link number)) k top first ends low = low
starts_before (Some (home.Table values)) k top first ends low = low
starts_before (Some (Passed w)) k top first ends low = low

ends_by : (t : Bool) (hs : List Home) (e : Entry) (es : List Entry) (top n : ℕ) (k : Meaning)
    → nat_eq (length es) n ≡ t → cond t (Some e.meaning) (meaning_at n es) ≡ Some k
    → end_of (slice_get hs (length es)) e.meaning ≤ top
    → (meaning_at n es ≡ Some k → end_of (slice_get hs n) k ≤ start_of (slice_get hs (length es)) top)
    → end_of (slice_get hs n) k ≤ top
ends_by true hs e es top n k test is here further =
    let same : e.meaning ≡ k = cc in
    let at : length es ≡ n = eqb-true (length es) n test in
    subst (λ (x : Meaning). end_of (slice_get hs n) x ≤ top) same
    (subst (λ (i : ℕ). end_of (slice_get hs i) e.meaning ≤ top) at here)
ends_by false hs e es top n k test is here further =
    let before : start_of (slice_get hs (length es)) top ≤ top =
    starts_before (slice_get hs (length es)) e.meaning top top here (omega arith) in
    omega (arith, further is, before)

pub ends_before : (hs : List Home) (es : List Entry) (top n : ℕ) (k : Meaning) → Rise hs es top
    → meaning_at n es ≡ Some k → end_of (slice_get hs n) k ≤ top
ends_before hs [] top n k rise is = absurd (cc)
ends_before hs (e ∷ es) top n k rise is =
    ends_by (nat_eq (length es) n) hs e es top n k refl is rise.0
    (ends_before hs es (start_of (slice_get hs (length es)) top) n k rise.1)

home_by : (o : Option ℕ) (hs : List Home) (es : List Entry) (top : ℕ) (name : List ℕ) (k : Meaning)
    → number_in name es ≡ o → Rise hs es top → meaning_in name es ≡ Some k
    → end_of (option_and_then (slice_get hs) o) k ≤ top
home_by None hs es top name k number rise is = omega arith
home_by (Some n) hs es top name k number rise is =
    ends_before hs es top n k rise (sym (meaning_found name n es number) ∙ is)

pub homes_end_before : HomesEndBefore
homes_end_before hs es top name k rise is = home_by (number_in name es) hs es top name k refl rise is

-- ---- homes in the frame

-- a home that ends in the frame is in it
pub ends_inside : (words : ℕ) (h : Option Home) (k : Meaning) → end_of h k ≤ words → IsInside words h k
ends_inside words (Some (Word w)) (Channel type) ends = tt
ends_inside words (Some (Word w)) (Channels type size) ends = tt
ends_inside words h k ends = ends

inside_by : (t : Bool) (words : ℕ) (hs : List Home) (e : Entry) (es : List Entry) (n : ℕ) (k : Meaning)
    → nat_eq (length es) n ≡ t → cond t (Some e.meaning) (meaning_at n es) ≡ Some k
    → IsInside words (slice_get hs (length es)) e.meaning
    → (meaning_at n es ≡ Some k → IsInside words (slice_get hs n) k) → IsInside words (slice_get hs n) k
inside_by true words hs e es n k test is here further =
    let same : e.meaning ≡ k = cc in
    let at : length es ≡ n = eqb-true (length es) n test in
    subst (IsInside words (slice_get hs n)) same
    (subst (λ (i : ℕ). IsInside words (slice_get hs i) e.meaning) at here)
inside_by false words hs e es n k test is here further = further is

inside_at : (words : ℕ) (hs : List Home) (es : List Entry) (n : ℕ) (k : Meaning) → AreInside words hs es
    → meaning_at n es ≡ Some k → IsInside words (slice_get hs n) k
inside_at words hs [] n k inside is = absurd (cc)
inside_at words hs (e ∷ es) n k inside is =
    inside_by (nat_eq (length es) n) words hs e es n k refl is inside.0 (inside_at words hs es n k inside.1)

named_inside : (o : Option ℕ) (words : ℕ) (hs : List Home) (es : List Entry) (name : List ℕ) (k : Meaning)
    → number_in name es ≡ o → AreInside words hs es → meaning_in name es ≡ Some k
    → IsInside words (option_and_then (slice_get hs) o) k
named_inside None words hs es name k number inside is = omega arith
named_inside (Some n) words hs es name k number inside is =
    inside_at words hs es n k inside (sym (meaning_found name n es number) ∙ is)

pub homes_are_inside : HomesAreInside
homes_are_inside words hs es name k inside is = named_inside (number_in name es) words hs es name k refl inside is

-- ---- what stays

-- none of these words is one of the home
abbrev IsApart : Option Home → Meaning → ℕ → ℕ → Type 0
IsApart (Some (Word w)) k first end = (w + words_held k ≤ first) ⊎ (end ≤ w)
IsApart (Some (Block w head)) k first end = (w + 2 ≤ first) ⊎ (end ≤ w)
IsApart h k first end = Unit {0}

ends_apart : (h : Option Home) (k : Meaning) (first end : ℕ) → end_of h k ≤ first → IsApart h k first end
ends_apart None k first end ends = tt
ends_apart (Some Nowhere) k first end ends = tt
ends_apart (Some (Word w)) k first end ends = inl ends
ends_apart (Some (Block w head)) k first end ends = inl ends
ends_apart (Some (Link number)) k first end ends = tt
ends_apart (Some (home.Table values)) k first end ends = tt
ends_apart (Some (Passed w)) k first end ends = tt

starts_apart : (h : Option Home) (k : Meaning) (first end top : ℕ) → end ≤ start_of h top → IsApart h k first end
starts_apart None k first end top above = tt
starts_apart (Some Nowhere) k first end top above = tt
starts_apart (Some (Word w)) k first end top above = inr above
starts_apart (Some (Block w head)) k first end top above = inr above
starts_apart (Some (Link number)) k first end top above = tt
starts_apart (Some (home.Table values)) k first end top above = tt
starts_apart (Some (Passed w)) k first end top above = tt

part_starts : (h : Option Home) (k : Meaning) (first end top : ℕ) → IsPartOf h k first end → start_of h top ≤ first
part_starts None k first end top part = absurd part
part_starts (Some Nowhere) k first end top part = absurd part
part_starts (Some (Word w)) k first end top part = part.0
part_starts (Some (Block w head)) k first end top part = part.0
part_starts (Some (Link number)) k first end top part = absurd part
part_starts (Some (home.Table values)) k first end top part = absurd part
part_starts (Some (Passed w)) k first end top part = absurd part

part_ends : (h : Option Home) (k : Meaning) (first end : ℕ) → IsPartOf h k first end → end ≤ end_of h k
part_ends None k first end part = absurd part
part_ends (Some Nowhere) k first end part = absurd part
part_ends (Some (Word w)) k first end part = part.1
part_ends (Some (Block w head)) k first end part = part.1
part_ends (Some (Link number)) k first end part = absurd part
part_ends (Some (home.Table values)) k first end part = absurd part
part_ends (Some (Passed w)) k first end part = absurd part

-- a part that has a word is in the frame
word_inside : (words w : ℕ) (k : Meaning) → IsInside words (Some (Word w)) k
    → (words_held k ≡ 0) ⊎ (w + words_held k ≤ words)
word_inside words w (Constant type value) inside = inr inside
word_inside words w (Scalar kind type range) inside = inr inside
word_inside words w (Array kind type size range) inside = inr inside
word_inside words w (Channel type) inside = inl refl
word_inside words w (Channels type size) inside = inl refl
word_inside words w (Procedure number) inside = inr inside

part_inside : (words : ℕ) (h : Option Home) (k : Meaning) (first end : ℕ) → IsInside words h k → first < end
    → IsPartOf h k first end → end ≤ words
part_inside words None k first end inside some part = absurd part
part_inside words (Some Nowhere) k first end inside some part = absurd part
part_inside words (Some (Word w)) k first end inside some part = by (word_inside words w k inside)
  where
    by : (words_held k ≡ 0) ⊎ (w + words_held k ≤ words) → end ≤ words
    by (inl none) = absurd (omega (arith, none, some, part.0, part.1))
    by (inr ends) = omega (arith, ends, part.1)
part_inside words (Some (Block w head)) k first end inside some part = omega (arith, inside, part.1)
part_inside words (Some (Link number)) k first end inside some part = absurd part
part_inside words (Some (home.Table values)) k first end inside some part = absurd part
part_inside words (Some (Passed w)) k first end inside some part = absurd part

no_part : (h : Option Home) (k : Meaning) (first end : ℕ) → IsPartOf h k first end → IsPartOf h k first 0
no_part None k first end part = absurd part
no_part (Some Nowhere) k first end part = absurd part
no_part (Some (Word w)) k first end part = (part.0, omega arith)
no_part (Some (Block w head)) k first end part = (part.0, omega arith)
no_part (Some (Link number)) k first end part = absurd part
no_part (Some (home.Table values)) k first end part = absurd part
no_part (Some (Passed w)) k first end part = absurd part

pub item_below : {A : Type 0} (i : ℕ) (vs : List A) (v : A) → item_at i vs ≡ Some v → i < length vs
item_below i [] v is = absurd (cc)
item_below zero (w ∷ vs) v is = omega arith
item_below (suc i) (w ∷ vs) v is = let less = item_below i vs v is in omega (arith, less)

module _ {first end : ℕ} {old new : Memory} (changes : ChangesWithin first end old new) where
  word_stays : (w : ℕ) (v : ℤ) → (w < first) ⊎ (end ≤ w) → Holds old w v → Holds new w v
  word_stays w v apart is = other_word w apart changes ∙ is

  byte_stays : (place : ℕ) (v : ℤ) → (place < word_place first) ⊎ (word_place end ≤ place) → HoldsByte old place v
      → HoldsByte new place v
  byte_stays place v apart is = (is.0, is.1, changes.bytes place apart ∙ is.2, is.3)

  in_word : (w i : ℕ) → i < 4 → (w < first) ⊎ (end ≤ w)
      → (word_place w + i < word_place first) ⊎ (word_place end ≤ word_place w + i)
  in_word w i less (inl below) = inl (omega (arith, less, below))
  in_word w i less (inr above) = inr (omega (arith, above))

  -- a word and its bytes
  pub number_stays : (w : ℕ) (v : ℤ) → (w < first) ⊎ (end ≤ w) → HoldsWord old w v → HoldsWord new w v
  number_stays w v apart is = record {
    is = word_stays w v apart is.is;
    bytes = λ i byte less there.
        is.bytes i byte less (sym (changes.bytes (word_place w + i) (in_word w i less apart)) ∙ there);
  }

  word_within : (w size i : ℕ) → i < size → (w + size ≤ first) ⊎ (end ≤ w) → (w + i < first) ⊎ (end ≤ w + i)
  word_within w size i less (inl below) = inl (omega (arith, less, below))
  word_within w size i less (inr above) = inr (omega (arith, above))

  byte_within : (w size i : ℕ) → i < size → (w + (size + 3) / 4 ≤ first) ⊎ (end ≤ w)
      → (word_place w + i < word_place first) ⊎ (word_place end ≤ word_place w + i)
  byte_within w size i less (inl below) = inl (omega (arith, less, below))
  byte_within w size i less (inr above) = inr (omega (arith, above))

  array_stays : (type : ValueType) (w size : ℕ) (vs : List ℤ) → length vs ≡ size
      → (w + words_for type size ≤ first) ⊎ (end ≤ w) → HoldsArray type old w vs → HoldsArray type new w vs
  array_stays value_type.Int w size vs long apart holds =
      λ i v is. number_stays (w + i) v
      (word_within w size i (let less = item_below i vs v is in omega (arith, less, long)) apart) (holds i v is)
  array_stays value_type.Byte w size vs long apart holds =
      λ i v is. byte_stays (word_place w + i) v
      (byte_within w size i (let less = item_below i vs v is in omega (arith, less, long)) apart) (holds i v is)

  module _ (g : Ground) (within : end ≤ g.words) where
    table_stays : (values : List ℤ) → HoldsTable g old values → HoldsTable g new values
    table_stays values table =
        tables_stay g.footing g.words old new values
        (λ place behind. changes.bytes place (inr (omega (arith, behind, within)))) table

    scalar_stays : (h : Home) (kind : ScalarKind) (type : ValueType) (range : Ends) (held : Held)
        → IsApart (Some h) (Scalar kind type range) first end → IsScalarKept g old h held → IsScalarKept g new h held
    scalar_stays Nowhere kind type range held apart is = absurd is
    scalar_stays (Word w) kind type range (One v) apart is =
        number_stays w v (one_word w apart) is
      where
        one_word : (w : ℕ) → (w + 1 ≤ first) ⊎ (end ≤ w) → (w < first) ⊎ (end ≤ w)
        one_word w (inl below) = inl (omega (arith, below))
        one_word w (inr above) = inr above
    scalar_stays (Word w) kind type range Nothing apart is = absurd is
    scalar_stays (Word w) kind type range (Many vs) apart is = absurd is
    scalar_stays (Block w head) kind type range (One v) apart is = (
      word_stays w v (first_word w apart) is.0,
      word_stays (w + 1) (g.turns w) (word_within w 2 1 (omega arith) apart) is.1,
    )
      where
        first_word : (w : ℕ) → (w + 2 ≤ first) ⊎ (end ≤ w) → (w < first) ⊎ (end ≤ w)
        first_word w (inl below) = inl (omega (arith, below))
        first_word w (inr above) = inr above
    scalar_stays (Block w head) kind type range Nothing apart is = absurd is
    scalar_stays (Block w head) kind type range (Many vs) apart is = absurd is
    scalar_stays (Link number) kind type range held apart is = absurd is
    scalar_stays (home.Table values) kind type range held apart is = absurd is
    scalar_stays (Passed w) kind type range held apart is = absurd is

    elements_stay : (h : Home) (kind : ArrayKind) (type : ValueType) (size : Option ℕ) (range : Ends) (held : Held)
        → IsHeld (Array kind type size range) held → IsApart (Some h) (Array kind type size range) first end
        → IsArrayKept g old h type held → IsArrayKept g new h type held
    elements_stay h kind type None range held meets apart is = absurd meets
    elements_stay Nowhere kind type (Some size) range held meets apart is = absurd is
    elements_stay (Word w) kind type (Some size) range (Many vs) meets apart is =
        array_stays type w size vs meets.0 apart is
    elements_stay (Word w) kind type (Some size) range Nothing meets apart is = absurd is
    elements_stay (Word w) kind type (Some size) range (One v) meets apart is = absurd is
    elements_stay (home.Table values) kind type (Some size) range (Many vs) meets apart is =
        (is.0, λ reads. table_stays values (is.1 reads))
    elements_stay (home.Table values) kind type (Some size) range Nothing meets apart is = absurd is
    elements_stay (home.Table values) kind type (Some size) range (One v) meets apart is = absurd is
    elements_stay (Block w head) kind type (Some size) range held meets apart is = absurd is
    elements_stay (Link number) kind type (Some size) range held meets apart is = absurd is
    elements_stay (Passed w) kind type (Some size) range held meets apart is = absurd is

    kept_stays : (h : Option Home) (k : Meaning) (held : Held) → IsHeld k held → IsApart h k first end
        → IsKeptThere g old h k held → IsKeptThere g new h k held
    kept_stays None k held meets apart is = absurd is
    kept_stays (Some h) (Scalar kind type range) held meets apart is = scalar_stays h kind type range held apart is
    kept_stays (Some h) (Array kind type size range) held meets apart is =
        elements_stay h kind type size range held meets apart is
    kept_stays (Some h) (Constant type value) held meets apart is = tt
    kept_stays (Some h) (Channel type) held meets apart is = tt
    kept_stays (Some h) (Channels type size) held meets apart is = tt
    kept_stays (Some h) (Procedure number) held meets apart is = tt

    -- the names whose homes end before what changes
    all_stay : (es : List Entry) (env : Environment) (top : ℕ) → top ≤ first → Meets env es → Rise g.homes es top
        → AreKept g old es env → AreKept g new es env
    all_stay [] [] top low meets rise kept = tt
    all_stay [] (b ∷ bs) top low meets rise kept = absurd meets
    all_stay (e ∷ es) [] top low meets rise kept = absurd meets
    all_stay (e ∷ es) (b ∷ bs) top low meets rise kept =
        let h : Option Home = slice_get g.homes (length es) in
        let ends : end_of h e.meaning ≤ first = omega (arith, rise.0, low) in (
          kept_stays h e.meaning b.held meets.1 (ends_apart h e.meaning first end ends) kept.0,
          all_stay es bs (start_of h top) (starts_before h e.meaning top first rise.0 low) meets.2 rise.1 kept.1,
        )

    pub frame_stays : HasFrame g old → HasFrame g new
    frame_stays frame = record {
      workspace = frame.workspace;
      few = frame.few;
      inside = omega (arith, frame.inside, changes.size);
    }

    -- where words of one home change
    module _ (n : ℕ) (k : Meaning) (held : Held) (part : IsPartOf (slice_get g.homes n) k first end)
        (there : IsKeptThere g new (slice_get g.homes n) k held) where
      put_by : (t : Bool) (e : Entry) (es : List Entry) (b : Binding) (bs : Environment) (top : ℕ)
          → nat_eq (length es) n ≡ t → cond t (Some e.meaning) (meaning_at n es) ≡ Some k
          → Meets (b ∷ bs) (e ∷ es) → Rise g.homes (e ∷ es) top → AreKept g old (e ∷ es) (b ∷ bs)
          → (meaning_at n es ≡ Some k → AreKept g new es (put n held bs))
          → AreKept g new (e ∷ es) (cond t (record { name = b.name; held = held } ∷ bs) (b ∷ put n held bs))
      put_by true e es b bs top test is meets rise kept further =
          let same : e.meaning ≡ k = cc in
          let at : length es ≡ n = eqb-true (length es) n test in
          let h : Option Home = slice_get g.homes (length es) in
          let starts : start_of h top ≤ first =
          subst (λ (i : ℕ). start_of (slice_get g.homes i) top ≤ first) (sym at)
          (part_starts (slice_get g.homes n) k first end top part) in (
            subst (λ (x : Meaning). IsKeptThere g new h x held) (sym same)
                (subst (λ (i : ℕ). IsKeptThere g new (slice_get g.homes i) k held) (sym at) there),
            all_stay es bs (start_of h top) starts meets.2 rise.1 kept.1,
          )
      put_by false e es b bs top test is meets rise kept further =
          let h : Option Home = slice_get g.homes (length es) in
          let ends : end_of (slice_get g.homes n) k ≤ start_of h top =
          ends_before g.homes es (start_of h top) n k rise.1 is in
          let above : end ≤ start_of h top = omega (arith, part_ends (slice_get g.homes n) k first end part, ends) in
          (kept_stays h e.meaning b.held meets.1 (starts_apart h e.meaning first end top above) kept.0, further is)

      put_kept : (es : List Entry) (env : Environment) (top : ℕ) → meaning_at n es ≡ Some k → Meets env es
          → Rise g.homes es top → AreKept g old es env → AreKept g new es (put n held env)
      put_kept [] env top is meets rise kept = absurd (cc)
      put_kept (e ∷ es) [] top is meets rise kept = absurd meets
      put_kept (e ∷ es) (b ∷ bs) top is meets rise kept =
          subst (λ (i : ℕ). AreKept g new (e ∷ es)
          (cond (nat_eq i n) (record { name = b.name; held = held } ∷ bs) (b ∷ put n held bs)))
          (sym (as_long bs es meets.2))
          (put_by (nat_eq (length es) n) e es b bs top refl is meets rise kept
          (λ further. put_kept es bs (start_of (slice_get g.homes (length es)) top) further meets.2 rise.1 kept.1))

pub outer_words_stay : OuterWordsStay
outer_words_stay g top first end es env old new meets low high changes carries = record {
  frame = frame_stays changes g high carries.frame;
  kept = all_stay changes g high es env top low meets carries.rise carries.kept;
  rise = carries.rise;
  room = carries.room;
  counted = carries.counted;
  tables = λ values reads fit. table_stays changes g high values (carries.tables values reads fit);
}

-- where words from one to before an earlier one change, nothing does
nothing_changes : (first end : ℕ) (old new : Memory) → end ≤ first → ChangesWithin first end old new
    → ChangesWithin first 0 old new
nothing_changes first end old new none changes = record {
  bytes = λ place beside. by place (cases_lt place (word_place first));
  size = changes.size;
}
  where
    by : (place : ℕ) → (place < word_place first) ⊎ (word_place first ≤ place) → byte_at new place ≡ byte_at old place
    by place (inl below) = changes.bytes place (inl below)
    by place (inr above) = changes.bytes place (inr (omega (arith, above, none)))

pub one_name_changes : OneNameChanges
one_name_changes g top first end n es env k held old new meets is part changes there carries =
    by (cases_lt first end)
  where
    -- where an end is in the frame
    until : (last : ℕ) → last ≤ g.words → IsPartOf (slice_get g.homes n) k first last
        → ChangesWithin first last old new → Carries g top es (put n held env) new
    until last high part changes = record {
      frame = frame_stays changes g high carries.frame;
      kept = put_kept changes g high n k held part there es env top is meets carries.rise carries.kept;
      rise = carries.rise;
      room = carries.room;
      counted = carries.counted;
      tables = λ values reads fit. table_stays changes g high values (carries.tables values reads fit);
    }

    by : (first < end) ⊎ (end ≤ first) → Carries g top es (put n held env) new
    by (inl some) =
        until end (part_inside g.words (slice_get g.homes n) k first end
        (inside_at g.words g.homes es n k carries.room is) some part) part changes
    by (inr none) =
        until 0 (omega arith) (no_part (slice_get g.homes n) k first end part)
        (nothing_changes first end old new none changes)

pub ruleset carrying = (names_are_kept, homes_end_before, homes_are_inside, outer_words_stay, one_name_changes)
