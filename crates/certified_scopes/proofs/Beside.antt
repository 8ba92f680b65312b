-- The words of names are in turn where homes rise, and a scalar's word is beside those of other names.
use Rattle.std.proofs.Common.{◌≡◌, ℕ, ◌<◌, ◌≤◌, Bool, true, false, cond, List, [], ◌∷◌, length, bytes_eq, Option}
use Rattle.std.proofs.Common.{Some, None, subst, arith}
use Rattle.std.specs.Prelude.{slice_get, option_and_then}
use Rattle.word_arithmetic.specs.Range.{Ends}
use Rattle.occam_parser.specs.declared.tree.ValueType.{ValueType}
use Rattle.scalar_ranges.specs.declared.scope.ScalarKind.{ScalarKind}
use Rattle.scalar_ranges.specs.Entries.{Meaning, Constant, Scalar, Array, Channel, Channels, Procedure, Entry}
use Rattle.scalar_ranges.specs.Entries.{meaning_in, number_in}
use Rattle.line_pieces.specs.Homes as home
use Rattle.line_pieces.specs.Homes.{Home, Nowhere, Word, Block, Link, Passed, home_of}
use Rattle.meant_lines.specs.Carrying.{start_of, end_of}
use Rattle.certified_lines.specs.Scopes.{EachNameHas}
use Rattle.certified_lines.specs.NarrowedScopes.{IsBesideThere, AreBeside}
use Rattle.certified_scopes.specs.Beside.{first_word, last_end, AreInTurn, MoreWordsAreInTurn, RisingHomesAreInTurn}
use Rattle.certified_scopes.specs.Beside.{ScalarsAreBeside}

-- ---- words in turn

first_more : (o : Option Home) (m : Meaning) (top more : ℕ) → top ≤ more → first_word o m top ≤ first_word o m more
first_more None m top more low = low
first_more (Some (Word w)) (Scalar kind type range) top more low = omega arith
first_more (Some (Word w)) (Array kind type (Some size) range) top more low = omega arith
first_more (Some (Word w)) m top more low = low
first_more (Some (Block w head)) (Scalar kind type range) top more low = omega arith
first_more (Some (Block w head)) m top more low = low
first_more (Some h) m top more low = low

pub more_words_are_in_turn : MoreWordsAreInTurn
more_words_are_in_turn hs [] top more low turn = tt
more_words_are_in_turn hs (e ∷ es) top more low turn =
    let o : Option Home = slice_get hs (length es) in
    let ends = turn.0 in (
      omega (arith, low, ends),
      more_words_are_in_turn hs es (first_word o e.meaning top) (first_word o e.meaning more)
          (first_more o e.meaning top more low) turn.1,
    )

-- ---- homes that rise

-- one home, by those before it
turn_of : (hs : List Home) (es : List Entry) (o : Option Home) (m : Meaning) (top : ℕ) → end_of o m ≤ top
    → AreInTurn hs es (start_of o top) → (last_end o m ≤ top) × AreInTurn hs es (first_word o m top)
turn_of hs es None m top ends turn = (omega arith, turn)
turn_of hs es (Some (Word w)) (Scalar kind type range) top ends turn = (ends, turn)
turn_of hs es (Some (Word w)) (Array kind type (Some size) range) top ends turn = (ends, turn)
turn_of hs es (Some (Word w)) (Array kind type None range) top ends turn =
    (omega arith, more_words_are_in_turn hs es w top (omega (arith, ends)) turn)
turn_of hs es (Some (Word w)) (Constant type value) top ends turn =
    (omega arith, more_words_are_in_turn hs es w top (omega (arith, ends)) turn)
turn_of hs es (Some (Word w)) (Channel type) top ends turn =
    (omega arith, more_words_are_in_turn hs es w top (omega (arith, ends)) turn)
turn_of hs es (Some (Word w)) (Channels type size) top ends turn =
    (omega arith, more_words_are_in_turn hs es w top (omega (arith, ends)) turn)
turn_of hs es (Some (Word w)) (Procedure number) top ends turn =
    (omega arith, more_words_are_in_turn hs es w top (omega (arith, ends)) turn)
turn_of hs es (Some (Block w head)) (Scalar kind type range) top ends turn = (ends, turn)
turn_of hs es (Some (Block w head)) m top ends turn =
    (omega arith, more_words_are_in_turn hs es w top (omega (arith, ends)) turn)
turn_of hs es (Some Nowhere) m top ends turn = (omega arith, turn)
turn_of hs es (Some (Link number)) m top ends turn = (omega arith, turn)
turn_of hs es (Some (home.Table values)) m top ends turn = (omega arith, turn)
turn_of hs es (Some (Passed w)) m top ends turn = (omega arith, turn)

pub rising_homes_are_in_turn : RisingHomesAreInTurn
rising_homes_are_in_turn hs [] top rise = tt
rising_homes_are_in_turn hs (e ∷ es) top rise =
    let o : Option Home = slice_get hs (length es) in
    turn_of hs es o e.meaning top rise.0 (rising_homes_are_in_turn hs es (start_of o top) rise.1)

-- ---- words beside

-- a name whose words end before this one
before_word : (w : ℕ) (o : Option Home) (m : Meaning) → last_end o m ≤ w → IsBesideThere w o m
before_word w None m ends = tt
before_word w (Some (Word v)) (Scalar kind type range) ends = λ same. omega (arith, ends, same)
before_word w (Some (Word v)) (Array kind type (Some size) range) ends =
    λ n less same. omega (arith, ends, less, same)
before_word w (Some (Word v)) m ends = tt
before_word w (Some (Block v head)) (Scalar kind type range) ends =
    (λ same. omega (arith, ends, same), λ same. omega (arith, ends, same))
before_word w (Some (Block v head)) m ends = tt
before_word w (Some h) m ends = tt

-- or begin behind it
behind_word : (w top : ℕ) (o : Option Home) (m : Meaning) → w < first_word o m top → IsBesideThere w o m
behind_word w top None m starts = tt
behind_word w top (Some (Word v)) (Scalar kind type range) starts = λ same. omega (arith, starts, same)
behind_word w top (Some (Word v)) (Array kind type (Some size) range) starts =
    λ n less same. omega (arith, starts, same)
behind_word w top (Some (Word v)) m starts = tt
behind_word w top (Some (Block v head)) (Scalar kind type range) starts =
    (λ same. omega (arith, starts, same), λ same. omega (arith, starts, same))
behind_word w top (Some (Block v head)) m starts = tt
behind_word w top (Some h) m starts = tt

first_below : (o : Option Home) (m : Meaning) (top : ℕ) → last_end o m ≤ top → first_word o m top ≤ top
first_below None m top ends = omega arith
first_below (Some (Word w)) (Scalar kind type range) top ends = omega (arith, ends)
first_below (Some (Word w)) (Array kind type (Some size) range) top ends = omega (arith, ends)
first_below (Some (Word w)) m top ends = omega arith
first_below (Some (Block w head)) (Scalar kind type range) top ends = omega (arith, ends)
first_below (Some (Block w head)) m top ends = omega arith
first_below (Some h) m top ends = omega arith

-- so do all names
all_before : (hs : List Home) (es : List Entry) (top w : ℕ) → AreInTurn hs es top → top ≤ w
    → EachNameHas (IsBesideThere w) hs es
all_before hs [] top w turn low = tt
all_before hs (e ∷ es) top w turn low =
    let o : Option Home = slice_get hs (length es) in
    let ends = turn.0 in
    let first = first_below o e.meaning top turn.0 in (
      before_word w o e.meaning (omega (arith, ends, low)),
      all_before hs es (first_word o e.meaning top) w turn.1 (omega (arith, first, low)),
    )

module _ (hs : List Home) (name : List ℕ) (w : ℕ) (kind : ScalarKind) (type : ValueType) (range : Ends) where
  abbrev Found : List Entry → Type 0
  Found es = (meaning_in name es ≡ Some (Scalar kind type range)) × (home_of hs es name ≡ Some (Word w))

  -- where a scalar is found, its word is before the top, and beside the others
  abbrev IsFoundBeside : List Entry → ℕ → Type 0
  IsFoundBeside es top = (w < top) × AreBeside hs w name es

  -- the scalar itself
  found_here : (es : List Entry) (top : ℕ) (o : Option Home) (m : Meaning) → o ≡ Some (Word w)
      → m ≡ Scalar kind type range → last_end o m ≤ top → AreInTurn hs es (first_word o m top)
      → (w < top) × EachNameHas (IsBesideThere w) hs es
  found_here es top o m at means ends turn =
      let same : (x : Option Home) → x ≡ Some (Word w) → last_end x (Scalar kind type range) ≤ top
      → AreInTurn hs es (first_word x (Scalar kind type range) top) → (w < top) × EachNameHas (IsBesideThere w) hs es
      = λ x is low rest.
      let low_there = subst (λ (y : Option Home). last_end y (Scalar kind type range) ≤ top) is low in (
        omega (arith, low_there),
        all_before hs es w w
            (subst (λ (y : Option Home). AreInTurn hs es (first_word y (Scalar kind type range) top)) is rest)
            (omega arith),
      )
      in
      same o at (subst (λ (k : Meaning). last_end o k ≤ top) means ends)
      (subst (λ (k : Meaning). AreInTurn hs es (first_word o k top)) means turn)

  found_by : (t : Bool) (e : Entry) (es : List Entry) (top : ℕ)
      → cond t (Some e.meaning) (meaning_in name es) ≡ Some (Scalar kind type range)
      → option_and_then (slice_get hs) (cond t (Some (length es)) (number_in name es)) ≡ Some (Word w)
      → last_end (slice_get hs (length es)) e.meaning ≤ top
      → AreInTurn hs es (first_word (slice_get hs (length es)) e.meaning top)
      → (Found es → IsFoundBeside es (first_word (slice_get hs (length es)) e.meaning top))
      → (w < top) × (elim t as (λ b. Type 0) [
        | true ↦ EachNameHas (IsBesideThere w) hs es
        | false ↦ IsBesideThere w (slice_get hs (length es)) e.meaning × AreBeside hs w name es
      ])
  found_by true e es top means at ends turn further =
      found_here es top (slice_get hs (length es)) e.meaning at (one_meaning e.meaning means) ends turn
    where
      one_meaning : (k : Meaning) → Some k ≡ Some (Scalar kind type range) → k ≡ Scalar kind type range
      one_meaning k same = cc
  found_by false e es top means at ends turn further =
      let o : Option Home = slice_get hs (length es) in
      let found = further (means, at) in
      let less = found.0 in
      let low = first_below o e.meaning top ends in
      (omega (arith, less, low), (behind_word w top o e.meaning less, found.1))

  found_beside : (es : List Entry) (top : ℕ) → AreInTurn hs es top → Found es → IsFoundBeside es top
  found_beside [] top turn found = absurd (cc found.0)
  found_beside (e ∷ es) top turn found =
      found_by (bytes_eq e.name name) e es top found.0 found.1 turn.0 turn.1
      (found_beside es (first_word (slice_get hs (length es)) e.meaning top) turn.1)

pub scalars_are_beside : ScalarsAreBeside
scalars_are_beside hs es top name w kind type range turn means at =
    (found_beside hs name w kind type range es top turn (means, at)).1
