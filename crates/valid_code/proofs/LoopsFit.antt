-- The index of a loop keeps its range or a narrower one, so what its block's words are said to be can be said.
use Rattle.std.proofs.Common.{◌≡◌, ◌⊎◌, inl, inr, ℕ, suc, ◌^◌, ◌<◌, ◌≤◌, ℤ, pos, Bool, true, false, List, []}
use Rattle.std.proofs.Common.{◌∷◌, ◌++◌, length, Some, refl, sym, ap, subst, ◌∙◌, arith}
use Rattle.std.specs.Prelude.{⊤, ◌<ℤ◌, ◌+ℤ◌, ◌-ℤ◌, min, reverse, unsigned_abs}
use Rattle.std.specs.List.{AllByRecursion}
use Rattle.std.proofs.lemmas.Int.{ints}
use Rattle.std.proofs.lemmas.List.{length-reverse}
use Rattle.small_laws.proofs.Comparisons.{pos_from}
use Rattle.module_format.specs.Facts.{IsLoop}
use Rattle.module_format.specs.Order.{greatest_word}
use Rattle.word_arithmetic.specs.Range.{Ends, IsRange}
use Rattle.scalar_ranges.specs.declared.scope.ScalarKind.{ScalarKind}
use Rattle.scalar_ranges.specs.declared.scope.ScalarKind.TheVariants as kinds
use Rattle.scalar_ranges.specs.Entries.{Array, Entry, Meaning, Scalar}
use Rattle.scalar_ranges.specs.Moves.{is_one_of, widen, widened, widened_if}
use Rattle.scalar_ranges.proofs.Numbered.{reverse_cons}
use Rattle.program_meaning.specs.RangesWithin.{EntriesWithin, MeaningWithin, RangeWithin, ScalarWithin}
use Rattle.code_pieces.specs.declared.piece.RowEntry.{RowEntry}
use Rattle.code_pieces.proofs.AllOfPieces.{all_both}
use Rattle.line_pieces.specs.Homes.{Block, Home, Word, count_in, facts_at, facts_from}
use Rattle.valid_code.specs.Numbers.{HasNumbers, HaveNumbers}
use Rattle.valid_code.specs.ValidPieces.{IsSayable}
use Rattle.code_pieces.specs.WellFormed.{AreBelow, heads_of}
use Rattle.valid_code.proofs.BoundsOfNumbers.{all_words}

-- ---- indices

-- this is an index, with a range within the other
abbrev pub IsIndexIn : Ends → Meaning → Type 0
IsIndexIn s (Scalar kinds.Index type r) = RangeWithin r s
IsIndexIn s m = ⊥

-- what was an index is one, with a range within its old one
abbrev pub IndexWithin : Meaning → Meaning → Type 0
IndexWithin m (Scalar kinds.Index type s) = IsIndexIn s m
IndexWithin m n = ⊤

abbrev pub IndicesWithin : List Entry → List Entry → Type 0
IndicesWithin [] [] = ⊤
IndicesWithin (d ∷ ds) (e ∷ es) = IndexWithin d.meaning e.meaning × IndicesWithin ds es
IndicesWithin ds es = ⊥

index_itself : (m : Meaning) → IndexWithin m m
index_itself (Scalar kinds.Index type r) = (omega (arith, ints), omega (arith, ints))
index_itself m = tt

index_kind : (kind : ScalarKind) (free : Bool) (type : _) (r s : Ends) → kind ≡ kinds.Index
    → RangeWithin r s ⊎ ((free ≡ true) × (kinds.Index ≡ kinds.Variable)) → IsIndexIn s (Scalar kind type r)
index_kind kinds.Index free type r s is (inl within) = within
index_kind kinds.Index free type r s is (inr variable) = absurd (cc variable.1)
index_kind kinds.Variable free type r s is h = absurd (cc is)
index_kind kinds.Value free type r s is h = absurd (cc is)
index_kind kinds.Reference free type r s is h = absurd (cc is)

index_scalar : (free : Bool) (m n : Meaning) → ScalarWithin free m n → IndexWithin m n
index_scalar free (Scalar kind type r) (Scalar kinds.Index t s) h = index_kind kind free type r s h.0 h.2
index_scalar free m (Scalar kinds.Index t s) h = absurd h
index_scalar free m n h = tt

index_within : (free : Bool) (m n : Meaning) → MeaningWithin free m n → IndexWithin m n
index_within free m n (inl same) = subst (λ (x : Meaning). IndexWithin x n) (sym same) (index_itself n)
index_within free m n (inr h) = index_scalar free m n h

pub indices_within : (ns : List ℕ) (ds es : List Entry) → EntriesWithin ns ds es → IndicesWithin ds es
indices_within ns [] [] within = tt
indices_within ns [] (e ∷ es) within = absurd within
indices_within ns (d ∷ ds) [] within = absurd within
indices_within ns (d ∷ ds) (e ∷ es) within =
    (index_within (is_one_of ns (length es)) d.meaning e.meaning within.1, indices_within ns ds es within.2)

pub indices_itself : (es : List Entry) → IndicesWithin es es
indices_itself [] = tt
indices_itself (e ∷ es) = (index_itself e.meaning, indices_itself es)

widened_index : (m : Meaning) → IndexWithin (widened m) m
widened_index (Scalar kinds.Variable type r) = tt
widened_index (Scalar kinds.Index type r) = (omega (arith, ints), omega (arith, ints))
widened_index (Scalar kinds.Value type r) = tt
widened_index (Scalar kinds.Reference type r) = tt
widened_index m = tt

widened_by : (b : Bool) (e : Entry) → IndexWithin (widened_if b e).meaning e.meaning
widened_by true e = widened_index e.meaning
widened_by false e = index_itself e.meaning

pub widened_indices : (ns : List ℕ) (es : List Entry) → IndicesWithin (widen ns es) es
widened_indices ns [] = tt
widened_indices ns (e ∷ es) = (widened_by (is_one_of ns (length es)) e, widened_indices ns es)

pub indices_long : (ds es : List Entry) → IndicesWithin ds es → length ds ≡ length es
indices_long [] [] within = refl
indices_long [] (e ∷ es) within = absurd within
indices_long (d ∷ ds) [] within = absurd within
indices_long (d ∷ ds) (e ∷ es) within = ap suc (indices_long ds es within.1)

one_more : (ds es : List Entry) (d e : Entry) → IndicesWithin ds es → IndexWithin d.meaning e.meaning
    → IndicesWithin (ds ++ d ∷ []) (es ++ e ∷ [])
one_more [] [] d e within last = (last, tt)
one_more [] (y ∷ es) d e within last = absurd within
one_more (x ∷ ds) [] d e within last = absurd within
one_more (x ∷ ds) (y ∷ es) d e within last = (within.0, one_more ds es d e within.1 last)

reversed_within : (ds es : List Entry) → IndicesWithin ds es → IndicesWithin (reverse ds) (reverse es)
reversed_within [] [] within = tt
reversed_within [] (e ∷ es) within = absurd within
reversed_within (d ∷ ds) [] within = absurd within
reversed_within (d ∷ ds) (e ∷ es) within =
    subst (λ (xs : List Entry). IndicesWithin xs (reverse (e ∷ es))) (sym (reverse_cons d ds))
    (subst (λ (ys : List Entry). IndicesWithin (reverse ds ++ d ∷ []) ys) (sym (reverse_cons e es))
    (one_more (reverse ds) (reverse es) d e (reversed_within ds es within.1) within.0))

-- ---- blocks

-- A block is that of an index with at most as many numbers as a loop has turns. Its head is below this label.
abbrev pub LoopFits : ℕ → Home → Meaning → Type 0
LoopFits labels (Block w head) (Scalar kinds.Index type r) = (head < labels) × ((r.hi -ℤ r.lo) <ℤ greatest_word)
LoopFits labels (Block w head) m = ⊥
LoopFits labels h m = ⊤

-- of homes and names from the outermost one on
abbrev pub LoopsFit : ℕ → List Home → List Entry → Type 0
LoopsFit labels [] es = ⊤
LoopsFit labels (h ∷ hs) [] = ⊤
LoopsFit labels (h ∷ hs) (e ∷ es) = LoopFits labels h e.meaning × LoopsFit labels hs es

fits_in : (labels w head : ℕ) (m : Meaning) (s : Ends) → IsIndexIn s m
    → (head < labels) × ((s.hi -ℤ s.lo) <ℤ greatest_word) → LoopFits labels (Block w head) m
fits_in labels w head (Scalar kinds.Index t r) s within fits =
    let a = within.0 in
    let b = within.1 in
    let c = fits.1 in
    (fits.0, omega (arith, ints, a, b, c))
fits_in labels w head (Scalar kinds.Variable t r) s within fits = absurd within
fits_in labels w head (Scalar kinds.Value t r) s within fits = absurd within
fits_in labels w head (Scalar kinds.Reference t r) s within fits = absurd within
fits_in labels w head m s within fits = absurd within

loop_stays : (labels : ℕ) (h : Home) (m n : Meaning) → IndexWithin m n → LoopFits labels h n → LoopFits labels h m
loop_stays labels (Block w head) m (Scalar kinds.Index type s) within fits = fits_in labels w head m s within fits
loop_stays labels (Block w head) m n within fits = absurd fits
loop_stays labels h m n within fits = tt

stay_from : (labels : ℕ) (hs : List Home) (ds es : List Entry) → IndicesWithin ds es → LoopsFit labels hs es
    → LoopsFit labels hs ds
stay_from labels [] ds es within fit = tt
stay_from labels (h ∷ hs) [] es within fit = tt
stay_from labels (h ∷ hs) (d ∷ ds) [] within fit = absurd within
stay_from labels (h ∷ hs) (d ∷ ds) (e ∷ es) within fit =
    (loop_stays labels h d.meaning e.meaning within.0 fit.0, stay_from labels hs ds es within.1 fit.1)

-- so they fit where indices are within
pub loops_stay : (labels : ℕ) (hs : List Home) (ds es : List Entry) → IndicesWithin ds es
    → LoopsFit labels hs (reverse es) → LoopsFit labels hs (reverse ds)
loops_stay labels hs ds es within fit =
    stay_from labels hs (reverse ds) (reverse es) (reversed_within ds es within) fit

last_fits : (labels : ℕ) (hs : List Home) (h : Home) (es : List Entry) (e : Entry) → length es ≡ length hs
    → LoopsFit labels hs es → LoopFits labels h e.meaning → LoopsFit labels (hs ++ h ∷ []) (es ++ e ∷ [])
last_fits labels [] h [] e same fit last = (last, tt)
last_fits labels [] h (x ∷ es) e same fit last = absurd (omega (arith, same))
last_fits labels (k ∷ hs) h [] e same fit last = absurd (omega (arith, same))
last_fits labels (k ∷ hs) h (x ∷ es) e same fit last =
    (fit.0, last_fits labels hs h es e (omega (arith, same)) fit.1 last)

-- a name more
pub loops_more : (labels : ℕ) (hs : List Home) (h : Home) (es : List Entry) (e : Entry) → length es ≡ length hs
    → LoopsFit labels hs (reverse es) → LoopFits labels h e.meaning
    → LoopsFit labels (hs ++ h ∷ []) (reverse (e ∷ es))
loops_more labels hs h es e same fit last =
    subst (λ (xs : List Entry). LoopsFit labels (hs ++ h ∷ []) xs) (sym (reverse_cons e es))
    (last_fits labels hs h (reverse es) e (length-reverse es ∙ same) fit last)

kept_from : (labels : ℕ) (hs : List Home) (h : Home) (es : List Entry) → length es ≤ length hs
    → LoopsFit labels hs es → LoopsFit labels (hs ++ h ∷ []) es
kept_from labels [] h [] few fit = tt
kept_from labels [] h (e ∷ es) few fit = absurd (omega (arith, few))
kept_from labels (k ∷ hs) h [] few fit = tt
kept_from labels (k ∷ hs) h (e ∷ es) few fit = (fit.0, kept_from labels hs h es (omega (arith, few)) fit.1)

-- a home more
pub loops_kept : (labels : ℕ) (hs : List Home) (h : Home) (es : List Entry) → length es ≡ length hs
    → LoopsFit labels hs (reverse es) → LoopsFit labels (hs ++ h ∷ []) (reverse es)
loops_kept labels hs h es same fit =
    let size = length-reverse es in
    kept_from labels hs h (reverse es) (omega (arith, size, same)) fit

-- ---- what rows say

-- what is said of the words of an entry can be said, and the head of a loop is below this label
abbrev pub IsSaidWell : ℕ → RowEntry → Type 0
IsSaidWell labels e = IsSayable e.span e.fact × AreBelow labels (heads_of e.fact)

-- as many turns as are counted
abbrev most_turns : ℕ
most_turns = 4294967295

-- a range with so many numbers
turns_are : (r : Ends) → IsRange r → (r.hi -ℤ r.lo) <ℤ greatest_word
    → (n : ℕ) × (count_in r ≡ n) × (pos n ≡ (r.hi -ℤ r.lo) +ℤ pos 1)
turns_are r h few =
    let up = h.ordered in
    let found = pos_from ((r.hi -ℤ r.lo) +ℤ pos 1) (omega (arith, ints, up)) in
    let is = found.1 in (
      found.0,
      ap (λ (z : ℤ). min (unsigned_abs z) most_turns) is ∙ omega (arith, ints, is, few),
      sym is,
    )

loop_is : (r : Ends) → IsRange r → (r.hi -ℤ r.lo) <ℤ greatest_word → (weight : ℕ) → weight < 2 ^ 64
    → IsLoop r.lo (count_in r) weight
loop_is r h few weight small =
    let turns = turns_are r h few in
    let n = turns.0 in
    let is = turns.2 in
    let up = h.ordered in
    let last = h.hi_fits in
    subst (λ (count : ℕ). IsLoop r.lo count weight) (sym turns.1) (record {
      base_fits = h.lo_fits;
      some = omega (arith, ints, is, up);
      limit = omega (arith, ints, is, few);
      last = omega (arith, ints, is, last);
      weight_fits = small;
    })

said_well : (labels : ℕ) (h : Home) (m : Meaning) → LoopFits labels h m → HasNumbers m
    → AllByRecursion (IsSaidWell labels) (facts_at h m)
said_well labels (Word w) (Scalar kind type r) fits has =
    ((record { lo_fits = has.lo_fits; hi_fits = has.hi_fits; ordered = has.ordered }, tt), tt)
said_well labels (Word w) (Array kind type (Some size) r) fits has =
    ((record { lo_fits = all_words.lo_fits; hi_fits = all_words.hi_fits; ordered = all_words.ordered }, tt), tt)
said_well labels (Word w) m fits has = tt
said_well labels (Block w head) (Scalar kinds.Index type r) fits has =
    (((refl, λ weight small. loop_is r has fits.1 weight small), (fits.0, tt)), tt)
said_well labels (Block w head) m fits has = absurd fits
said_well labels h m fits has = tt

all_said : (labels : ℕ) (hs : List Home) (es : List Entry) → LoopsFit labels hs es → HaveNumbers es
    → AllByRecursion (IsSaidWell labels) (facts_from hs es)
all_said labels [] es fit have = tt
all_said labels (h ∷ hs) [] fit have = tt
all_said labels (h ∷ hs) (e ∷ es) fit have =
    all_both (IsSaidWell labels) (facts_at h e.meaning) (facts_from hs es)
    (said_well labels h e.meaning fit.0 have.0) (all_said labels hs es fit.1 have.1)

last_has : (es : List Entry) (e : Entry) → HaveNumbers es → HasNumbers e.meaning → HaveNumbers (es ++ e ∷ [])
last_has [] e have has = (has, tt)
last_has (x ∷ es) e have has = (have.0, last_has es e have.1 has)

reversed_have : (es : List Entry) → HaveNumbers es → HaveNumbers (reverse es)
reversed_have [] have = tt
reversed_have (e ∷ es) have =
    subst HaveNumbers (sym (reverse_cons e es)) (last_has (reverse es) e (reversed_have es have.1) have.0)

-- what a scope says of its words
pub scope_said : (labels : ℕ) (hs : List Home) (es : List Entry) → LoopsFit labels hs (reverse es) → HaveNumbers es
    → AllByRecursion (IsSaidWell labels) (facts_from hs (reverse es))
scope_said labels hs es fit have = all_said labels hs (reverse es) fit (reversed_have es have)
