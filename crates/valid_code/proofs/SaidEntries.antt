-- The entries of a row, once neighbours of one range are joined, keep the rules of the format.
use Rattle.std.proofs.Common.{◌≡◌, ℕ, ◌+◌, ◌^◌, ◌<◌, ◌≤◌, ℤ, pos, Bool, true, false, List, [], ◌∷◌}
use Rattle.std.proofs.Common.{Option, length, refl, sym, subst, arith}
use Rattle.std.specs.Prelude.{◌≤ℤ◌, ◌+ℤ◌, nat_eq, if◌then◌else◌, map}
use Rattle.std.specs.List.{AllByRecursion}
use Rattle.std.proofs.lemmas.Bool.{and_parts, eqb-true}
use Rattle.std.proofs.lemmas.Int.{ints}
use Rattle.module_format.specs.Rows.{Fact}
use Rattle.module_format.specs.declared.contexts.Context.{Context}
use Rattle.module_format.specs.declared.fact.Fact.TheVariants.{Unknown, Number, Pointer, CodeAddress, Loop}
use Rattle.module_format.specs.declared.fact.Fact.TheVariants.{ReturnAddress}
use Rattle.module_format.specs.Facts.{EntryKeeps, behind_entry, WordKeeps, IsLoop}
use Rattle.module_format.specs.Keeping.{EntryFits, FactFits}
use Rattle.module_format.specs.Order.{InOrder, IsInterval}
use Rattle.module_builder.specs.Placing.{placed_fact, placed_entry}
use Rattle.code_pieces.specs.declared.piece.RowEntry.{RowEntry}
use Rattle.code_pieces.specs.declared.piece.WordFact.{WordFact}
use Rattle.code_pieces.specs.declared.piece.WordFact.TheVariants.{Between, Turning}
use Rattle.code_pieces.specs.Numbers.{Numbered, number_at}
use Rattle.code_pieces.specs.DraftedRows.{drafted_fact, drafted_entry}
use Rattle.code_pieces.specs.Laying.{Said, said, said_fact, with_said, joins, is_same_range}
use Rattle.valid_code.specs.ValidPieces.{InTurn, IsSayable, AreSayable}

-- ---- what is said

-- what is said of some words is a range, or a loop's block
abbrev IsSaid : ℕ → Fact → Type 0
IsSaid span (Number lo hi) = IsInterval lo hi
IsSaid span (Loop base count weight) = (span ≡ 2) × IsLoop base count weight
IsSaid span f = ⊥

-- one after the other, of words from the one up to the other
abbrev pub AreSaid : ℕ → List Said → ℕ → Type 0
AreSaid low [] top = low ≤ top
AreSaid low (s ∷ ss) top =
    (low ≤ s.word) × (1 ≤ s.span) × IsSaid s.span s.fact × AreSaid (s.word + s.span) ss top

-- a range is said of any words, and only ranges are joined
any_span : (f g : Fact) (span more : ℕ) → is_same_range f g ≡ true → IsSaid span f → IsSaid more f
any_span (Number lo hi) g span more same is = is
any_span (Loop base count weight) g span more same is = absurd (cc)
any_span Unknown g span more same is = is
any_span (Pointer region lo hi step) g span more same is = is
any_span (CodeAddress offset) g span more same is = is
any_span ReturnAddress g span more same is = is

-- by whether the first one is joined with the next
added_by : (b : Bool) (low top : ℕ) (s t : Said) (ts : List Said) → joins s t ≡ b → AreSaid low (s ∷ t ∷ ts) top
    → AreSaid low (if b then record { word = s.word; span = s.span + t.span; fact = s.fact } ∷ ts else s ∷ t ∷ ts) top
added_by true low top s t ts is all =
    let parts = and_parts (nat_eq (s.word + s.span) t.word) (is_same_range s.fact t.fact) is in
    let next : s.word + s.span ≡ t.word = eqb-true (s.word + s.span) t.word parts.0 in
    let ends : t.word + t.span ≡ s.word + (s.span + t.span) = omega (arith, next) in
    let rest = all.3 in (
      all.0,
      omega (arith, all.1),
      any_span s.fact t.fact s.span (s.span + t.span) parts.1 all.2,
      subst (λ (n : ℕ). AreSaid n ts top) ends rest.3,
    )
added_by false low top s t ts is all = all

added : (low top : ℕ) (s : Said) (ts : List Said) → AreSaid low (s ∷ ts) top → AreSaid low (with_said s ts) top
added low top s [] all = all
added low top s (t ∷ ts) all = added_by (joins s t) low top s t ts refl all

-- weights are below 2^64, whatever loop
abbrev pub AreWeights : List Numbered → Type 0
AreWeights weights = (head : ℕ) → number_at head weights < 2 ^ 64

fact_is : (weights : List Numbered) (span : ℕ) (f : WordFact) → AreWeights weights → IsSayable span f
    → IsSaid span (said_fact weights f)
fact_is weights span (Between lo hi) small is = is
fact_is weights span (Turning head base count) small is = (is.0, is.1 (number_at head weights) (small head))

-- what a piece says in turn is said in turn
pub entries_are : (weights : List Numbered) (low top : ℕ) (es : List RowEntry) → AreWeights weights
    → InTurn low es top → AreSayable es → AreSaid low (said weights es) top
entries_are weights low top [] small turn facts = turn
entries_are weights low top (e ∷ es) small turn facts =
    added low top (record { word = e.word; span = e.span; fact = said_fact weights e.fact }) (said weights es) (
      turn.0,
      turn.1,
      fact_is weights e.span e.fact small facts.0,
      entries_are weights (e.word + e.span) top es small turn.2 facts.1,
    )

-- ---- in the file

-- there are at most as many as there are words
pub few_said : (low top : ℕ) (ss : List Said) → AreSaid low ss top → low + length ss ≤ top
few_said low top [] all = omega (arith, all)
few_said low top (s ∷ ss) all =
    let rest = few_said (s.word + s.span) top ss all.3 in
    omega (arith, all.0, all.1, rest)

-- where the frame has no more words than this
abbrev pub most_words : ℕ
most_words = 2147483647

module _ (code_len top : ℕ) (few : top ≤ most_words) (offsets : List (Option ℕ)) where
  fact_keeps : (span : ℕ) (f : Fact) → IsSaid span f → WordKeeps code_len span (placed_fact offsets (drafted_fact f))
  fact_keeps span (Number lo hi) is = is
  fact_keeps span (Loop base count weight) is = is
  fact_keeps span Unknown is = absurd is
  fact_keeps span (Pointer region lo hi step) is = absurd is
  fact_keeps span (CodeAddress offset) is = absurd is
  fact_keeps span ReturnAddress is = absurd is

  pub entries_keep : (low : ℕ) (below : ℤ) (ss : List Said) → below ≤ℤ pos low → AreSaid low ss top
      → InOrder (EntryKeeps code_len) behind_entry below (map (placed_entry offsets) (map drafted_entry ss))
  entries_keep low below [] under all = tt
  entries_keep low below (s ∷ ss) under all =
      let size = few_said (s.word + s.span) top ss all.3 in
      let a = all.0 in
      let b = all.1 in (
        record {
          word_fits = omega (arith, ints, size, b, few);
          apart = omega (arith, ints, a, under);
          span_fits = omega (arith, size, few);
          spans = b;
          fact = fact_keeps s.span s.fact all.2;
        },
        entries_keep (s.word + s.span) (pos s.word +ℤ pos s.span) ss (omega (arith, ints)) all.3,
      )

  fact_fits : (f : Fact) → FactFits 0 (placed_fact offsets (drafted_fact f))
  fact_fits (Number lo hi) = tt
  fact_fits (Loop base count weight) = tt
  fact_fits Unknown = tt
  fact_fits (Pointer region lo hi step) = tt
  fact_fits (CodeAddress offset) = tt
  fact_fits ReturnAddress = tt

  -- they lie in a frame that has these words
  pub entries_fit : (context : Context) (low : ℕ) (ss : List Said) → context.parameters ≡ 0 → context.lo ≤ℤ pos 0
      → pos top ≤ℤ context.hi → AreSaid low ss top
      → AllByRecursion (EntryFits context) (map (placed_entry offsets) (map drafted_entry ss))
  entries_fit context low [] none lowest highest all = tt
  entries_fit context low (s ∷ ss) none lowest highest all =
      let size = few_said (s.word + s.span) top ss all.3 in (
        record {
          low = omega (arith, ints, lowest);
          high = omega (arith, ints, size, highest);
          fact = subst (λ (n : ℕ). FactFits n (placed_fact offsets (drafted_fact s.fact))) (sym none)
              (fact_fits s.fact);
        },
        entries_fit context (s.word + s.span) ss none lowest highest all.3,
      )
