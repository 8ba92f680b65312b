-- Entries that are joined say of words what each one says.
use Rattle.std.proofs.Common.{◌≡◌, ℕ, zero, suc, ◌+◌, ◌==◌, ◌&&◌, ℤ, pos, Bool, true, false, List, [], ◌∷◌, Option}
use Rattle.std.proofs.Common.{refl, sym, ap, ◌∙◌, arith, add-zero, add-suc}
use Rattle.std.specs.Prelude.{◌+ℤ◌, nat_eq, if◌then◌else◌, map}
use Rattle.std.specs.Ordering.{int_eq}
use Rattle.std.specs.List.{list_all}
use Rattle.std.proofs.Math.Bool.{and-true}
use Rattle.std.proofs.lemmas.Bool.{and_parts, eqb-true}
use Rattle.std.proofs.lemmas.Bool.Decides.{Decides-int_eq}
use Rattle.std.proofs.lemmas.Int.{ints}
use Rattle.module_format.specs.Rows.{Entry, Fact}
use Rattle.module_format.specs.declared.fact.Fact.TheVariants.{Unknown, Number, Pointer, CodeAddress, Loop}
use Rattle.module_format.specs.declared.fact.Fact.TheVariants.{ReturnAddress}
use Rattle.module_builder.specs.Placing.{placed_fact, placed_entry}
use Rattle.code_pieces.specs.declared.piece.RowEntry.{RowEntry}
use Rattle.code_pieces.specs.declared.piece.WordFact.{WordFact}
use Rattle.code_pieces.specs.declared.piece.WordFact.TheVariants.{Between, Turning}
use Rattle.code_pieces.specs.Numbers.{Numbered}
use Rattle.code_pieces.specs.DraftedRows.{drafted_fact, drafted_entry}
use Rattle.code_pieces.specs.Laying.{Said, said, said_fact, with_said, joins, is_same_range}
use Rattle.placed_code.specs.SaidWords.{WordTest, words_pass, AsksNoFirst, WordsAreSaid}

-- two of three tests change places
swapped : (a b c : Bool) → (a && (b && c)) ≡ (b && (a && c))
swapped true b c = refl
swapped false true c = refl
swapped false false c = refl

-- and a test may be joined with the next ones
joined : (a b c : Bool) → (a && b && c) ≡ (a && (b && c))
joined true b c = refl
joined false b c = refl

-- facts that are the same range
record SameRange (f g : Fact) : Type 0 where
  lo : ℤ
  hi : ℤ
  first : f ≡ Number lo hi
  second : g ≡ Number lo hi

-- what is tested as the same range is one
same_range : (f g : Fact) → is_same_range f g ≡ true → SameRange f g
same_range (Number a b) (Number c d) is =
    let parts = and_parts (int_eq a c) (int_eq b d) is in
    let low : a ≡ c = (Decides-int_eq a c).0 parts.0 in
    let high : b ≡ d = (Decides-int_eq b d).0 parts.1 in
    record { lo = a; hi = b; first = refl; second = cc }
same_range (Number a b) Unknown is = absurd (cc)
same_range (Number a b) (Pointer region lo hi step) is = absurd (cc)
same_range (Number a b) (CodeAddress offset) is = absurd (cc)
same_range (Number a b) (Loop base count weight) is = absurd (cc)
same_range (Number a b) ReturnAddress is = absurd (cc)
same_range Unknown g is = absurd (cc)
same_range (Pointer region lo hi step) g is = absurd (cc)
same_range (CodeAddress offset) g is = absurd (cc)
same_range (Loop base count weight) g is = absurd (cc)
same_range ReturnAddress g is = absurd (cc)

module _ (test : WordTest) (asks : AsksNoFirst test) (offsets : List (Option ℕ)) where
  -- words in a range pass in two parts
  in_parts : (word s t : ℕ) (lo hi : ℤ) → words_pass test (pos word) (Number lo hi) (s + t)
      ≡ (words_pass test (pos word) (Number lo hi) s && words_pass test (pos (word + s)) (Number lo hi) t)
  in_parts word s zero lo hi =
      ap (λ (n : ℕ). words_pass test (pos word) (Number lo hi) n) (add-zero s) ∙ sym (and-true _)
  in_parts word s (suc t) lo hi =
      let range : Fact = Number lo hi in
      let at : pos word +ℤ pos (s + t) ≡ pos (word + s) +ℤ pos t = omega (arith, ints) in
      let same = ap (λ (w : ℤ). test w range (s + t == 0)) at
      ∙ asks (pos (word + s) +ℤ pos t) lo hi (s + t == 0) (t == 0) in
      let later = words_pass test (pos word) range (s + t) in
      let first = words_pass test (pos word) range s in
      let rest = words_pass test (pos (word + s)) range t in
      ap (λ (n : ℕ). words_pass test (pos word) range n) (add-suc s t)
      ∙ ap (λ (b : Bool). b && later) same
      ∙ ap (λ (b : Bool). test (pos (word + s) +ℤ pos t) range (t == 0) && b) (in_parts word s t lo hi)
      ∙ swapped (test (pos (word + s) +ℤ pos t) range (t == 0)) first rest

  -- the words of an entry pass
  abbrev passes : Said → Bool
  passes s = words_pass test (pos s.word) (placed_fact offsets (drafted_fact s.fact)) s.span

  -- those of two that are joined, as one
  abbrev both : Said → Said → Said
  both s t = record { word = s.word; span = s.span + t.span; fact = s.fact }

  -- they pass where those of both do
  both_pass : (s t : Said) → joins s t ≡ true → passes (both s t) ≡ (passes s && passes t)
  both_pass s t is =
      let parts = and_parts (nat_eq (s.word + s.span) t.word) (is_same_range s.fact t.fact) is in
      let range = same_range s.fact t.fact parts.1 in
      let next : s.word + s.span ≡ t.word = eqb-true (s.word + s.span) t.word parts.0 in
      ap (λ (f : Fact). words_pass test (pos s.word) (placed_fact offsets (drafted_fact f)) (s.span + t.span))
      range.first
      ∙ in_parts s.word s.span t.span range.lo range.hi
      ∙ ap (λ (f : Fact). words_pass test (pos s.word) (placed_fact offsets (drafted_fact f)) s.span
      && words_pass test (pos (s.word + s.span)) (Number range.lo range.hi) t.span) (sym range.first)
      ∙ ap (λ (n : ℕ). passes s && words_pass test (pos n) (Number range.lo range.hi) t.span) next
      ∙ ap (λ (f : Fact). passes s && words_pass test (pos t.word) (placed_fact offsets (drafted_fact f)) t.span)
      (sym range.second)

  -- and so do all
  abbrev all_pass : List Said → Bool
  all_pass ss = list_all (λ (s : Said). passes s) ss

  -- by whether the entry is joined with the next one
  added_by : (b : Bool) (s t : Said) (ts : List Said) → joins s t ≡ b
      → all_pass (if b then both s t ∷ ts else s ∷ t ∷ ts) ≡ (passes s && all_pass (t ∷ ts))
  added_by true s t ts is =
      ap (λ (b : Bool). b && all_pass ts) (both_pass s t is) ∙ joined (passes s) (passes t) (all_pass ts)
  added_by false s t ts is = refl

  -- one more
  added : (s : Said) (ts : List Said) → all_pass (with_said s ts) ≡ (passes s && all_pass ts)
  added s [] = refl
  added s (t ∷ ts) = added_by (joins s t) s t ts refl

  -- a row says the fact of a piece as it is
  fact_stays : (weights : List Numbered) (f : WordFact)
      → placed_fact offsets (drafted_fact (said_fact weights f)) ≡ said_fact weights f
  fact_stays weights (Between lo hi) = refl
  fact_stays weights (Turning head base count) = refl

  -- so the entries that are said pass where those of the piece do
  all_said : (weights : List Numbered) (es : List RowEntry) → all_pass (said weights es)
      ≡ list_all (λ (e : RowEntry). words_pass test (pos e.word) (said_fact weights e.fact) e.span) es
  all_said weights [] = refl
  all_said weights (e ∷ es) =
      added (record { word = e.word; span = e.span; fact = said_fact weights e.fact }) (said weights es)
      ∙ ap (λ (f : Fact). words_pass test (pos e.word) f e.span && all_pass (said weights es))
      (fact_stays weights e.fact)
      ∙ ap (λ (b : Bool). words_pass test (pos e.word) (said_fact weights e.fact) e.span && b) (all_said weights es)

  -- and so they do in the row of the module
  in_row : (ss : List Said) → list_all (λ (e : Entry). words_pass test e.word e.fact e.span)
      (map (placed_entry offsets) (map drafted_entry ss)) ≡ all_pass ss
  in_row [] = refl
  in_row (s ∷ ss) = ap (λ (b : Bool). passes s && b) (in_row ss)

pub words_are_said : WordsAreSaid
words_are_said test offsets weights es asks =
    in_row test asks offsets (said weights es) ∙ all_said test asks offsets weights es
