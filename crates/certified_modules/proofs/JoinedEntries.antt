-- What the entries of a row say together, though neighbours with one range share an entry: as if none did.
use Rattle.std.proofs.Common.{◌≡◌, ℕ, ◌+◌, ℤ, pos, Bool, true, false, List, [], ◌∷◌, Option, refl, sym, ap, ◌∙◌}
use Rattle.std.specs.Prelude.{nat_eq, if◌then◌else◌, map}
use Rattle.std.specs.Ordering.{int_eq}
use Rattle.std.proofs.lemmas.Bool.{and_parts, eqb-true}
use Rattle.std.proofs.lemmas.Bool.Decides.{Decides-int_eq}
use Rattle.module_format.specs.Rows.{Entry, Fact}
use Rattle.module_format.specs.declared.fact.Fact.TheVariants.{Unknown, Number, Pointer, CodeAddress, Loop}
use Rattle.module_format.specs.declared.fact.Fact.TheVariants.{ReturnAddress}
use Rattle.module_builder.specs.Placing.{placed_fact, placed_entry}
use Rattle.code_pieces.specs.declared.piece.RowEntry.{RowEntry}
use Rattle.code_pieces.specs.declared.piece.WordFact.{WordFact}
use Rattle.code_pieces.specs.declared.piece.WordFact.TheVariants.{Between, Turning}
use Rattle.code_pieces.specs.Numbers.{Numbered, number_at}
use Rattle.code_pieces.specs.DraftedRows.{drafted_fact, drafted_entry}
use Rattle.code_pieces.specs.Laying.{Said, said, said_fact, with_said, joins, is_same_range}
use Rattle.certified_modules.specs.RowsSay.{fact_said, entry_said}

-- facts that are the same range
record SameRange (f g : Fact) : Type 0 where
  lo : ℤ
  hi : ℤ
  first : f ≡ Number lo hi
  second : g ≡ Number lo hi

same_range : (f g : Fact) → is_same_range f g ≡ true → SameRange f g
same_range (Number a b) (Number c d) is =
    let parts = and_parts (int_eq a c) (int_eq b d) is in
    let low : a ≡ c = (Decides-int_eq a c).0 parts.0 in
    let high : b ≡ d = (Decides-int_eq b d).0 parts.1 in
    record { lo = a; hi = b; first = refl; second = cc }
same_range (Number a b) Unknown is = absurd (cc)
same_range (Number a b) (Pointer region lo hi step) is = absurd (cc)
same_range (Number a b) (CodeAddress offset) is = absurd (cc)
same_range (Number a b) (Loop base count weight) is = absurd (cc)
same_range (Number a b) ReturnAddress is = absurd (cc)
same_range Unknown g is = absurd (cc)
same_range (Pointer region lo hi step) g is = absurd (cc)
same_range (CodeAddress offset) g is = absurd (cc)
same_range (Loop base count weight) g is = absurd (cc)
same_range ReturnAddress g is = absurd (cc)

-- some words in a range, as an entry
abbrev pub words_in : (word span : ℕ) → ℤ → ℤ → Entry
words_in word span lo hi = record { word = pos word; span = span; fact = Number lo hi }

module _ (X : Type 0) (step : Entry → X → X) (F : List Entry → X)
    (unfolds : (e : Entry) (es : List Entry) → F (e ∷ es) ≡ step e (F es))
    (in_parts : (word s t : ℕ) (lo hi : ℤ) (x : X)
    → step (words_in word (s + t) lo hi) x ≡ step (words_in word s lo hi) (step (words_in (word + s) t lo hi) x))
    (offsets : List (Option ℕ)) where
  -- an entry in the module
  abbrev placed : Said → Entry
  placed s = placed_entry offsets (drafted_entry s)

  abbrev all : List Said → X
  all ss = F (map (placed_entry offsets) (map drafted_entry ss))

  -- two that are joined, as one
  abbrev both : Said → Said → Said
  both s t = record { word = s.word; span = s.span + t.span; fact = s.fact }

  both_step : (s t : Said) (x : X) → joins s t ≡ true → step (placed (both s t)) x ≡ step (placed s) (step (placed t) x)
  both_step s t x is =
      let parts = and_parts (nat_eq (s.word + s.span) t.word) (is_same_range s.fact t.fact) is in
      let range = same_range s.fact t.fact parts.1 in
      let next : s.word + s.span ≡ t.word = eqb-true (s.word + s.span) t.word parts.0 in
      let lo = range.lo in
      let hi = range.hi in
      let with = (λ (f : Fact). placed_fact offsets (drafted_fact f)) in
      ap (λ (f : Fact). step (record { word = pos s.word; span = s.span + t.span; fact = with f }) x) range.first
      ∙ in_parts s.word s.span t.span lo hi x
      ∙ ap (λ (n : ℕ). step (words_in s.word s.span lo hi) (step (words_in n t.span lo hi) x)) next
      ∙ ap (λ (f : Fact). step (words_in s.word s.span lo hi)
      (step (record { word = pos t.word; span = t.span; fact = with f }) x)) (sym range.second)
      ∙ ap (λ (f : Fact). step (record { word = pos s.word; span = s.span; fact = with f }) (step (placed t) x))
      (sym range.first)

  added_by : (b : Bool) (s t : Said) (ts : List Said) → joins s t ≡ b
      → all (if b then both s t ∷ ts else s ∷ t ∷ ts) ≡ step (placed s) (all (t ∷ ts))
  added_by true s t ts is =
      unfolds (placed (both s t)) (map (placed_entry offsets) (map drafted_entry ts)) ∙ both_step s t (all ts) is
      ∙ ap (step (placed s)) (sym (unfolds (placed t) (map (placed_entry offsets) (map drafted_entry ts))))
  added_by false s t ts is = unfolds (placed s) (map (placed_entry offsets) (map drafted_entry (t ∷ ts)))

  -- one more
  added : (s : Said) (ts : List Said) → all (with_said s ts) ≡ step (placed s) (all ts)
  added s [] = unfolds (placed s) []
  added s (t ∷ ts) = added_by (joins s t) s t ts refl

  -- a row says the fact of a piece as it is
  fact_stays : (weights : List Numbered) (f : WordFact)
      → placed_fact offsets (drafted_fact (said_fact weights f)) ≡ fact_said (λ head. number_at head weights) f
  fact_stays weights (Between lo hi) = refl
  fact_stays weights (Turning head base count) = refl

  -- So what the entries of a module give is what those of the piece give.
  pub all_said : (weights : List Numbered) (es : List RowEntry)
      → all (said weights es) ≡ F (map (entry_said (λ head. number_at head weights)) es)
  all_said weights [] = refl
  all_said weights (e ∷ es) =
      let numbers = (λ (head : ℕ). number_at head weights) in
      added (record { word = e.word; span = e.span; fact = said_fact weights e.fact }) (said weights es)
      ∙ ap (λ (f : Fact). step (record { word = pos e.word; span = e.span; fact = f }) (all (said weights es)))
      (fact_stays weights e.fact)
      ∙ ap (step (entry_said numbers e)) (all_said weights es)
      ∙ sym (unfolds (entry_said numbers e) (map (entry_said numbers) es))
