-- What a scope says of words, name by name, and that neighbours which share an entry change no sum over loops.
use Rattle.std.proofs.Common.{◌≡◌, ℕ, ◌+◌, ℤ, pos, Bool, true, false, cond, List, [], ◌∷◌, ◌++◌, length}
use Rattle.std.proofs.Common.{map, reverse, Option, Some, None, refl, sym, ap, ◌∙◌, arith, append_assoc, append-nil}
use Rattle.std.specs.Prelude.{slice_get, sum_by, nat_eq}
use Rattle.std.specs.List.{list_all}
use Rattle.std.proofs.lemmas.Bool.{and_from, and_parts}
use Rattle.std.proofs.lemmas.List.{length-reverse}
use Rattle.std.proofs.lemmas.List.Folds.{list_all-append}
use Rattle.std.proofs.lemmas.List.Sums.{sum_by-append}
use Rattle.module_format.specs.Rows.{Entry as RowFact, Fact}
use Rattle.module_format.specs.declared.fact.Fact.TheVariants.{Unknown, Number, Pointer, CodeAddress, Loop}
use Rattle.module_format.specs.declared.fact.Fact.TheVariants.{ReturnAddress}
use Rattle.module_builder.specs.Placing.{placed_fact, placed_entry}
use Rattle.scalar_ranges.specs.Entries.{Meaning, Entry}
use Rattle.scalar_ranges.proofs.Numbered.{reverse_cons}
use Rattle.code_pieces.specs.declared.piece.RowEntry.{RowEntry}
use Rattle.code_pieces.specs.declared.piece.WordFact.{WordFact}
use Rattle.code_pieces.specs.declared.piece.WordFact.TheVariants.{Between, Turning}
use Rattle.code_pieces.specs.DraftedRows.{drafted_fact, drafted_entry}
use Rattle.code_pieces.specs.Laying.{Said, said, said_fact, with_said, joins, is_same_range}
use Rattle.code_pieces.specs.Numbers.{Numbered}
use Rattle.line_pieces.specs.Homes.{Home, facts_at, facts_from, facts_of}
use Rattle.certified_lines.specs.Scopes.{EachNameHas}

pub nothing_more : (n : ℕ) → 0 + n ≡ n
nothing_more n = omega arith

pub sum_cons : {A : Type 0} (F : A → ℕ) (x : A) (xs : List A) → sum_by F (x ∷ xs) ≡ F x + sum_by F xs
sum_cons F x xs = sum_by-append F (x ∷ []) xs ∙ ap (λ (n : ℕ). n + sum_by F xs) (nothing_more (F x))

-- ---- name by name

abbrev pub facts_there : Option Home → Meaning → List RowEntry
facts_there None m = []
facts_there (Some h) m = facts_at h m

facts_none : (hs : List Home) → facts_from hs [] ≡ []
facts_none [] = refl
facts_none (h ∷ hs) = refl

facts_more : (hs : List Home) (xs : List Entry) (e : Entry)
    → facts_from hs (xs ++ e ∷ []) ≡ facts_from hs xs ++ facts_there (slice_get hs (length xs)) e.meaning
facts_more [] xs e = refl
facts_more (h ∷ hs) [] e = ap (λ (fs : List RowEntry). facts_at h e.meaning ++ fs) (facts_none hs)
    ∙ append-nil (facts_at h e.meaning)
facts_more (h ∷ hs) (x ∷ xs) e =
    ap (λ (fs : List RowEntry). facts_at h x.meaning ++ fs) (facts_more hs xs e)
    ∙ sym (append_assoc (facts_at h x.meaning) (facts_from hs xs) (facts_there (slice_get hs (length xs)) e.meaning))

-- those of the innermost name come last
pub facts_cons : (hs : List Home) (e : Entry) (es : List Entry)
    → facts_of hs (e ∷ es) ≡ facts_of hs es ++ facts_there (slice_get hs (length es)) e.meaning
facts_cons hs e es =
    ap (λ (xs : List Entry). facts_from hs xs) (reverse_cons e es) ∙ facts_more hs (reverse es) e
    ∙ ap (λ (n : ℕ). facts_from hs (reverse es) ++ facts_there (slice_get hs n) e.meaning) (length-reverse es)

module _ (T : RowEntry → Bool) where
  abbrev pub PassThere : Option Home → Meaning → Type 0
  PassThere o m = list_all T (facts_there o m) ≡ true

  pub names_pass : (hs : List Home) (es : List Entry) → EachNameHas PassThere hs es
      → list_all T (facts_of hs es) ≡ true
  names_pass hs [] each = ap (λ (fs : List RowEntry). list_all T fs) (facts_none hs)
  names_pass hs (e ∷ es) each =
      let there = facts_there (slice_get hs (length es)) e.meaning in
      ap (λ (fs : List RowEntry). list_all T fs) (facts_cons hs e es)
      ∙ list_all-append T (facts_of hs es) there
      ∙ and_from (list_all T (facts_of hs es)) (list_all T there) (names_pass hs es each.1) each.0

  pub passed_names : (hs : List Home) (es : List Entry) → list_all T (facts_of hs es) ≡ true
      → EachNameHas PassThere hs es
  passed_names hs [] pass = tt
  passed_names hs (e ∷ es) pass =
      let there = facts_there (slice_get hs (length es)) e.meaning in
      let parts = and_parts (list_all T (facts_of hs es)) (list_all T there)
      (sym (ap (λ (fs : List RowEntry). list_all T fs) (facts_cons hs e es)
      ∙ list_all-append T (facts_of hs es) there) ∙ pass) in
      (parts.1, passed_names hs es parts.0)

module _ (F : RowEntry → ℕ) where
  abbrev pub CostNothing : Option Home → Meaning → Type 0
  CostNothing o m = sum_by F (facts_there o m) ≡ 0

  pub names_cost : (hs : List Home) (es : List Entry) → EachNameHas CostNothing hs es → sum_by F (facts_of hs es) ≡ 0
  names_cost hs [] each = ap (λ (fs : List RowEntry). sum_by F fs) (facts_none hs)
  names_cost hs (e ∷ es) each =
      let there = facts_there (slice_get hs (length es)) e.meaning in
      let rest = names_cost hs es each.1 in
      let here = each.0 in
      ap (λ (fs : List RowEntry). sum_by F fs) (facts_cons hs e es)
      ∙ sum_by-append F (facts_of hs es) there ∙ omega (arith, rest, here)

-- ---- entries that are joined

abbrev is_range : Fact → Bool
is_range (Number lo hi) = true
is_range f = false

both_ranges : (f g : Fact) → is_same_range f g ≡ true → (is_range f ≡ true) × (is_range g ≡ true)
both_ranges (Number a b) (Number c d) is = (refl, refl)
both_ranges (Number a b) Unknown is = absurd (cc is)
both_ranges (Number a b) (Pointer region lo hi step) is = absurd (cc is)
both_ranges (Number a b) (CodeAddress offset) is = absurd (cc is)
both_ranges (Number a b) (Loop base count weight) is = absurd (cc is)
both_ranges (Number a b) ReturnAddress is = absurd (cc is)
both_ranges Unknown g is = absurd (cc is)
both_ranges (Pointer region lo hi step) g is = absurd (cc is)
both_ranges (CodeAddress offset) g is = absurd (cc is)
both_ranges (Loop base count weight) g is = absurd (cc is)
both_ranges ReturnAddress g is = absurd (cc is)

-- the entry of a module that says this of a piece
abbrev pub entry_of : List Numbered → RowEntry → RowFact
entry_of weights e = record { word = pos e.word; span = e.span; fact = said_fact weights e.fact }

-- what is nothing for ranges sums up to the same
module _ (F : RowFact → ℕ)
    (none : (word : ℤ) (span : ℕ) (lo hi : ℤ) → F (record { word = word; span = span; fact = Number lo hi }) ≡ 0)
    (offsets : List (Option ℕ)) (weights : List Numbered) where
  abbrev put_there : Said → RowFact
  put_there s = placed_entry offsets (drafted_entry s)

  abbrev total : List Said → ℕ
  total ss = sum_by F (map (placed_entry offsets) (map drafted_entry ss))

  no_range : (word : ℤ) (span : ℕ) (f : Fact) → is_range f ≡ true
      → F (record { word = word; span = span; fact = placed_fact offsets (drafted_fact f) }) ≡ 0
  no_range word span (Number lo hi) is = none word span lo hi
  no_range word span Unknown is = absurd (cc is)
  no_range word span (Pointer region lo hi step) is = absurd (cc is)
  no_range word span (CodeAddress offset) is = absurd (cc is)
  no_range word span (Loop base count weight) is = absurd (cc is)
  no_range word span ReturnAddress is = absurd (cc is)

  added_by : (b : Bool) (s t : Said) (ts : List Said) → joins s t ≡ b
      → total (cond b (record { word = s.word; span = s.span + t.span; fact = s.fact } ∷ ts) (s ∷ t ∷ ts))
      ≡ F (put_there s) + total (t ∷ ts)
  added_by true s t ts is =
      let parts = and_parts (nat_eq (s.word + s.span) t.word) (is_same_range s.fact t.fact) is in
      let ranges = both_ranges s.fact t.fact parts.1 in
      let both = no_range (pos s.word) (s.span + t.span) s.fact ranges.0 in
      let first = no_range (pos s.word) s.span s.fact ranges.0 in
      let second = no_range (pos t.word) t.span t.fact ranges.1 in
      let joined : Said = record { word = s.word; span = s.span + t.span; fact = s.fact } in
      let one = sum_cons F (put_there joined) (map (placed_entry offsets) (map drafted_entry ts)) in
      let two = sum_cons F (put_there t) (map (placed_entry offsets) (map drafted_entry ts)) in
      omega (arith, both, first, second, one, two)
  added_by false s t ts is = sum_cons F (put_there s) (map (placed_entry offsets) (map drafted_entry (t ∷ ts)))

  added : (s : Said) (ts : List Said) → total (with_said s ts) ≡ F (put_there s) + total ts
  added s [] = sum_cons F (put_there s) []
  added s (t ∷ ts) = added_by (joins s t) s t ts refl

  fact_stays : (f : WordFact) → placed_fact offsets (drafted_fact (said_fact weights f)) ≡ said_fact weights f
  fact_stays (Between lo hi) = refl
  fact_stays (Turning head base count) = refl

  pub sums_are_said : (es : List RowEntry) → total (said weights es) ≡ sum_by
      (λ (e : RowEntry). F (entry_of weights e)) es
  sums_are_said [] = refl
  sums_are_said (e ∷ es) =
      added (record { word = e.word; span = e.span; fact = said_fact weights e.fact }) (said weights es)
      ∙ ap (λ (f : Fact). F (record { word = pos e.word; span = e.span; fact = f }) + total (said weights es))
      (fact_stays e.fact)
      ∙ ap (λ (n : ℕ). F (entry_of weights e) + n) (sums_are_said es)
      ∙ sym (sum_cons (λ (x : RowEntry). F (entry_of weights x)) e es)
