-- The label rows of a module: what the format says of their entries.
use Rattle.std.proofs.Common.{◌≡◌, ℕ, ℤ, pos, ◌+ℤ◌, ◌≤ℤ◌, ◌<ℤ◌, Bool, true, false, cond, List, [], ◌∷◌, length}
use Rattle.std.proofs.Common.{Option, Some, None, refl, sym, ap, ◌∙◌, subst, arith, inl, inr, vec_len}
use Rattle.std.specs.Prelude.{MatchOption, find, ◌==◌}
use Rattle.std.specs.List.{AllByRecursion}
use Rattle.std.proofs.lemmas.Bool.{cases_Bool, and_parts, and_from}
use Rattle.std.proofs.lemmas.Int.{ints}
use Rattle.small_laws.proofs.Comparisons.{lt-int_lt, le-int_le, int_le-true, int_lt-true}
use Rattle.module_format.specs.Rows.{Fact}
use Rattle.module_format.specs.declared.fact.Fact.TheVariants.{Unknown, Number, Pointer, CodeAddress, Loop}
use Rattle.module_format.specs.declared.fact.Fact.TheVariants.{ReturnAddress}
use Rattle.module_format.specs.Rows.{Entry}
use Rattle.module_format.specs.declared.contexts.Context.{Context}
use Rattle.module_format.specs.Contents.{Contents, Procedure, Label, label_at}
use Rattle.module_format.specs.Contexts.{context_at}
use Rattle.certificate.specs.Rights.{has_word}
use Rattle.module_format.specs.Order.{InOrder, least_word}
use Rattle.module_format.specs.Facts.{WordKeeps, EntryKeeps, behind_entry, end_of, LabelKeeps, behind_label}
use Rattle.module_format.specs.Keeping.{Keeps, LabelFits, RowFits, EntryFits}
use Rattle.states.specs.declared.known.WordFact.{WordFact}
use Rattle.states.specs.declared.known.WordFact.TheVariants.{Alone}
use Rattle.states.specs.declared.state.State.{State as InMemory}
use Rattle.states.specs.State.{is_same_number, is_about, is_silent, said_of, entry_fact}
use Rattle.states.specs.Rows.{rise_from, LoopFits, IsRow, IsRowOf}
use Rattle.states.specs.Views.{BelongsTo}

-- valid entries are apart
pub entries-apart : (code_len : ℕ) (low : ℤ) (entries : List Entry)
    → InOrder (EntryKeeps code_len) behind_entry low entries → rise_from low entries ≡ true
entries-apart code_len low [] keeps = refl
entries-apart code_len low (entry ∷ entries) keeps =
    and_from _ _ (le-int_le low entry.word keeps.0.apart) (entries-apart code_len (end_of entry) entries keeps.1)

said-fits : (code_len span : ℕ) (fact : Fact) (is_first : Bool) → WordKeeps code_len span fact
    → LoopFits (said_of fact is_first)
said-fits code_len span Unknown is_first h = tt
said-fits code_len span (Number lo hi) is_first h = tt
said-fits code_len span (Pointer region lo hi step) is_first h = tt
said-fits code_len span (CodeAddress offset) is_first h = tt
said-fits code_len span (Loop base count weight) true h = h.1
said-fits code_len span (Loop base count weight) false h = h.1
said-fits code_len span ReturnAddress is_first h = tt

entries-fit : (code_len : ℕ) (low k : ℤ) (entries : List Entry) → InOrder (EntryKeeps code_len) behind_entry low entries
    → LoopFits (entry_fact entries k)
entries-fit code_len low k [] keeps = tt
entries-fit code_len low k (entry ∷ entries) keeps =
    choose _ _ (is_about entry k) (said-fits code_len entry.span entry.fact (is_same_number entry.word k) keeps.0.fact)
    (entries-fit code_len (end_of entry) k entries keeps.1)
  where
    choose : (f g : WordFact) (b : Bool) → LoopFits f → LoopFits g → LoopFits (cond b f g)
    choose f g true x y = x
    choose f g false x y = y

-- no entry is about a word outside the frame
outside-unknown : (context : Context) (entries : List Entry) (k : ℤ) → AllByRecursion (EntryFits context) entries
    → has_word (Some context) k ≡ false → entry_fact entries k ≡ Alone Unknown
outside-unknown context [] k all out = refl
outside-unknown context (entry ∷ entries) k all out = elim (cases_Bool (is_about entry k)) [
  | inl e ↦
      let both = and_parts _ _ e in
      let low : entry.word ≤ℤ k = int_le-true entry.word k both.0 in
      let high : k <ℤ (entry.word +ℤ pos entry.span) = int_lt-true k (entry.word +ℤ pos entry.span) both.1 in
      let a : context.lo ≤ℤ k = omega (arith, ints, all.0.low) in
      let b : k <ℤ context.hi = omega (arith, ints, all.0.high) in
      let inside : has_word (Some context) k ≡ true =
      and_from _ _ (le-int_le context.lo k a) (lt-int_lt k context.hi b) in
      let clash : true ≡ false = sym inside ∙ out in
      absurd (cc)
  | inr e ↦ ap (λ (b : Bool). cond b (said_of entry.fact (is_same_number entry.word k)) (entry_fact entries k)) e
      ∙ outside-unknown context entries k all.1 out
]

fits-outside : (t : Label) (k : ℤ) (o : Option Context) → MatchOption o ⊥ (RowFits t) → has_word o k ≡ false
    → entry_fact t.entries k ≡ Alone Unknown
fits-outside t k None fits out = absurd fits
fits-outside t k (Some context) fits out = outside-unknown context t.entries k fits.entries out

rows-of : (m : Contents) (code_len : ℕ) (procedures : List Procedure) (low : ℕ) (rows : List Label)
    → InOrder (LabelKeeps code_len procedures) behind_label low rows → AllByRecursion (LabelFits m) rows
    → AllByRecursion (IsRowOf m) rows
rows-of m code_len procedures low [] keeps fits = tt
rows-of m code_len procedures low (t ∷ rows) keeps fits = (
  record {
    apart = entries-apart code_len least_word t.entries keeps.0.facts.entries;
    loops = λ k. entries-fit code_len least_word k t.entries keeps.0.facts.entries;
    own = λ k. fits-outside t k (context_at m t.context) fits.0;
  },
  rows-of m code_len procedures t.offset rows keeps.1 fits.1,
)

-- each label of a module says what a state can go on with
pub label_rows : (m : Contents) → Keeps m → AllByRecursion (IsRowOf m) m.labels
label_rows m k = rows-of m (length m.code) m.procedures 0 m.labels k.rows.labels k.names.labels

row-found : (m : Contents) (at : ℕ) (rows : List Label) (t : Label) → AllByRecursion (IsRowOf m) rows
    → find (λ row. row.offset == at) rows ≡ Some t → IsRowOf m t
row-found m at [] t all h = absurd (cc)
row-found m at (row ∷ rows) t all h = elim (cases_Bool (row.offset == at)) [
  | inl e ↦
      let here : Some row ≡ Some t =
      sym (ap (λ (b : Bool). cond b (Some row) (find (λ row. row.offset == at) rows)) e) ∙ h in
      let same : row ≡ t = cc in
      subst (λ (r : Label). IsRowOf m r) same all.0
  | inr e ↦ row-found m at rows t all.1 (sym (ap (λ (b : Bool). cond b (Some row)
      (find (λ row. row.offset == at) rows)) e) ∙ h)
]

-- so does the label at an offset
pub label_row_at : (m : Contents) (at : ℕ) (t : Label) → Keeps m → label_at m at ≡ Some t → IsRowOf m t
label_row_at m at t k h = row-found m at m.labels t (label_rows m k) h

-- the context of a label has each word of which the label says something
own-word : (m : Contents) (t : Label) (k : ℤ) → IsRowOf m t → is_silent (entry_fact t.entries k) ≡ false
    → has_word (context_at m t.context) k ≡ true
own-word m t k row known = elim (cases_Bool (has_word (context_at m t.context) k)) [
  | inl there ↦ there
  | inr away ↦ absurd (let says = ap is_silent (row.own k away) in cc)
]

-- the row of a label is one of the frame of a state of its module
pub row-inside : (m : Contents) (s : InMemory) (t : Label) → BelongsTo m s → IsRowOf m t
    → IsRow s.frame.lo (vec_len s.frame.overlay.places) t.entries
row-inside m s t belongs row = record {
  apart = row.apart;
  loops = row.loops;
  inside = λ k known.
      let room = (belongs.room t.context k (own-word m t k row known)).room in
      (room.low, room.high);
}
