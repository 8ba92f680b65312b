-- What the format says of the loops of a module's label rows.
use Rattle.std.proofs.Common.{◌≡◌, ℕ, ℤ, Bool, cond, List, [], ◌∷◌, length, Some, sym, ap, ◌∙◌, subst, inl, inr}
use Rattle.std.specs.Prelude.{find, ◌==◌}
use Rattle.std.proofs.lemmas.Bool.{cases_Bool}
use Rattle.module_format.specs.Rows.{Fact, Entry}
use Rattle.module_format.specs.declared.fact.Fact.TheVariants.{Unknown, Number, Pointer, CodeAddress, Loop}
use Rattle.module_format.specs.declared.fact.Fact.TheVariants.{ReturnAddress}
use Rattle.module_format.specs.Contents.{Label, Contents, Procedure, label_at}
use Rattle.module_format.specs.Order.{InOrder, least_word}
use Rattle.module_format.specs.Facts.{LabelKeeps, behind_label, WordKeeps, EntryKeeps, behind_entry, end_of}
use Rattle.module_format.specs.Keeping.{Keeps}
use Rattle.rulings.specs.Meaning.{IsSpan, ArePairs}

fact-span : (code_len span : ℕ) (fact : Fact) → WordKeeps code_len span fact → IsSpan span fact
fact-span code_len span Unknown h = tt
fact-span code_len span (Number lo hi) h = tt
fact-span code_len span (Pointer region lo hi step) h = tt
fact-span code_len span (CodeAddress offset) h = tt
fact-span code_len span (Loop base count weight) h = h.0
fact-span code_len span ReturnAddress h = tt

entry-pairs : (code_len : ℕ) (low : ℤ) (entries : List Entry) → InOrder (EntryKeeps code_len) behind_entry low entries
    → ArePairs entries
entry-pairs code_len low [] keeps = tt
entry-pairs code_len low (entry ∷ entries) keeps =
    (fact-span code_len entry.span entry.fact keeps.0.fact, entry-pairs code_len (end_of entry) entries keeps.1)

found-pairs : (code_len : ℕ) (procedures : List Procedure) (low at : ℕ) (rows : List Label) (t : Label)
    → InOrder (LabelKeeps code_len procedures) behind_label low rows → find (λ row. row.offset == at) rows ≡ Some t
    → ArePairs t.entries
found-pairs code_len procedures low at [] t keeps h = absurd (cc)
found-pairs code_len procedures low at (row ∷ rows) t keeps h = elim (cases_Bool (row.offset == at)) [
  | inl e ↦
      let here : Some row ≡ Some t =
      sym (ap (λ (b : Bool). cond b (Some row) (find (λ row. row.offset == at) rows)) e) ∙ h in
      let same : row ≡ t = cc in
      subst (λ (r : Label). ArePairs r.entries) same (entry-pairs code_len least_word row.entries keeps.0.facts.entries)
  | inr e ↦ found-pairs code_len procedures row.offset at rows t keeps.1
      (sym (ap (λ (b : Bool). cond b (Some row) (find (λ row. row.offset == at) rows)) e) ∙ h)
]

-- each loop that the label at an offset speaks of has two words
pub label_pairs : (m : Contents) (at : ℕ) (t : Label) → Keeps m → label_at m at ≡ Some t → ArePairs t.entries
label_pairs m at t keeps h = found-pairs (length m.code) m.procedures 0 at m.labels t keeps.rows.labels h
