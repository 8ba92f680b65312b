-- What the format and the decoder say of a module's contents, as the theorems need it.
use Rattle.std.proofs.Common.{◌≡◌, ◌<◌, ◌≤◌, Bool, true, false, cond, if◌then◌else◌, inl, inr, pos, List, [], ◌∷◌}
use Rattle.std.proofs.Common.{length, drop, take, Some, Result, Ok, Err, sym, ap, ◌∙◌, subst, arith, ℕ, ◌+◌, ◌≢◌}
use Rattle.std.proofs.Common.{Option, None, refl, ℤ, ◌≤ℤ◌}
use Rattle.std.specs.Prelude.{find, ◌==◌, int_le, int_lt, neg_ℤ, ◌<ℤ◌}
use Rattle.std.proofs.lemmas.Bool.Decides.{eqb_tells}
use Rattle.prefix_decoder.specs.declared.decoding.Instr.{Instr}
use Rattle.prefix_decoder.specs.declared.decoding.DecodeFault.{DecodeFault}
use Rattle.prefix_decoder.specs.declared.decoding.DecodeFault.TheVariants.{SecondSpelling}
use Rattle.std.specs.Str.{bytes_eq}
use Rattle.prefix_decoder.specs.Spelling.{spelling}
use Rattle.prefix_decoder.specs.Fetching.{read, if_spelled_once, fetched, StandsAt}
use Rattle.prefix_decoder.proofs.Outcomes.{fetched-found, StandsAt-length}
use Rattle.std.specs.List.{AllByRecursion}
use Rattle.certificate.specs.Starts.{Entered, procedure_from, procedure_at}
use Rattle.module_format.specs.Contents.{Contents, Procedure, Label, label_at}
use Rattle.module_format.specs.Order.{InOrder}
use Rattle.module_format.specs.Facts.{LabelKeeps, behind_label}
use Rattle.module_format.specs.Keeping.{Keeps}
use Rattle.states.proofs.LabelRows.{label_row_at}
use Rattle.rulings.specs.Meaning.{IsWellFormed, farthest_word}
use Rattle.states.proofs.FrameBounds.{frame-is-small}
use Rattle.states.proofs.Procedures.{at-row}
use Rattle.certificate.specs.Rights.{has_word}
use Rattle.module_format.specs.declared.contexts.Context.{Context}
use Rattle.module_format.specs.Contexts.{context_at}
use Rattle.std.proofs.lemmas.Int.{ints}
use Rattle.std.proofs.lemmas.Bool.{and_parts}
use Rattle.small_laws.proofs.Comparisons.{int_le-true, int_lt-true}
use Rattle.rulings.proofs.LabelRows.{label_pairs}
use Rattle.certified_worlds.specs.Point.{Decodes}
use Rattle.verifier.proofs.Judging.{Spans}

-- ---- the decoder

checked_reads : (bytes : List ℕ) (r : Result Instr DecodeFault) (i : Instr) → if_spelled_once bytes r ≡ Ok i → r ≡ Ok i
checked_reads bytes (Err e) i h = absurd (cc)
checked_reads bytes (Ok j) i h = on_test (bytes_eq (take j.len bytes) (spelling j.fun j.operand)) h
  where
    on_test : (b : Bool) → (if b then Ok j else Err SecondSpelling) ≡ Ok i
        → ◌≡◌ {A = Result Instr DecodeFault} (Ok j) (Ok i)
    on_test true e = e
    on_test false e = absurd (cc)

module _ (m : Contents) (k : Keeps m) where
  stands : (at : ℕ) (i : Instr) → fetched m.code at ≡ Ok i → StandsAt m.code at i
  stands at i h = fetched-found m.code at (λ n. k.code_bytes n) i h

  pub decodes : Decodes m
  decodes = record {
    some = λ at i h. (StandsAt-length m.code at i (stands at i h)).0;
    inside = λ at i h. (stands at i h).within;
    fits = λ at i h. (stands at i h).spelled.fits;
    reads = λ at i h. checked_reads (drop at m.code) (read 8 (drop at m.code) (pos 0) 0) i h;
  }

  -- each instruction has a byte, and lies in the code
  pub spans : Spans m
  spans = record { some = decodes.some; inside = decodes.inside }

-- ---- the labels

-- a label that is found keeps what each row keeps
found_keeps : (code_len : ℕ) (procedures : List Procedure) (low at : ℕ) (rows : List Label) (t : Label)
    → InOrder (LabelKeeps code_len procedures) behind_label low rows → find (λ row. row.offset == at) rows ≡ Some t
    → (t.offset ≡ at) × (t.offset < code_len)
found_keeps code_len procedures low at [] t all h = absurd (cc)
found_keeps code_len procedures low at (row ∷ rows) t all h = elim (eqb_tells row.offset at) [
  | inl e ↦
      let here : Some row ≡ Some t =
      sym (ap (λ (b : Bool). cond b (Some row) (find (λ row. row.offset == at) rows)) e.0) ∙ h in
      let same : row ≡ t = cc in (
        subst (λ (r : Label). r.offset ≡ at) same e.1,
        subst (λ (r : Label). r.offset < code_len) same all.0.offset.in_code,
      )
  | inr e ↦ found_keeps code_len procedures row.offset at rows t all.1
      (sym (ap (λ (b : Bool). cond b (Some row) (find (λ row. row.offset == at) rows)) e.0) ∙ h)
]

-- ---- the procedures

-- no procedure begins where a label row is
no_entry : (ps : List Procedure) (n at : ℕ) (e : Entered) → AllByRecursion (λ p. p.entry ≢ at) ps
    → procedure_from n ps at ≡ Some e → ⊥
no_entry [] n at e all h = cc
no_entry (p ∷ ps) n at e all h = elim (eqb_tells p.entry at) [
  | inl t ↦ all.0 t.1
  | inr t ↦ no_entry ps (n + 1) at e all.1
      (sym (ap (λ (b : Bool). cond b (Some (record { context = n; procedure = p })) (procedure_from (n + 1) ps at)) t.0)
      ∙ h)
]

found_apart : (code_len : ℕ) (procedures : List Procedure) (low at : ℕ) (rows : List Label) (t : Label)
    → InOrder (LabelKeeps code_len procedures) behind_label low rows → find (λ row. row.offset == at) rows ≡ Some t
    → AllByRecursion (λ (p : Procedure). p.entry ≢ at) procedures
found_apart code_len procedures low at [] t all h = absurd (cc)
found_apart code_len procedures low at (row ∷ rows) t all h = elim (eqb_tells row.offset at) [
  | inl e ↦ subst (λ (o : ℕ). AllByRecursion (λ (p : Procedure). p.entry ≢ o) procedures) e.1 all.0.offset.no_entry
  | inr e ↦ found_apart code_len procedures row.offset at rows t all.1
      (sym (ap (λ (b : Bool). cond b (Some row) (find (λ row. row.offset == at) rows)) e.0) ∙ h)
]

no_label : (m : Contents) → Keeps m → (at : ℕ) (e : Entered) → procedure_at m at ≡ Some e → label_at m at ≡ None
no_label m k at e h = on_label (label_at m at) refl
  where
    on_label : (o : Option Label) → label_at m at ≡ o → o ≡ None
    on_label None g = refl
    on_label (Some t) g = absurd (no_entry m.procedures 1 at e
        (found_apart (length m.code) m.procedures 0 at m.labels t k.rows.labels g) h)

-- no word of a frame is farther from its word 0 than any is
frame_words : (m : Contents) → Keeps m → (n : ℕ) (k : ℤ) → has_word (context_at m n) k ≡ true
    → (neg_ℤ (pos farthest_word) ≤ℤ k) × (k <ℤ pos farthest_word)
unfolding farthest_word
frame_words m keeps n k h = on_context (context_at m n) refl h
  where
    on_context : (o : Option Context) → context_at m n ≡ o → has_word o k ≡ true
        → (neg_ℤ (pos farthest_word) ≤ℤ k) × (k <ℤ pos farthest_word)
    on_context None e h = absurd (cc)
    on_context (Some context) e h =
        let small = frame-is-small m keeps n context e in
        let inside = and_parts (int_le context.lo k) (int_lt k context.hi) h in
        let low = int_le-true context.lo k inside.0 in
        let high = int_lt-true k context.hi inside.1 in
        (omega (arith, ints, small.low, low), omega (arith, ints, small.high, high))

pub well_formed : (m : Contents) → Keeps m → IsWellFormed m
well_formed m k = record {
  some_code = k.sizes.has_code;
  short_code = omega (arith, k.sizes.code_limit);
  few_words = omega (arith, k.sizes.data_limit);
  few_constants = omega (arith, k.sizes.constants_limit);
  base = k.sizes.base;
  labels = λ at t h. let f =
      found_keeps (length m.code) m.procedures 0 at m.labels t k.rows.labels h in omega (arith, f.0, f.1);
  rows = λ at t h. label_row_at m at t k h;
  pairs = λ at t h. label_pairs m at t k h;
  procedures = λ n p h. at-row (length m.code) 0 m.procedures n p k.rows.procedures h;
  entries = λ at e h. no_label m k at e h;
  eight = k.bounds.eight;
  frames = frame_words m k;
  constant_bytes = k.constant_bytes;
  tables = k.rows.table_rows;
}
