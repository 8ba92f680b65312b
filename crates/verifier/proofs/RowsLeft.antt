-- The rows that are left, and what they give at an offset.
use Rattle.std.proofs.Common.{◌≡◌, ◌≢◌, ℕ, zero, suc, ◌+◌, ◌-◌, ◌≤◌, ◌<◌, true, false, eqb, List, [], ◌∷◌, length, map}
use Rattle.std.proofs.Common.{drop, Some, None, refl, sym, ap, ◌∙◌, subst, arith, inl, inr}
use Rattle.std.specs.Prelude.{◌==◌, find, slice_get}
use Rattle.std.specs.List.{AllByRecursion}
use Rattle.std.proofs.lemmas.Bool.{cases_lt}
use Rattle.std.proofs.lemmas.Bool.Decides.{nat_tests}
use Rattle.module_format.specs.Rows.{LabelRow}
use Rattle.module_format.specs.Rows.{ProcedureRow}
use Rattle.module_format.specs.Contents.{Contents, Procedure, label_at, label_of, procedure_of}
use Rattle.module_format.specs.Facts.{LabelKeeps, behind_label}
use Rattle.module_format.specs.Procedures.{ProcedureKeeps, behind_procedure}
use Rattle.module_format.specs.Keeping.{Keeps}
use Rattle.module_format.specs.Order.{InOrder}
use Rattle.certificate.specs.Starts.{procedure_from, procedure_at}
use Rattle.states.specs.Rows.{IsRowOf}
use Rattle.states.proofs.LabelRows.{label_rows}
use Rattle.verifier.specs.Judge.{start_among}
use Rattle.verifier.specs.declared.rows.Rows.{Rows}
use Rattle.verifier.specs.Judging.{RiseFrom, label_in, LabelsLeft, ProceduresLeft, AreLeft, Begins}
use Rattle.certified_worlds.proofs.GivenStates.{start_of_none}
use Rattle.verifier.proofs.Judging.{no_first_start}

-- ---- rows that rise

rise-lower : {A : Type 0} (offset_of : A → ℕ) (low at : ℕ) (rows : List A) → low ≤ at → RiseFrom offset_of at rows
    → RiseFrom offset_of low rows
rise-lower offset_of low at [] h r = tt
rise-lower offset_of low at (row ∷ rows) h r = (omega (arith, r.0), r.1)

-- the first row is after an offset at which it is not
rise-on : {A : Type 0} (offset_of : A → ℕ) (at : ℕ) (rows : List A) → RiseFrom offset_of at rows
    → ((row : A) (later : List A) → rows ≡ row ∷ later → offset_of row ≢ at) → RiseFrom offset_of (at + 1) rows
rise-on offset_of at [] r h = tt
rise-on offset_of at (row ∷ rows) r h = let d = h row rows refl in (omega (arith, r.0), r.1)

-- ---- label rows

label-other : (row : LabelRow) (rows : List LabelRow) (o : ℕ) → row.offset ≢ o
    → label_in (row ∷ rows) o ≡ label_in rows o
label-other row rows o d = let no : eqb row.offset o ≡ false = grind (arith, nat_tests) in rw no refl

label-here : (row : LabelRow) (rows : List LabelRow) (o : ℕ) → row.offset ≡ o
    → label_in (row ∷ rows) o ≡ Some (label_of row)
label-here row rows o e = let same : eqb row.offset o ≡ true = grind (arith, nat_tests) in rw same refl

-- none is below the first
label-below : (at o : ℕ) (rows : List LabelRow) → RiseFrom (λ row. row.offset) at rows → o < at → label_in rows o ≡ None
label-below at o [] r h = refl
label-below at o (row ∷ rows) r h = label-other row rows o (λ e. absurd (omega (arith, r.0))) ∙ label-below
    (row.offset + 1) o rows r.1 (omega (arith, r.0))

labels-rise : (code_len : ℕ) (procedures : List Procedure) (low at : ℕ) (rows : List LabelRow) → at ≤ low + 1
    → InOrder (LabelKeeps code_len procedures) behind_label low (map label_of rows)
    → RiseFrom (λ row. row.offset) at rows
labels-rise code_len procedures low at [] h keeps = tt
labels-rise code_len procedures low at (row ∷ rows) h keeps = (
  omega (arith, keeps.0.offset.rises),
  labels-rise code_len procedures row.offset (row.offset + 1) rows (omega arith) keeps.1,
)

labels-first : (m : Contents) (rows : List LabelRow) → Keeps m → m.labels ≡ map label_of rows → LabelsLeft m 0 rows
labels-first m rows keeps is = record {
  rise = labels-rise (length m.code) m.procedures 0 0 rows (omega arith)
      (subst (λ ls. InOrder (LabelKeeps (length m.code) m.procedures) behind_label 0 ls) is keeps.rows.labels);
  sound = subst (λ ls. AllByRecursion (IsRowOf m) ls) is (label_rows m keeps);
  same = λ o l. ap (λ ls. find (λ row. row.offset == o) ls) is;
}

-- no row is at the offset
pub labels-none : (m : Contents) (at : ℕ) (rows : List LabelRow) → LabelsLeft m at rows
    → ((row : LabelRow) (later : List LabelRow) → rows ≡ row ∷ later → row.offset ≢ at) → label_at m at ≡ None
labels-none m at rows a h =
    a.same at (omega arith) ∙ label-below (at + 1) at rows (rise-on (λ row. row.offset) at rows a.rise h) (omega arith)

-- ---- procedure rows

from-other : (n o : ℕ) (p : Procedure) (ps : List Procedure) → p.entry ≢ o
    → procedure_from n (p ∷ ps) o ≡ procedure_from (n + 1) ps o
from-other n o p ps d = let no : eqb p.entry o ≡ false = grind (arith, nat_tests) in rw no refl

from-here : (n o : ℕ) (p : Procedure) (ps : List Procedure) → p.entry ≡ o
    → procedure_from n (p ∷ ps) o ≡ Some (record { context = n; procedure = p })
from-here n o p ps e = let same : eqb p.entry o ≡ true = grind (arith, nat_tests) in rw same refl

-- none begins below the first
procedure-below : (at o context : ℕ) (rows : List ProcedureRow) → RiseFrom (λ row. row.entry) at rows → o < at
    → procedure_from context (map procedure_of rows) o ≡ None
procedure-below at o context [] r h = refl
procedure-below at o context (row ∷ rows) r h =
    from-other context o (procedure_of row) (map procedure_of rows) (λ e. absurd (omega (arith, r.0)))
    ∙ procedure-below (row.entry + 1) o (context + 1) rows r.1 (omega (arith, r.0))

procedures-rise : (code_len low at : ℕ) (rows : List ProcedureRow) → at ≤ low + 1
    → InOrder (ProcedureKeeps code_len) behind_procedure low (map procedure_of rows)
    → RiseFrom (λ row. row.entry) at rows
procedures-rise code_len low at [] h keeps = tt
procedures-rise code_len low at (row ∷ rows) h keeps = (
  omega (arith, keeps.0.rises),
  procedures-rise code_len row.entry (row.entry + 1) rows
      (omega arith) keeps.1,
)

procedures-first : (m : Contents) (rows : List ProcedureRow) → Keeps m → m.procedures ≡ map procedure_of rows
    → ProceduresLeft m 0 1 rows
procedures-first m rows keeps is = record {
  rise = procedures-rise (length m.code) 0 0 rows (omega arith)
      (subst (λ ps. InOrder (ProcedureKeeps (length m.code)) behind_procedure 0 ps) is keeps.rows.procedures);
  same = λ o l. ap (λ ps. procedure_from 1 ps o) is;
  behind_root = omega arith;
  rest = is;
}

pub procedures-none : (m : Contents) (at context : ℕ) (rows : List ProcedureRow) → ProceduresLeft m at context rows
    → ((row : ProcedureRow) (later : List ProcedureRow) → rows ≡ row ∷ later → row.entry ≢ at)
    → procedure_at m at ≡ None
procedures-none m at context rows a h =
    a.same at (omega arith) ∙ procedure-below (at + 1) at context rows (rise-on (λ row. row.entry) at rows a.rise h)
    (omega arith)

-- what is after a place, and at it
behind-place : {A : Type 0} (n : ℕ) (xs : List A) (y : A) (ys : List A) → drop n xs ≡ y ∷ ys
    → (drop (suc n) xs ≡ ys) × (slice_get xs n ≡ Some y)
behind-place zero [] y ys h = absurd (cc)
behind-place (suc n) [] y ys h = absurd (cc)
behind-place zero (x ∷ xs) y ys h = let e : x ≡ y = cc in let f : xs ≡ ys = cc in (f, ap Some e)
behind-place (suc n) (x ∷ xs) y ys h = behind-place n xs y ys h

pub procedures-later : (m : Contents) (at context : ℕ) (rows later : List ProcedureRow) (row : ProcedureRow)
    → ProceduresLeft m at context rows → rows ≡ row ∷ later → row.entry ≡ at
    → ProceduresLeft m (at + 1) (context + 1) later
procedures-later m at context rows later row a is e =
    let b : ProceduresLeft m at context (row ∷ later) = subst (λ rs. ProceduresLeft m at context rs) is a in
    let rest = (behind-place (context - 1) m.procedures (procedure_of row) (map procedure_of later) b.rest).0 in
    let some = b.behind_root in
    let next : suc (context - 1) ≡ (context + 1) - 1 = omega arith in
    record {
      rise = rise-lower (λ (row : ProcedureRow). row.entry) (at + 1) (row.entry + 1) later (omega arith) b.rise.1;
      same = λ o l. b.same o (omega arith)
          ∙ from-other context o (procedure_of row) (map procedure_of later) (λ x. absurd (omega arith));
      behind_root = omega arith;
      rest = subst (λ n. drop n m.procedures ≡ map procedure_of later) next rest;
    }

pub procedures-here : (m : Contents) (at context : ℕ) (rows later : List ProcedureRow) (row : ProcedureRow)
    → ProceduresLeft m at context rows → rows ≡ row ∷ later → row.entry ≡ at → Begins m at context row
procedures-here m at context rows later row a is e =
    let b : ProceduresLeft m at context (row ∷ later) = subst (λ rs. ProceduresLeft m at context rs) is a in
    record {
      found = b.same at (omega arith) ∙ from-here context at (procedure_of row) (map procedure_of later) e;
      behind_root = b.behind_root;
      is = (behind-place (context - 1) m.procedures (procedure_of row) (map procedure_of later) b.rest).1;
    }

-- ---- after offsets at which no instruction starts

label-before : (m : Contents) (at more : ℕ) (rows : List LabelRow) → LabelsLeft m at rows
    → ((o : ℕ) → at ≤ o → o < at + more → label_at m o ≡ None) → RiseFrom (λ row. row.offset) (at + more) rows
label-before m at more [] a h = tt
label-before m at more (row ∷ rows) a h = (
  elim (cases_lt row.offset (at + more)) [
    | inr high ↦ high
    | inl low ↦
        let clash : None ≡ Some (label_of row) =
        sym (h row.offset a.rise.0 low) ∙ (a.same row.offset a.rise.0 ∙ label-here row rows row.offset refl) in
        absurd (cc)
  ],
  a.rise.1,
)

procedure-before : (m : Contents) (at more context : ℕ) (rows : List ProcedureRow) → ProceduresLeft m at context rows
    → ((o : ℕ) → at ≤ o → o < at + more → procedure_at m o ≡ None) → RiseFrom (λ row. row.entry) (at + more) rows
procedure-before m at more context [] a h = tt
procedure-before m at more context (row ∷ rows) a h = (
  elim (cases_lt row.entry (at + more)) [
    | inr high ↦ high
    | inl low ↦
        let here : procedure_at m row.entry ≡ Some (record { context = context; procedure = procedure_of row }) =
        a.same row.entry a.rise.0 ∙ from-here context row.entry (procedure_of row) (map procedure_of rows) refl in
        let clash : None ≡ Some (record { context = context; procedure = procedure_of row }) =
        sym (h row.entry a.rise.0 low) ∙ here in
        absurd (cc)
  ],
  a.rise.1,
)

-- all rows of a module
pub left-first : (m : Contents) (rows : Rows) → Keeps m → m.labels ≡ map label_of rows.labels.now
    → m.procedures ≡ map procedure_of rows.procedures.now → rows.context ≡ 1 → AreLeft m 0 rows
left-first m rows keeps labels procedures first = record {
  labels = labels-first m rows.labels.now keeps labels;
  procedures = subst (λ n. ProceduresLeft m 0 n rows.procedures.now) (sym first)
      (procedures-first m rows.procedures.now keeps procedures);
}

-- after offsets at which the tables name no start
pub left-further : (m : Contents) (at more : ℕ) (rows : Rows) → AreLeft m at rows → start_among m at more ≡ None
    → AreLeft m (at + more) rows
left-further m at more rows a none =
    let nothing : (o : ℕ) → at ≤ o → o < at + more → (label_at m o ≡ None) × (procedure_at m o ≡ None) =
    λ o low high. start_of_none m o (no_first_start m at more none o low high) in
    record {
      labels = record {
        rise = label-before m at more rows.labels.now a.labels (λ o low high. (nothing o low high).0);
        sound = a.labels.sound;
        same = λ o l. a.labels.same o (omega arith);
      };
      procedures = record {
        rise = procedure-before m at more rows.context rows.procedures.now a.procedures
            (λ o low high. (nothing o low high).1);
        same = λ o l. a.procedures.same o (omega arith);
        behind_root = a.procedures.behind_root;
        rest = a.procedures.rest;
      };
    }
