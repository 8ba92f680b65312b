-- Testing whether tables are valid.
use Rattle.std.proofs.Common.{◌≡◌, ℕ, ◌<◌, ◌≤◌, length, drop, Bool, true, false, ◌↔◌, List, [], ◌∷◌, refl, sym, arith}
use Rattle.std.proofs.Common.{map, eqb, ◌+◌, ◌^◌, Result, Ok, Err}
use Rattle.std.specs.Prelude.{IsTrue, not, is_ok}
use Rattle.std.specs.List.{list_any, flat_map, AllByRecursion}
use Rattle.module_format.specs.Contents.{Procedure, procedure_of, Contents}
use Rattle.module_format.specs.Facts.{IsLabelOffset}
use Rattle.std.specs.Int.{w32, cast_signed}
use Rattle.byteorder.specs.Endian.{little_number}
use Rattle.module_format.specs.Procedures.{ProcedureFits, words_in_bytes}
use Rattle.module_format.specs.Rows.{ProcedureRow}
use Rattle.module_format.specs.declared.tables.Version.TheVariants as versions
use Rattle.module_format.specs.declared.fault.FormatFault.{FormatFault}
use Rattle.module_format.specs.Keeping.{LimitsKeep, RowsKeep, NamesAreThere}
use Rattle.module_format.specs.Spelling.{label_bytes, par_bytes}
use Rattle.module_format.specs.Reading.{Tells}
use Rattle.module_format.specs.References.{references_at}
use Rattle.module_format.proofs.ReadsInSteps.{has_at}
use Rattle.module_format.proofs.ReferenceLaws.{references_fit, references_pass}
use Rattle.module_format.proofs.Sizes.{labels_small, pars_small}
use Rattle.module_format.proofs.WritingLaws.{labels_writable, pars_writable}
use Rattle.module_format.proofs.RowLaws.{no_entry, none_begins}

pub offset_is : (code_len : ℕ) (procedures : List Procedure) (low offset : ℕ) (b : Bool) → low < offset
    → offset < code_len → b ≡ list_any (λ p. eqb p.entry offset) procedures
    → IsTrue (not b) ↔ IsLabelOffset code_len procedures low offset
offset_is code_len procedures low offset true rises inside e =
    (λ t. absurd cc, λ h. absurd (let n = none_begins procedures offset h.no_entry in cc))
offset_is code_len procedures low offset false rises inside e =
    (λ _. record { rises = rises; in_code = inside; no_entry = no_entry procedures offset (sym e) }, λ _. refl)

-- ---- what version 1 asks besides

-- of rows in memory and of what they say
pub procedures_fit : (rows : List ProcedureRow)
    → AllByRecursion (λ (row : ProcedureRow). ProcedureFits versions.One (procedure_of row)) rows
    ↔ AllByRecursion (ProcedureFits versions.One) (map procedure_of rows)
procedures_fit [] = (λ _. tt, λ _. tt)
procedures_fit (row ∷ rows) =
    let others = procedures_fit rows in
    (λ h. (h.0, others.0 h.1), λ h. (h.0, others.1 h.1))

-- ---- the words of the constants

pub words_step : (bytes : List ℕ) → 4 ≤ length bytes
    → words_in_bytes bytes ≡ cast_signed w32 (little_number 4 bytes) ∷ words_in_bytes (drop 4 bytes)
words_step [] h = absurd (omega arith)
words_step (a ∷ []) h = absurd (omega arith)
words_step (a ∷ b ∷ []) h = absurd (omega arith)
words_step (a ∷ b ∷ c ∷ []) h = absurd (omega arith)
words_step (a ∷ b ∷ c ∷ d ∷ more) h = refl

pub words_end : (bytes : List ℕ) → length bytes < 4 → words_in_bytes bytes ≡ []
words_end [] h = refl
words_end (a ∷ []) h = refl
words_end (a ∷ b ∷ []) h = refl
words_end (a ∷ b ∷ c ∷ []) h = refl
words_end (a ∷ b ∷ c ∷ d ∷ more) h = absurd (omega arith)

-- ---- what rows name

pub names_is : {X : Type 0} (r : Result X FormatFault) (c : Contents) (at : ℕ) → Tells r (references_at at c)
    → IsTrue (is_ok r) ↔ NamesAreThere c
names_is (Ok x) c at told = (λ _. has_at (references_at at c) tt (references_fit at c) told, λ _. refl)
names_is (Err f) c at told = (λ e. absurd cc, λ h. absurd (let p = references_pass at c h in cc))

-- the bytes of valid rows fit in memory
pub rows_in_memory : (c : Contents) → LimitsKeep c → RowsKeep c
    → 0 + length (flat_map label_bytes c.labels) + length (flat_map par_bytes c.pars) < 2 ^ 64
rows_in_memory c limits rows =
    omega (
      arith,
      limits.labels,
      limits.pars,
      labels_small c.labels (labels_writable c rows),
      pars_small c.pars (pars_writable c rows),
    )
