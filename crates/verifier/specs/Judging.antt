-- What the functions of the code return, in terms of the verdict.
use Rattle.std.specs.Prelude.{◌≡◌, ℕ, ◌+◌, ◌-◌, ◌≤◌, Bool, List, [], ◌∷◌, map, drop, find, ◌==◌, slice_get, Option}
use Rattle.std.specs.Prelude.{Some, None, Result, Ok, Err, ⊤, if◌then◌else◌}
use Rattle.std.specs.List.{AllByRecursion}
use Rattle.module_format.specs.Rows.{LabelRow}
use Rattle.module_format.specs.Rows.{ProcedureRow}
use Rattle.module_format.specs.Contents.{Contents, Label, label_at, label_of, procedure_of}
use Rattle.certificate.specs.Starts.{procedure_from, procedure_at}
use Rattle.states.specs.Rows.{AreApart, IsRowOf}
use Rattle.states.specs.declared.rule.Rule.{Rule}
use Rattle.states.specs.Numbers.{number_of}
use Rattle.states.specs.State.{State}
use Rattle.verifier.specs.declared.Refusal.{Refusal}
use Rattle.verifier.specs.declared.stop.Stop.{Stop}
use Rattle.verifier.specs.declared.stop.Stop.TheVariants as stops
use Rattle.verifier.specs.Reports.{out_of_memory}
use Rattle.verifier.specs.Judge.{verdict}
use Rattle.verifier.specs.declared.rows.Given.{Given}
use Rattle.verifier.specs.declared.rows.Given.TheVariants as given_variants
use Rattle.verifier.specs.declared.rows.Rows.{Rows}

-- the state that falls into an offset, if one does
abbrev pub falling_state : Bool → State → Option State
falling_state falls s = if falls then Some s else None

-- what falls into the next offset, where the state after the instruction is this one
abbrev pub Judges : Result Bool Rule → State → Result (Option State) Rule → Type 0
Judges (Ok falls) after judged = judged ≡ Ok (falling_state falls after)
Judges (Err broken) after judged = judged ≡ Err broken

-- the pass stops as the verdict says, unless memory ran out
abbrev pub StopsBy : Contents → Stop → Type 0
StopsBy m (stops.Broken breach) = verdict m ≡ Err breach
StopsBy m stops.Memory = ⊤

-- a stop, as it is reported
abbrev pub refusal_of : Stop → Refusal
refusal_of (stops.Broken breach) = record { number = number_of breach.rule; offset = breach.offset }
refusal_of stops.Memory = out_of_memory

-- ---- the rows that are left

-- the rows are at this offset or after it, one after another
abbrev pub RiseFrom : {A : Type 0} → (A → ℕ) → ℕ → List A → Type 0
RiseFrom offset_of at [] = ⊤
RiseFrom offset_of at (row ∷ rows) = (at ≤ offset_of row) × RiseFrom offset_of (offset_of row + 1) rows

-- the label at an offset
abbrev pub label_in : List LabelRow → ℕ → Option Label
label_in rows at = find (λ row. row.offset == at) (map label_of rows)

-- the label rows of the module from this offset on
pub record LabelsLeft (m : Contents) (at : ℕ) (rows : List LabelRow) : Type 0 where
  pub rise : RiseFrom (λ row. row.offset) at rows
  pub sound : AllByRecursion (IsRowOf m) (map label_of rows)
  pub same : (o : ℕ) → at ≤ o → label_at m o ≡ label_in rows o

-- the procedure rows of the module from this offset on, of which the first has this context
pub record ProceduresLeft (m : Contents) (at context : ℕ) (rows : List ProcedureRow) : Type 0 where
  pub rise : RiseFrom (λ row. row.entry) at rows
  pub same : (o : ℕ) → at ≤ o → procedure_at m o ≡ procedure_from context (map procedure_of rows) o
  pub behind_root : 1 ≤ context
  pub rest : drop (context - 1) m.procedures ≡ map procedure_of rows

-- the rows of the module from this offset on
pub record AreLeft (m : Contents) (at : ℕ) (rows : Rows) : Type 0 where
  pub labels : LabelsLeft m at rows.labels.now
  pub procedures : ProceduresLeft m at rows.context rows.procedures.now

-- ---- what the tables give

-- the row is that of the label at the offset
pub record IsLabelRow (m : Contents) (at : ℕ) (row : LabelRow) : Type 0 where
  pub found : label_at m at ≡ Some (label_of row)
  pub sound : IsRowOf m (label_of row)

-- the procedure of this context begins at the offset
pub record Begins (m : Contents) (at context : ℕ) (row : ProcedureRow) : Type 0 where
  pub found : procedure_at m at ≡ Some (record { context = context; procedure = procedure_of row })
  pub behind_root : 1 ≤ context
  pub is : slice_get m.procedures (context - 1) ≡ Some (procedure_of row)

-- what was found is what the tables give at the offset
abbrev pub IsGiven : Contents → ℕ → Given → Type 0
IsGiven m at given_variants.Nothing = (label_at m at ≡ None) × (procedure_at m at ≡ None)
IsGiven m at (given_variants.Label row) = IsLabelRow m at row.now
IsGiven m at (given_variants.Procedure context row) = (label_at m at ≡ None) × Begins m at context row.now

-- a label that was found can be compared with
abbrev pub IsComparable : Given → Type 0
IsComparable given_variants.Nothing = ⊤
IsComparable (given_variants.Label row) = AreApart row.now.entries.items
IsComparable (given_variants.Procedure context row) = ⊤
