-- What a cursor did that keeps its first failure.
use Rattle.std.specs.Prelude.{◌≡◌, ⊤, ℕ, Bool, true, false, List, Option, Some, None, Result, Ok, Err}
use Rattle.module_format.specs.declared.fault.FormatFault.{FormatFault}
use Rattle.module_format.specs.declared.fault.FormatFaultKind.{FormatFaultKind}
use Rattle.module_format.specs.declared.fault.ReadError.{ReadError}
use Rattle.module_format.specs.declared.fault.ReadError.TheVariants as errors
use Rattle.module_format.specs.declared.reading.cursor.Cursor.{Cursor}
use Rattle.module_format.specs.Reading.{Read, Fails, Gives, fault}

-- A cursor without a failure took what a reader on lists gives; or it keeps a failure: the fault that the reader on
-- lists gives, or that memory ran out.
abbrev pub Took : {A : Type 0} → Read A → A → Option ReadError → List ℕ → Type 0
Took read x None rest = read ≡ Ok (x, rest)
Took read x (Some e) rest = Fails e read

-- the same of a cursor that may have failed before: then it keeps that failure
abbrev pub TookAfter : {A : Type 0} → (List ℕ → Read A) → Option ReadError → List ℕ
    → A → Option ReadError → List ℕ → Type 0
TookAfter reader (Some e) rest x failure left = failure ≡ Some e
TookAfter reader None rest x failure left = Took (reader rest) x failure left

-- what a cursor did, where the reader on lists takes the length of the file too
pub record Takes {A : Type 0} (reader : ℕ → List ℕ → Read A) (old : Cursor) (x : A) (new : Cursor) : Type 0 where
  pub same : new.size ≡ old.size
  pub took : TookAfter (reader old.size) old.failure old.rest.now x new.failure new.rest.now

-- a reader that takes nothing
abbrev pub nothing_at : ℕ → List ℕ → Read ⊤
nothing_at size rest = Ok (tt, rest)

-- a cursor is where it was, and may have run out of memory
abbrev pub MayRunOut : Cursor → Cursor → Type 0
MayRunOut old new = Takes nothing_at old tt new

-- a cursor reads nothing
pub record Stays (old new : Cursor) : Type 0 where
  pub same : new.size ≡ old.size
  pub rest : new.rest.now ≡ old.rest.now

-- the failure after a test of a field at an offset
abbrev pub failure_after : Option ReadError → Bool → FormatFaultKind → ℕ → Option ReadError
failure_after (Some e) holds kind at = Some e
failure_after None true kind at = None
failure_after None false kind at = Some (errors.Fault (fault kind at))

-- the failure after memory ran out
abbrev pub memory_after : Option ReadError → Option ReadError
memory_after (Some e) = Some e
memory_after None = Some errors.Memory

-- what is returned once a cursor went over a file: its failure, or what the remaining checks give
abbrev pub Concludes : {X Y : Type 0} → (X → Y) → Option ReadError → Result X ReadError → Result Y FormatFault → Type 0
Concludes view (Some e) result looked = result ≡ Err e
Concludes view None result looked = Gives view result looked

-- the failure of a cursor with this outcome
abbrev pub failure_of : Result ⊤ ReadError → Option ReadError
failure_of (Ok x) = None
failure_of (Err e) = Some e
