-- Reading a file from its front, with the first fault that is met. A reader takes the bytes that are
-- left and gives a value and the bytes after it; `size` is the length of the whole file, so that the
-- place of what is left is known.
use Rattle.std.specs.Prelude.{◌≡◌, ⊤, ℕ, zero, suc, ◌-◌, ℤ, int_le, nat_lt, nat_le, Bool, ◌&&◌, if◌then◌else◌, List, []}
use Rattle.std.specs.Prelude.{◌∷◌, length, take, drop, Result, Ok, Err}
use Rattle.std.specs.Int.{w32, cast_signed}
use Rattle.byteorder.specs.Endian.{little_number}
use Rattle.module_format.specs.declared.fault.FormatFault.{FormatFault}
use Rattle.module_format.specs.declared.fault.ReadError.{ReadError}
use Rattle.module_format.specs.declared.fault.ReadError.TheVariants as errors
use Rattle.module_format.specs.declared.fault.FormatFaultKind.{FormatFaultKind}
use Rattle.module_format.specs.declared.fault.FormatFaultKind.TheVariants as faults
use Rattle.module_format.specs.declared.fault.TheConstants.{MAGIC, TRUNCATED, ORDER, RANGE, LEFT_OVER, LIMIT, MEMORY}

-- one step, and then the next with what it gave
unfoldable pub and_then : {A B : Type 0} → Result A FormatFault → (A → Result B FormatFault) → Result B FormatFault
and_then (Ok x) f = f x
and_then (Err e) f = Err e

infixl 10 ◌>>=◌
abbrev pub ◌>>=◌ : {A B : Type 0} → Result A FormatFault → (A → Result B FormatFault) → Result B FormatFault
r >>= f = and_then r f

-- what a function returned, seen by view, is what reading gives, unless memory ran out
abbrev pub Fails : {Y : Type 0} → ReadError → Result Y FormatFault → Type 0
Fails errors.Memory read = ⊤
Fails (errors.Fault f) read = read ≡ Err f

abbrev pub Gives : {X Y : Type 0} → (X → Y) → Result X ReadError → Result Y FormatFault → Type 0
Gives view (Ok x) read = read ≡ Ok (view x)
Gives view (Err e) read = Fails e read

-- a check that can't run out of memory: what it returned is what it passes or the fault
abbrev pub Tells : {X : Type 0} → Result X FormatFault → Result ⊤ FormatFault → Type 0
Tells (Ok x) look = look ≡ Ok tt
Tells (Err f) look = look ≡ Err f

-- what a reader gives
abbrev pub Read : Type 0 → Type 0
Read A = Result (A × List ℕ) FormatFault

-- the number by which a fault is reported
abbrev pub number_of : FormatFaultKind → ℕ
number_of faults.Magic = MAGIC
number_of faults.Truncated = TRUNCATED
number_of faults.Order = ORDER
number_of faults.Range = RANGE
number_of faults.LeftOver = LEFT_OVER
number_of faults.Limit = LIMIT

-- what is reported of a fault at an offset
abbrev pub fault : FormatFaultKind → ℕ → FormatFault
fault kind offset = record { number = number_of kind; offset = offset }

-- the error if memory runs out
abbrev pub out_of_memory : FormatFault
out_of_memory = record { number = MEMORY; offset = 0 }

-- the fault that is reported of a file whose reader returned this error
abbrev pub fault_of : ReadError → FormatFault
fault_of errors.Memory = out_of_memory
fault_of (errors.Fault f) = f

-- the offset in the file of what is left of it
abbrev pub place : ℕ → List ℕ → ℕ
place size rest = size - length rest

-- ---- fields

-- a number of n bytes
unfoldable pub number_at : ℕ → ℕ → List ℕ → Read ℕ
number_at size n rest =
    if nat_lt (length rest) n then Err (fault faults.Truncated size) else Ok (little_number n rest, drop n rest)

-- a signed word
unfoldable pub int_at : ℕ → List ℕ → Read ℤ
int_at size rest = do
  n ← number_at size 4 rest
  Ok (cast_signed w32 n.0, n.1)

-- a field that was read at an offset, and has a test of its own: where it fails, the file is at fault there
unfoldable pub tested : {A : Type 0} → Read A → (A → Bool) → FormatFaultKind → ℕ → Read A
tested (Ok x) test kind at = if test x.0 then Ok x else Err (fault kind at)
tested (Err f) test kind at = Err f

-- a number of n bytes up to a limit
unfoldable pub limited_at : ℕ → ℕ → ℕ → List ℕ → Read ℕ
limited_at size n limit rest = tested (number_at size n rest) (λ x. nat_le x limit) faults.Limit (place size rest)

-- a u32 from 1 to a limit
unfoldable pub positive_at : ℕ → ℕ → List ℕ → Read ℕ
positive_at size limit rest = tested (limited_at size 4 limit rest) (nat_le 1) faults.Range (place size rest)

-- a u32 of which no value above `most` is allowed
unfoldable pub at_most_at : ℕ → ℕ → List ℕ → Read ℕ
at_most_at size most rest = tested (number_at size 4 rest) (λ x. nat_le x most) faults.Range (place size rest)

-- n bytes
unfoldable pub bytes_taken : ℕ → ℕ → List ℕ → Read (List ℕ)
bytes_taken size n rest =
    if nat_lt (length rest) n then Err (fault faults.Truncated size) else Ok (take n rest, drop n rest)

-- one byte
unfoldable pub byte_taken : ℕ → List ℕ → Read ℕ
byte_taken size [] = Err (fault faults.Truncated size)
byte_taken size (b ∷ rest) = Ok (b, rest)

-- an offset in the code that isn't its first
unfoldable pub in_code_at : ℕ → ℕ → List ℕ → Read ℕ
in_code_at size code_len rest =
    tested (number_at size 4 rest) (λ offset. nat_le 1 offset && nat_lt offset code_len) faults.Range (place size rest)

-- the last word of an interval, whose first is `lo`
unfoldable pub hi_at : ℕ → ℤ → List ℕ → Read ℤ
hi_at size lo rest = tested (int_at size rest) (int_le lo) faults.Range (place size rest)

-- the numbers of a word from lo to hi
unfoldable pub interval_at : ℕ → List ℕ → Read (ℤ × ℤ)
interval_at size rest = do
  lo ← int_at size rest
  hi ← hi_at size lo.0 lo.1
  Ok ((lo.0, hi.0), hi.1)

-- ---- lists

-- count items, each read with what those before it leave
unfoldable pub list_at : {A S : Type 0} → (S → List ℕ → Read A) → (S → A → S) → ℕ → S → List ℕ → Read (List A)
list_at item next zero low rest = Ok ([], rest)
list_at item next (suc n) low rest = do
  first ← item low rest
  others ← list_at item next n (next low first.0) first.1
  Ok (first.0 ∷ others.0, others.1)
