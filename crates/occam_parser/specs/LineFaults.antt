-- How a fault of one line is reported.
use Rattle.std.specs.Prelude.{◌≡◌, ◌⊎◌, ℕ, Bool, true, false, List, [], ◌∷◌, ◌++◌, length, ◌<◌, ◌≤◌, Option, Some, None}
use Rattle.std.specs.Prelude.{Result, Ok, Err}
use Rattle.std.specs.Borrow.{Bor}
use Rattle.occam_layout.specs.declared.token.Line.{Line}
use Rattle.occam_layout.specs.declared.token.Token.{Token}
use Rattle.occam_parser.specs.declared.fault.LineError.{LineError}
use Rattle.occam_parser.specs.declared.fault.LineError.TheVariants as errors
use Rattle.occam_parser.specs.declared.fault.ParseFault.{ParseFault}
use Rattle.occam_parser.specs.declared.fault.TheConstants.{UNEXPECTED_TOKEN, MIXTURE, MEMORY}
use Rattle.occam_parser.specs.declared.fault.Refusal.{Refusal}
use Rattle.occam_parser.specs.declared.fault.Refusal.TheVariants as refusals
use Rattle.occam_layout.specs.declared.mark.Mark.{Mark}
use Rattle.occam_layout.specs.declared.mark.Mark.TheVariants as mark
use Rattle.occam_parser.specs.declared.tree.ValueType.{ValueType}
use Rattle.occam_parser.specs.declared.tree.Expr.{Expr}
use Rattle.occam_parser.specs.declared.tree.Operation.{Operation}
use Rattle.occam_parser.specs.Terminals.{Terminal, terminals_of}
use Rattle.occam_parser.specs.OneOrMore.{OneOrMore}
use Rattle.occam_parser.specs.Views.{expression_of, operation_of}
use Rattle.occam_parser.specs.Reading.{Reads, ◌>>=◌, Fails, Gives, behind, list_of}
use Rattle.occam_parser.specs.LineReading.{shape_at, name_at, only}
use Rattle.occam_parser.specs.Blocks.{Row, rows_of, Procedure, ProgramItem, GlobalProcedure}
use Rattle.occam_parser.specs.BlockReading.{begins_at}

-- memory ran out, which is no line's fault
abbrev pub out_of_memory : ParseFault
out_of_memory = record { number = MEMORY; line = 0 }

-- a line of these has this number
abbrev pub IsNumbered : List Row → ℕ → Type 0
IsNumbered [] number = ⊥
IsNumbered (row ∷ rows) number = (row.number ≡ number) ⊎ IsNumbered rows number

-- a fault of the grammar, at one of these lines
pub record IsAtLine (rows : List Row) (fault : ParseFault) : Type 0 where
  pub least : UNEXPECTED_TOKEN ≤ fault.number
  pub greatest : fault.number ≤ MIXTURE
  pub line : IsNumbered rows fault.line

-- why these lines are refused: memory ran out, or one of them is at fault
abbrev pub IsRefusal : List Row → ParseFault → Type 0
IsRefusal rows fault = (fault ≡ out_of_memory) ⊎ IsAtLine rows fault

-- a refusal of these lines, as it is reported
abbrev pub IsTold : List Row → Refusal → ParseFault → Type 0
IsTold rows refusals.Memory told = told ≡ out_of_memory
IsTold [] (refusals.Fault fault left) told = Unit {0}
IsTold (row ∷ rows) (refusals.Fault fault left) told = IsAtLine (row ∷ rows) told

-- what a line gave, with its fault placed
abbrev pub IsToldOf : {A : Type 0} → Result A LineError → ℕ → Result A Refusal → Type 0
IsToldOf (Ok x) left told = told ≡ Ok x
IsToldOf (Err errors.Memory) left told = told ≡ Err refusals.Memory
IsToldOf (Err (errors.Fault fault)) left told = told ≡ Err (refusals.Fault fault left)

-- Memory may always run out. Otherwise it is what reading gives; a fault is returned exactly if that is nothing.
abbrev pub Lacks : {Y : Type 0} → Refusal → Option Y → Type 0
Lacks refusals.Memory read = Unit {0}
Lacks (refusals.Fault fault left) read = read ≡ None

abbrev pub Tells : {X Y : Type 0} → (X → Y) → Result X Refusal → Option Y → Type 0
Tells view (Ok x) read = read ≡ Some (view x)
Tells view (Err e) read = Lacks e read

-- what was looked for is returned, unless memory ran out
abbrev pub Answers : {X Y : Type 0} → (X → Y) → Result X ParseFault → Y → Type 0
Answers view (Ok x) y = view x ≡ y
Answers view (Err e) y = e ≡ out_of_memory

-- a type, or CHAN OF a type, and a name after it
unfoldable pub shaped_name_at : Reads ((Bool × ValueType) × List ℕ)
shaped_name_at ts = do
  shape ← shape_at ts
  name ← name_at shape.1
  Some ((shape.0, name.0), name.1)

-- a type, or CHAN OF a type, and names after it up to the end of the line
unfoldable pub shaped_names_at : List Terminal → Option ((Bool × ValueType) × OneOrMore (List ℕ))
shaped_names_at ts = do
  shape ← shape_at ts
  names ← list_of name_at shape.1
  rest ← behind mark.Colon names.1
  only (shape.0, names.0) rest

-- What was read, up to a mark: its fault, or that of a mark that is missing, or the same and the tokens after the
-- mark.
abbrev pub GoesUpTo : {A : Type 0} → Mark → (read answer : Result (A × Bor (List Token)) LineError) → Type 0
GoesUpTo mark (Err e) answer = answer ≡ Err e
GoesUpTo mark (Ok x) (Err e) = Fails e (behind mark (terminals_of x.1.now))
GoesUpTo mark (Ok x) (Ok y) = (y.0 ≡ x.0) × (behind mark (terminals_of x.1.now) ≡ Some (terminals_of y.1.now)) ×
    (length y.1.now < length x.1.now)

-- the expression that an operation is, beside the tokens after it, unless memory ran out
abbrev pub IsMadeOf : Operation → Bor (List Token) → Result (Expr × Bor (List Token)) LineError → Type 0
IsMadeOf operation rest (Ok x) = (expression_of x.0 ≡ operation_of operation) × (x.1 ≡ rest)
IsMadeOf operation rest (Err e) = e ≡ errors.Memory

-- what was read before, beside what was read next: the fault of that, or both
abbrev pub IsBeside : {A B E : Type 0} → A → Result B E → Result (A × B) E → Type 0
IsBeside before (Err e) answer = answer ≡ Err e
IsBeside before (Ok x) answer = answer ≡ Ok (before, x)

-- what was read, where it is all of the line
abbrev pub IsAll : {A : Type 0} → Result (A × Bor (List Token)) LineError → Result A LineError → Type 0
IsAll (Err e) answer = answer ≡ Err e
IsAll (Ok x) answer = Gives (λ y. y) answer (only x.0 (terminals_of x.1.now))

-- What was read, pushed: its refusal, out of memory, or one item more and the lines after it.
abbrev pub Pushes : {A : Type 0} → Result (A × Bor (List Line)) Refusal → (old new : List A)
    → Result (Bor (List Line)) Refusal → Type 0
Pushes (Err e) old new answer = answer ≡ Err e
Pushes (Ok x) old new (Err e) = e ≡ refusals.Memory
Pushes (Ok x) old new (Ok rest) = (new ≡ old ++ x.0 ∷ []) × (rest.now ≡ x.1.now)

-- What was read and is seen so, made into what is seen as another tree: its refusal, out of memory, or that tree,
-- and the same lines after it.
abbrev pub Makes : {A B X Y : Type 0} → (A → X) → (B → Y) → (X → Y) → Result (A × Bor (List Line)) Refusal
    → Result (B × Bor (List Line)) Refusal → Type 0
Makes seen view make (Err e) answer = answer ≡ Err e
Makes seen view make (Ok x) (Ok y) = (view y.0 ≡ make (seen x.0)) × (y.1 ≡ x.1)
Makes seen view make (Ok x) (Err e) = e ≡ refusals.Memory

-- What was read, if no other line at the level follows: its refusal, or a fault, or the same.
abbrev pub IsOnlyOne : {A : Type 0} → ℕ → (read answer : Result (A × Bor (List Line)) Refusal) → Type 0
IsOnlyOne level (Err e) answer = answer ≡ Err e
IsOnlyOne level (Ok x) (Err e) = begins_at level (rows_of x.1.now) ≡ true
IsOnlyOne level (Ok x) (Ok y) = (y.0 ≡ x.0) × (y.1.now ≡ x.1.now) × (begins_at level (rows_of x.1.now) ≡ false)

-- a procedure that was read, as an item
abbrev pub as_item : Option (Procedure × List Row) → Option (ProgramItem × List Row)
as_item read = do
  procedure ← read
  Some (GlobalProcedure procedure.0, procedure.1)
