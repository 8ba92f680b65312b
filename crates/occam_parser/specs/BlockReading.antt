-- Reading processes and programs line by line.
use Rattle.std.specs.Prelude.{ℕ, zero, suc, ◌+◌, Bool, true, false, not, ◌&&◌, List, [], ◌∷◌, ◌++◌}
use Rattle.std.specs.Prelude.{length, nat_lt, ◌==◌, if◌then◌else◌, Option, Some, None}
use Rattle.occam_layout.specs.declared.mark.Mark.TheVariants as mark
use Rattle.occam_parser.specs.declared.head.BlockKind.{BlockKind}
use Rattle.occam_parser.specs.Terminals.{Terminal, Mark}
use Rattle.occam_parser.specs.Reading.{◌>>=◌, behind}
use Rattle.occam_parser.specs.Lines.{Declaration, Replicator, Head, Declares, Acts, Opens}
use Rattle.occam_parser.specs.LineReading.{ended, head_at, whole_at, guard_at, constant_at, proc_head_at}
use Rattle.occam_parser.specs.Blocks.{Row, Process, Declared, Does, Construct, Act, Block, Replicated, Body, One, Part}
use Rattle.occam_parser.specs.Blocks.{Processes, Choices, Branches, part_of, Components, NoComponent, Further}
use Rattle.occam_parser.specs.Blocks.{Component, Plain, Chosen, Guarded, Procedure, ProgramItem, GlobalConstant}
use Rattle.occam_parser.specs.Blocks.{GlobalProcedure}

-- what is read from the first lines, and the lines after them, if it is there
abbrev pub ReadsLines : Type 0 → Type 0
ReadsLines A = List Row → Option (A × List Row)

-- ---- lines at a level

abbrev pub is_at : ℕ → Row → Bool
is_at level r = (r.level == level) && not (nat_lt 64 r.level)

abbrev pub first_row : ℕ → ReadsLines Row
first_row level [] = None
first_row level (r ∷ rows) = if is_at level r then Some (r, rows) else None

abbrev pub begins_at : ℕ → List Row → Bool
begins_at level [] = false
begins_at level (r ∷ rows) = r.level == level

-- ---- declarations

-- declarations, the number of the line after them, and what that line begins
pub record Beginning : Type 0 where
  pub declarations : List Declaration
  pub line : ℕ
  pub start : Head

abbrev pub begun : List Declaration → ℕ → List Row → (List Declaration → Option (Beginning × List Row)) → Option Head
    → Option (Beginning × List Row)
begun found line rows more None = None
begun found line rows more (Some (Declares d)) = more (found ++ d ∷ [])
begun found line rows more (Some (Acts a)) = Some (record { declarations = found; line = line; start = Acts a }, rows)
begun found line rows more (Some (Opens kind replicator)) =
    Some (record { declarations = found; line = line; start = Opens kind replicator }, rows)

unfoldable pub beginning_from : ℕ → List Declaration → ReadsLines Beginning
beginning_from level found [] = None
beginning_from level found (r ∷ rows) =
    if is_at level r then begun found r.number rows (λ more. beginning_from level more rows)
    (head_at r.number r.terminals) else None

abbrev pub with_declarations : List Declaration → Process → Process
with_declarations [] p = p
with_declarations (d ∷ ds) p = Declared d (with_declarations ds p)

-- the process that a construct is, after declarations
abbrev pub behind_declarations : List Declaration → ℕ → Construct → Process
behind_declarations declarations line c = with_declarations declarations (Does line c)

-- ---- components

-- one more component where a line at the level comes next
abbrev pub component_step : {part : Part} → Option (Components part × List Row) → Components part → List Row → Bool
    → Option (Components part × List Row)
component_step more found rows false = Some (found, rows)
component_step more found rows true = more

-- The number bounds the turns: the count of the lines is enough.
unfoldable pub components_from : {part : Part} → ReadsLines (Component part) → ℕ → ℕ → Components part
    → ReadsLines (Components part)
components_from item level zero found rows = component_step None found rows (begins_at level rows)
components_from item level (suc n) found rows =
    component_step (item rows >>= λ x. components_from item level n (Further found x.0) x.1) found rows
    (begins_at level rows)

unfoldable pub components_of : {part : Part} → ReadsLines (Component part) → ℕ → ReadsLines (Components part)
components_of item level rows = components_from item level (length rows) NoComponent rows

-- what was read, unless another line at the level follows
unfoldable pub only_one : {A : Type 0} → ℕ → Option (A × List Row) → Option (A × List Row)
only_one level read = read >>= λ x. if begins_at level x.1 then None else Some x

-- ---- processes

-- what was read, made into another tree
unfoldable pub read_as : {A B : Type 0} → (A → B) → Option (A × List Row) → Option (B × List Row)
read_as make read = read >>= λ x. Some (make x.0, x.1)

-- a block without a replicator
abbrev pub block_with : (kind : BlockKind) → Option (Components (part_of kind) × List Row)
    → Option (Construct × List Row)
block_with kind read = read_as (Block kind) read

-- a block under a replicator
abbrev pub replicated_with : Replicator → Option (Body × List Row) → Option (Construct × List Row)
replicated_with replicator read = read_as (Replicated replicator) read

abbrev pub body_with : (kind : BlockKind) → Option (Component (part_of kind) × List Row) → Option (Body × List Row)
body_with kind read = read_as (One kind) read

abbrev pub construct_behind : ((part : Part) → ReadsLines (Component part)) → ℕ → BlockKind → Option Replicator
    → ReadsLines Construct
construct_behind component level kind None rows = block_with kind (components_of (component (part_of kind)) level rows)
construct_behind component level kind (Some replicator) rows =
    replicated_with replicator (only_one level (body_with kind (component (part_of kind) rows)))

abbrev pub process_behind : ((part : Part) → ReadsLines (Component part)) → ℕ → Beginning → List Row → Head
    → Option (Process × List Row)
process_behind component level b rows (Acts a) = Some (with_declarations b.declarations (Does b.line (Act a)), rows)
process_behind component level b rows (Opens kind replicator) = do
  x ← construct_behind component (level + 1) kind replicator rows
  Some (with_declarations b.declarations (Does b.line x.0), x.1)
process_behind component level b rows (Declares d) = None

-- a process at a level, from the components that are one level deeper
unfoldable pub process_with : ((part : Part) → ReadsLines (Component part)) → ℕ → ReadsLines Process
process_with component level rows = do
  b ← beginning_from level [] rows
  process_behind component level b.0 b.1 b.0.start

-- the number of a line at a level, and what it says
unfoldable pub head_row : {A : Type 0} → (List Terminal → Option A) → ℕ → ReadsLines (ℕ × A)
head_row says level rows = do
  r ← first_row level rows
  head ← says r.0.terminals
  Some ((r.0.number, head), r.1)

-- a component that is made of what its line says, and of the process below
unfoldable pub headed_with : {A : Type 0} → {part : Part} → (List Terminal → Option A)
    → (ℕ → A → Process → Component part) → ReadsLines Process → ℕ → ReadsLines (Component part)
headed_with says make process level rows = do
  head ← head_row says level rows
  p ← process head.1
  Some (make head.0.0 head.0.1 p.0, p.1)

abbrev pub plain : Option (Process × List Row) → Option (Component Processes × List Row)
plain read = read >>= λ p. Some (Plain p.0, p.1)

abbrev pub component_with : (process deeper : ReadsLines Process) → ℕ → (part : Part) → ReadsLines (Component part)
component_with process deeper level Processes rows = plain (process rows)
component_with process deeper level Choices rows = headed_with whole_at Chosen deeper level rows
component_with process deeper level Branches rows = headed_with guard_at Guarded deeper level rows

abbrev pub no_lines : {A : Type 0} → ReadsLines A
no_lines rows = None

-- The first number says how many levels there are from this one on.
unfoldable mutual
  pub process_at : ℕ → ℕ → ReadsLines Process
  process_at zero level = no_lines
  process_at (suc n) level = process_with (component_at n (level + 1)) level

  pub component_at : ℕ → ℕ → (part : Part) → ReadsLines (Component part)
  component_at zero level part = no_lines
  component_at (suc n) level part = component_with (process_with (component_at n (level + 1)) level)
      (process_at n (level + 1)) level part

-- ---- programs

abbrev pub is_colon : Row → Option (List Terminal) → Bool
is_colon r None = false
is_colon r (Some after) = (r.level == 0) && ended after

unfoldable pub behind_colon : List Row → Option (List Row)
behind_colon [] = None
behind_colon (r ∷ rows) = if is_colon r (behind mark.Colon r.terminals) then Some rows else None

unfoldable pub procedure_at : ℕ → List Terminal → ReadsLines Procedure
procedure_at line ts rows = do
  head ← proc_head_at ts
  body ← process_at 64 1 rows
  rest ← behind_colon body.1
  Some (record { line = line; head = head; body = body.0 }, rest)

unfoldable pub item_with : ℕ → List Row → List Terminal → Option (ProgramItem × List Row)
item_with line rows [] = None
item_with line rows (Mark mark.Val ∷ ts) = do
  constant ← constant_at line ts
  Some (GlobalConstant constant, rows)
item_with line rows (Mark mark.Proc ∷ ts) = do
  procedure ← procedure_at line ts rows
  Some (GlobalProcedure procedure.0, procedure.1)
item_with line rows (t ∷ ts) = None

unfoldable pub item_at : Row → ReadsLines ProgramItem
item_at r rows = if nat_lt 0 r.level then None else item_with r.number rows r.terminals

-- ---- all items

-- the items of a program, after those that were found; the number bounds the turns
unfoldable pub items_from : ℕ → List ProgramItem → List Row → Option (List ProgramItem)
items_from n found [] = Some found
items_from zero found (r ∷ rows) = None
items_from (suc n) found (r ∷ rows) = do
  x ← item_at r rows
  items_from n (found ++ x.0 ∷ []) x.1

unfoldable pub program_at : List Row → Option (List ProgramItem)
program_at rows = items_from (length rows) [] rows
