-- Processes and programs, and the lines that they are written on. The layout is that of the occam 2 reference manual:
-- a body is one level deeper than its head.
use Rattle.std.specs.Prelude.{◌≡◌, ℕ, ◌+◌, ◌≤◌, List, [], ◌∷◌, ◌++◌, map, Option, Some, None}
use Rattle.occam_layout.specs.declared.token.Line as line_type
use Rattle.occam_layout.specs.declared.mark.Mark.TheVariants as mark
use Rattle.occam_parser.specs.declared.head.BlockKind.{BlockKind}
use Rattle.occam_parser.specs.declared.head.BlockKind.TheVariants as block
use Rattle.occam_parser.specs.Terminals.{Terminal, Mark, terminals_of}
use Rattle.occam_parser.specs.Expressions.{Expression, written}
use Rattle.occam_parser.specs.Lines.{Constant, Constants, Variables, Channels, Declaration, Action, Replicator, Guard}
use Rattle.occam_parser.specs.Lines.{ProcHead, written_constant, written_declaration, written_action}
use Rattle.occam_parser.specs.Lines.{written_replicator, block_word, written_guard, written_proc_head, IsWhole}
use Rattle.occam_parser.specs.Lines.{FitsConstant, FitsDeclaration, FitsAction, FitsReplicator, FitsGuard, FitsProcHead}

-- a line, apart from where its tokens are
pub record Row : Type 0 where
  pub number : ℕ
  pub level : ℕ
  pub terminals : List Terminal

abbrev pub row_of : line_type.Line → Row
row_of l = record { number = l.number; level = l.level; terminals = terminals_of l.tokens.items }

abbrev pub rows_of : List line_type.Line → List Row
rows_of lines = map row_of lines

-- ---- trees

-- what is side by side below the head of a block
pub data Part : Type 0 where
  Processes : Part
  Choices : Part
  Branches : Part

abbrev pub part_of : BlockKind → Part
part_of block.Seq = Processes
part_of block.Par = Processes
part_of block.If = Choices
part_of block.Alt = Branches

mutual
  -- declarations, and then a construct with the number of its line
  pub data Process : Type 0 where
    Declared : (declaration : Declaration) → (process : Process) → Process
    Does : (line : ℕ) → (construct : Construct) → Process

  pub data Construct : Type 0 where
    Act : (action : Action) → Construct
    Block : (kind : BlockKind) → (components : Components (part_of kind)) → Construct
    Replicated : (replicator : Replicator) → (body : Body) → Construct

  -- the one component under a replicator
  pub data Body : Type 0 where
    One : (kind : BlockKind) → (component : Component (part_of kind)) → Body

  -- from the first one on
  pub data Components : Part → Type 0 where
    NoComponent : {part : Part} → Components part
    Further : {part : Part} → (components : Components part) → (last : Component part) → Components part

  -- a process of a SEQ or PAR, a choice of an IF, a branch of an ALT
  pub data Component : Part → Type 0 where
    Plain : (process : Process) → Component Processes
    Chosen : (line : ℕ) → (condition : Expression) → (process : Process) → Component Choices
    Guarded : (line : ℕ) → (guard : Guard) → (process : Process) → Component Branches

pub record Procedure : Type 0 where
  pub line : ℕ
  pub head : ProcHead
  pub body : Process

pub data ProgramItem : Type 0 where
  GlobalConstant : (constant : Constant) → ProgramItem
  GlobalProcedure : (procedure : Procedure) → ProgramItem

abbrev pub item_line : ProgramItem → ℕ
item_line (GlobalConstant c) = c.line
item_line (GlobalProcedure p) = p.line

-- ---- how they are written

abbrev pub declaration_line : Declaration → ℕ
declaration_line (Constants c) = c.line
declaration_line (Variables n) = n.line
declaration_line (Channels n) = n.line

-- the line that a block begins with
abbrev pub block_row : ℕ → ℕ → BlockKind → Option Replicator → Row
block_row line level kind replicator =
    record { number = line; level = level; terminals = block_word kind ∷ written_replicator replicator }

abbrev mutual
  pub lines_of : Process → ℕ → List Row
  lines_of (Declared d p) level = record {
    number = declaration_line d;
    level = level;
    terminals =
        written_declaration d;
  } ∷ lines_of p level
  lines_of (Does line c) level = lines_of_construct c line level

  pub lines_of_construct : Construct → ℕ → ℕ → List Row
  lines_of_construct (Act a) line level = record { number = line; level = level; terminals = written_action a } ∷ []
  lines_of_construct (Block kind components) line level =
      block_row line level kind None ∷ lines_of_components components (level + 1)
  lines_of_construct (Replicated replicator body) line level = lines_of_body body replicator line level

  pub lines_of_body : Body → Replicator → ℕ → ℕ → List Row
  lines_of_body (One kind component) replicator line level =
      block_row line level kind (Some replicator) ∷ lines_of_component component (level + 1)

  pub lines_of_components : {part : Part} → Components part → ℕ → List Row
  lines_of_components NoComponent level = []
  lines_of_components (Further cs c) level = lines_of_components cs level ++ lines_of_component c level

  pub lines_of_component : {part : Part} → Component part → ℕ → List Row
  lines_of_component (Plain p) level = lines_of p level
  lines_of_component (Chosen line e p) level =
      record { number = line; level = level; terminals = written e } ∷ lines_of p (level + 1)
  lines_of_component (Guarded line g p) level =
      record { number = line; level = level; terminals = written_guard g } ∷ lines_of p (level + 1)

-- ---- when they fit: each line is at level 64 at most

abbrev mutual
  pub FitsProcess : Process → ℕ → Type 0
  FitsProcess (Declared d p) level = (level ≤ 64) × FitsDeclaration (declaration_line d) d × FitsProcess p level
  FitsProcess (Does line c) level = (level ≤ 64) × FitsConstruct c level

  pub FitsConstruct : Construct → ℕ → Type 0
  FitsConstruct (Act a) level = FitsAction a
  FitsConstruct (Block kind components) level = FitComponents components (level + 1)
  FitsConstruct (Replicated replicator body) level = FitsReplicator (Some replicator) × FitsBody body (level + 1)

  pub FitsBody : Body → ℕ → Type 0
  FitsBody (One kind component) level = FitsComponent component level

  pub FitComponents : {part : Part} → Components part → ℕ → Type 0
  FitComponents NoComponent level = Unit {0}
  FitComponents (Further cs c) level = FitComponents cs level × FitsComponent c level

  pub FitsComponent : {part : Part} → Component part → ℕ → Type 0
  FitsComponent (Plain p) level = FitsProcess p level
  FitsComponent (Chosen line e p) level = (level ≤ 64) × IsWhole e × FitsProcess p (level + 1)
  FitsComponent (Guarded line g p) level = (level ≤ 64) × FitsGuard g × FitsProcess p (level + 1)

-- ---- programs

abbrev pub proc_row : Procedure → Row
proc_row p = record { number = p.line; level = 0; terminals = Mark mark.Proc ∷ written_proc_head p.head }

-- the line that ends a procedure, whatever its number
abbrev pub colon_row : ℕ → Row
colon_row number = record { number = number; level = 0; terminals = Mark mark.Colon ∷ [] }

abbrev pub constant_row : Constant → Row
constant_row c = record { number = c.line; level = 0; terminals = Mark mark.Val ∷ written_constant c }

-- these lines are this program
abbrev pub IsProgram : List Row → List ProgramItem → Type 0
IsProgram rows [] = rows ≡ []
IsProgram rows (GlobalConstant c ∷ items) = (rest : List Row) × (rows ≡ constant_row c ∷ rest) × FitsConstant c.line
    c × IsProgram rest items
IsProgram rows (GlobalProcedure p ∷ items) =
    (number : ℕ) × (rest : List Row) × (rows ≡ proc_row p ∷ (lines_of p.body 1 ++ colon_row number ∷ rest)) ×
    FitsProcHead p.head × FitsProcess p.body 1 × IsProgram rest items
