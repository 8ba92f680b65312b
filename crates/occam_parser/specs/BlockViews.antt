-- The trees that processes and programs of the program are.
use Rattle.std.specs.Prelude.{◌≡◌, ℕ, ◌-◌, List, map, fold, Result, Ok, Err}
use Rattle.std.specs.Borrow.{Bor}
use Rattle.occam_layout.specs.declared.token.Line.{Line}
use Rattle.occam_parser.specs.declared.fault.Refusal.{Refusal}
use Rattle.occam_parser.specs.declared.fault.Refusal.TheVariants as refusals
use Rattle.occam_parser.specs.declared.head.BlockKind.{BlockKind}
use Rattle.occam_parser.specs.declared.head.BlockKind.TheVariants as block
use Rattle.occam_parser.specs.declared.block.Components as components_type
use Rattle.occam_parser.specs.declared.block.ComponentHead as head_type
use Rattle.occam_parser.specs.declared.block.ComponentHead.TheVariants as head
use Rattle.occam_parser.specs.declared.block.Lead.{Lead}
use Rattle.occam_parser.specs.declared.tree.Process.{Process as CodeProcess}
use Rattle.occam_parser.specs.declared.tree.Construct.{Construct as CodeConstruct}
use Rattle.occam_parser.specs.declared.tree.Body.{Body as CodeBody}
use Rattle.occam_parser.specs.declared.tree.Choice.{Choice}
use Rattle.occam_parser.specs.declared.tree.Branch.{Branch}
use Rattle.occam_parser.specs.declared.tree.Body.TheOpen.{Process-F, Construct-F, Body-F, Choice-F, Branch-F}
use Rattle.occam_parser.specs.declared.tree.Body.TheFolds.{fold-Process, fold-Construct, fold-Body, fold-Choice}
use Rattle.occam_parser.specs.declared.tree.Body.TheFolds.{fold-Branch}
use Rattle.occam_parser.specs.declared.block.Opening as opening_type
use Rattle.occam_parser.specs.declared.tree.Proc as proc_type
use Rattle.occam_parser.specs.declared.tree.Item as item_type
use Rattle.occam_parser.specs.declared.tree.Item.TheVariants as item
use Rattle.occam_parser.specs.Views.{expression_of}
use Rattle.occam_parser.specs.LineViews.{declaration_of, action_of, replicator_of, guard_of, formal_of, constant_of}
use Rattle.occam_parser.specs.LineViews.{start_of}
use Rattle.occam_parser.specs.LineFaults.{Lacks}
use Rattle.occam_parser.specs.Blocks.{Row, rows_of, Process, Does, Construct, Act, Block, Replicated, Body, One, Part}
use Rattle.occam_parser.specs.Blocks.{Processes, Choices, Branches, part_of, Components, NoComponent, Further}
use Rattle.occam_parser.specs.Blocks.{Component}
use Rattle.occam_parser.specs.Blocks.{Plain, Chosen, Guarded}
use Rattle.occam_parser.specs.Blocks.{Procedure, ProgramItem, GlobalConstant, GlobalProcedure}
use Rattle.occam_parser.specs.BlockReading.{Beginning, with_declarations, read_as, body_with, process_at, component_at}

-- components from a list
abbrev pub all_of : {part : Part} → List (Component part) → Components part
all_of cs = fold Further NoComponent cs

-- one level, with the trees of what is inside
abbrev pub process_step : Process-F Body Construct (Component Branches) (Component Choices) Process → Process
process_step p = with_declarations (map declaration_of p.declarations.items) (Does p.line p.construct.value)

abbrev pub construct_step : Construct-F Body Construct (Component Branches) (Component Choices) Process → Construct
construct_step (Construct-F.Action a) = Act (action_of a)
construct_step (Construct-F.«Construct::Seq» components) = Block block.Seq (all_of (map Plain components.items))
construct_step (Construct-F.«Construct::Par» components) = Block block.Par (all_of (map Plain components.items))
construct_step (Construct-F.«Construct::If» choices) = Block block.If (all_of choices.items)
construct_step (Construct-F.«Construct::Alt» branches) = Block block.Alt (all_of branches.items)
construct_step (Construct-F.Replicated replicator body) = Replicated (replicator_of replicator) body

abbrev pub body_step : Body-F Body Construct (Component Branches) (Component Choices) Process → Body
body_step (Body-F.«Body::Seq» process) = One block.Seq (Plain process)
body_step (Body-F.«Body::Par» process) = One block.Par (Plain process)
body_step (Body-F.«Body::If» choice) = One block.If choice
body_step (Body-F.«Body::Alt» branch) = One block.Alt branch

abbrev pub choice_step : Choice-F Body Construct (Component Branches) (Component Choices) Process → Component Choices
choice_step c = Chosen c.line (expression_of c.condition) c.process

abbrev pub branch_step : Branch-F Body Construct (Component Branches) (Component Choices) Process → Component Branches
branch_step b = Guarded b.line (guard_of b.guard) b.process

abbrev pub process_of : CodeProcess → Process
process_of = fold-Process Body Construct (Component Branches) (Component Choices) Process body_step construct_step
    branch_step choice_step process_step

abbrev pub construct_of : CodeConstruct → Construct
construct_of = fold-Construct Body Construct (Component Branches) (Component Choices) Process body_step construct_step
    branch_step choice_step process_step

abbrev pub body_of : CodeBody → Body
body_of = fold-Body Body Construct (Component Branches) (Component Choices) Process body_step construct_step
    branch_step choice_step process_step

abbrev pub choice_of : Choice → Component Choices
choice_of = fold-Choice Body Construct (Component Branches) (Component Choices) Process body_step construct_step
    branch_step choice_step process_step

abbrev pub branch_of : Branch → Component Branches
branch_of = fold-Branch Body Construct (Component Branches) (Component Choices) Process body_step construct_step
    branch_step choice_step process_step

abbrev pub plain_component : CodeProcess → Component Processes
plain_component p = Plain (process_of p)

abbrev pub all_processes : List CodeProcess → Components Processes
all_processes found = all_of (map plain_component found)

abbrev pub all_choices : List Choice → Components Choices
all_choices found = all_of (map choice_of found)

abbrev pub all_branches : List Branch → Components Branches
all_branches found = all_of (map branch_of found)

-- those of a kind, of what a block has
abbrev pub components_in : (kind : BlockKind) → components_type.Components → Components (part_of kind)
components_in block.Seq found = all_processes found.processes.items
components_in block.Par found = all_processes found.processes.items
components_in block.If found = all_choices found.choices.items
components_in block.Alt found = all_branches found.branches.items

-- there is one more component of its kind
abbrev pub HasOneMore : Body → (old new : components_type.Components) → Type 0
HasOneMore (One kind c) old new = components_in kind new ≡ Further (components_in kind old) c

-- The component that was read, added: its refusal, out of memory, or one more of its kind and the lines after it.
abbrev pub Adds : Result (CodeBody × Bor (List Line)) Refusal → (old new : components_type.Components)
    → Result (Bor (List Line)) Refusal → Type 0
Adds (Err e) old new answer = answer ≡ Err e
Adds (Ok x) old new (Err e) = e ≡ refusals.Memory
Adds (Ok x) old new (Ok rest) = HasOneMore (body_of x.0) old new × (rest.now ≡ x.1.now)

-- the component that a process is, below what is above it
abbrev pub led : head_type.ComponentHead → Process → Body
led head.Seq process = One block.Seq (Plain process)
led head.Par process = One block.Par (Plain process)
led (head.If line condition) process = One block.If (Chosen line (expression_of condition) process)
led (head.Alt line guard) process = One block.Alt (Guarded line (guard_of guard) process)

-- What leads to the process of a component: its refusal, or where the process is read that is left to read.
abbrev pub LeadsTo : BlockKind → ℕ → List Row → Result (Lead × Bor (List Line)) Refusal → Type 0
LeadsTo kind level rows (Err e) = Lacks e (body_with kind (component_at (65 - level) level (part_of kind) rows))
LeadsTo kind level rows (Ok x) = body_with kind (component_at (65 - level) level (part_of kind) rows)
    ≡ read_as (led x.0.head) (process_at (65 - x.0.level) x.0.level (rows_of x.1.now))

abbrev pub procedure_of : proc_type.Proc → Procedure
procedure_of p = record {
  line = p.line;
  head =
      record { name = p.name.now; formals = map formal_of p.formals.items };
  body = process_of p.body;
}

abbrev pub item_of : item_type.Item → ProgramItem
item_of (item.Constant c) = GlobalConstant (constant_of c)
item_of (item.Proc p) = GlobalProcedure (procedure_of p)

abbrev pub beginning_of : opening_type.Opening → Beginning
beginning_of o = record {
  declarations = map declaration_of o.declarations.items;
  line = o.line;
  start =
      start_of o.start;
}
