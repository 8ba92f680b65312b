-- How much there is to do to write the code of a process. The measures and the limits are our own choice: they bound
-- the time that writing takes.
use Rattle.std.specs.Prelude.{ℕ, ◌+◌, ◌*◌, nat_lt, Bool, true, false, ◌&&◌, ◌||◌, length}
use Rattle.std.specs.Prelude.{if◌then◌else◌}
use Rattle.occam_layout.specs.declared.mark.Mark.TheVariants as mark
use Rattle.occam_parser.specs.Terminals.{Terminal, Mark}
use Rattle.occam_parser.specs.OneOrMore.{as_list}
use Rattle.occam_parser.specs.Lines.{Declaration, Constants, Variables, Channels, Action, Instance, block_word}
use Rattle.occam_parser.specs.Blocks.{Process, Declared, Does, Construct, Act, Block, Replicated, Body, One, Part}
use Rattle.occam_parser.specs.Blocks.{Components, NoComponent, Further, Component, Plain, Chosen, Guarded}
use Rattle.program_sizes.specs.LineSizes.{size_of_expression, size_of_declaration, size_of_action, size_of_guard}
use Rattle.program_sizes.specs.LineSizes.{size_of_replicator}
use Rattle.program_work.specs.Readings.{capped, reading_of_declaration, reading_of_action, reading_of_condition}
use Rattle.program_work.specs.Readings.{reading_of_guard, reading_of_replicator}

-- ---- the sizes of the lines of a process

abbrev mutual
  pub size_of_process : Process → ℕ
  size_of_process (Declared d p) = size_of_declaration d + size_of_process p
  size_of_process (Does line c) = size_of_construct c

  pub size_of_construct : Construct → ℕ
  size_of_construct (Act a) = size_of_action a
  size_of_construct (Block kind cs) = 1 + size_of_components cs
  size_of_construct (Replicated r b) = size_of_replicator r + size_of_body b

  pub size_of_body : Body → ℕ
  size_of_body (One kind c) = size_of_component c

  pub size_of_components : {part : Part} → Components part → ℕ
  size_of_components NoComponent = 0
  size_of_components (Further cs c) = size_of_components cs + size_of_component c

  pub size_of_component : {part : Part} → Component part → ℕ
  size_of_component (Plain p) = size_of_process p
  size_of_component (Chosen line e p) = (1 + size_of_expression e) + size_of_process p
  size_of_component (Guarded line g p) = size_of_guard g + size_of_process p

-- ---- the work of a process
-- All its lines are read. Under each replicator the lines are gone over once more for what they change.

abbrev mutual
  pub work_of : Process → ℕ
  work_of (Declared d p) = reading_of_declaration d + work_of p
  work_of (Does line c) = work_of_construct c

  pub work_of_construct : Construct → ℕ
  work_of_construct (Act a) = reading_of_action a
  work_of_construct (Block kind cs) = 1 + work_of_components cs
  work_of_construct (Replicated r b) = reading_of_replicator r + work_of_body b

  pub work_of_body : Body → ℕ
  work_of_body (One kind c) = work_of_component c + size_of_component c

  pub work_of_components : {part : Part} → Components part → ℕ
  work_of_components NoComponent = 0
  work_of_components (Further cs c) = work_of_components cs + work_of_component c

  pub work_of_component : {part : Part} → Component part → ℕ
  work_of_component (Plain p) = work_of p
  work_of_component (Chosen line e p) = reading_of_condition e + work_of p
  work_of_component (Guarded line g p) = reading_of_guard g + work_of p

-- ---- choices under a replicator
-- The choice of a replicated IF is written once for each turn. A check bounds the sum of sizes over all turns, but it
-- counts nothing under a further replicated IF that has no turn. So the work of a turn has to be in proportion to the
-- size of what is outside such IFs. A loop goes over all its lines, those under such an IF too.

abbrev pub is_if : Terminal → Bool
is_if (Mark mark.If) = true
is_if word = false

-- the sizes of the lines that are not under a replicated IF
abbrev mutual
  pub size_in_turn : Process → ℕ
  size_in_turn (Declared d p) = size_of_declaration d + size_in_turn p
  size_in_turn (Does line c) = construct_size_in_turn c

  pub construct_size_in_turn : Construct → ℕ
  construct_size_in_turn (Act a) = size_of_action a
  construct_size_in_turn (Block kind cs) = 1 + components_size_in_turn cs
  construct_size_in_turn (Replicated r b) = size_of_replicator r + body_size_in_turn b

  pub body_size_in_turn : Body → ℕ
  body_size_in_turn (One kind c) = if is_if (block_word kind) then 0 else component_size_in_turn c

  pub components_size_in_turn : {part : Part} → Components part → ℕ
  components_size_in_turn NoComponent = 0
  components_size_in_turn (Further cs c) = components_size_in_turn cs + component_size_in_turn c

  pub component_size_in_turn : {part : Part} → Component part → ℕ
  component_size_in_turn (Plain p) = size_in_turn p
  component_size_in_turn (Chosen line e p) = (1 + size_of_expression e) + size_in_turn p
  component_size_in_turn (Guarded line g p) = size_of_guard g + size_in_turn p

-- the work of those lines, and what each loop among them goes over
abbrev mutual
  pub work_in_turn : Process → ℕ
  work_in_turn (Declared d p) = reading_of_declaration d + work_in_turn p
  work_in_turn (Does line c) = construct_work_in_turn c

  pub construct_work_in_turn : Construct → ℕ
  construct_work_in_turn (Act a) = reading_of_action a
  construct_work_in_turn (Block kind cs) = 1 + components_work_in_turn cs
  construct_work_in_turn (Replicated r b) = reading_of_replicator r + body_work_in_turn b

  pub body_work_in_turn : Body → ℕ
  body_work_in_turn (One kind c) =
      if is_if (block_word kind) then 0 else component_work_in_turn c + size_of_component c

  pub components_work_in_turn : {part : Part} → Components part → ℕ
  components_work_in_turn NoComponent = 0
  components_work_in_turn (Further cs c) = components_work_in_turn cs + component_work_in_turn c

  pub component_work_in_turn : {part : Part} → Component part → ℕ
  component_work_in_turn (Plain p) = work_in_turn p
  component_work_in_turn (Chosen line e p) = reading_of_condition e + work_in_turn p
  component_work_in_turn (Guarded line g p) = reading_of_guard g + work_in_turn p

-- the work that is in proportion to a unit of size
abbrev pub work_for_size : ℕ
work_for_size = 4

-- the work that a turn may have beside that
abbrev pub free_work : ℕ
free_work = 4096

-- The work of a turn is out of proportion to its size. A work that no u32 holds is too much in any case.
abbrev pub is_out_of_proportion : {part : Part} → Component part → Bool
is_out_of_proportion c =
    nat_lt (work_for_size * component_size_in_turn c + free_work) (capped (component_work_in_turn c))

-- whether a turn of a replicated IF in it has a work out of proportion to its size
abbrev mutual
  pub is_steep : Process → Bool
  is_steep (Declared d p) = is_steep p
  is_steep (Does line c) = is_steep_construct c

  pub is_steep_construct : Construct → Bool
  is_steep_construct (Act a) = false
  is_steep_construct (Block kind cs) = are_steep cs
  is_steep_construct (Replicated r b) = is_steep_body b

  pub is_steep_body : Body → Bool
  is_steep_body (One kind c) = (is_if (block_word kind) && is_out_of_proportion c) || is_steep_component c

  pub are_steep : {part : Part} → Components part → Bool
  are_steep NoComponent = false
  are_steep (Further cs c) = are_steep cs || is_steep_component c

  pub is_steep_component : {part : Part} → Component part → Bool
  is_steep_component (Plain p) = is_steep p
  is_steep_component (Chosen line e p) = is_steep p
  is_steep_component (Guarded line g p) = is_steep p

-- ---- what is too much

-- the greatest work of a process or a program, in units of size that are read: two seconds, at some 80 nanoseconds each
abbrev pub greatest_work : ℕ
greatest_work = 25000000

-- whether writing the code of a process may take too long
abbrev pub is_too_much_work : Process → Bool
is_too_much_work p = nat_lt greatest_work (work_of p) || is_steep p

-- ---- the names of a process
-- Each name that a process declares has an entry in each row that is written where the name is known.

abbrev pub names_of_declaration : Declaration → ℕ
names_of_declaration (Constants c) = 1
names_of_declaration (Variables n) = length (as_list n.names)
names_of_declaration (Channels n) = length (as_list n.names)

-- the names that are declared in a process, and the indices of its replicators
abbrev mutual
  pub names_of : Process → ℕ
  names_of (Declared d p) = names_of_declaration d + names_of p
  names_of (Does line c) = names_of_construct c

  pub names_of_construct : Construct → ℕ
  names_of_construct (Act a) = 0
  names_of_construct (Block kind cs) = names_of_components cs
  names_of_construct (Replicated r b) = 1 + names_of_body b

  pub names_of_body : Body → ℕ
  names_of_body (One kind c) = names_of_component c

  pub names_of_components : {part : Part} → Components part → ℕ
  names_of_components NoComponent = 0
  names_of_components (Further cs c) = names_of_components cs + names_of_component c

  pub names_of_component : {part : Part} → Component part → ℕ
  names_of_component (Plain p) = names_of p
  names_of_component (Chosen line e p) = names_of p
  names_of_component (Guarded line g p) = names_of p

-- ---- sequential processes
-- A process without PAR, ALT and instances has one branch, and its code is written on its own.

abbrev pub is_sequential_action : Action → Bool
is_sequential_action (Instance name actuals) = false
is_sequential_action action = true

-- the word of a block
abbrev pub is_sequential_word : Terminal → Bool
is_sequential_word (Mark mark.Seq) = true
is_sequential_word (Mark mark.If) = true
is_sequential_word word = false

abbrev mutual
  pub is_sequential : Process → Bool
  is_sequential (Declared d p) = is_sequential p
  is_sequential (Does line c) = is_sequential_construct c

  pub is_sequential_construct : Construct → Bool
  is_sequential_construct (Act action) = is_sequential_action action
  is_sequential_construct (Block kind cs) = is_sequential_word (block_word kind) && are_sequential cs
  is_sequential_construct (Replicated r b) = is_sequential_body b

  pub is_sequential_body : Body → Bool
  is_sequential_body (One kind c) = is_sequential_word (block_word kind) && is_sequential_component c

  pub are_sequential : {part : Part} → Components part → Bool
  are_sequential NoComponent = true
  are_sequential (Further cs c) = are_sequential cs && is_sequential_component c

  pub is_sequential_component : {part : Part} → Component part → Bool
  is_sequential_component (Plain p) = is_sequential p
  is_sequential_component (Chosen line e p) = is_sequential p
  is_sequential_component (Guarded line g p) = is_sequential p
