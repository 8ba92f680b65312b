-- What is counted in one walk, as far as a u32 goes: the size, the work and the names of a part of a program, and what
-- is asked of it.
use Rattle.std.specs.Prelude.{ℕ, ◌+◌, ◌*◌, nat_lt, Bool, true, false, ◌&&◌, ◌||◌, List, length, sum_by}
use Rattle.std.specs.Prelude.{Option, Some, None}
use Rattle.occam_parser.specs.Lines.{Declaration, Action, Replicator}
use Rattle.occam_parser.specs.Blocks.{Process, Construct, Body, Part, Components, Component, Procedure}
use Rattle.program_sizes.specs.LineSizes.{size_of_declaration, size_of_action, size_of_replicator}
use Rattle.program_work.specs.declared.reading.Reading as code_reading
use Rattle.program_work.specs.declared.sums.Sums as code_sums
use Rattle.program_work.specs.Readings.{capped, reading_of_declaration, reading_of_action, reading_of_replicator}
use Rattle.program_work.specs.Processes.{size_of_process, size_of_construct, size_of_body, size_of_components}
use Rattle.program_work.specs.Processes.{size_of_component, work_of, work_of_construct, work_of_body}
use Rattle.program_work.specs.Processes.{work_of_components, work_of_component, names_of, names_of_construct}
use Rattle.program_work.specs.Processes.{names_of_body, names_of_components, names_of_component, is_steep}
use Rattle.program_work.specs.Processes.{is_steep_construct, is_steep_body, are_steep, is_steep_component}
use Rattle.program_work.specs.Processes.{is_sequential, is_sequential_construct, is_sequential_body}
use Rattle.program_work.specs.Processes.{are_sequential, is_sequential_component}
use Rattle.program_work.specs.Processes.{names_of_declaration, is_sequential_action, work_for_size, free_work}
use Rattle.program_work.specs.Processes.{size_in_turn, construct_size_in_turn, body_size_in_turn}
use Rattle.program_work.specs.Processes.{components_size_in_turn, component_size_in_turn, work_in_turn}
use Rattle.program_work.specs.Processes.{construct_work_in_turn, body_work_in_turn, components_work_in_turn}
use Rattle.program_work.specs.Processes.{component_work_in_turn}

-- what has this size and work, the same in a turn of an IF around it, and this count of names
abbrev pub sums : (size work size_in_turn work_in_turn names : ℕ) → Bool → Bool → code_sums.Sums
sums size work size_in_turn work_in_turn names steep sequential = record {
  size = capped size;
  work = capped work;
  size_in_turn = capped size_in_turn;
  work_in_turn = capped work_in_turn;
  names = capped names;
  is_steep = steep;
  is_sequential = sequential;
}

-- ---- how they are put together

-- a line of which this is read
abbrev pub of_line : code_reading.Reading → code_sums.Sums
of_line r = record {
  size = r.size;
  work = capped (r.size + r.again);
  size_in_turn = r.size;
  work_in_turn = capped (r.size + r.again);
  names = 0;
  is_steep = false;
  is_sequential = true;
}

-- one part after the other
abbrev pub both : code_sums.Sums → code_sums.Sums → code_sums.Sums
both a b = record {
  size = capped (a.size + b.size);
  work = capped (a.work + b.work);
  size_in_turn = capped (a.size_in_turn + b.size_in_turn);
  work_in_turn = capped (a.work_in_turn + b.work_in_turn);
  names = capped (a.names + b.names);
  is_steep = a.is_steep || b.is_steep;
  is_sequential = a.is_sequential && b.is_sequential;
}

-- with names more
abbrev pub with_names : ℕ → code_sums.Sums → code_sums.Sums
with_names names s = record s { names = capped (s.names + names) }

-- a part of what is not sequential
abbrev pub not_sequential : code_sums.Sums → code_sums.Sums
not_sequential s = record s { is_sequential = false }

-- below the line of a block
abbrev pub in_block : code_sums.Sums → code_sums.Sums
in_block s = record s {
  size = capped (1 + s.size);
  work = capped (1 + s.work);
  size_in_turn = capped (1 + s.size_in_turn);
  work_in_turn = capped (1 + s.work_in_turn);
}

-- under a replicator
abbrev pub repeated : code_sums.Sums → code_sums.Sums
repeated s = record s { work = capped (s.work + s.size); work_in_turn = capped (s.work_in_turn + s.size) }

-- under the replicator of an IF
abbrev pub in_turns : code_sums.Sums → code_sums.Sums
in_turns s = record s {
  work = capped (s.work + s.size);
  size_in_turn = 0;
  work_in_turn = 0;
  is_steep = nat_lt (work_for_size * s.size_in_turn + free_work) s.work_in_turn || s.is_steep;
}

-- ---- what parts of a program sum up to

abbrev pub sums_of_declared : List Declaration → code_sums.Sums
sums_of_declared ds =
    sums (sum_by size_of_declaration ds) (sum_by reading_of_declaration ds) (sum_by size_of_declaration ds)
    (sum_by reading_of_declaration ds) (sum_by names_of_declaration ds) false true

abbrev pub sums_of_action : Action → code_sums.Sums
sums_of_action a =
    sums (size_of_action a) (reading_of_action a) (size_of_action a) (reading_of_action a) 0 false
    (is_sequential_action a)

abbrev pub sums_of_replicator : Replicator → code_sums.Sums
sums_of_replicator r =
    sums (size_of_replicator r) (reading_of_replicator r) (size_of_replicator r) (reading_of_replicator r) 1 false true

abbrev pub sums_of : Process → code_sums.Sums
sums_of p =
    sums (size_of_process p) (work_of p) (size_in_turn p) (work_in_turn p) (names_of p) (is_steep p) (is_sequential p)

abbrev pub sums_of_construct : Construct → code_sums.Sums
sums_of_construct c =
    sums (size_of_construct c) (work_of_construct c) (construct_size_in_turn c) (construct_work_in_turn c)
    (names_of_construct c) (is_steep_construct c) (is_sequential_construct c)

abbrev pub sums_of_body : Body → code_sums.Sums
sums_of_body b =
    sums (size_of_body b) (work_of_body b) (body_size_in_turn b) (body_work_in_turn b) (names_of_body b)
    (is_steep_body b) (is_sequential_body b)

abbrev pub sums_of_components : {part : Part} → Components part → code_sums.Sums
sums_of_components cs =
    sums (size_of_components cs) (work_of_components cs) (components_size_in_turn cs) (components_work_in_turn cs)
    (names_of_components cs) (are_steep cs) (are_sequential cs)

abbrev pub sums_of_component : {part : Part} → Component part → code_sums.Sums
sums_of_component c =
    sums (size_of_component c) (work_of_component c) (component_size_in_turn c) (component_work_in_turn c)
    (names_of_component c) (is_steep_component c) (is_sequential_component c)

-- the last procedure, if there is one
abbrev pub sums_of_main : Option Procedure → code_sums.Sums
sums_of_main None = sums 0 0 0 0 0 false true
sums_of_main (Some p) =
    sums (size_of_process p.body) (work_of p.body) (size_in_turn p.body) (work_in_turn p.body)
    (names_of p.body + length p.head.formals) (is_steep p.body) (is_sequential p.body)
