-- What fits takes 64 levels of lines at most.
use Rattle.std.proofs.Common.{◌≡◌, ℕ, ◌+◌, ◌≤◌, List, [], ◌∷◌, arith}
use Rattle.occam_parser.specs.Blocks.{Row, Process, Declared, Does, Construct, Act, Block, Replicated, Body, One, Part}
use Rattle.occam_parser.specs.Blocks.{Components, NoComponent, Further, Component, Plain, Chosen, Guarded}
use Rattle.occam_parser.specs.Blocks.{FitsProcess, FitsConstruct, FitsBody, FitComponents, FitsComponent}
use Rattle.occam_parser.specs.Blocks.{ProgramItem, GlobalConstant, GlobalProcedure, IsProgram}
use Rattle.occam_parser.specs.Levels.{levels_of, levels_below, levels_of_body, levels_of_components}
use Rattle.occam_parser.specs.Levels.{levels_of_component, levels_of_items}

mutual
  process_levels : (p : Process) (level : ℕ) → FitsProcess p level → levels_of p + level ≤ 65
  process_levels (Declared d p) level f = process_levels p level f.2
  process_levels (Does line c) level f = let below = construct_levels c level f.0 f.1 in omega arith

  construct_levels : (c : Construct) (level : ℕ) → level ≤ 64 → FitsConstruct c level → levels_below c + level ≤ 64
  construct_levels (Act a) level h f = omega arith
  construct_levels (Block kind cs) level h f =
      let below = components_levels cs (level + 1) (omega arith) f in omega arith
  construct_levels (Replicated r b) level h f = let below = body_levels b (level + 1) f.1 in omega arith

  body_levels : (b : Body) (level : ℕ) → FitsBody b level → levels_of_body b + level ≤ 65
  body_levels (One kind c) level f = component_levels c level f

  components_levels : {part : Part} (cs : Components part) (level : ℕ) → level ≤ 65 → FitComponents cs level
      → levels_of_components cs + level ≤ 65
  components_levels NoComponent level h f = omega arith
  components_levels (Further cs c) level h f =
      let before = components_levels cs level h f.0 in
      let last = component_levels c level f.1 in
      omega arith

  component_levels : {part : Part} (c : Component part) (level : ℕ) → FitsComponent c level
      → levels_of_component c + level ≤ 65
  component_levels (Plain p) level f = process_levels p level f
  component_levels (Chosen line e p) level f = let below = process_levels p (level + 1) f.2 in omega arith
  component_levels (Guarded line g p) level f = let below = process_levels p (level + 1) f.2 in omega arith

pub program_levels : (rows : List Row) (items : List ProgramItem) → IsProgram rows items → levels_of_items items ≤ 64
program_levels rows [] is = omega arith
program_levels rows (GlobalConstant c ∷ items) is = let others = program_levels is.0 items is.3 in omega arith
program_levels rows (GlobalProcedure p ∷ items) is =
    let body = process_levels p.body 1 is.4 in
    let others = program_levels is.1 items is.5 in
    omega arith
