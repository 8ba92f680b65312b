-- Where a process of a program is whose code is in a module, and what is asked of the whole module.
use Rattle.std.specs.Prelude.{◌≡◌, ℕ, ◌<◌, ◌≤◌, true, List, [], Some}
use Rattle.std.specs.List.{AllByRecursion}
use Rattle.module_format.specs.declared.limits.TheConstants.{MAX_DATA_WORDS}
use Rattle.module_format.specs.declared.rows.Direction as end_ways
use Rattle.module_format.specs.declared.rows.Direction.TheVariants.{In, Out}
use Rattle.module_format.specs.declared.rows.EndKind.TheVariants as ends
use Rattle.module_format.specs.Contents.{link_length}
use Rattle.certificate.specs.Rights.{has_end}
use Rattle.occam_parser.specs.Words.{items_have_words}
use Rattle.scalar_ranges.specs.Environments.{item_at}
use Rattle.program_uses.specs.declared.uses.Direction.{Direction}
use Rattle.program_uses.specs.declared.uses.Direction.TheVariants as direction
use Rattle.program_meaning.specs.Links.{Port, message_length}
use Rattle.usage_checks.specs.ItemRules.{BreaksNoRule}
use Rattle.line_pieces.specs.Homes.{Block, Home, Link}
use Rattle.code_generator.specs.Calls.{Callee, where_called}
use Rattle.code_generator.specs.Processes.{Site}
use Rattle.code_generator.specs.Programs.{link_of}
use Rattle.meant_processes.specs.Places.{Program, surroundings, IsSited}
use Rattle.certified_lines.specs.Scopes.{Scene}
use Rattle.certified_modules.specs.Passing.{Passage}
use Rattle.certified_actions.specs.Declaring.{MayUse}
use Rattle.certified_actions.specs.Messages.{MaySchedule}
use Rattle.certified_scopes.specs.Settled.{IsFounded, IsSettled}

-- A program whose code is laid out, and the passage of its pieces: where the code is in its module, and what turns of
-- loops cost there.
pub record Coded : Type 0 where
  pub program : Program
  pub passage : Passage

-- the scene of code where names have these homes
abbrev pub scene_at : Coded → List Home → Scene
scene_at p homes = record {
  setting = p.passage.setting;
  homes = homes;
  weights = p.passage.weights;
  pieces = p.program.pieces;
}

-- where there are no names
abbrev pub bare_scene : Coded → Scene
bare_scene p = scene_at p []

-- the scene at a site
abbrev pub scene : Coded → Site → Scene
scene p s = scene_at p s.frame.homes

-- ---- the whole module

-- the direction of the end that code has of a link
abbrev pub end_way : Direction → end_ways.Direction
end_way direction.Input = In
end_way direction.Output = Out

-- The code has the end of a port's link, which has messages of its length.
pub record HasEnd (p : Coded) (port : Port) : Type 0 where
  pub length : link_length p.passage.setting.contents (link_of port) ≡ message_length port.carries
  pub end : has_end p.passage.setting.contents p.passage.setting.context
      (record { kind = ends.Link (link_of port); direction = end_way port.way }) ≡ true

-- The code of instances is that of procedures.
pub record HasCallees (p : Coded) : Type 0 where
  pub callees : List Callee
  pub count : ℕ
  pub is : surroundings p.program ≡ where_called callees p.program.around count

-- What is asked of the whole: the program breaks no rule, and its code is in the root of a module, where it may use the
-- words of its frame and those that scheduling takes, has the ends of its ports, and its tables.
pub record IsInRoot (p : Coded) : Type 0 where
  pub unbroken : BreaksNoRule p.program.items
  pub literals : items_have_words p.program.items ≡ true
  pub root : p.passage.setting.depth ≡ 0
  pub few : p.program.words ≤ MAX_DATA_WORDS
  pub uses : MayUse p.passage.setting 0 p.program.words
  pub schedules : MaySchedule p.passage.setting
  pub founded : IsFounded (bare_scene p)
  pub calls : HasCallees p
  pub ends : (n : ℕ) (port : Port) → item_at n p.program.ports ≡ Some (Some port) → HasEnd p port

-- ---- places

-- The heads of the loops around are at labels before this one.
abbrev pub IsHeadBefore : ℕ → Home → Type 0
IsHeadBefore label (Block word head) = head < label
IsHeadBefore label h = Unit {0}

-- At a site each name has its home in the frame, of its kind. The ports are links, and no other channel may be used.
-- What is declared from here on is declared in the process, and no PAR is around it.
pub record IsPlaced (p : Coded) (s : Site) : Type 0 where
  pub sited : IsSited p.program s
  pub outer : s.frame.outer ≡ []
  pub heads : AllByRecursion (IsHeadBefore s.label) s.frame.homes
  pub room : s.frame.top ≤ p.program.words
  pub settled : IsSettled (bare_scene p) s.frame s.known.entries
