-- What it is to write the code of main, after the items before it.
use Rattle.std.specs.Prelude.{◌≡◌, ℕ, List, [], length}
use Rattle.occam_parser.specs.Lines.{Constants}
use Rattle.occam_parser.specs.Blocks.{Procedure, ProgramItem, GlobalConstant, GlobalProcedure}
use Rattle.scalar_ranges.specs.Entries as entries
use Rattle.program_uses.specs.Declaring.{add}
use Rattle.program_uses.specs.InTurn.{in_turn}
use Rattle.usage_checks.specs.ItemRules.{Outside, outermost, after_item}
use Rattle.usage_checks.specs.NameRules.{with_entries}
use Rattle.code_generator.specs.declared.processes.ProcessWriter.{ProcessWriter}
use Rattle.line_pieces.specs.Homes.{Nowhere}
use Rattle.line_pieces.specs.Declarations.{Frame, with_home}
use Rattle.code_generator.specs.Processes.{Site, with_declaration}
use Rattle.code_generator.specs.Programs.{no_frame, framed, callable, main_code}
use Rattle.code_generator.specs.Calls.{Callee}
use Rattle.code_generator.specs.CallViews.{surroundings_of, callees_of}
use Rattle.code_generator.specs.declared.program.Start.{Start}
use Rattle.code_generator.specs.declared.calling.Surroundings as calling
use Rattle.code_generator.specs.Written.{site_of, Appends}

-- ---- items before main

-- where code goes on after an item, before which there was this number of procedures
abbrev pub behind_item : ProgramItem → ℕ → Site → Site
behind_item (GlobalConstant c) count s = with_declaration (Constants c) s
behind_item (GlobalProcedure p) count s = record {
  frame = with_home Nowhere s.frame;
  known = with_entries (add p.head.name (entries.Procedure count)) s.known;
  label = s.label;
}

-- what is known after some items, where what they declare is, and which procedures there are
pub record Globals : Type 0 where
  pub outside : Outside
  pub frame : Frame
  pub callees : List Callee

abbrev pub with_item : ProgramItem → Globals → Globals
with_item item g = record {
  outside = after_item item g.outside;
  frame = framed item g.outside g.frame;
  callees = callable item (length g.frame.homes) g.callees;
}

abbrev pub globals_of : List ProgramItem → Globals
globals_of items = in_turn with_item items (record { outside = outermost; frame = no_frame; callees = [] })

-- No code is written, and what these items declare is known.
pub record Precedes (s : Start) (items : List ProgramItem) : Type 0 where
  pub listing : s.writer.listing ≡ []
  pub site : site_of s.writer
      ≡ record { frame = (globals_of items).frame; known = (globals_of items).outside.known; label = 0 }
  pub callees : callees_of s.callees.items ≡ (globals_of items).callees

-- ---- main

abbrev pub WritesMain : (s t : ProcessWriter) → calling.Surroundings → Procedure → Type 0
WritesMain s t a p = Appends s.listing t.listing t.label (main_code (surroundings_of a) p (site_of s))
