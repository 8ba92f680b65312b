-- Code begins with the least label that is free, and leaves none free before it.
use Rattle.std.proofs.Common.{◌≡◌, ℕ, ◌≤◌, List, Option, Some, None, refl, sym, subst, arith}
use Rattle.occam_layout.specs.declared.mark.Mark.TheVariants as mark
use Rattle.occam_parser.specs.Terminals.{Mark}
use Rattle.occam_parser.specs.Blocks.{Chosen, Component, Components, Further, Guarded, NoComponent, Part, Plain}
use Rattle.occam_parser.specs.Blocks.{Process}
use Rattle.usage_checks.specs.AfterProcesses.{after_components}
use Rattle.code_pieces.specs.Pieces.{Code, Piece, before, closed_by, then_code}
use Rattle.code_generator.specs.Calls.{where_called}
use Rattle.code_generator.specs.Processes.{Site, Surroundings, at_place, component_code, components_code, process_code}
use Rattle.meant_code.proofs.OwnCode.{processes_are_own}
use Rattle.meant_processes.specs.Places.{surroundings}
use Rattle.certified_processes.specs.Places.{Coded, IsInRoot}

abbrev pub Rises : ℕ → Option Code → Type 0
Rises n None = Unit {0}
Rises n (Some c) = n ≤ c.labels

-- a label before the one with which code begins
pub rises_low : (n m : ℕ) (o : Option Code) → n ≤ m → Rises m o → Rises n o
rises_low n m None low rise = tt
rises_low n m (Some c) low rise = omega (arith, low, rise)

-- pieces before code, behind it, and code behind code
pub rises_before : (n : ℕ) (ps : List Piece) (o : Option Code) → Rises n o → Rises n (before ps o)
rises_before n ps None rise = tt
rises_before n ps (Some c) rise = rise

pub rises_closed : (n : ℕ) (ps : List Piece) (o : Option Code) → Rises n o → Rises n (closed_by ps o)
rises_closed n ps None rise = tt
rises_closed n ps (Some c) rise = rise

pub rises_then : (n : ℕ) (o : Option Code) (next : ℕ → Option Code) → Rises n o → ((m : ℕ) → Rises m (next m))
    → Rises n (then_code o next)
rises_then n None next rise all = tt
rises_then n (Some c) next rise all =
    rises_before n c.pieces (next c.labels) (rises_low n c.labels (next c.labels) rise (all c.labels))

module _ (p : Coded) (root : IsInRoot p) where
  -- The code of a process leaves no label free before the one with which it begins.
  pub process_rises : (q : Process) (s : Site) → Rises s.label (process_code (surroundings p.program) q s)
  process_rises q s =
      subst (λ (w : Surroundings). Rises s.label (process_code w q s)) (sym root.calls.is)
      (by (process_code called q s) refl)
    where
      called : Surroundings
      called = where_called root.calls.callees p.program.around root.calls.count

      by : (o : Option Code) → process_code called q s ≡ o → Rises s.label o
      by None is = tt
      by (Some c) is =
          (processes_are_own root.calls.callees p.program.around root.calls.count q s c is).once.rises

  component_rises : {part : Part} (c : Component part) (s : Site)
      → Rises s.label (component_code (surroundings p.program) c s)
  component_rises (Plain q) s = process_rises q s
  component_rises (Chosen line e q) s = tt
  component_rises (Guarded line g q) s = tt

  -- nor does that of components, one after the other
  pub components_rise : {part : Part} (cs : Components part) (s : Site)
      → Rises s.label (components_code (surroundings p.program) cs s)
  components_rise NoComponent s = omega arith
  components_rise (Further cs c) s =
      rises_then s.label (components_code (surroundings p.program) cs s)
      (λ label. component_code (surroundings p.program) c
      (at_place (after_components p.program.around (Mark mark.Seq) cs s.known) label s)) (components_rise cs s)
      (λ label. component_rises c (at_place (after_components p.program.around (Mark mark.Seq) cs s.known) label s))
