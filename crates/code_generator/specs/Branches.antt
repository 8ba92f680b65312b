-- What it is to write a PAR. It has no code in the definition, and what is known after it is as it should be.
use Rattle.std.specs.Prelude.{◌≡◌, ℕ, false, List, []}
use Rattle.std.specs.Prelude.{None}
use Rattle.occam_layout.specs.declared.mark.Mark.TheVariants as mark
use Rattle.occam_parser.specs.Terminals.{Mark}
use Rattle.occam_parser.specs.Lines.{Replicator}
use Rattle.occam_parser.specs.Blocks.{Process, Part, Components, Component, Plain}
use Rattle.scalar_ranges.specs.Moves.{Known, begin_par, end}
use Rattle.scalar_ranges.specs.Scopes.{known_of}
use Rattle.program_uses.specs.Actions.{Around, is_before}
use Rattle.program_uses.specs.Indices.{Repeats, repeats_of, turn_by_turn}
use Rattle.usage_checks.specs.AfterProcesses.{after_component, after_components, begun_body, repeated}
use Rattle.code_generator.specs.declared.calling.Surroundings as calling
use Rattle.code_generator.specs.declared.parallel.Outside.{Outside}
use Rattle.code_generator.specs.declared.processes.ProcessWriter.{ProcessWriter}
use Rattle.code_generator.specs.CallViews.{surroundings_of}
use Rattle.line_pieces.specs.HomeViews.{homes_seen}
use Rattle.code_generator.specs.Processes.{turned}
use Rattle.code_generator.specs.Written.{Writes}

-- ---- what is known

-- What is known is as before, and what names denote.
abbrev pub IsKept : (s t : ProcessWriter) → Type 0
IsKept s t = Writes s t None (known_of s.scope)

-- The code of a branch begins: only the words that are free are others.
pub record EntersBranch (s t : ProcessWriter) (o : Outside) : Type 0 where
  pub known : known_of t.scope ≡ known_of s.scope
  pub homes : homes_seen t.frame.homes.items ≡ homes_seen s.frame.homes.items
  pub outer : t.frame.outer.items ≡ s.frame.outer.items
  pub top : o.top ≡ s.frame.top

-- The code of a branch ends: the words are free again that were so outside.
pub record LeavesBranch (s t : ProcessWriter) (o : Outside) : Type 0 where
  pub known : known_of t.scope ≡ known_of s.scope
  pub homes : homes_seen t.frame.homes.items ≡ homes_seen s.frame.homes.items
  pub outer : t.frame.outer.items ≡ s.frame.outer.items
  pub top : t.frame.top ≡ o.top

abbrev pub WritesComponent : {part : Part} → (s t : ProcessWriter) → calling.Surroundings → Component part → Type 0
WritesComponent s t a c =
    Writes s t None (after_component (surroundings_of a).around (Mark mark.Par) c (known_of s.scope))

-- some components, one after another
abbrev pub WritesSome : {part : Part} → (s t : ProcessWriter) → calling.Surroundings → Components part → Type 0
WritesSome s t a cs =
    Writes s t None (after_components (surroundings_of a).around (Mark mark.Par) cs (known_of s.scope))

abbrev pub WritesPar : {part : Part} → (s t : ProcessWriter) → calling.Surroundings → Components part → Type 0
WritesPar s t a cs =
    Writes s t None
    (end (after_components (surroundings_of a).around (Mark mark.Par) cs (begin_par (known_of s.scope))))

-- a component under a replicator, in this number of turns
abbrev pub WritesTurns : {part : Part} → (s t : ProcessWriter) → calling.Surroundings → List ℕ → Repeats → ℕ
    → Component part → Type 0
WritesTurns s t a name repeats count c =
    Writes s t None
    (turn_by_turn (turned (surroundings_of a).around (Mark mark.Par) name c repeats) count (known_of s.scope))

-- what is known after a PAR of a process under a replicator
abbrev pub after_repeated_par : Around → ℕ → Replicator → Process → Known → Known
after_repeated_par a line r p k =
    let repeats = repeats_of (is_before line a.uncounted) k.entries false r in
    repeated repeats.happens
    (turn_by_turn (turned a (Mark mark.Par) r.name (Plain p) repeats) repeats.turns.count
    (begun_body (Mark mark.Par) [] repeats.happens k))

abbrev pub WritesRepeatedPar : (s t : ProcessWriter) → calling.Surroundings → ℕ → Replicator → Process → Type 0
WritesRepeatedPar s t a line r p =
    Writes s t None (after_repeated_par (surroundings_of a).around line r p (known_of s.scope))
