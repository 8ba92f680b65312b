-- What the components of a PAR share.
use Rattle.std.specs.Prelude.{ℕ, zero, suc, false, List, length, ◌⊎◌}
use Rattle.occam_layout.specs.declared.mark.Mark.TheVariants as mark
use Rattle.occam_parser.specs.Terminals.{Terminal, Mark}
use Rattle.occam_parser.specs.Lines.{Replicator, block_word}
use Rattle.occam_parser.specs.Blocks.{Body, One, Part}
use Rattle.occam_parser.specs.Blocks.{Components, NoComponent, Further}
use Rattle.scalar_ranges.specs.Entries.{Entry}
use Rattle.program_uses.specs.declared.uses.Use.{Use}
use Rattle.program_uses.specs.Sets.{is_among}
use Rattle.program_uses.specs.Actions.{Around, is_before}
use Rattle.program_uses.specs.Indices.{turns_of, in_turns}
use Rattle.program_uses.specs.ParRules.{BreaksSharing}
use Rattle.program_uses.specs.Processes.{uses_in_turn, uses_of_components, uses_of_component}

-- O14 and O15: each component, with those before it
abbrev pub BreakSharing : {part : Part} → Around → List Entry → Components part → ℕ → Type 0
BreakSharing a es NoComponent n = ⊥
BreakSharing a es (Further cs c) n =
    BreakSharing a es cs n
    ⊎ BreaksSharing (length es) (is_among (uses_of_components a es cs)) (is_among (uses_of_component a es c)) n

-- the same of turns, by what they use of this number of names
abbrev pub BreakTurns : ℕ → (ℕ → List Use) → ℕ → ℕ → Type 0
BreakTurns count uses zero n = ⊥
BreakTurns count uses (suc turn) n =
    BreakTurns count uses turn n ⊎ BreaksSharing count (is_among (in_turns uses turn)) (is_among (uses turn)) n

-- what is checked for a block as a whole
abbrev pub BreaksBlock : {part : Part} → Around → Terminal → List Entry → Components part → ℕ → Type 0
BreaksBlock a (Mark mark.Par) es cs n = BreakSharing a es cs n
BreaksBlock a word es cs n = ⊥

-- what is checked for the turns of a PAR
abbrev pub BreaksTurns : Terminal → ℕ → (ℕ → List Use) → ℕ → ℕ → Type 0
BreaksTurns (Mark mark.Par) count uses turns n = BreakTurns count uses turns n
BreaksTurns word count uses turns n = ⊥

abbrev pub BreaksRepeated : Around → List Entry → ℕ → Replicator → Body → ℕ → Type 0
BreaksRepeated a es line r (One kind c) n =
    let turns = turns_of (is_before line a.uncounted) es false r in
    BreaksTurns (block_word kind) (length es) (uses_in_turn a es turns.first r.name (One kind c)) turns.count n
