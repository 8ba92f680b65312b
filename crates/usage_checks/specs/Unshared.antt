-- The places at which what a procedure uses is gathered, with the names that are declared there, and what holds at each
-- of them if the program breaks no rule: the components of PARs share nothing.
use Rattle.std.specs.Prelude.{◌≡◌, ℕ, ◌<◌, List, length, ◌⊎◌}
use Rattle.occam_parser.specs.Lines.{Declaration, Replicator}
use Rattle.occam_parser.specs.Blocks.{Process, Declared, Does, Construct, Act, Block, Replicated, Body, Part}
use Rattle.occam_parser.specs.Blocks.{Components}
use Rattle.occam_parser.specs.Blocks.{NoComponent, Further, Component, Procedure, ProgramItem, GlobalProcedure}
use Rattle.scalar_ranges.specs.Entries.{Entry}
use Rattle.program_uses.specs.declared.indices.Turns.{Turns}
use Rattle.program_uses.specs.declared.telling.UsageFault.{UsageFault}
use Rattle.program_uses.specs.Actions.{Around, is_before}
use Rattle.program_uses.specs.Declaring.{add_outline}
use Rattle.program_uses.specs.Indices.{is_sequence, turns_of}
use Rattle.program_uses.specs.Processes.{in_turn}
use Rattle.program_uses.specs.Sharing.{Shares, SharesInComponent}
use Rattle.usage_checks.specs.ItemRules.{in_body, Outside, outermost, around_in, BreaksNoRule}
use Rattle.usage_checks.specs.Reaching.{Piece, AProcess, AComponent, Comes, IsUnder, process_of}

abbrev pub IsAmong : {part : Part} → Components part → Piece → Type 0
IsAmong NoComponent piece = ⊥
IsAmong (Further cs c) piece = (piece ≡ AComponent c) ⊎ IsAmong cs piece

abbrev pub turns_in : Around → ℕ → Replicator → Body → List Entry → Turns
turns_in a line r b es = turns_of (is_before line a.uncounted) es (is_sequence b) r

-- a part of a construct, with the names that are declared there: a component of a block, or that under a replicator in
-- one of its turns, with its index
abbrev pub IsPart : Around → ℕ → Construct → List Entry → Piece → List Entry → Type 0
IsPart a line (Act action) es piece fs = ⊥
IsPart a line (Block kind cs) es piece fs = IsAmong cs piece × (fs ≡ es)
IsPart a line (Replicated r b) es piece fs = (n : ℕ) × IsUnder b piece × (n < (turns_in a line r b es).count)
    × (fs ≡ in_turn r (is_sequence b) (turns_in a line r b es).first n es)

-- from the body of each procedure on, to what is after a declaration, to each part of a construct, and to the process
-- of a component
pub data Gathers (items : List ProgramItem) : Around → Piece → List Entry → Type 0 where
  from_body : (o : Outside) (p : Procedure) → Comes o (GlobalProcedure p) items outermost
      → Gathers items (around_in o) (AProcess (length (in_body p o.known).entries) p.body) (in_body p o.known).entries
  behind_it : (a : Around) (first : ℕ) (d : Declaration) (p : Process) (es : List Entry)
      → Gathers items a (AProcess first (Declared d p)) es → Gathers items a (AProcess first p) (add_outline d es)
  in_part : (a : Around) (first line : ℕ) (c : Construct) (piece : Piece) (es fs : List Entry)
      → Gathers items a (AProcess first (Does line c)) es → IsPart a line c es piece fs → Gathers items a piece fs
  in_process : {part : Part} (a : Around) (c : Component part) (es : List Entry) → Gathers items a (AComponent c) es
      → Gathers items a (AProcess (length es) (process_of c)) es

abbrev pub SharesPiece : Around → Piece → List Entry → UsageFault → Type 0
SharesPiece a (AProcess first p) es f = Shares a es p f
SharesPiece a (AComponent c) es f = SharesInComponent a es c f

-- ---- the law

abbrev pub NothingShared : Type 0
NothingShared = (items : List ProgramItem) (a : Around) (piece : Piece) (es : List Entry) → BreaksNoRule items
    → Gathers items a piece es → (f : UsageFault) → SharesPiece a piece es f → ⊥
