-- What the code of inputs does.
use Rattle.std.specs.Prelude.{ℕ, List, Option}
use Rattle.occam_parser.specs.Lines.{Place, Input}
use Rattle.scalar_ranges.specs.Entries.{Entry}
use Rattle.scalar_ranges.specs.Environments.{Environment}
use Rattle.program_uses.specs.declared.uses.Direction.TheVariants as direction
use Rattle.program_meaning.specs.Links.{Port}
use Rattle.program_meaning.specs.Doing.{acting}
use Rattle.line_pieces.specs.Actions.{input_code}
use Rattle.placed_code.specs.StraightPieces.{Held}
use Rattle.placed_code.specs.LaidCode.{LaidCode, Lie}
use Rattle.placed_code.specs.Points.{point}
use Rattle.placed_code.specs.Behaves.{Behaves}
use Rattle.meant_lines.specs.Carrying.{Ground}
use Rattle.meant_actions.specs.Acting.{Begins, EndsAt, AreWithin, IsVariable}
use Rattle.meant_actions.specs.Exchanging.{IsPort, IsUndisturbed}

-- The channel is a port, and the variable is of the type that it carries.
pub record IsInput (g : Ground) (top : ℕ) (es : List Entry) (env : Environment) (ports : List (Option Port))
    (channel target : Place) : Type 0 where
  pub port : Port
  pub is_port : IsPort g es env ports direction.Input channel port
  pub variable : IsVariable g top es env top target.name port.carries target.subscript

-- A message is asked for and stored in the variable.
abbrev pub InputsBehave : Type 0
InputsBehave = (c : LaidCode) (g : Ground) (top at to : ℕ) (es : List Entry) (env : Environment) (h : Held)
    (ports : List (Option Port)) (channel target : Place) → Begins c g top es env h → IsUndisturbed g top es
    → IsInput g top es env ports channel target → AreWithin g (input_code g.homes es top channel target)
    → Lie c at (input_code g.homes es top channel target) to
    → Behaves c (EndsAt g top es to) (point at h) (acting ports (Input channel target) env)
