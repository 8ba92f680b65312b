-- What the code of any action does.
use Rattle.std.specs.Prelude.{◌≡◌, ℕ, ◌<◌, List, length, Option, Some}
use Rattle.occam_parser.specs.Lines.{Action, Skip, Stop, Assign, Input, Output, Instance}
use Rattle.scalar_ranges.specs.Entries.{Entry}
use Rattle.scalar_ranges.specs.Environments.{Environment}
use Rattle.program_meaning.specs.Links.{Port}
use Rattle.program_meaning.specs.Doing.{acting}
use Rattle.code_pieces.specs.Pieces.{Code}
use Rattle.line_pieces.specs.Declarations.{Frame}
use Rattle.line_pieces.specs.Actions.{action_code}
use Rattle.placed_code.specs.StraightPieces.{Held}
use Rattle.placed_code.specs.LaidCode.{LaidCode, Lie}
use Rattle.placed_code.specs.Points.{point}
use Rattle.placed_code.specs.Behaves.{Behaves}
use Rattle.meant_lines.specs.Carrying.{Ground}
use Rattle.meant_actions.specs.Acting.{Begins, EndsAt, AreWithin}
use Rattle.meant_actions.specs.Assigning.{IsAssignment}
use Rattle.meant_actions.specs.Exchanging.{IsUndisturbed}
use Rattle.meant_actions.specs.Receiving.{IsInput}
use Rattle.meant_actions.specs.Sending.{IsOutput}

-- Of its parts is known what a checked program gives: variables have words, channels are ports, and expressions are
-- pushed.
abbrev pub IsReady : Ground → (top : ℕ) → List Entry → Environment → List (Option Port) → Action → Type 0
IsReady g top es env ports Skip = Unit {0}
IsReady g top es env ports Stop = Unit {0}
IsReady g top es env ports (Assign target value) = IsAssignment g top es env target value
IsReady g top es env ports (Input channel target) = IsInput g top es env ports channel target
IsReady g top es env ports (Output channel value) = IsOutput g top es env ports channel value
IsReady g top es env ports (Instance name actuals) = ⊥

-- The code of an action makes a process do what the action means, and ends with memory that carries the environment
-- after it. More code is after it, since a module finishes at the end of its code.
abbrev pub ActionsBehave : Type 0
ActionsBehave = (c : LaidCode) (g : Ground) (f : Frame) (at to label : ℕ) (es : List Entry) (env : Environment)
    (h : Held) (ports : List (Option Port)) (action : Action) (code : Code) → f.homes ≡ g.homes
    → Begins c g f.top es env h → IsUndisturbed g f.top es → IsReady g f.top es env ports action
    → action_code f es label action ≡ Some code → AreWithin g code.pieces → Lie c at code.pieces to
    → to < length c.code → Behaves c (EndsAt g f.top es to) (point at h) (acting ports action env)
