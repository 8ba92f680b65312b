-- What the code of any action leaves known.
use Rattle.std.specs.Prelude.{◌≡◌, ℕ, List, Some}
use Rattle.occam_parser.specs.Lines.{Action, Skip, Stop, Assign, Input, Output, Instance}
use Rattle.scalar_ranges.specs.Entries.{Entry}
use Rattle.program_uses.specs.Signatures.{Parameter}
use Rattle.usage_checks.specs.Following.{after_action}
use Rattle.code_pieces.specs.Pieces.{Code}
use Rattle.line_pieces.specs.Actions.{action_code}
use Rattle.line_pieces.specs.Declarations.{Frame}
use Rattle.certified_lines.specs.StraightRules.{Told}
use Rattle.certified_lines.specs.Scopes.{Scene, HoldsScope, IsScope}
use Rattle.certified_lines.specs.Telling.{AreAllowed}
use Rattle.certified_actions.specs.Assigning.{IsAssignment}
use Rattle.certified_actions.specs.Declaring.{on_frame}
use Rattle.certified_actions.specs.Exchanging.{IsUndisturbed}
use Rattle.certified_actions.specs.Keeping.{FallsTo}
use Rattle.certified_actions.specs.Receiving.{IsInput}
use Rattle.certified_actions.specs.Sending.{IsOutput}

-- Code goes on behind it. A `STOP` ends, and an instance has no code here.
abbrev pub GoesOn : Action → Type 0
GoesOn Stop = ⊥
GoesOn (Instance name actuals) = ⊥
GoesOn action = Unit {0}

-- what is asked of its parts
abbrev pub IsReady : Scene → (top : ℕ) → List Entry → Action → Type 0
IsReady g top es Skip = Unit {0}
IsReady g top es Stop = Unit {0}
IsReady g top es (Assign target value) = IsAssignment g top es target value
IsReady g top es (Input channel target) = IsInput g top es channel target
IsReady g top es (Output channel value) = IsOutput g top es channel value
IsReady g top es (Instance name actuals) = Unit {0}

-- The code of an action leads to the scope after it.
abbrev pub ActionsFall : Type 0
ActionsFall = (g : Scene) (f : Frame) (label : ℕ) (es : List Entry) (signatures : List (List Parameter))
    (action : Action) (code : Code) (before : Told) → IsScope (on_frame f g) f.top es
    → IsUndisturbed (on_frame f g) f.top es → GoesOn action → IsReady (on_frame f g) f.top es action
    → action_code f es label action ≡ Some code → AreAllowed (on_frame f g) code.pieces
    → HoldsScope (on_frame f g) es before.frame
    → FallsTo (on_frame f g) f.top (after_action signatures action es) code.pieces before
