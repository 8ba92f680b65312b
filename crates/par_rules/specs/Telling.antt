-- What the functions of the code return for a start.
use Rattle.std.specs.Prelude.{◌≡◌, ℕ, List, [], ◌∷◌, Result, Ok, Err, Option, Some, None}
use Rattle.std.specs.Borrow.{Bor}
use Rattle.module_format.specs.Rows.{LabelRow}
use Rattle.module_format.specs.Contents.{Label, label_of}
use Rattle.states.specs.declared.rule.Rule.{Rule}
use Rattle.states.specs.State.{State}
use Rattle.rulings.specs.Rulings.{Ruling, starts, breaks}
use Rattle.par_rules.specs.declared.starts.Started.{Started}

-- a row of a label, if there is one, as the label that it is
abbrev pub label_view : Option (Bor LabelRow) → Option Label
label_view None = None
label_view (Some row) = Some (label_of row.now)

-- the offsets of the labels at which others go on
abbrev pub labels_of : Started → List ℕ
labels_of started = started.branch ∷ elim started.successor [ None ↦ [] | Some to ↦ to ∷ [] ]

-- a branch is started, and the process goes on in this state; or a rule is broken
abbrev pub Starts : Result Started Rule → State → Ruling → Type 0
Starts (Ok started) after ruling = ruling ≡ starts after (labels_of started)
Starts (Err broken) after ruling = ruling ≡ breaks broken
