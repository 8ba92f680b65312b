-- What is written of an instruction: its rows, its line and the state there.
use Rattle.std.specs.Prelude.{ℕ, [], ◌∷◌, ◌++◌, codes, Option, Some, None}
use Rattle.module_format.specs.Contents.{Contents}
use Rattle.states.specs.State.{State}
use Rattle.fact_texts.specs.Texts.{Text}
use Rattle.state_texts.specs.declared.settings.Setting.{Setting}
use Rattle.state_texts.specs.StateTexts.{setting_of, state_line}
use Rattle.listings.specs.Listing.{listed_line}
use Rattle.explanation_parts.specs.Rows.{rows_text}

-- the state at an offset, if there is one
unfoldable pub known_here : Contents → Setting → Option State → Text
known_here m before None = codes "       nothing leads here" ++ 10 ∷ []
known_here m before (Some s) = state_line m before s

-- the instruction at an offset, and the state there
unfoldable pub instruction_text : Contents → ℕ → Setting → Option State → Text
instruction_text m at before reached = listed_line m at ++ known_here m before reached

-- the rows of an offset, its instruction and the state there
unfoldable pub sight_text : Contents → ℕ → Setting → Option State → Text
sight_text m at before reached = rows_text m at ++ instruction_text m at before reached

-- the setting after an instruction is that of the state there
abbrev pub setting_after : Setting → Option State → Setting
setting_after before None = before
setting_after before (Some s) = setting_of s
