-- What is written where a module is refused or accepted.
use Rattle.std.specs.Prelude.{ℕ, ◌==◌, Bool, false, [], ◌∷◌, ◌++◌, codes, Option, Some, None, Result, Ok, Err}
use Rattle.std.specs.Fmt.{decimal}
use Rattle.module_format.specs.Contents.{Contents, label_at}
use Rattle.states.specs.declared.rule.Rule.{Rule}
use Rattle.states.specs.declared.rule.Rule.TheVariants as rules
use Rattle.states.specs.Numbers.{number_of}
use Rattle.states.specs.State.{State}
use Rattle.fact_texts.specs.Texts.{Text}
use Rattle.state_texts.specs.FrameTexts.{frame_text}
use Rattle.listings.specs.Listing.{listed_line}
use Rattle.explanation_parts.specs.declared.ways.Way.TheVariants.{Falls}
use Rattle.explanation_parts.specs.Costs.{label_cost}
use Rattle.explanation_parts.specs.Leads.{lack_at}

unfoldable pub refused_head : Rule → ℕ → Text
refused_head rule at = codes "refused V" ++ (decimal (number_of rule) ++ (codes " at " ++ (decimal at ++ codes ": ")))

unfoldable pub line_text : Text → Text
line_text why = why ++ 10 ∷ []

unfoldable pub refused_text : Rule → ℕ → Text → Text
refused_text rule at why = refused_head rule at ++ line_text why

-- the rule is broken by falling into the offset
abbrev pub is_at_entry : Result ℕ Rule → Rule → Bool
is_at_entry (Ok cost) broken = false
is_at_entry (Err entered) broken = number_of entered == number_of broken

-- what the label at an offset costs
abbrev pub cost_at : Contents → ℕ → State → ℕ
cost_at m at s = elim (label_at m at) [ None ↦ 0 | Some t ↦ label_cost Falls s t ]

-- what a label costs, and the number that is left
unfoldable pub unpaid_text : ℕ → ℕ → Text
unpaid_text cost number = codes "the label costs " ++ (decimal cost ++ (codes " and the number is " ++ decimal number))

-- why a state may not fall into an offset
unfoldable pub entry_reason : Contents → ℕ → Rule → State → Text
entry_reason m at rules.Flow s = codes "control runs into a procedure"
entry_reason m at rules.Budget s = unpaid_text (cost_at m at s) s.number
entry_reason m at broken s = lack_at m Falls s (label_at m at)

-- why an instruction is refused to which nothing leads
unfoldable pub unreached_reason : Rule → Text
unreached_reason rules.Flow = codes "nothing leads here"
unreached_reason broken = codes "this is no instruction of the module"

unfoldable pub within_words : Text
within_words = codes "a label, an entry or a successor is here, within the instruction at "

unfoldable pub within_text : ℕ → Text
within_text at = within_words ++ decimal at

-- a start within the instruction at an offset
abbrev pub hidden_text : ℕ → ℕ → Text
hidden_text at inside = refused_text rules.InstructionStart inside (within_text at)

-- no instruction is spelled at an offset
abbrev pub unspelled_text : Contents → ℕ → Text
unspelled_text m at = listed_line m at ++ refused_text rules.Spelling at (codes "no instruction is spelled here")

unfoldable pub accepted_text : ℕ → Text
accepted_text budget = codes "accepted, budget " ++ (decimal budget ++ 10 ∷ [])

unfoldable pub past_text : ℕ → Text
past_text at = refused_text rules.Flow at (codes "control runs past the end of the code")

-- what is known of the words of the frame, and that control runs past the end of the code
unfoldable pub run_past : Contents → ℕ → State → Text
run_past m at s = frame_text m s ++ past_text at

-- the end of the code
unfoldable pub ended_text : Contents → ℕ → Option State → Text
ended_text m at None = accepted_text m.budget
ended_text m at (Some s) = run_past m at s
