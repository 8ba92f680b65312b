-- What is asked of the number where an instruction leads.
use Rattle.std.specs.Prelude.{ℕ, Bool, true, false, if◌then◌else◌, [], ◌++◌, codes, Option, Some, None}
use Rattle.std.specs.Fmt.{decimal}
use Rattle.module_format.specs.Contents.{Contents, Label, label_at}
use Rattle.certificate.specs.Starts.{Entered, procedure_at}
use Rattle.machine_state.specs.declared.op.Op.TheVariants.{LoopEnd}
use Rattle.machine_state.specs.declared.instruction.Instruction.{Instruction}
use Rattle.machine_state.specs.declared.instruction.Instruction.TheVariants.{Call, Operate}
use Rattle.machine_state.specs.LocalStep.{target}
use Rattle.states.specs.State.{State}
use Rattle.fact_texts.specs.Texts.{Text}
use Rattle.explanation_parts.specs.declared.ways.Way.{Way}
use Rattle.found_parts.specs.declared.turns.Turn.{Turn}
use Rattle.found_parts.specs.Turns.{turn_of}
use Rattle.explanation_parts.specs.declared.leads.Lead.{Lead}
use Rattle.explanation_parts.specs.declared.places.Spot.{Spot}
use Rattle.sentences.specs.Parts.{turn_part}
use Rattle.explanation_parts.specs.Leads.{lead_of}
use Rattle.explanation_parts.specs.Costs.{label_cost}

unfoldable pub label_words : Text
label_words = codes "; the label costs "

unfoldable pub procedure_words : Text
procedure_words = codes "; the procedure costs "

-- words and a cost
unfoldable pub cost_text : Text → ℕ → Text
cost_text words cost = words ++ decimal cost

-- an instruction ends a turn of a loop
abbrev pub ends_turn : Instruction → Bool
ends_turn (Operate LoopEnd) = true
ends_turn i = false

-- the turn that ends at an instruction, where the label asks this
abbrev pub turn_at : Spot → State → ℕ → Option Turn
turn_at spot s asked = if ends_turn spot.instruction then turn_of s spot.instr.len asked else None

-- what a label costs, and where a turn ends what that costs
unfoldable pub label_text : Spot → State → ℕ → Text
label_text spot s asked = cost_text label_words asked ++ turn_part (turn_at spot s asked)

abbrev pub label_asked : Way → Spot → State → Option Label → Text
label_asked way spot s None = []
label_asked way spot s (Some t) = label_text spot s (label_cost way s t)

abbrev pub procedure_asked : Option Entered → Text
procedure_asked None = []
procedure_asked (Some e) = cost_text procedure_words e.procedure.number

abbrev pub lead_asked : Contents → Spot → State → Option Lead → Text
lead_asked m spot s None = []
lead_asked m spot s (Some l) = label_asked l.way spot s (label_at m (target spot.next l.distance))

abbrev pub asked_by : Contents → Instruction → Spot → State → Text
asked_by m Call spot s = procedure_asked (procedure_at m (target spot.next spot.instr.operand))
asked_by m i spot s = lead_asked m spot s (lead_of i spot.instr.operand s.stack)

-- what is asked where an instruction leads
unfoldable pub asked_text : Contents → Spot → State → Text
asked_text m spot s = asked_by m spot.instruction spot s
