-- The sentence that explains a refusal: what was wanted, and what was found.
use Rattle.std.specs.Prelude.{ℕ, ◌+◌, ◌++◌, codes, Option, Some, None, is_some}
use Rattle.prefix_decoder.specs.declared.decoding.Instr.{Instr}
use Rattle.module_format.specs.Contents.{Contents}
use Rattle.machine_state.specs.declared.op.Op.{Op}
use Rattle.machine_state.specs.declared.instruction.Instruction.{Instruction}
use Rattle.machine_state.specs.declared.instruction.Instruction.TheVariants.{Operate}
use Rattle.machine_state.specs.Instructions.{instruction_of}
use Rattle.states.specs.declared.rule.Rule.{Rule}
use Rattle.states.specs.State.{State}
use Rattle.fact_texts.specs.Texts.{Text}
use Rattle.fact_texts.specs.declared.facts.RangeText.{RangeText}
use Rattle.listings.specs.Listing.{entry_of, entry_name, entry_text}
use Rattle.listings.specs.declared.lines.Entry.{Entry}
use Rattle.listings.specs.declared.lines.Entry.TheVariants.{Operation}
use Rattle.listings.specs.Names.{operation_name}
use Rattle.explanation_parts.specs.declared.places.Spot.{Spot}
use Rattle.explanation_parts.specs.Wanted.{wanted}
use Rattle.explanation_parts.specs.Results.{result_of}
use Rattle.sentences.specs.Found.{found}

unfoldable pub wants_part : Text → Text
wants_part words = codes " wants " ++ words

unfoldable pub found_part : Contents → Rule → Spot → State → Option RangeText → Text
found_part m rule spot s sum = codes "; " ++ found m rule spot s sum

-- what an instruction wants, and what was found
unfoldable pub wants_text : Contents → Rule → Spot → State → Text
wants_text m rule spot s =
    wants_part (wanted rule spot.instruction (is_some (result_of spot.instruction spot.instr.operand s.stack)))
    ++ found_part m rule spot s (result_of spot.instruction spot.instr.operand s.stack)

-- the name of an operation; of one that the module does not have its number too
unfoldable pub operation_text : Entry → Op → Text
operation_text (Operation listed) op = operation_name listed
operation_text entry op = entry_text entry ++ (codes " (" ++ (operation_name op ++ codes ")"))

-- the name of an instruction
unfoldable pub name_text : Entry → Instruction → Text
name_text entry (Operate op) = operation_text entry op
name_text entry i = entry_name entry

unfoldable pub named_text : Contents → Entry → Rule → Spot → State → Text
named_text m entry rule spot s = name_text entry spot.instruction ++ wants_text m rule spot s

unfoldable pub no_instruction : Entry → Text
no_instruction entry = entry_text entry ++ codes " is no instruction"

abbrev pub sentence_of : Contents → ℕ → Instr → Rule → State → Entry → Option Instruction → Text
sentence_of m at instr rule s entry None = no_instruction entry
sentence_of m at instr rule s entry (Some i) =
    named_text m entry rule (record { instruction = i; instr = instr; next = at + instr.len }) s

-- an instruction at an offset breaks a rule in this state
unfoldable pub sentence : Contents → ℕ → Instr → Rule → State → Text
sentence m at instr rule s =
    sentence_of m at instr rule s (entry_of m.has_long_operations instr.fun instr.operand)
    (instruction_of instr.fun instr.operand)
