-- What was found where an instruction breaks a rule, in words.
use Rattle.std.specs.Prelude.{ℕ, if◌then◌else◌, ℤ, ◌++◌, codes, Option, Some, None}
use Rattle.std.specs.Fmt.{decimal}
use Rattle.module_format.specs.Contents.{Contents}
use Rattle.module_format.specs.declared.stack.Stack.{Stack}
use Rattle.certificate.specs.Starts.{procedure_at}
use Rattle.certificate.specs.Branches.{branch_at}
use Rattle.machine_state.specs.LocalStep.{target}
use Rattle.machine_state.specs.declared.op.Op.TheVariants.{Move, StartProcess}
use Rattle.machine_state.specs.declared.instruction.Instruction.{Instruction}
use Rattle.machine_state.specs.declared.instruction.Instruction.TheVariants.{LoadLocalPointer, Operate}
use Rattle.states.specs.declared.known.Known.{Known}
use Rattle.states.specs.declared.rule.Rule.{Rule}
use Rattle.states.specs.declared.rule.Rule.TheVariants as rules
use Rattle.states.specs.State.{State}
use Rattle.fact_texts.specs.Texts.{Text}
use Rattle.fact_texts.specs.RowTexts.{is_unknown}
use Rattle.fact_texts.specs.declared.facts.RangeText.{RangeText}
use Rattle.found_parts.specs.Messages.{unknown_word}
use Rattle.explanation_parts.specs.declared.uses.Uses.TheVariants.{AAndB, All}
use Rattle.explanation_parts.specs.declared.places.Spot.{Spot}
use Rattle.explanation_parts.specs.Calls.{call_found}
use Rattle.explanation_parts.specs.Channels.{channel_found, length_found}
use Rattle.explanation_parts.specs.Labels.{way_found, label_found}
use Rattle.explanation_parts.specs.Modes.{guards_found, par_found}
use Rattle.explanation_parts.specs.Parameters.{asks_parameters, arguments_found}
use Rattle.explanation_parts.specs.Places.{offset_found, place_found, workspace_found}
use Rattle.explanation_parts.specs.Registers.{registers_found, number_found}
use Rattle.explanation_parts.specs.Uses.{used}
use Rattle.sentences.specs.Moves.{brings_mixed, mixed_words}
use Rattle.sentences.specs.Parts.{word_part, guard_part}
use Rattle.sentences.specs.Payments.{asked_text}
use Rattle.sentences.specs.Started.{fault_part, shared_part}
use Rattle.sentences.specs.Targets.{branch_part, branch_target}

unfoldable pub bytes_words : Text
bytes_words = codes "a byte of the message may be part of no number"

-- which word is no number, of those that are sent
unfoldable pub bytes_found : State → Text
bytes_found s = bytes_words ++ word_part (unknown_word s)

-- the first register of which nothing is known; if there is none, it is a byte of a message
unfoldable pub unknown_found : State → Text
unknown_found s =
    if is_unknown s.stack.a.fact then codes "nothing is known of A"
    else if is_unknown s.stack.b.fact then codes "nothing is known of B"
    else if is_unknown s.stack.c.fact then codes "nothing is known of C"
    else bytes_found s

-- what is known of the registers, and whether bytes go into a parameter that are of no numbers
unfoldable pub move_found : State → Text
move_found s = registers_found All s.stack ++ mixed_words (brings_mixed s)

-- the offset of a pointer that is made, or else what is known of the registers that are used
unfoldable pub pointer_found : Instruction → ℤ → State → Text
pointer_found LoadLocalPointer e s = offset_found s.depth e
pointer_found (Operate Move) e s = move_found s
pointer_found i e s = registers_found (used i) s.stack

unfoldable pub order_found : Instruction → State → Text
order_found i s = guards_found s ++ guard_part i s

-- which branch begins where one is started, and what its start wants that is not so
unfoldable pub started_part : Contents → Spot → State → Text
started_part m spot s =
    branch_part m spot.next (branch_target spot.instruction s.stack)
    ++ fault_part m spot.next s (branch_target spot.instruction s.stack)

-- what is used for a PAR, and which branch begins where one is started
unfoldable pub start_found : Contents → Spot → State → Text
start_found m spot s = par_found spot.instruction s ++ started_part m spot s

-- what is known of the registers, and what a branch has in common with one that is started
unfoldable pub regions_found : Contents → Spot → State → Text
regions_found m spot s =
    registers_found (used spot.instruction) s.stack
    ++ shared_part m spot.next s (branch_target spot.instruction s.stack)

-- the word that is used, or else where the workspace is of the branch that is started at a distance
abbrev pub place_or : Contents → Instruction → ℕ → ℤ → State → Option ℤ → Text
place_or m i next e s None = place_found m i e s
place_or m i next e s (Some distance) = workspace_found m (branch_at m (target next distance))

-- the same of an instruction
unfoldable pub own_word_found : Contents → Instruction → ℕ → ℤ → State → Text
own_word_found m i next e s = place_or m i next e s (branch_target i s.stack)

-- which channel an instruction names, or what is known of the registers that are used
unfoldable pub end_found : Instruction → Stack Known → Text
end_found (Operate StartProcess) stack = registers_found AAndB stack
end_found (Operate op) stack = channel_found stack.b.fact
end_found i stack = registers_found All stack

-- the lengths of a message and of those of its channel, or what is known of the registers that are used
unfoldable pub message_found : Contents → Instruction → State → Text
message_found m (Operate op) s = length_found m s
message_found m i s = registers_found All s.stack

-- what the bytes of an instruction cost, and the number that is left
unfoldable pub payment_found : ℕ → ℕ → Text
payment_found len number = codes "its bytes are " ++ (decimal len ++ (codes " and the number is " ++ decimal number))

-- the same, and what is asked where it leads
unfoldable pub budget_found : Contents → Spot → State → Text
budget_found m spot s = payment_found spot.instr.len s.number ++ asked_text m spot s

-- ---- by the rule

unfoldable pub found_by : Contents → Rule → Spot → State → Option RangeText → Text
found_by m rules.Spelling spot s sum = codes "this one has none"
found_by m rules.InstructionStart spot s sum = codes "one starts there"
found_by m rules.Flow spot s sum = codes "nothing leads here"
found_by m rules.UnknownRegister spot s sum = unknown_found s
found_by m rules.Number spot s sum = number_found (used spot.instruction) s.stack sum
found_by m rules.Pointer spot s sum = pointer_found spot.instruction spot.instr.operand s
found_by m rules.RegionsMeet spot s sum = regions_found m spot s
found_by m rules.Channel spot s sum = end_found spot.instruction s.stack
found_by m rules.MessageLength spot s sum = message_found m spot.instruction s
found_by m rules.Alternation spot s sum = order_found spot.instruction s
found_by m rules.Forward spot s sum = way_found spot.instruction spot.next spot.instr.operand s
found_by m rules.Par spot s sum = start_found m spot s
found_by m rules.Call spot s sum = call_found m spot.instruction spot.next spot.instr.operand s
found_by m rules.OwnWord spot s sum = own_word_found m spot.instruction spot.next spot.instr.operand s
found_by m rules.Budget spot s sum = budget_found m spot s
found_by m rules.Label spot s sum = label_found m spot.instruction spot.next spot.instr.operand s

-- the same, or of a call what it passes, where the rule speaks of that
unfoldable pub found : Contents → Rule → Spot → State → Option RangeText → Text
found m rule spot s sum =
    if asks_parameters rule spot.instruction
    then arguments_found m rule s (procedure_at m (target spot.next spot.instr.operand))
    else found_by m rule spot s sum
