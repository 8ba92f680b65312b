-- Where a call leads, and what is asked at a return, in words.
use Rattle.std.specs.Prelude.{ℕ, ℤ, pos, ◌++◌, codes}
use Rattle.std.specs.Fmt.{signed_decimal}
use Rattle.module_format.specs.Contents.{Contents}
use Rattle.certificate.specs.Starts.{procedure_at}
use Rattle.machine_state.specs.LocalStep.{target}
use Rattle.machine_state.specs.declared.instruction.Instruction.{Instruction}
use Rattle.machine_state.specs.declared.instruction.Instruction.TheVariants.{Operate}
use Rattle.states.specs.declared.known.WordFact.{WordFact}
use Rattle.states.specs.State.{State}
use Rattle.fact_texts.specs.Texts.{Text}
use Rattle.fact_texts.specs.RowTexts.{context_text}
use Rattle.state_texts.specs.FrameTexts.{word_text}
use Rattle.explanation_parts.specs.Begun.{procedure_begun}
use Rattle.explanation_parts.specs.Places.{target_found}

unfoldable pub context_found : Contents → ℕ → Text
context_found m n = codes "the context is " ++ context_text m n

unfoldable pub depth_found : ℤ → Text
depth_found depth = codes ", the depth " ++ signed_decimal depth

unfoldable pub word_zero_found : WordFact → Text
word_zero_found fact = codes " and word 0 is " ++ word_text fact

-- the depth, and what word 0 has
unfoldable pub first_word_found : State → Text
first_word_found s = depth_found s.depth ++ word_zero_found (s.frame (pos 0))

-- what is asked at a return
unfoldable pub return_found : Contents → State → Text
return_found m s = context_found m s.context ++ first_word_found s

unfoldable pub in_context : Contents → ℕ → Text
in_context m n = codes "; " ++ context_found m n

-- which procedure begins at an offset, and the context of the call
unfoldable pub callee_found : Contents → ℕ → ℕ → Text
callee_found m to n = procedure_begun m (procedure_at m to) ++ in_context m n

unfoldable pub call_target : Contents → ℕ → ℤ → ℕ → Text
call_target m next e n = target_found next e ++ callee_found m (target next e) n

-- where a call leads, or what is asked at a return
unfoldable pub call_found : Contents → Instruction → ℕ → ℤ → State → Text
call_found m (Operate op) next e s = return_found m s
call_found m i next e s = call_target m next e s.context
