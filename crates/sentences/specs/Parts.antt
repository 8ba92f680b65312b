-- Parts of sentences: which word, guard or row is the reason.
use Rattle.std.specs.Prelude.{[], ◌++◌, codes, Option, Some, None}
use Rattle.std.specs.Fmt.{decimal, signed_decimal}
use Rattle.module_format.specs.declared.stack.Stack.{Stack}
use Rattle.machine_state.specs.declared.op.Op.{Op}
use Rattle.machine_state.specs.declared.instruction.Instruction.{Instruction}
use Rattle.machine_state.specs.declared.instruction.Instruction.TheVariants.{Operate}
use Rattle.states.specs.declared.known.Known.{Known}
use Rattle.states.specs.State.{State}
use Rattle.fact_texts.specs.Texts.{Text}
use Rattle.state_texts.specs.FrameTexts.{word_text}
use Rattle.found_parts.specs.declared.guards.NextGuard.{NextGuard}
use Rattle.found_parts.specs.declared.messages.KnownWord.{KnownWord}
use Rattle.found_parts.specs.declared.turns.Turn.{Turn}
use Rattle.found_parts.specs.Guards.{registers_text, next_text, next_guard}

-- what a turn costs, and what it may cost
unfoldable pub turn_part : Option Turn → Text
turn_part None = []
turn_part (Some turn) =
    codes "; a turn costs " ++ (decimal turn.cost ++ (codes " and the weight is " ++ decimal turn.weight))

-- which word is no number
unfoldable pub word_part : Option KnownWord → Text
word_part None = []
word_part (Some known) = codes ": word " ++ (signed_decimal known.word ++ (codes " is " ++ word_text known.fact))

-- which guard is next
unfoldable pub next_part : Option NextGuard → Text
next_part None = []
next_part (Some next) = codes "; " ++ next_text next

-- the registers that are used for a guard
unfoldable pub registers_part : Op → Stack Known → Text
registers_part op stack = registers_text op stack

-- the registers that an operation uses for a guard, and which guard is next
unfoldable pub guard_text : Op → State → Text
guard_text op s = registers_part op s.stack ++ next_part (next_guard op s)

-- the same of an instruction
unfoldable pub guard_part : Instruction → State → Text
guard_part (Operate op) s = guard_text op s
guard_part i s = []
