-- The parts of the step of lend, after its first tests.
use Rattle.std.specs.Prelude.{ℕ, ◌-◌, ◌%◌, ◌^◌, ◌&&◌, Bool, if◌then◌else◌, ℤ, pos, int_lt}
use Rattle.machine_state.specs.declared.fault.FaultKind.TheVariants.{NotOwn}
use Rattle.machine_state.specs.Holding.{Holding, may_write_word}
use Rattle.machine_state.specs.Memory.{place_of, local_address, word_at}
use Rattle.machine_state.specs.Site.{Site, Local, Outcome}
use Rattle.machine_state.specs.LocalStep.{address, word_of, target, uses, holds, schedules, leads_to}
use Rattle.machine_state.specs.LocalStep.{without_registers, turned}

-- the two words of a block, its index and its count, may be written
abbrev pub holds_block : Holding → ℕ → Bool
holds_block h block =
    may_write_word h (place_of block) && may_write_word h (place_of (local_address block (pos 1)))

-- where the process goes on, as many bytes back as this word says, or after the instruction
abbrev pub loop_target : Site → ℤ → ℤ → ℕ
loop_target s distance count =
    if int_lt (pos 1) count then target s.next (word_of ((2 ^ 32 - address distance) % 2 ^ 32)) else s.next

-- with the index and the count of the block
abbrev pub counts_turn : Site → ℤ → ℕ → ℤ → ℤ → Local → Outcome
counts_turn s distance block index count l =
    schedules s (turned block index count l) (λ l. leads_to s (loop_target s distance count) (without_registers l))

-- with the block's address, whose words are the process's own
abbrev pub turns_block : Site → ℤ → ℕ → Local → Outcome
turns_block s distance block l =
    uses (word_at l.memory (place_of block)) (λ index.
    uses (word_at l.memory (place_of (local_address block (pos 1)))) (λ count.
    counts_turn s distance block index count l))

-- with the block's address
abbrev pub tests_block : Site → ℤ → ℕ → Local → Outcome
tests_block s distance block l =
    holds (holds_block s.holding block) NotOwn
    (schedules s l (λ later. turns_block s distance block l))
