-- The rule of each instruction that concerns one process and its memory alone: what it wants of the state before it,
-- and what it leaves. The rules mirror the steps of the machine, and their tests are in rising order of the numbers of
-- rules.
use Rattle.std.specs.Prelude.{◌+◌, ◌&&◌, ℤ, pos, ◌+ℤ◌, ◌*ℤ◌}
use Rattle.word_arithmetic.specs.Word.{least_word}
use Rattle.module_format.specs.declared.fact.Fact.TheVariants.{Number, Pointer}
use Rattle.module_format.specs.declared.fact.Region.TheVariants as regions
use Rattle.module_format.specs.declared.fact.Step.TheVariants.{Byte, Word}
use Rattle.machine_state.specs.declared.op.Op.{Op}
use Rattle.machine_state.specs.declared.op.Op.TheVariants.{Reverse, StopProcess, MinimumInteger, Binary, Unary, Shift}
use Rattle.machine_state.specs.declared.op.Op.TheVariants.{Long, CheckSubscript, CheckCount, ByteSubscript}
use Rattle.machine_state.specs.declared.op.Op.TheVariants.{WordSubscript, LoadPointerToInstruction, LoadByte}
use Rattle.machine_state.specs.declared.op.Op.TheVariants.{StoreByte, Move, LoopEnd}
use Rattle.machine_state.specs.declared.instruction.Instruction.{Instruction}
use Rattle.machine_state.specs.declared.instruction.Instruction.TheVariants.{Jump, LoadConstant, LoadLocal, StoreLocal}
use Rattle.machine_state.specs.declared.instruction.Instruction.TheVariants.{WithConstant, Operate, LoadLocalPointer}
use Rattle.machine_state.specs.declared.instruction.Instruction.TheVariants.{AdjustWorkspace, ConditionalJump}
use Rattle.machine_state.specs.declared.instruction.Instruction.TheVariants.{LoadNonLocalPointer, LoadNonLocal}
use Rattle.machine_state.specs.declared.instruction.Instruction.TheVariants.{StoreNonLocal, Call}
use Rattle.machine_state.specs.LocalStep.{target}
use Rattle.states.specs.declared.rule.Rule.TheVariants as rules
use Rattle.states.specs.declared.known.Source.TheVariants.{Nowhere}
use Rattle.states.specs.State.{State, known, written}
use Rattle.rulings.specs.Rulings.{Ruling, ends, breaks, Site, outside_alternation, outside_starts, alone, uses}
use Rattle.rulings.specs.Rulings.{forward, writes_word, reads_word, schedules, pays, forks_to, goes_on, goes_to, push}
use Rattle.rulings.specs.Rulings.{pop, reverse, in_bounds}
use Rattle.local_rules.specs.WordRules.{known_constant, word_as_known, has_range, checks, has_long_operations}
use Rattle.local_rules.specs.WordRules.{fact_of_two}
use Rattle.local_rules.specs.WordRules.{result_fact, unary_result_fact, shift_range, is_subscript, is_count}
use Rattle.local_rules.specs.WordRules.{long_results, result_source, constant_source, becomes, where_false, where_true}
use Rattle.local_rules.specs.WordRules.{in_frame}
use Rattle.rulings.specs.Pointers.{near}
use Rattle.local_rules.specs.MemoryRules.{shifts_pointer, subscripts, loads_place, loads_word, loads_byte, stores_word}
use Rattle.local_rules.specs.MemoryRules.{stores_byte}
use Rattle.local_rules.specs.MoveRules.{moves}
use Rattle.local_rules.specs.LoopRules.{ends_turn}

-- the rule of an operation of this family; one of another family has none here
unfoldable pub local_operation_rule : Site → Op → State → Ruling
local_operation_rule site Reverse s = alone s.mode (goes_on site (reverse s))
local_operation_rule site MinimumInteger s = outside_starts s.mode (goes_on site (push (known_constant least_word) s))
local_operation_rule site StopProcess s = alone s.mode (schedules site s (λ s. pays site s (λ s. ends)))
local_operation_rule site (Binary op) s =
    uses s.stack.a (λ a. uses s.stack.b (λ b.
    becomes site (result_fact op b a) (result_source op s.stack.b s.stack.a) (pop s)))
local_operation_rule site (Unary op) s = uses s.stack.a (λ a. becomes site (unary_result_fact op a) Nowhere s)
local_operation_rule site (Shift op) s =
    uses s.stack.a (λ a. uses s.stack.b (λ b. becomes site (fact_of_two (shift_range op) b a) Nowhere (pop s)))
local_operation_rule site (Long op) s =
    has_long_operations site (uses s.stack.a (λ a. uses s.stack.b (λ b. uses s.stack.c (λ c.
    in_bounds (has_range a && has_range b && has_range c)
    (alone s.mode (goes_on site (record s { stack = long_results op })))))))
local_operation_rule site CheckSubscript s = checks is_subscript site s
local_operation_rule site CheckCount s = checks is_count site s
local_operation_rule site ByteSubscript s = subscripts Byte site s
local_operation_rule site WordSubscript s = subscripts Word site s
local_operation_rule site LoadPointerToInstruction s = loads_place site s
local_operation_rule site LoadByte s = loads_byte site s
local_operation_rule site StoreByte s = stores_byte site s
local_operation_rule site Move s = moves site s
local_operation_rule site LoopEnd s = ends_turn site s
local_operation_rule site _ s = breaks rules.Spelling

-- the same of an instruction
unfoldable pub local_rule : Site → Instruction → ℤ → State → Ruling
local_rule site LoadConstant e s = goes_on site (push (known_constant e) s)
local_rule site LoadLocal e s =
    let k = s.depth +ℤ e in
    outside_starts s.mode (reads_word site s k (goes_on site (push (word_as_known k (s.frame k)) s)))
local_rule site StoreLocal e s =
    let k = s.depth +ℤ e in
    uses s.stack.a (λ a. alone s.mode (writes_word site s k (goes_on site (pop (written k a s)))))
local_rule site (WithConstant op) e s =
    uses s.stack.a (λ a. becomes site (result_fact op a (Number e e)) (constant_source op s.stack.a e) s)
local_rule site LoadLocalPointer e s =
    let offset = pos 4 *ℤ (s.depth +ℤ e) in
    near offset (goes_on site (push (known (Pointer regions.Frame offset offset Word)) s))
local_rule site AdjustWorkspace e s =
    let depth = s.depth +ℤ e in
    alone s.mode (in_frame site s depth (goes_on site (record s { depth = depth })))
local_rule site ConditionalJump e s =
    uses s.stack.a (λ a. in_bounds (has_range a) (outside_alternation s.mode (forward e (outside_starts s.mode
    (pays site s (λ s. forks_to site (target (site.at + site.length) e) (where_false s) (where_true s)))))))
local_rule site Jump e s =
    outside_alternation s.mode (forward e (goes_to site (target (site.at + site.length) e) s))
local_rule site LoadNonLocalPointer e s = shifts_pointer site e s
local_rule site LoadNonLocal e s = loads_word site e s
local_rule site StoreNonLocal e s = stores_word site e s
local_rule site Call e s = breaks rules.Spelling
local_rule site (Operate op) e s = local_operation_rule site op s
