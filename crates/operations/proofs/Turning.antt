-- The step of lend, test by test.
use Rattle.std.proofs.Common.{◌≡◌, ◌&&◌, ℕ, ◌%◌, ℤ, pos, Bool, true, false, cond, nat_lt, Option, Some, None, Result}
use Rattle.std.proofs.Common.{refl, sym, ap, subst, ◌∙◌}
use Rattle.std.specs.Prelude.{◌==◌, int_le, nat_abs}
use Rattle.machine_state.specs.declared.cpu.Cpu.{Cpu}
use Rattle.machine_state.specs.declared.cpu.Flow.{Flow}
use Rattle.machine_state.specs.declared.fault.FaultKind.{FaultKind}
use Rattle.machine_state.specs.declared.op.Op.TheVariants as ops
use Rattle.machine_state.specs.declared.op.Shift.{Shift}
use Rattle.machine_state.specs.declared.store.LoadStore.{Ghosts}
use Rattle.machine_state.specs.Site.{Site, Local, Outcome, fails, waits}
use Rattle.machine_state.specs.declared.fault.FaultKind.TheVariants.{NotOwn, OutsideCode, Unaligned, CountRange}
use Rattle.machine_state.specs.LocalStep.{alone, while_enabling, uses, aligned, address, leads_to, turned}
use Rattle.machine_state.specs.LocalStep.{holds_scheduling_words, schedules, writes, followed_by_code}
use Rattle.machine_state.specs.LocalStep.{without_registers, counts, replaces_two, shift_result, operation_step}
use Rattle.machine_state.specs.Performing.{Performs}
use Rattle.machine_state.proofs.Scheduling.{schedules-is}
use Rattle.operations.specs.Loops.{loop_target, counts_turn, tests_block}

-- what was performed for one outcome is performed for an equal one
pub performs-by : {S : Type 0} → (ghosts : Ghosts S) (before after : Cpu S) (r : Result Flow FaultKind) (o p : Outcome)
    → o ≡ p → Performs ghosts p before after r → Performs ghosts o before after r
performs-by ghosts before after r o p same h = subst (λ x. Performs ghosts x before after r) (sym same) h

uses-some : (v : Option ℤ) (x : ℤ) (k : ℤ → Outcome) → v ≡ Some x → uses v k ≡ k x
unfolding uses
uses-some v x k is = ap (λ (o : Option ℤ). uses o k) is

aligned-fits : (v : ℤ) (k : ℕ → Outcome) → (address v % 4 == 0) ≡ true → aligned v k ≡ k (address v)
unfolding aligned
aligned-fits v k fits = ap (λ (b : Bool). cond b (k (address v)) (fails Unaligned)) fits

pub tested-registers : (s : Site) (l : Local) (a b : ℤ) (block : ℕ)
    → ((k : ℤ → Outcome) → alone s.mode (uses l.registers.stack.a k) ≡ k a)
    → l.registers.stack.b ≡ Some b → (address b % 4 == 0) ≡ true → block ≡ address b
    → operation_step s ops.LoopEnd l ≡ tests_block s a block l
unfolding operation_step
tested-registers s l a b block finds b_is fits block_is =
    finds (λ a. uses l.registers.stack.b (λ b. aligned b (λ block. tests_block s a block l)))
    ∙ (uses-some l.registers.stack.b b (λ b. aligned b (λ block. tests_block s a block l)) b_is
    ∙ (aligned-fits b (λ block. tests_block s a block l) fits
    ∙ ap (λ (x : ℕ). tests_block s a x l) (sym block_is)))

counts-within : (least most : ℕ) (v : ℤ) (k : ℕ → Outcome) → (int_le (pos least) v && int_le v (pos most)) ≡ true
    → counts least most v k ≡ k (nat_abs v)
unfolding counts
counts-within least most v k within = ap (λ (b : Bool). cond b (k (nat_abs v)) (fails CountRange)) within

-- a word is shifted by a count that is within its bounds
pub shifts-word : (s : Site) (l : Local) (op : Shift) (a b : ℤ) (n : ℕ)
    → ((k : ℤ → Outcome) → alone s.mode (uses l.registers.stack.a k) ≡ k a)
    → l.registers.stack.b ≡ Some b → (int_le (pos 0) a && int_le a (pos 31)) ≡ true → n ≡ nat_abs a
    → operation_step s (ops.Shift op) l ≡ replaces_two s (shift_result op b n) l
unfolding operation_step
shifts-word s l op a b n finds b_is within n_is =
    finds (λ a. uses l.registers.stack.b (λ b. counts 0 31 a (λ n. replaces_two s (shift_result op b n) l)))
    ∙ (uses-some l.registers.stack.b b (λ b. counts 0 31 a (λ n. replaces_two s (shift_result op b n) l)) b_is
    ∙ (counts-within 0 31 a (λ n. replaces_two s (shift_result op b n) l) within
    ∙ ap (λ (n : ℕ). replaces_two s (shift_result op b n) l) (sym n_is)))

-- where the words that scheduling takes are not the process's own, altwt is at fault
pub waits-unscheduled : (s : Site) (l : Local) → ((o : Outcome) → while_enabling s.mode o ≡ o)
    → holds_scheduling_words s.holding l.registers.workspace ≡ false
    → operation_step s ops.AlternationWait l ≡ fails NotOwn
unfolding operation_step
waits-unscheduled s l passes held =
    let behind : Local → Outcome =
    λ l. writes s l.registers.workspace None l (λ l. followed_by_code s (waits (without_registers l))) in
    passes (schedules s l behind) ∙ (schedules-is s l behind ∙ rw held refl)

-- where a turn leads out of the code, it is at fault
pub turns-outside : (s : Site) (l : Local) (distance : ℤ) (block : ℕ) (index count : ℤ)
    → holds_scheduling_words s.holding l.registers.workspace ≡ true
    → nat_lt (loop_target s distance count) s.code_length ≡ false
    → counts_turn s distance block index count l ≡ fails OutsideCode
unfolding leads_to
turns-outside s l distance block index count held outside =
    let behind : Local → Outcome = λ l. leads_to s (loop_target s distance count) (without_registers l) in
    schedules-is s (turned block index count l) behind ∙ rw (held, outside) refl
