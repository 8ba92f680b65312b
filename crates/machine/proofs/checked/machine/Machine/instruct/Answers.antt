use Rattle.std.proofs.Common.{ℤ, of_z, rules, subst, to_z, true}
use Rattle.std.proofs.lemmas.Int.{to_z-of_z}
use Rattle.std.specs.Int.{w32}
use Rattle.std.specs.Prelude.{◌≡◌}
use Rattle.module_format.specs.Contents.{Contents, contents_of}
use Rattle.machine_state.specs.Happens.{settled}
use Rattle.traffic.specs.Settling.{here_in, OnMemory}
use Rattle.machine.specs.Allocating.{outcome_may_allocate}
use Rattle.machine.specs.Applying.{Applies, outcome_at}
use Rattle.machine.proofs.Performing.{rest_is_whole, whole_allocates}
use Rattle.machine.proofs.checked.machine.Machine.instruct.Goals as goal
use Rattle.machine.proofs.checked.machine.Machine.instruct.Goals.{After-settle}

-- what holds of the contents of the tables, and of the operand read back from its bits, holds of the module and the
-- operand
of_module : (c : After-settle) (P : Contents → ℤ → Type 0)
    → P (contents_of c.tables.result.now) (to_z w32 (of_z w32 c.args.operand))
    → P c.args.step.now.module.now c.args.operand
of_module c P there =
    subst (λ (m : Contents). P m c.args.operand) c.tables.ensures.contents
    (subst (P (contents_of c.tables.result.now)) (to_z-of_z w32 c.args.operand (search rules)) there)

pub returns-in-Ok-clause-applies : goal.returns-in-Ok-clause-applies
returns-in-Ok-clause-applies c =
    let performs = c.in-Ok.ensures.performs in
    let step = c.args.step.now in
    let here = here_in step.module.now step.here in
    let w = c.args.self.now.world in
    let later = c.settle.new.self.world in
    of_module (goal.at.returns-in-Ok-clause-applies c).After-settle
    (λ (m : Contents) (operand : ℤ). Applies w later c.settle.result (settled here step.slice (outcome_at (here_in m
    step.here) c.args.fun operand w) w))
    (rest_is_whole here step.slice w c.perform.new.self.world later c.in-Ok.registers _ c.settle.result c.in-Ok.flow
    performs.0 performs.1 c.settle.ensures.memory c.settle.ensures.applies)

pub returns-in-Ok-clause-memory : goal.returns-in-Ok-clause-memory
returns-in-Ok-clause-memory c =
    let performs = c.in-Ok.ensures.performs in
    let step = c.args.step.now in
    let w = c.args.self.now.world in
    of_module (goal.at.returns-in-Ok-clause-memory c).After-settle
    (λ (m : Contents) (operand : ℤ). OnMemory c.settle.result (outcome_may_allocate (outcome_at (here_in m step.here)
    c.args.fun operand w) w ≡ true))
    (whole_allocates (here_in step.module.now step.here) step.slice w c.perform.new.self.world c.settle.new.self.world
    c.in-Ok.registers _ c.settle.result c.in-Ok.flow performs.0 performs.1 c.settle.ensures.memory)
