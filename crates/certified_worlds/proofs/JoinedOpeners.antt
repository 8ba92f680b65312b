-- Once all branches of a PAR are joined its opener lives on at the label after it, and owes what waited for that.
use Rattle.std.proofs.Common.{◌≡◌, ℕ, pos, List, [], length, Some, None, refl, sym, subst}
use Rattle.module_format.specs.Contents.{Contents}
use Rattle.module_format.specs.Stack.{of_empty}
use Rattle.machine_state.specs.declared.process.Mode.TheVariants as machine_modes
use Rattle.machine_state.specs.declared.process.Registers.{Registers}
use Rattle.machine_state.specs.declared.process.Task.{Task}
use Rattle.machine_state.specs.Holding.{Holding}
use Rattle.machine_state.specs.Joins.{closed_task}
use Rattle.machine_state.specs.Memory.{Memory}
use Rattle.machine_state.specs.World.{Join}
use Rattle.states.specs.State.{label_state}
use Rattle.rulings.specs.Meaning.{IsWellFormed}
use Rattle.certified_worlds.specs.Certified.{IsCertified, state_at}
use Rattle.certified_worlds.specs.Pending.{AfterPar, Pending}
use Rattle.certified_worlds.specs.Point.{Began, Behind, Decodes}
use Rattle.certified_worlds.proofs.EndsKeepPars.{opener_after}
use Rattle.certified_worlds.proofs.GivenStates.{is_given, given_label, label_is_start}
use Rattle.certified_worlds.proofs.LivesAs.{LivesAs}
use Rattle.certified_worlds.proofs.Steps.{lives_at}

module _ (m : Contents) (d : Decodes m) (wf : IsWellFormed m) (c : IsCertified m) {own : Holding} {o : ℕ}
    {began : Began} {all : List Began} {memory : Memory} {j : Join} {due : ℕ} {after : AfterPar m j due}
    (pending : Pending m own o began all memory j due after) (started : j.started ≡ length after.par.branches)
    (none : j.members ≡ []) where
  abbrev registers_after : Registers
  registers_after = record {
    workspace = j.block;
    at = after.par.successor;
    began = after.par.successor;
    operand = pos 0;
    stack = of_empty None;
  }

  pub opener_lives : (task : Task)
      → LivesAs m own began memory (closed_task j after.par task) due (label_state after.label) after.act
  opener_lives task =
      let low = wf.labels after.par.successor after.label after.at in
      let r = c.holds.starts after.par.successor low (label_is_start m after.par.successor after.label after.at) in
      let st : state_at m after.par.successor r.0 ≡ Some (label_state after.label) =
      is_given m after.par.successor r.0 (label_state after.label)
      (given_label m after.par.successor after.label after.at) in
      subst (λ (n : ℕ). LivesAs m own began memory (closed_task j after.par task) n (label_state after.label) after.act)
      (sym after.paid)
      (lives_at m d wf c own began machine_modes.Plain after.act after.par.successor r.0 (label_state after.label)
      (record { registers = registers_after; memory = memory }) after.callers r.1 low st refl
      (opener_after pending started none registers_after refl)
      (subst (λ (n : ℕ). Behind m own began n after.act.layout memory after.callers) (sym after.context)
      pending.behind))
