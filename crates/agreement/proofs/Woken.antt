-- A process that waits for a message inside is ready: nothing else changes but the ready list.
use Rattle.std.proofs.Common.{refl, ◌≡◌, ◌≢◌, ℕ, inl, inr, ◌∷◌, [], ◌++◌, List, map}
use Rattle.std.proofs.Common.{Option, Some, None, ap, ◌∙◌, sym, subst, slice_get}
use Rattle.std.proofs.lemmas.Bool.{cases_eq}
use Rattle.std.proofs.lemmas.List.{map-append}
use Rattle.std.specs.Prelude.{slice_set}
use Rattle.module_format.specs.Contents.{Contents}
use Rattle.machine_state.specs.declared.link.InputLink.{InputLink}
use Rattle.machine_state.specs.declared.process.Condition.TheVariants.{Ready}
use Rattle.machine_state.specs.declared.process.Task.{Task}
use Rattle.machine_state.specs.World.{World}
use Rattle.machine_state.proofs.Lines.{got_set}
use Rattle.world_laws.specs.Parked.{IsParked, IsInside}
use Rattle.agreement.specs.Agrees as agree
use Rattle.agreement.specs.Agrees.{PlainMachine, Agrees, workspace_in}
use Rattle.agreement.proofs.OneBecomes.{is_mine, is_other, messages_stay, alternations_stay}
use Rattle.agreement.proofs.Passing.{mapped_alike}
use Rattle.agreement.proofs.Waking.{same_workspaces, same_outputs, same_input, same_channel}

module _ (m : Contents) (w : World) (machine : PlainMachine) (agrees : Agrees m machine w) (q : ℕ) (task : Task)
    (was : IsParked w q task) (outside : IsInside task.mode → ⊥)
    (no_link : (k : ℕ) (l : InputLink) (r : ℕ) → slice_get w.links.inputs k ≡ Some l → l.waiting ≡ Some r → q ≢ r)
  where
    abbrev later : Task
    later = record task { condition = Ready }

    abbrev tasks : List Task
    tasks = slice_set w.tasks q later

    abbrev after : PlainMachine
    after = record machine { ready = machine.ready ++ task.registers.workspace ∷ [] }

    abbrev w' : World
    w' = record w { tasks = tasks; queue = record { running = w.queue.running; ready = w.queue.ready ++ q ∷ [] } }

    mine : slice_get tasks q ≡ Some later
    mine = got_set w.tasks q task later was.here

    registers : (r : ℕ) (t : Task) → w.queue.running ≡ Some r → slice_get tasks r ≡ Some t
        → agree.HasRegisters after t.registers
    registers r t runs there =
        let differ : q ≢ r = λ same. was.aside (runs ∙ ap Some (sym same)) in
        let x = agrees.registers r t runs (is_other w.tasks q task later was.here r t differ there) in
        record { workspace = x.workspace; at = x.at; operand = x.operand; stack = x.stack }

    parked : (r : ℕ) (t : Task) → IsParked w' r t → agree.KeepsOffset m machine.memory t.registers
    parked r t x = elim (cases_eq q r) [
      | inl same ↦ subst (λ (t : Task). agree.KeepsOffset m machine.memory t.registers)
          (is_mine w.tasks q task later was.here r t same x.here) (agrees.parked q task was)
      | inr differ ↦
          agrees.parked r t (record {
            here = is_other w.tasks q task later was.here r t differ x.here;
            live = x.live;
            aside = x.aside;
          })
    ]

    workspace_is : workspace_in tasks q ≡ task.registers.workspace
    workspace_is = ap (λ (o : Option Task). elim o as (λ o. ℕ) [ None ↦ 0 | Some t ↦ t.registers.workspace ]) mine

    ready_is : after.ready ≡ map (workspace_in tasks) (w.queue.ready ++ q ∷ [])
    ready_is =
        ap (λ (ready : List ℕ). ready ++ task.registers.workspace ∷ [])
        (agrees.ready ∙ same_workspaces w q task was.here later refl w.queue.ready)
        ∙ (ap (λ (a : ℕ). map (workspace_in tasks) w.queue.ready ++ a ∷ []) (sym workspace_is)
        ∙ sym (map-append (workspace_in tasks) w.queue.ready (q ∷ [])))

    pub woken_agrees : Agrees m after w'
    woken_agrees = record {
      memory = agrees.memory;
      running = agrees.running;
      registers = registers;
      ready = ready_is;
      parked = parked;
      channels = λ k c there. agrees.channels k c there
          ∙ same_channel w q task was.here later refl c.waiting c.enabled;
      messages = messages_stay m w machine agrees q task later was.here refl;
      alternations = λ r t x. alternations_stay m w machine agrees q task later was.here outside r t x.here x.inside;
      outputs = agrees.outputs ∙ same_outputs w q task was.here later refl w.links.outputs;
      inputs = agrees.inputs ∙ mapped_alike (agree.plain_input w.tasks) (agree.plain_input tasks) w.links.inputs
          (λ k l there. same_input w q task was.here later refl l (λ r is. no_link k l r there is));
      joins = agrees.joins;
      counters = agrees.counters;
    }
