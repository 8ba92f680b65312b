-- A process comes to be, and is ready: nothing else changes but channels and roles.
use Rattle.std.proofs.Common.{◌≡◌, ℕ, ◌+◌, ◌*◌, ◌<◌, ◌⊎◌, inl, inr, pos, List, [], ◌∷◌, ◌++◌, map, length}
use Rattle.std.proofs.Common.{Option, Some, None, ap, ◌∙◌, sym, subst, slice_get}
use Rattle.std.proofs.lemmas.List.{map-append}
use Rattle.std.specs.Option.{unwrap_or}
use Rattle.small_laws.proofs.Lookups.{slice_get-append_left}
use Rattle.module_format.specs.Contents.{Contents, Par}
use Rattle.machine_state.specs.declared.process.Channel.{Channel}
use Rattle.machine_state.specs.declared.process.Condition.TheVariants.{Ready}
use Rattle.machine_state.specs.declared.process.Exchange.{Exchange}
use Rattle.machine_state.specs.declared.process.Task.{Task}
use Rattle.machine_state.specs.LocalStep.{address}
use Rattle.machine_state.specs.Memory.{Memory, word_at}
use Rattle.machine_state.specs.Roles.{opened_in}
use Rattle.machine_state.specs.World.{World, Role, Join}
use Rattle.machine_state.proofs.Lines.{got_either, got_last, got_within}
use Rattle.world_laws.specs.Parked.{IsParked, IsAlternating, IsInside}
use Rattle.agreement.specs.Agrees as agree
use Rattle.agreement.specs.Agrees.{PlainMachine, Agrees, workspace_in, channel_word}
use Rattle.agreement.proofs.Names.{Names, word_by, ready_same, channel_same, outputs_same, inputs_same}
use Rattle.agreement.proofs.Passing.{keeps_none}

-- ---- one process more

-- a channel that is new is empty, and its word says so
pub record IsNew (memory : Memory) (k : ℕ) (c : Channel) : Type 0 where
  pub waiting : c.waiting ≡ None
  pub enabled : c.enabled ≡ None
  pub word : address (unwrap_or (word_at memory (4 * k)) (pos 0)) ≡ agree.empty_channel

module _ (m : Contents) (w : World) (machine : PlainMachine) (agrees : Agrees m machine w)
    (names : Names (λ q. q < length w.tasks) w.queue w.channels w.links) (task : Task)
    (outside : IsInside task.mode → ⊥)
    (ready : task.condition ≡ Ready) (offset : agree.KeepsOffset m machine.memory task.registers) (new : ℕ)
    (number : length w.tasks ≡ new) (roles : List Role) (channels : List (Option Channel))
    (words : (k : ℕ) (c : Channel) → slice_get channels k ≡ Some (Some c)
    → (slice_get w.channels k ≡ Some (Some c)) ⊎ IsNew machine.memory k c)
    (joins : (q : ℕ) (j : Join) (par : Par) → opened_in roles q ≡ Some j → slice_get m.pars j.row ≡ Some par
    → agree.KeepsJoin m machine.memory j par) where
  abbrev tasks : List Task
  tasks = w.tasks ++ task ∷ []

  abbrev after : PlainMachine
  after = record machine { ready = machine.ready ++ task.registers.workspace ∷ [] }

  abbrev w' : World
  w' = record w {
    tasks = tasks;
    roles = roles;
    channels = channels;
    queue = record { running = w.queue.running; ready = w.queue.ready ++ new ∷ [] };
  }

  abbrev workspace_of : Option Task → ℕ
  workspace_of o = elim o as (λ o. ℕ) [ None ↦ 0 | Some t ↦ t.registers.workspace ]

  -- those that were there
  known : (q : ℕ) → q < length w.tasks → slice_get tasks q ≡ slice_get w.tasks q
  known q low = let x = got_within w.tasks q low in slice_get-append_left w.tasks (task ∷ []) q x.0 x.1 ∙ sym x.1

  abbrev Was : ℕ → Type 0
  Was q = q < length w.tasks

  ready_is : after.ready ≡ map (workspace_in tasks) (w.queue.ready ++ new ∷ [])
  ready_is =
      ap (λ (ready : List ℕ). ready ++ task.registers.workspace ∷ [])
      (agrees.ready ∙ ready_same w.tasks tasks Was known w.queue w.channels w.links names)
      ∙ (ap (λ (a : ℕ). map (workspace_in tasks) w.queue.ready ++ a ∷ [])
      (sym (subst (λ (n : ℕ). workspace_in tasks n ≡ task.registers.workspace) number
      (ap workspace_of (got_last w.tasks task))))
      ∙ sym (map-append (workspace_in tasks) w.queue.ready (new ∷ [])))

  registers : (q : ℕ) (t : Task) → w.queue.running ≡ Some q → slice_get tasks q ≡ Some t
      → agree.HasRegisters after t.registers
  registers q t runs there =
      let x = agrees.registers q t runs (sym (known q (names.running q runs)) ∙ there) in
      record { workspace = x.workspace; at = x.at; operand = x.operand; stack = x.stack }

  parked : (q : ℕ) (t : Task) → IsParked w' q t → agree.KeepsOffset m machine.memory t.registers
  parked q t x = elim (got_either w.tasks task q t x.here) [
    | inl old ↦ agrees.parked q t (record { here = old; live = x.live; aside = x.aside })
    | inr last ↦ subst (λ (t : Task). agree.KeepsOffset m machine.memory t.registers) (sym last.1) offset
  ]

  messages : (q : ℕ) (t : Task) (e : Exchange) → slice_get tasks q ≡ Some t → agree.waits_inside t.condition ≡ Some e
      → agree.KeepsMessage machine.memory t.registers.workspace e
  messages q t e there waits = elim (got_either w.tasks task q t there) [
    | inl old ↦ agrees.messages q t e old waits
    | inr last ↦ keeps_none machine.memory t.registers.workspace t.condition
        (ap (λ (t : Task). agree.waits_inside t.condition) last.1 ∙ ap agree.waits_inside ready) e waits
  ]

  alternations : (q : ℕ) (t : Task) → IsAlternating w' q t
      → agree.KeepsAlternation machine.memory t.registers.workspace t.condition t.mode
  alternations q t x = elim (got_either w.tasks task q t x.here) [
    | inl old ↦ agrees.alternations q t (record { here = old; inside = x.inside })
    | inr last ↦ absurd (outside (subst (λ (t : Task). IsInside t.mode) last.1 x.inside))
  ]

  -- ---- channels and links

  words_of : (k : ℕ) (c : Channel) → slice_get channels k ≡ Some (Some c)
      → address (unwrap_or (word_at machine.memory (4 * k)) (pos 0)) ≡ channel_word tasks c
  words_of k c there = elim (words k c there) [
    | inl old ↦ agrees.channels k c old ∙ channel_same w.tasks tasks Was known w.queue w.channels w.links names k c old
    | inr x ↦ x.word ∙ sym (ap (λ (o : Option ℕ). word_by tasks o c.enabled) x.waiting
        ∙ ap (λ (e : Option ℕ). word_by tasks None e) x.enabled)
  ]

  pub branch_agrees : Agrees m after w'
  branch_agrees = record {
    memory = agrees.memory;
    running = agrees.running;
    registers = registers;
    ready = ready_is;
    parked = parked;
    channels = words_of;
    messages = messages;
    alternations = alternations;
    outputs = agrees.outputs ∙ outputs_same w.tasks tasks Was known w.queue w.channels w.links names;
    inputs = agrees.inputs ∙ inputs_same w.tasks tasks Was known w.queue w.channels w.links names;
    joins = joins;
    counters = agrees.counters;
  }
