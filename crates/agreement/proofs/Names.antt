-- Whom a world names: if their tasks stay, so do the workspaces that a plain machine has of them.
use Rattle.std.proofs.Common.{◌≡◌, ◌≢◌, ℕ, ◌<◌, ◌⊎◌, List, [], ◌∷◌, map, length, inl, inr}
use Rattle.std.proofs.Common.{Option, Some, None, refl, ap, ◌∙◌, sym, subst, slice_get}
use Rattle.std.proofs.lemmas.Option.{slice_get_within}
use Rattle.std.specs.Option.{option_map}
use Rattle.module_format.specs.Contents.{Contents}
use Rattle.machine_state.specs.declared.link.InputLink.{InputLink}
use Rattle.machine_state.specs.declared.link.OutputLink.{OutputLink}
use Rattle.machine_state.specs.declared.process.Channel.{Channel}
use Rattle.machine_state.specs.declared.process.Condition.{Condition}
use Rattle.machine_state.specs.declared.process.Condition.TheVariants.{Ready, OnLink}
use Rattle.machine_state.specs.declared.process.Mode.{Mode}
use Rattle.machine_state.specs.declared.process.Task.{Task}
use Rattle.machine_state.specs.EnabledLaws.{Alternates, HasEnabled, a_channel, a_link}
use Rattle.machine_state.specs.Ownership.{IsAmong}
use Rattle.machine_state.specs.Waiting.{AllReady, IsReadyAt, WaitsOn, line_of}
use Rattle.machine_state.specs.World.{World, Queue, Links, input_word, output_word}
use Rattle.world_laws.specs.Parked.{IsInside, IsLive}
use Rattle.world_laws.proofs.ParkedLaws.{among_ready}
use Rattle.agreement.specs.Agrees as agree
use Rattle.agreement.specs.Agrees.{PlainArrival, workspace_in, channel_word, arrival_of}
use Rattle.agreement.proofs.Elsewhere.{Laws, waits_for, waits_live}
use Rattle.agreement.proofs.GivingWay.{ready_only}
use Rattle.agreement.proofs.Passing.{alternates_inside, mapped_alike}

-- ---- whom a world names

-- whoever runs, is ready, waits or has enabled something is one of these processes
pub record Names (Is : ℕ → Type 0) (queue : Queue) (channels : List (Option Channel)) (links : Links) : Type 0 where
  pub running : (q : ℕ) → queue.running ≡ Some q → Is q
  pub ready : (q : ℕ) → IsAmong q queue.ready → Is q
  pub waiting : (k : ℕ) (c : Channel) (q : ℕ) → slice_get channels k ≡ Some (Some c) → c.waiting ≡ Some q → Is q
  pub enabled : (q : ℕ) → HasEnabled channels links.inputs q → Is q
  pub inputs : (k : ℕ) (l : InputLink) (q : ℕ) → slice_get links.inputs k ≡ Some l → l.waiting ≡ Some q → Is q
  pub outputs : (k : ℕ) (l : OutputLink) (q : ℕ) → slice_get links.outputs k ≡ Some l → l.waiting ≡ Some q → Is q

pub alternates_live : (mode : Mode) (c : Condition) → Alternates mode c → IsLive c
alternates_live mode c (inl enables) = subst IsLive (sym enables.1) tt
alternates_live mode c (inr disables) = elim disables.1 [
  | inl ready ↦ subst IsLive (sym ready) tt
  | inr waits ↦ subst IsLive (sym waits) tt
]

-- who waits, or has enabled something, is live, and not ready or in an alternation
pub names_of : (m : Contents) (w : World) → Laws m w → (Is : ℕ → Type 0) (queue : Queue)
    → ((q : ℕ) → queue.running ≡ Some q → Is q) → ((q : ℕ) → IsAmong q queue.ready → Is q)
    → ((q : ℕ) (t : Task) → slice_get w.tasks q ≡ Some t → IsLive t.condition
    → (t.condition ≢ Ready) ⊎ IsInside t.mode → Is q)
    → Names Is queue w.channels w.links
names_of m w laws Is queue running ready others = record {
  running = running;
  ready = ready;
  waiting = λ k c q there waits.
      let x = laws.channels k c q there waits in
      let message = waits_for w.tasks q k x in
      others q x.task x.here (waits_live x.task.condition x.exchange message)
      (inl (λ is. let none : None ≡ Some x.exchange = sym (ap agree.waits_inside is) ∙ message in cc));
  enabled = λ q enabled.
      let x = laws.alternate q enabled in
      others q x.task x.here (alternates_live x.task.mode x.task.condition x.alternates)
      (inr (alternates_inside x.task.mode x.task.condition x.alternates));
  inputs = λ k l q there waits. on_link q (input_word k) (laws.links.inputs k l q there waits);
  outputs = λ k l q there waits. on_link q (output_word k) (laws.links.outputs k l q there waits);
}
  where
    on_link : (q word : ℕ) → WaitsOn w.tasks q word → Is q
    on_link q word x = others q x.task x.here (subst IsLive (sym x.waits) tt)
        (inl (λ is. let z : Ready ≡ OnLink x.exchange x.done = sym is ∙ x.waits in cc))

-- each of them is a process
pub names_there : (m : Contents) (w : World) → Laws m w → Names (λ q. q < length w.tasks) w.queue w.channels w.links
names_there m w laws = names_of m w laws (λ q. q < length w.tasks) w.queue
    (λ q runs. there q (subst (λ (o : Option ℕ). AllReady w.tasks (line_of o w.queue.ready)) runs laws.line.ready).0)
    (λ q among. there q (among_ready w.tasks q w.queue.ready among (ready_only w.queue.running w laws.line.ready)))
    (λ q t here live other. slice_get_within w.tasks q t here)
  where
    there : (q : ℕ) → IsReadyAt w.tasks q → q < length w.tasks
    there q x = slice_get_within w.tasks q x.task x.here

-- ---- their tasks stay

-- the workspace of the first, else of the second
abbrev pub word_by : List Task → Option ℕ → Option ℕ → ℕ
word_by tasks o e = elim o as (λ o. ℕ) [
  | Some q ↦ workspace_in tasks q
  | None ↦ elim e as (λ e. ℕ) [ Some q ↦ workspace_in tasks q | None ↦ agree.empty_channel ]
]

module _ (tasks later : List Task) (Is : ℕ → Type 0) (known : (q : ℕ) → Is q → slice_get later q ≡ slice_get tasks q)
    (queue : Queue) (channels : List (Option Channel)) (links : Links) (names : Names Is queue channels links) where
  same_workspace : (q : ℕ) → Is q → workspace_in tasks q ≡ workspace_in later q
  same_workspace q is =
      ap (λ (o : Option Task). elim o as (λ o. ℕ) [ None ↦ 0 | Some t ↦ t.registers.workspace ]) (sym (known q is))

  same_workspaces : (qs : List ℕ) → ((q : ℕ) → IsAmong q qs → Is q)
      → map (workspace_in tasks) qs ≡ map (workspace_in later) qs
  same_workspaces [] all = refl
  same_workspaces (q ∷ qs) all =
      ap (λ (a : ℕ). a ∷ map (workspace_in tasks) qs) (same_workspace q (all q (inl refl)))
      ∙ ap (◌∷◌ (workspace_in later q)) (same_workspaces qs (λ r there. all r (inr there)))

  pub ready_same : map (workspace_in tasks) queue.ready ≡ map (workspace_in later) queue.ready
  ready_same = same_workspaces queue.ready names.ready

  pub channel_same : (k : ℕ) (c : Channel) → slice_get channels k ≡ Some (Some c)
      → channel_word tasks c ≡ channel_word later c
  channel_same k c there = on c.waiting refl c.enabled refl
    where
      on : (o : Option ℕ) → c.waiting ≡ o → (e : Option ℕ) → c.enabled ≡ e → word_by tasks o e ≡ word_by later o e
      on (Some q) waits e enabled = same_workspace q (names.waiting k c q there waits)
      on None waits (Some q) enabled = same_workspace q (names.enabled q (a_channel k c there enabled))
      on None waits None enabled = refl

  pub outputs_same : map (agree.plain_output tasks) links.outputs ≡ map (agree.plain_output later) links.outputs
  outputs_same = mapped_alike (agree.plain_output tasks) (agree.plain_output later) links.outputs
      (λ k l there. of_waiting k l there l.waiting refl)
    where
      of_waiting : (k : ℕ) (l : OutputLink) → slice_get links.outputs k ≡ Some l → (o : Option ℕ) → l.waiting ≡ o
          → option_map (workspace_in tasks) o ≡ option_map (workspace_in later) o
      of_waiting k l there None is = refl
      of_waiting k l there (Some q) is = ap Some (same_workspace q (names.outputs k l q there is))

  pub inputs_same : map (agree.plain_input tasks) links.inputs ≡ map (agree.plain_input later) links.inputs
  inputs_same = mapped_alike (agree.plain_input tasks) (agree.plain_input later) links.inputs (λ k l there.
      ap (λ (a : Option PlainArrival). record {
        kept = l.kept;
        waiting = a;
        enabled = option_map (workspace_in tasks) l.enabled;
      }) (of_waiting k l there l.waiting refl)
      ∙ ap (λ (e : Option ℕ). record { kept = l.kept; waiting = arrival_of later l.waiting; enabled = e })
      (of_enabled k l there l.enabled refl))
    where
      of_waiting : (k : ℕ) (l : InputLink) → slice_get links.inputs k ≡ Some l → (o : Option ℕ) → l.waiting ≡ o
          → arrival_of tasks o ≡ arrival_of later o
      of_waiting k l there None is = refl
      of_waiting k l there (Some q) is = ap (λ (o : Option Task). elim o as (λ o. Option PlainArrival) [
        | None ↦ None
        | Some t ↦ agree.arrival_in t.registers.workspace t.condition
      ]) (sym (known q (names.inputs k l q there is)))

      of_enabled : (k : ℕ) (l : InputLink) → slice_get links.inputs k ≡ Some l → (o : Option ℕ) → l.enabled ≡ o
          → option_map (workspace_in tasks) o ≡ option_map (workspace_in later) o
      of_enabled k l there None is = refl
      of_enabled k l there (Some q) is = ap Some (same_workspace q (names.enabled q (a_link k l there is)))
