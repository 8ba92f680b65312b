-- A channel or a link is enabled or disabled by the process that runs, which goes on in its alternation.
use Rattle.std.proofs.Common.{◌≡◌, ℕ, ◌+◌, ◌*◌, ◌^◌, ◌<◌, ◌≤◌, List, inr}
use Rattle.std.proofs.Common.{Option, Some, None, refl, ap, ◌∙◌, sym, subst, slice_get}
use Rattle.std.specs.Prelude.{slice_set}
use Rattle.std.specs.Option.{option_map}
use Rattle.std.proofs.lemmas.Bool.{false_from_ne_true}
use Rattle.module_format.specs.Contents.{Contents}
use Rattle.module_format.specs.Keeping.{Keeps}
use Rattle.machine_state.specs.declared.event.Event.{Event}
use Rattle.machine_state.specs.declared.link.InputLink.{InputLink}
use Rattle.machine_state.specs.declared.process.Channel.{Channel}
use Rattle.machine_state.specs.declared.process.Condition.TheVariants.{Ready}
use Rattle.machine_state.specs.declared.process.Task.{Task}
use Rattle.machine_state.specs.EnabledLaws.{Disables}
use Rattle.machine_state.specs.Frame.{ChangesOwn}
use Rattle.machine_state.specs.Happens.{world_after}
use Rattle.machine_state.specs.Holding.{Holding, may_write}
use Rattle.machine_state.specs.LocalStep.{word_of}
use Rattle.machine_state.specs.Memory.{Memory, place_of, with_word}
use Rattle.machine_state.specs.Moves.{with_input}
use Rattle.machine_state.specs.World.{World, Counters, holding_at}
use Rattle.world_laws.specs.Parked.{InWord, IsInside, IsSchedulingPlace}
use Rattle.world_laws.proofs.KeptWords.{channel_words_are_blank}
use Rattle.agreement.specs.Agrees as agree
use Rattle.agreement.specs.Agrees.{PlainMachine, PlainInput, Agrees, arrival_of, workspace_in}
use Rattle.agreement.proofs.ChannelWords.{channel_is_kept, channel_is_set, nobody_writes, owns_on}
use Rattle.agreement.proofs.Elsewhere.{Laws, Owns, laws_of, owns_of}
use Rattle.agreement.proofs.Links.{input_is}
use Rattle.agreement.proofs.Names.{word_by}
use Rattle.agreement.proofs.Naming.{channel_lies}
use Rattle.agreement.proofs.WaitingForBytes.{input_is_set}

-- the process has become this task in its alternation, and this machine agrees; then it has enabled something, or not
module _ (m : Contents) (es : List Event) (p : ℕ) (task : Task) (format : Keeps m)
    (here : slice_get (world_after m es).tasks p ≡ Some task) (inside : IsInside task.mode)
    (ready : task.condition ≡ Ready) (later : Task) (condition : later.condition ≡ task.condition)
    (workspace : later.registers.workspace ≡ task.registers.workspace)
    (disables : Disables later.mode → Disables task.mode) (memory : Memory)
    (frame : ChangesOwn (holding_at (world_after m es).roles p) (world_after m es).memory memory) (count : Counters)
    (after : PlainMachine) (agrees : Agrees m after (record (world_after m es) {
      tasks = slice_set (world_after m es).tasks p later;
      memory = memory;
      counters = count;
    })) (who : Option ℕ) (name : Option ℕ)
    (named : option_map (workspace_in (slice_set (world_after m es).tasks p later)) who ≡ name) where
  abbrev w : World
  w = world_after m es

  abbrev tasks : List Task
  tasks = slice_set w.tasks p later

  abbrev v : World
  v = record w { tasks = tasks; memory = memory; counters = count }

  abbrev hold : Holding
  hold = holding_at w.roles p

  laws : Laws m w
  laws = laws_of m es format

  owns : Owns v
  owns = owns_on w v (owns_of m w laws) p task later here refl refl refl (λ either x at.
      (laws.words p task (inr (record { here = here; inside = inside })) x
      (subst (λ (a : ℕ). IsSchedulingPlace a x) workspace at)).own) (λ later_disables x at.
      (laws.selections p task here (disables later_disables) x (subst (λ (a : ℕ). InWord (place_of a) x) workspace at)).own)
      refl (ap agree.waits_inside (condition ∙ ready))

  -- ---- a link

  pub link_is_told : (k : ℕ) (o : InputLink) (i : PlainInput) → slice_get w.links.inputs k ≡ Some o
      → slice_get after.inputs k ≡ Some i
      → Agrees m (record after { inputs = slice_set after.inputs k (record i { enabled = name }) })
      (with_input k (record o { enabled = who }) v)
  link_is_told k o i there mine =
      input_is_set m v after k (record o { enabled = who }) (record i { enabled = name }) agrees
      (ap (λ (e : Option ℕ). record { kept = o.kept; waiting = arrival_of tasks o.waiting; enabled = e }) named
      ∙ ap (λ (x : PlainInput). record x { enabled = name })
      (input_is tasks w.links.inputs after.inputs k o i agrees.inputs there mine))

  -- ---- a channel inside

  module _ (k : ℕ) (c : Channel) (there : slice_get w.channels k ≡ Some (Some c)) where
    abbrev now : Channel
    now = record c { enabled = who }

    -- if a process waits, its word is what it was
    pub channel_is_told : (q : ℕ) → c.waiting ≡ Some q
        → Agrees m after (record v { channels = slice_set w.channels k (Some now) })
    channel_is_told q waits = channel_is_kept m v after agrees k c now there
        (ap (λ (o : Option ℕ). word_by tasks o c.enabled) waits
        ∙ sym (ap (λ (o : Option ℕ). word_by tasks o who) waits))

    -- otherwise it names who has enabled it, or no process
    pub channel_is_named : (a : ℕ) → a < 2 ^ 32 → word_by tasks None who ≡ a → c.waiting ≡ None
        → Agrees m (record after { memory = with_word after.memory (4 * k) (Some (word_of a)) })
        (record v { channels = slice_set w.channels k (Some now) })
    channel_is_named a low word waits = channel_is_set m v owns after agrees k c now there a low
        (ap (λ (o : Option ℕ). word_by tasks o who) waits ∙ word)
        (subst (λ (n : ℕ). 4 * k + 4 ≤ n) (sym (agrees.memory.size ∙ frame.size)) (channel_lies m es k c format there))
        (λ x at. frame.others x (false_from_ne_true (may_write hold x) (nobody_writes w laws.apart k c there p x at))
        ∙ (channel_words_are_blank m es k c x format there at).undefined)
