-- A join is over: its opener, which has ended, goes on after the PAR, and its channels are gone.
use Rattle.std.proofs.Common.{◌≡◌, ◌≢◌, ℕ, ◌+◌, ◌*◌, ◌^◌, ◌<◌, pos, true, List, inl, inr}
use Rattle.std.proofs.Common.{Some, None, refl, ap, ◌∙◌, sym, subst, slice_get}
use Rattle.std.proofs.lemmas.Bool.{cases_eq}
use Rattle.std.specs.Prelude.{slice_set}
use Rattle.small_laws.proofs.Options.{same_some}
use Rattle.module_format.specs.Contents.{Contents, Par}
use Rattle.machine_state.specs.declared.process.Mode.TheVariants.{Plain}
use Rattle.machine_state.specs.declared.process.Task.{Task}
use Rattle.machine_state.specs.JoinLookups.{opened_by}
use Rattle.machine_state.specs.Joins.{closed_task, without_channels}
use Rattle.machine_state.specs.LocalStep.{address}
use Rattle.machine_state.specs.Memory.{data_start}
use Rattle.machine_state.specs.Roles.{opened_in}
use Rattle.machine_state.specs.World.{World, Role, Join}
use Rattle.machine_state.proofs.ChannelWaiters.{left_channel}
use Rattle.machine_state.proofs.Lines.{got_other}
use Rattle.world_laws.specs.Parked.{IsParked}
use Rattle.world_laws.proofs.StepLeaves.{plain_is_outside}
use Rattle.plain_machine.specs.PlainStep.{plain_word, plain_code_offset}
use Rattle.agreement.specs.Agrees as agree
use Rattle.agreement.specs.Agrees.{PlainMachine, Agrees}
use Rattle.agreement.proofs.Dispatching.{code_word_is, none_matches}
use Rattle.agreement.proofs.Names.{Names, ready_same, channel_same, outputs_same, inputs_same}
use Rattle.agreement.proofs.OneBecomes.{is_mine, is_other, messages_stay, alternations_stay}

module _ (m : Contents) (w : World) (machine : PlainMachine) (agrees : Agrees m machine w)
    (none : w.queue.running ≡ None) (o : ℕ) (task : Task) (here : slice_get w.tasks o ≡ Some task) (j : Join)
    (par : Par) (names : Names (λ q. o ≢ q) w.queue w.channels w.links) (is_open : opened_by w o ≡ Some j)
    (row : slice_get m.pars j.row ≡ Some par) (low : data_start + 4 * m.data_words < 2 ^ 32)
    (fits : par.successor < 2 ^ 32) (roles : List Role)
    (opens : (q : ℕ) (i : Join) → opened_in roles q ≡ Some i → opened_by w q ≡ Some i) where
  abbrev later : Task
  later = closed_task j par task

  abbrev tasks : List Task
  tasks = slice_set w.tasks o later

  abbrev after : PlainMachine
  after = record machine {
    is_running = true;
    registers = record {
      workspace = j.block;
      at = plain_code_offset (data_start + 4 * m.data_words) (address (plain_word machine.memory j.block));
      stack = machine.registers.stack;
    };
    operand = pos 0;
  }

  abbrev w' : World
  w' = record w {
    tasks = tasks;
    roles = roles;
    channels = without_channels o w.channels;
    queue = record { running = Some o; ready = w.queue.ready };
  }

  abbrev Other : ℕ → Type 0
  Other q = o ≢ q

  known : (q : ℕ) → o ≢ q → slice_get tasks q ≡ slice_get w.tasks q
  known q differ = got_other w.tasks o q later differ

  has : agree.HasRegisters after later.registers
  has = record {
    workspace = refl;
    at = ap (plain_code_offset (data_start + 4 * m.data_words)) (agrees.joins o j par is_open row).successor
        ∙ code_word_is m par.successor low fits;
    operand = refl;
    stack = none_matches machine.registers.stack refl;
  }

  parked : (q : ℕ) (t : Task) → IsParked w' q t → agree.KeepsOffset m machine.memory t.registers
  parked q t x = elim (cases_eq o q) [
    | inl same ↦ absurd (x.aside (ap Some same))
    | inr differ ↦ agrees.parked q t (record {
      here = is_other w.tasks o task later here q t differ x.here;
      live = x.live;
      aside = λ also. let z : None ≡ Some q = sym none ∙ also in cc;
    })
  ]

  pub closes_agree : Agrees m after w'
  closes_agree = record {
    memory = agrees.memory;
    running = refl;
    registers = λ q t runs there.
        subst (λ (t : Task). agree.HasRegisters after t.registers)
        (is_mine w.tasks o task later here q t (same_some (Some o) o q refl runs) there) has;
    ready = agrees.ready ∙ ready_same w.tasks tasks Other known w.queue w.channels w.links names;
    parked = parked;
    channels = λ k c there.
        let was = left_channel o w.channels k c there in
        agrees.channels k c was ∙ channel_same w.tasks tasks Other known w.queue w.channels w.links names k c was;
    messages = messages_stay m w machine agrees o task later here refl;
    alternations = λ q t x. alternations_stay m w machine agrees o task later here (plain_is_outside Plain refl) q t
        x.here x.inside;
    outputs = agrees.outputs ∙ outputs_same w.tasks tasks Other known w.queue w.channels w.links names;
    inputs = agrees.inputs ∙ inputs_same w.tasks tasks Other known w.queue w.channels w.links names;
    joins = λ q i other opened at. agrees.joins q i other (opens q i opened) at;
    counters = agrees.counters;
  }
