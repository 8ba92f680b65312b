-- What the rules of starts and ends give: what the label after a PAR says, and whose block an end names.
use Rattle.std.proofs.Common.{◌≡◌, Some, refl}
use Rattle.module_format.specs.declared.rows.EndKind.TheVariants.{FrameWord}
use Rattle.module_format.specs.Contents.{Contents, Par, Label, label_at}
use Rattle.machine_state.specs.Memory.{Memory}
use Rattle.machine_state.specs.Site.{Local}
use Rattle.states.specs.State.{State}
use Rattle.rulings.specs.Fitting.{Situation}
use Rattle.rulings.specs.Meaning.{Activation, with_turns}
use Rattle.rulings.specs.Regions.{channel_address}
use Rattle.start_laws.specs.BranchLabels.{LabelAfter}
use Rattle.start_laws.specs.Ending.{StartedAll, LeavesAgreed}
use Rattle.certified_worlds.specs.ParLabels.{LabelStands, LeavesSaid, EndsAPar, has_started, is_branch}

-- The label after a PAR holds (stands) in the activation that goes on there, with the turns that its loops have.
abbrev pub label_stands : {m : Contents} {par : Par} {act : Activation} {memory : Memory}
    (after : LabelAfter m par act memory) → LabelStands m par (with_turns after.turns act) memory
label_stands after = record {
  label = after.label;
  at = after.at;
  context = after.context;
  depth = after.depth;
  registers = after.registers;
  hidden = after.hidden;
  alone = after.alone;
  words = λ k reads shown none. after.words k reads none;
}

module _ {x : Situation} {s : State} {par : Par} where
  -- A process that has started all branches of a PAR ends it at its block,
  pub started_all_ends : StartedAll x s par
      → EndsAPar x.m s x.act.layout (channel_address x.act.layout (FrameWord par.block))
  started_all_ends all = has_started all.row par all.mode all.is refl

  module _ {l : Local} (leaves : LeavesAgreed x s l par) where
    -- and so does a branch,
    pub branch_ends : EndsAPar x.m s x.act.layout (channel_address x.act.layout (FrameWord par.block))
    branch_ends = is_branch par leaves.branch leaves.mode leaves.is refl

    -- which leaves what the label after the PAR says of its words, in its own activation.
    pub leaves_said : (label : Label) → label_at x.m par.successor ≡ Some label
        → LeavesSaid x.m s.context label.entries x.act l.memory
    leaves_said label at k writes alone =
        leaves.words label at k writes alone x.act (record { origin = refl; starts = λ j. refl }) refl
