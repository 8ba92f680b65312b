-- In a state that holds of a process, the rule of `endp` and its step fit each other.
use Rattle.std.specs.Prelude.{◌≡◌, ℕ, ◌≤◌, ℤ, true, length, Some, slice_get}
use Rattle.module_format.specs.declared.rows.EndKind.TheVariants.{FrameWord}
use Rattle.module_format.specs.Contents.{Par, Branch, Label, label_at}
use Rattle.certificate.specs.Branches.{numbered_branch}
use Rattle.certificate.specs.Rights.{may_write_word}
use Rattle.machine_state.specs.declared.op.Op.TheVariants.{EndProcess}
use Rattle.machine_state.specs.declared.process.Mode.TheVariants as machine
use Rattle.machine_state.specs.LocalStep as step
use Rattle.machine_state.specs.Site.{Outcome, Local, joins}
use Rattle.states.specs.declared.known.Mode.TheVariants.{Plain, Starting}
use Rattle.states.specs.declared.rule.Rule.{Rule}
use Rattle.states.specs.State.{State, entry_fact, is_alone}
use Rattle.rulings.specs.Fitting.{After, Situation, rule_site, step_site}
use Rattle.rulings.specs.Meaning.{Activation, MeansWord, frame_word}
use Rattle.rulings.specs.Regions.{channel_address}
use Rattle.rulings.specs.Rulings.{Ruling, ends, breaks}
use Rattle.par_rules.specs.ParRules.{endp_rule}
use Rattle.share_laws.specs.Climbing.{LieAlike}

-- The process has started all branches of a row.
pub record StartedAll (x : Situation) (s : State) (par : Par) : Type 0 where
  pub row : ℕ
  pub is : slice_get x.m.pars row ≡ Some par
  pub mode : s.mode ≡ Starting row (length par.branches)
  pub machine_mode : x.mode ≡ machine.Starting

-- The process is a branch in plain mode. What the label after the PAR says of a word that the branch may write, by
-- itself, is so in each activation whose regions lie where the branch's do, and that returns where it does.
pub record LeavesAgreed (x : Situation) (s : State) (l : Local) (par : Par) : Type 0 where
  pub branch : Branch
  pub is : numbered_branch x.m s.context ≡ Some (par, branch)
  pub mode : s.mode ≡ Plain
  pub machine_mode : x.mode ≡ machine.Plain
  pub words : (t : Label) → label_at x.m par.successor ≡ Some t → (k : ℤ) → may_write_word x.m s.context k ≡ true
      → is_alone (entry_fact t.entries k) ≡ true → (other : Activation) → LieAlike x.act.layout other.layout
      → other.layout.back ≡ x.act.layout.back
      → MeansWord x.m other k (entry_fact t.entries k) (frame_word l.memory other.layout.origin k)

-- A ruling of `endp` and the outcome of its step fit each other: the process ends at the block of its PAR.
pub data EndFits (x : Situation) (s : State) (l : Local) : Ruling → Outcome → Type 0 where
  to_end_own : (par : Par) → StartedAll x s par → x.len ≤ s.number
      → EndFits x s l ends (joins (channel_address x.act.layout (FrameWord par.block)) l)
  to_end_branch : (par : Par) → LeavesAgreed x s l par → x.len ≤ s.number
      → EndFits x s l ends (joins (channel_address x.act.layout (FrameWord par.block)) l)
  end_breaks : {broken : Rule} {o : Outcome} → EndFits x s l (breaks broken) o

abbrev pub EndFitsStep : Type 0
EndFitsStep = (x : Situation) (s : State) (l : Local) → After x.m x.h x.mode x.act s l
    → EndFits x s l (endp_rule (rule_site x) s) (step.operation_step (step_site x) EndProcess l)
