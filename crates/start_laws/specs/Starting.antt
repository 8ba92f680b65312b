-- In a state that holds of a process, the rule of `startp` and its step fit each other.
use Rattle.std.specs.Prelude.{◌≡◌, ℕ, ◌+◌, ◌≤◌, ◌<◌, pos, ◌+ℤ◌, true, List, [], ◌∷◌, length, Option, Some}
use Rattle.module_format.specs.Keeping.{Keeps}
use Rattle.machine_state.specs.declared.op.Op.TheVariants.{StartProcess}
use Rattle.machine_state.specs.declared.process.Mode.TheVariants as machine
use Rattle.machine_state.specs.BranchShares.{frame_address}
use Rattle.machine_state.specs.Holding.{may_read}
use Rattle.machine_state.specs.JoinLookups.{Found, found_at}
use Rattle.machine_state.specs.LocalStep as step
use Rattle.machine_state.specs.Memory.{Memory, data_start}
use Rattle.machine_state.specs.Site.{Outcome, Local, starts}
use Rattle.states.specs.declared.known.Mode.TheVariants.{Plain, Starting}
use Rattle.states.specs.declared.rule.Rule.{Rule}
use Rattle.states.specs.State.{State}
use Rattle.rulings.specs.Fitting.{After, HasNext, Situation, rule_site, step_site}
use Rattle.rulings.specs.Meaning.{IsWellFormed, owed}
use Rattle.rulings.specs.Rulings as rule
use Rattle.rulings.specs.Rulings.{Ruling, breaks}
use Rattle.par_rules.specs.ParRules.{startp_rule}
use Rattle.share_laws.specs.GoingOn.{GoesOnAs, act_with}
use Rattle.share_laws.specs.Opening.{CanOpen, HasNoEndsInside, held_by_opener}
use Rattle.share_laws.specs.Prepared.{IsPrepared}
use Rattle.share_laws.specs.Shares.{IsBranch, IsLaidOut}
use Rattle.share_laws.specs.Starts.{CanStart, IsLeft}
use Rattle.share_laws.specs.Taking.{after_opening}
use Rattle.start_laws.specs.BranchLabels.{BranchLabel, BeginsAtLabel, LabelAfter, owed_at_label}

-- all that the process may read lies in memory
abbrev pub LiesInside : Situation → Memory → Type 0
LiesInside x memory = (place : ℕ) → may_read x.h place ≡ true → place < length memory

-- this base is that of the frame
abbrev pub IsBase : Situation → ℕ → Type 0
IsBase x base = pos base ≡ pos data_start +ℤ x.act.layout.origin

-- A branch is started that begins at this offset, with a workspace at this address: it is one of the PAR in whose
-- context and at whose depth the process is, and its share is left. The process goes on after the instruction, in this
-- state among the starts.
pub record StartsBranch (x : Situation) (s after : State) (l : Local) (found : Found) (target workspace : ℕ) : Type 0
  where
    pub found_is : found_at x.m target ≡ Some found
    pub is : IsBranch x.m found
    pub left : IsLeft x.m found
    pub workspace_is : (base : ℕ) → IsBase x base → workspace ≡ frame_address base found.branch.workspace
    pub context : found.par.context ≡ s.context
    pub depth : found.par.depth ≡ s.depth
    pub low : x.at + x.len < length x.m.code
    pub goes_on : GoesOnAs x.m found x.act l.memory s.depth after

-- The branch is the next one of a PAR, of which some are started. If the join's base and the addresses of its
-- parameters are those of the starter's layout, it can start the branch, whose label is paid by the number.
pub record StartsNext (x : Situation) (s after : State) (l : Local) (found : Found) : Type 0 where
  pub mode : s.mode ≡ Starting found.row found.number
  pub machine_mode : x.mode ≡ machine.Starting
  pub can : (base : ℕ) (addresses : List (Option ℕ)) → IsLaidOut x.m found.par x.act.layout base addresses
      → LiesInside x l.memory
      → CanStart x.m found x.act.layout base addresses x.h l.memory s.depth l.registers.workspace
  pub branch : BranchLabel x.m found
  pub begins : BeginsAtLabel branch x.act x.h l.memory s.depth l.registers.workspace
  pub paid : after.number + owed_at_label branch.label branch.turns + x.len ≤ s.number

-- The branch is the first one of its PAR. The process can open it, if no end that it holds lies in a word of its own;
-- the words that the PAR wants are prepared; and besides the label of the branch the one after the PAR is paid.
pub record StartsFirst (x : Situation) (s after : State) (l : Local) (found : Found) : Type 0 where
  pub mode : s.mode ≡ Plain
  pub machine_mode : x.mode ≡ machine.Plain
  pub first : found.number ≡ 0
  pub can : (base : ℕ) → IsBase x base → LiesInside x l.memory → HasNoEndsInside x.h
      → CanOpen x.m found.row found.par x.act.layout base x.h l.memory s.depth l.registers.workspace
  pub prepared : IsPrepared x.m found.par x.act.layout l.memory
  pub branch : BranchLabel x.m found
  pub begins : (base : ℕ) → CanOpen x.m found.row found.par x.act.layout base x.h l.memory s.depth l.registers.workspace
      → BeginsAtLabel branch (act_with x.act found) (held_by_opener found.par base (length l.memory) x.h)
      (after_opening found.par base l.memory) s.depth l.registers.workspace
  pub goes_after : LabelAfter x.m found.par x.act l.memory
  pub paid : after.number + owed_at_label branch.label branch.turns
      + owed_at_label goes_after.label goes_after.turns + x.len ≤ owed s x.act

-- A ruling of `startp` and the outcome of its step fit each other.
pub data StartFits (x : Situation) (s : State) (l : Local) : Ruling → Outcome → Type 0 where
  to_start_next : {after : State} {target workspace : ℕ} (found : Found)
      → StartsBranch x s after l found target workspace → StartsNext x s after l found
      → StartFits x s l (rule.starts after (found.branch.entry ∷ []))
      (starts target workspace (step.without_registers l))
  to_start_first : {after : State} {target workspace : ℕ} (found : Found)
      → StartsBranch x s after l found target workspace → StartsFirst x s after l found
      → StartFits x s l (rule.starts after (found.branch.entry ∷ found.par.successor ∷ []))
      (starts target workspace (step.without_registers l))
  start_breaks : {broken : Rule} {o : Outcome} → StartFits x s l (breaks broken) o

abbrev pub StartFitsStep : Type 0
StartFitsStep = (x : Situation) (s : State) (l : Local) → IsWellFormed x.m → Keeps x.m → After x.m x.h x.mode x.act s l
    → HasNext x (startp_rule (rule_site x) s)
    → StartFits x s l (startp_rule (rule_site x) s) (step.operation_step (step_site x) StartProcess l)
