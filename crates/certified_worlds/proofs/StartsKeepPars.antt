-- A later start of a PAR leaves what its opener goes on with, and the branch that is started is one of its members.
use Rattle.std.proofs.Common.{◌≡◌, ◌≢◌, ℕ, ◌+◌, true, inl, inr, ℤ, pos, List, []}
use Rattle.std.proofs.Common.{◌∷◌, ◌++◌, ◌+ℤ◌, length, Option, Some, refl, sym, ap, ◌∙◌, subst, arith}
use Rattle.std.proofs.lemmas.Bool.{or_cases, or_left, or_right}
use Rattle.std.specs.Prelude.{slice_get, ◌==◌, ◌%◌, ◌^◌}
use Rattle.small_laws.proofs.Options.{same_some}
use Rattle.small_laws.proofs.Comparisons.{eqb-self}
use Rattle.module_format.specs.Contents.{Contents, Par}
use Rattle.module_format.specs.Keeping as formats
use Rattle.certificate.specs.Branches.{numbered_branch}
use Rattle.machine_state.specs.declared.process.Condition.TheVariants.{Ready}
use Rattle.machine_state.specs.declared.process.Task.{Task}
use Rattle.machine_state.specs.BranchContexts.{context_of}
use Rattle.machine_state.specs.BranchShares.{frame_address, address_of}
use Rattle.machine_state.specs.Holding.{Holding}
use Rattle.machine_state.specs.JoinLookups.{Found}
use Rattle.machine_state.specs.Joins.{join_after}
use Rattle.machine_state.specs.Memory.{Memory, data_start}
use Rattle.machine_state.specs.Ownership.{AtPlace}
use Rattle.machine_state.specs.StartPlans.{later_plan}
use Rattle.machine_state.specs.Waiting.{is_member}
use Rattle.machine_state.specs.World.{Join}
use Rattle.machine_state.proofs.FoundContexts.{branches_are_contexts}
use Rattle.states.specs.declared.known.Mode.TheVariants.{Starting}
use Rattle.rulings.specs.Meaning.{Layout, Activation, HasFrame, words_in}
use Rattle.rulings.specs.Regions.{scope_of, KeepsMemory}
use Rattle.rulings.proofs.Combining.{same_frame}
use Rattle.rulings.proofs.Words.{means_same}
use Rattle.share_laws.specs.Climbing.{LieAlike}
use Rattle.share_laws.specs.Shares as shares
use Rattle.share_laws.specs.Shares.{IsLaidOut}
use Rattle.share_laws.specs.Starts.{IsLeft}
use Rattle.share_laws.specs.Taking.{OpenerKeeps, memory_after_start}
use Rattle.share_laws.proofs.BranchLent.{branches_are_lent}
use Rattle.share_laws.proofs.TakenWords.{starts_keep_openers}
use Rattle.certified_worlds.specs.Point.{Began, Point}
use Rattle.certified_worlds.specs.Pending.{IsStarter, HasMember, IsOut, AfterPar, Pending, IsMember}
use Rattle.certified_worlds.proofs.BehindKeeps.{behind_keeps}
use Rattle.certified_worlds.proofs.JoinChanges.{after_as, member_as, out_as, out_from, scheduled_out}

-- ---- members

-- a member stays one when others are added
pub member_before : (members more : List ℕ) (p : ℕ) → is_member members p ≡ true → is_member (members ++ more) p ≡ true
member_before [] more p h = absurd (cc)
member_before (q ∷ qs) more p h = elim (or_cases (q == p) (is_member qs p) h) [
  | inl here ↦ or_left _ _ here
  | inr there ↦ or_right (q == p) _ (member_before qs more p there)
]

-- the last one is a member
pub member_last : (members : List ℕ) (p : ℕ) → is_member (members ++ p ∷ []) p ≡ true
member_last [] p = or_left _ _ (eqb-self p)
member_last (q ∷ qs) p = or_right (q == p) _ (member_last qs p)

-- ---- the join after the start

-- one branch more of the same PAR is started, which is this process
pub record IsOneMore (j next : Join) (new : ℕ) : Type 0 where
  pub row : next.row ≡ j.row
  pub base : next.base ≡ j.base
  pub block : next.block ≡ j.block
  pub parameters : next.parameters ≡ j.parameters
  pub started : next.started ≡ j.started + 1
  pub members : (q : ℕ) → is_member j.members q ≡ true → is_member next.members q ≡ true
  pub newest : is_member next.members new ≡ true

-- a later start makes it so
pub is_one_more : (m : Contents) (j : Join) (n : ℕ) (found : Found) (new : ℕ) → AtPlace m.pars j
    → slice_get m.pars j.row ≡ Some found.par → IsOneMore j (join_after n (later_plan m j found.par) found new) new
is_one_more m j n found new at row = record {
  row = refl;
  base = refl;
  block = ap (λ (par : Par). frame_address j.base par.block) (same_some (slice_get m.pars j.row) found.par at.par row
      at.row) ∙ sym at.block;
  parameters = refl;
  started = refl;
  members = λ q is. member_before j.members (new ∷ []) q is;
  newest = member_last j.members new;
}

-- what the opener goes on with is the same
abbrev pub after_next : {m : Contents} {j next : Join} {new due : ℕ} → IsOneMore j next new → AfterPar m j due
    → AfterPar m next due
after_next {m = m} {next = next} more after =
    after_as after next (ap (λ (n : ℕ). slice_get m.pars n) more.row ∙ after.row) (record {
      origin = ap pos more.base ∙ after.laid.origin;
      named = λ k names low. ap (λ (addresses : List (Option ℕ)). address_of addresses k) more.parameters
          ∙ after.laid.named k names low;
    }) (more.block ∙ after.block)

-- ---- the process that starts

-- the frame of a process that is among the starts of a PAR lies where that of the activation does that goes on after it
module _ {m : Contents} {t : Task} {point : Point m t} {j : Join} {due : ℕ} (after : AfterPar m j due)
    (starter : IsStarter m t point after.par j after.act) where
  pub starter_alike : LieAlike after.act.layout point.act.layout
  starter_alike = record { origin = starter.origin; starts = starter.starts }

  pub starter_laid : IsLaidOut m after.par point.act.layout j.base j.parameters
  starter_laid = record {
    origin = after.laid.origin ∙ ap (λ (z : ℤ). pos data_start +ℤ z) (sym starter.origin);
    named = λ k names low. after.laid.named k names low ∙ ap (λ (n : ℕ). Some (n % 2 ^ 32)) (sym (starter.starts k));
  }

  -- and still does in a state one start further
  pub starter_goes_on : {u : Task} {next : Join} {new : ℕ} (more : IsOneMore j next new) (later : Point m u)
      → u.condition ≡ Ready → later.state.mode ≡ Starting j.row (j.started + 1)
      → later.state.context ≡ point.state.context
      → later.state.depth ≡ point.state.depth → later.act ≡ point.act
      → IsStarter m u later after.par next after.act
  starter_goes_on {next = next} more later ready mode context depth act = record {
    ready = ready;
    mode = mode ∙ ap (λ (n : ℕ). Starting n (j.started + 1)) (sym more.row)
        ∙ ap (λ (n : ℕ). Starting next.row n) (sym more.started);
    context = context ∙ starter.context;
    depth = depth ∙ starter.depth;
    origin = ap (λ (a : Activation). a.layout.origin) act ∙ starter.origin;
    starts = λ n. ap (λ (a : Activation). a.layout.starts n) act ∙ starter.starts n;
    back = ap (λ (a : Activation). a.layout.back) act ∙ starter.back;
  }

-- ---- the branch

-- what a branch begins with, in the layout of its starter
abbrev pub began_by : Contents → Found → Layout → Began
began_by m found layout = record { context = context_of m found; layout = layout }

-- It is a member: its opener has lent it what it has.
pub becomes_member : (m : Contents) (found : Found) (par : Par) (layout other : Layout) → formats.Keeps m
    → shares.IsBranch m found → IsLeft m found → found.par ≡ par → LieAlike layout other → other.back ≡ layout.back
    → IsMember m par layout (began_by m found other)
becomes_member m found par layout other keeps is left same alike back =
    let stands = branches_are_contexts m found keeps is.row is.branch in
    subst (λ (par : Par). IsMember m par layout (began_by m found other)) same (record {
      number = found.number;
      branch = found.branch;
      here = is.branch;
      is = stands.numbered;
      frame = stands.context;
      back = back;
      lent = branches_are_lent m found layout other keeps is left alike;
    })

-- ---- what its opener goes on with

module _ {m : Contents} {own : Holding} {o : ℕ} {began : Began} {all : List Began} {memory : Memory} {j : Join}
    {due : ℕ} {after : AfterPar m j due} (pending : Pending m own o began all memory j due after) (found : Found)
    (keeps : formats.Keeps m) (is : shares.IsBranch m found) (left : IsLeft m found) (row : found.row ≡ j.row)
    (number : found.number ≡ j.started) where
  -- the branch is one of this PAR
  pub same_par : found.par ≡ after.par
  same_par = same_some (slice_get m.pars j.row) found.par after.par
      (subst (λ (n : ℕ). slice_get m.pars n ≡ Some found.par) row is.row) after.row

  abbrev new_memory : Memory
  new_memory = memory_after_start found j.base memory

  -- the start keeps what the opener has for good
  opener_keeps : OpenerKeeps m found after.act.layout own memory new_memory
  opener_keeps = starts_keep_openers m found after.act.layout j.base own memory after.par.block j.block keeps is left
      after.laid.origin
      (subst (λ (par : Par). HasFrame own (length memory) (words_in m par.context) after.act.layout.origin
      after.par.block j.block) (sym same_par) pending.frame)

  pub start_keeps : KeepsMemory m own (scope_of m after.par.context after.act.layout) memory new_memory
  start_keeps = subst (λ (par : Par). KeepsMemory m own (scope_of m par.context after.act.layout) memory new_memory)
      same_par
      opener_keeps.keeps

  -- Afterwards it goes on with the same.
  module _ {next : Join} {new : ℕ} (more : IsOneMore j next new) (every : List Began) (start : Began)
      (grows : (q : ℕ) (b : Began) → slice_get all q ≡ Some b → slice_get every q ≡ Some b)
      (newest : slice_get every new ≡ Some start) (other : new ≢ o)
      (context : start.context ≡ context_of m found) where
    -- the new branch is out
    is_member_now : HasMember m o every after.par next found.branch
    is_member_now =
        let stands = branches_are_contexts m found keeps is.row is.branch in
        record {
          process = new;
          other = other;
          start = start;
          has_start = newest;
          member = more.newest;
          is = subst (λ (par : Par). HasBranch start.context par) same_par
              (subst (λ (n : ℕ). HasBranch n found.par) (sym context) stands.numbered);
        }
      where
        HasBranch : ℕ → Par → Type 0
        HasBranch n par = numbered_branch m n ≡ Some (par, found.branch)

    here_now : slice_get after.par.branches found.number ≡ Some found.branch
    here_now = subst (λ (par : Par). slice_get par.branches found.number ≡ Some found.branch) same_par is.branch

    -- what was out is out
    out_still : (k : ℤ) → IsOut m o all after.par j k → IsOut m o every after.par next k
    out_still k out = out_as out (λ is_out. elim is_out [
      | inl unstarted ↦ out_from found here_now is_member_now
          (let started = more.started in omega (arith, number, started)) out.number out.branch out.here
          (omega (arith, number, unstarted))
      | inr x ↦ inr (member_as x (grows x.process x.start x.has_start) (more.members x.process x.member))
    ])

    pub start_leaves : Pending m own o began every new_memory next due (after_next more after)
    start_leaves = record {
      frame = subst (λ (n : ℕ). HasFrame own (length new_memory) (words_in m after.par.context) after.act.layout.origin
          after.par.block n) (sym more.block) (same_frame (sym start_keeps.size) pending.frame);
      named = start_keeps.named pending.named;
      behind = behind_keeps start_keeps pending.behind;
      words = λ k reads hides free. means_same
          (pending.words k reads hides (λ out. free (out_still k out))) refl
          (sym (opener_keeps.others k (λ scheduled. free
          (scheduled_out found here_now is_member_now left k scheduled))));
    }
