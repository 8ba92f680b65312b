-- What waits for a PAR in another join: what its opener goes on with, who is a member, and what words are out.
use Rattle.std.proofs.Common.{◌≡◌, ◌⊎◌, ℕ, ◌+◌, ◌≤◌, ℤ, true, inl, inr, List, Some, sym, subst, arith}
use Rattle.std.proofs.lemmas.Bool.{cases_lt}
use Rattle.std.specs.Prelude.{slice_get}
use Rattle.small_laws.proofs.Options.{same_some}
use Rattle.module_format.specs.declared.rows.EndKind.TheVariants.{FrameWord}
use Rattle.module_format.specs.Contents.{Contents, Par, Branch}
use Rattle.certificate.specs.Rights.{is_among}
use Rattle.machine_state.specs.declared.process.Task.{Task}
use Rattle.machine_state.specs.JoinLookups.{Found}
use Rattle.machine_state.specs.Waiting.{is_member, IsGone}
use Rattle.machine_state.specs.World.{Role, Join}
use Rattle.rulings.specs.Meaning.{Layout}
use Rattle.rulings.specs.Regions.{channel_address}
use Rattle.share_laws.specs.Shares.{IsLaidOut}
use Rattle.share_laws.specs.Starts.{IsLeft}
use Rattle.share_laws.specs.Taking.{IsScheduling}
use Rattle.certified_worlds.specs.Pending.{HasMember, IsOut, AfterPar, IsMember}
use Rattle.certified_worlds.specs.Point.{Began}

-- its opener goes on with the same after a join of the same row that is laid out as this one is
abbrev pub after_as : {m : Contents} {j : Join} {due : ℕ} (after : AfterPar m j due) (next : Join)
    → slice_get m.pars next.row ≡ Some after.par
    → IsLaidOut m after.par after.act.layout next.base next.parameters
    → next.block ≡ channel_address after.act.layout (FrameWord after.par.block) → AfterPar m next due
after_as after next row laid block = record {
  par = after.par;
  row = row;
  label = after.label;
  at = after.at;
  context = after.context;
  depth = after.depth;
  registers = after.registers;
  hidden = after.hidden;
  alone = after.alone;
  act = after.act;
  callers = after.callers;
  laid = laid;
  block = block;
  paid = after.paid;
}

-- the branches of an opener that are not gone began as its row says
abbrev pub AreMembers : Contents → List Task → List Role → List Began → ℕ → Par → Layout → Type 0
AreMembers m tasks roles began o par layout =
    (q : ℕ) (branch : Role) (first : Began) → slice_get roles q ≡ Some branch → branch.opener ≡ Some o
    → (IsGone tasks branch q → ⊥) → slice_get began q ≡ Some first → IsMember m par layout first

module _ {m : Contents} {o : ℕ} {all every : List Began} {par : Par} {j next : Join} where
  -- a member is one of another join that lists it
  pub member_as : {b : Branch} (x : HasMember m o all par j b) → slice_get every x.process ≡ Some x.start
      → is_member next.members x.process ≡ true → HasMember m o every par next b
  member_as x has_start member = record {
    process = x.process;
    other = x.other;
    start = x.start;
    has_start = has_start;
    member = member;
    is = x.is;
  }

  -- a word is out still where its branch is not started still, or has a member
  pub out_as : {k : ℤ} (out : IsOut m o all par j k)
      → ((j.started ≤ out.number) ⊎ HasMember m o all par j out.branch
      → (next.started ≤ out.number) ⊎ HasMember m o every par next out.branch) → IsOut m o every par next k
  out_as out still = record {
    number = out.number;
    branch = out.branch;
    here = out.here;
    writes = out.writes;
    is_out = still out.is_out;
  }

-- The branch that was started last is a member.
module _ {m : Contents} {o : ℕ} {every : List Began} {par : Par} {j : Join} (found : Found)
    (here : slice_get par.branches found.number ≡ Some found.branch) (newest : HasMember m o every par j found.branch)
  where
    -- of that branch and of those after it the words are out
    pub out_from : j.started ≡ found.number + 1 → (n : ℕ) (b : Branch) → slice_get par.branches n ≡ Some b
        → found.number ≤ n → (j.started ≤ n) ⊎ HasMember m o every par j b
    out_from started n b at from = elim (cases_lt found.number n) [
      | inl later ↦ inl (omega (arith, later, started))
      | inr low ↦
          let same : found.number ≡ n = omega (arith, from, low) in
          inr (subst (λ (b : Branch). HasMember m o every par j b)
          (same_some (slice_get par.branches n) found.branch b
          (subst (λ (n : ℕ). slice_get par.branches n ≡ Some found.branch) same here) at) newest)
    ]

    -- and so are those that scheduling takes
    pub scheduled_out : IsLeft m found → (k : ℤ) → IsScheduling found k → IsOut m o every par j k
    scheduled_out left k scheduled = record {
      number = found.number;
      branch = found.branch;
      here = here;
      writes = subst (λ (z : ℤ). is_among found.branch.writes z ≡ true) (sym scheduled.is)
          (left.scheduling scheduled.n scheduled.low);
      is_out = inr newest;
    }
