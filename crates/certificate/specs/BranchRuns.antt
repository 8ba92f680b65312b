-- The runs of channels of all branches.
use Rattle.std.specs.Prelude.{◌≡◌, ℕ, ◌+◌, ◌<◌, List, length, get_or, Option, Some, None, MatchOption, Vec, nat_lt}
use Rattle.std.specs.Prelude.{◌==◌}
use Rattle.std.specs.List.{list_any}
use Rattle.std.specs.Global.{Global}
use Rattle.std.specs.Borrow.{Bor}
use Rattle.module_format.specs.Contents.{Par, Branch, Contents}
use Rattle.module_format.specs.Contexts.{first_branch, branch_count}
use Rattle.certificate.specs.declared.runs.ChannelRun.{ChannelRun}
use Rattle.certificate.specs.declared.branch_runs.Visit.{Visit}
use Rattle.certificate.specs.Branches.{numbered_branch}
use Rattle.certificate.specs.Rights.{channel_length}
use Rattle.certificate.specs.Runs.{AreRuns}

-- these are the runs of the branch with `before` branches before it
abbrev pub AreRunsOf : Contents → ℕ → List ChannelRun → Type 0
AreRunsOf c before runs = (x : Par × Branch) → numbered_branch c (first_branch c + before) ≡ Some x
    → AreRuns (channel_length c (first_branch c + before)) x.1.ends runs

-- the runs of all branches, in the order of their contexts
pub record AreBranchRuns (c : Contents) (runs : List (Vec ChannelRun Global)) : Type 0 where
  pub many : length runs ≡ branch_count c.pars
  pub each : (i : ℕ) (d : Vec ChannelRun Global) → i < length runs → AreRunsOf c i (get_or runs i d).items

-- the first `count` branches are visited, and no other
abbrev pub AreVisits : ℕ → List Visit → Type 0
AreVisits count visits = (n : ℕ) → list_any (λ visit. visit.branch == n) visits ≡ nat_lt n count

-- the runs of the branch that is context n, where it is one
abbrev pub AreRunsAt : Contents → ℕ → Option (Bor (List ChannelRun)) → Type 0
AreRunsAt c n None = numbered_branch c n ≡ None
AreRunsAt c n (Some runs) =
    MatchOption (numbered_branch c n) ⊥ (λ x. AreRuns (channel_length c n) x.1.ends runs.now)
