-- The first condition of a start of a branch that is not met, of those of rule V12 in `startp_rule` of `par_rules`.
use Rattle.std.specs.Prelude.{ℕ, ◌==◌, if◌then◌else◌, List, slice_get, Option, Some, None, option_map}
use Rattle.std.specs.Option.{option_or}
use Rattle.module_format.specs.Contents.{Contents, Par, Branch, Label, label_at, par_of, branch_of}
use Rattle.module_format.specs.Contexts.{first_branch}
use Rattle.certificate.specs.Branches.{Forked}
use Rattle.states.specs.declared.known.Mode.{Mode}
use Rattle.states.specs.declared.known.Mode.TheVariants.{Starting}
use Rattle.states.specs.State.{State, is_same_number}
use Rattle.states.specs.Below.{is_plain}
use Rattle.par_rules.specs.ParRules.{is_workspace}
use Rattle.found_parts.specs.declared.faults.StartFault.{StartFault}
use Rattle.found_parts.specs.declared.faults.StartFault.TheVariants as faults
use Rattle.found_parts.specs.declared.starts.Start.{Start}
use Rattle.found_parts.specs.Gifts.{gifts_fault, hidden_fault}
use Rattle.found_parts.specs.Openings.{opening_fault}
use Rattle.found_parts.specs.Successors.{successor_fault}

-- a branch that is started, as the definitions have it
abbrev pub start_of : Start → Forked
start_of start = record { context = start.context; par = par_of start.par.now; branch = branch_of start.branch.now }

-- ---- its turn

-- where the branch of this number begins
abbrev pub entry_in : List Branch → ℕ → Option ℕ
entry_in branches n = option_map (λ (b : Branch). b.entry) (slice_get branches n)

abbrev pub started_after : Option Par → ℕ → Option ℕ
started_after None n = None
started_after (Some par) n = entry_in par.branches n

-- where the branch begins that a process in this mode starts next
abbrev pub next_entry : Contents → Mode → Par → Option ℕ
next_entry m (Starting row started) par = started_after (slice_get m.pars row) started
next_entry m mode par = entry_in par.branches 0

abbrev pub unless_next : ℕ → Option ℕ → Option StartFault
unless_next entry None = Some faults.NoneNext
unless_next entry (Some other) = if other == entry then None else Some (faults.OtherNext other)

-- another branch is next, or none
abbrev pub next_fault : Contents → Mode → Forked → Option StartFault
next_fault m mode f = unless_next f.branch.entry (next_entry m mode f.par)

-- the PAR is of another context
abbrev pub context_fault : Contents → State → Par → Option StartFault
context_fault m s par =
    if par.context == s.context then None
    else Some (faults.Context (record { first_branch = first_branch m; number = par.context }))

-- it is at another depth
abbrev pub depth_fault : State → Par → Option StartFault
depth_fault s par = if is_same_number par.depth s.depth then None else Some (faults.Depth par.depth s.depth)

-- A is not the workspace of the branch
abbrev pub workspace_fault : State → Branch → Option StartFault
workspace_fault s b = if is_workspace b.workspace s.stack.a.fact then None else Some (faults.Workspace b.workspace)

-- it is not the turn of the branch: another one is next, or the PAR is elsewhere
abbrev pub turn_fault : Contents → State → Forked → Option StartFault
turn_fault m s f =
    option_or (option_or (next_fault m s.mode f) (option_or (context_fault m s f.par) (depth_fault s f.par)))
    (workspace_fault s f.branch)

-- ---- all

-- the branch is given what is not there to be given
abbrev pub given_fault : Contents → State → Forked → Option StartFault
given_fault m s f = option_or (gifts_fault m s.context f.branch) (hidden_fault m f.context f.par)

-- at the first start the PAR is not prepared
abbrev pub first_fault : Contents → State → Par → Option StartFault
first_fault m s par =
    if is_plain s.mode
    then option_or (opening_fault m s par) (successor_fault par (label_at m par.successor)) else None

-- no label is where the branch begins
abbrev pub entry_fault : Branch → Option Label → Option StartFault
entry_fault b None = Some (faults.NoLabel b.entry)
entry_fault b (Some t) = None

-- the first of all
unfoldable pub start_fault : Contents → State → Forked → Option StartFault
start_fault m s f =
    option_or (option_or (option_or (turn_fault m s f) (given_fault m s f)) (first_fault m s f.par))
    (entry_fault f.branch (label_at m f.branch.entry))
