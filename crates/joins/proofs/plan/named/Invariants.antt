use Rattle.std.proofs.Common.{◌≡◌, ◌++◌, drop}
use Rattle.module_format.specs.Contents.{par_of}
use Rattle.machine_state.specs.JoinLookups.{named_from}
use Rattle.joins.proofs.plan.named.Given as goal

-- those so far and those of the rest are all
abbrev pub invariant-loop-number : goal.invariant-loop-number
invariant-loop-number l =
    l.words.items ++ named_from (par_of l.par) l.number (drop l.number l.parameters)
    ≡ named_from (par_of l.par) 0 l.parameters
