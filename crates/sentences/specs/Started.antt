-- Why a branch is not started.
use Rattle.std.specs.Prelude.{ℕ, ℤ, [], ◌++◌, codes, Option, Some, None}
use Rattle.std.specs.Fmt.{decimal}
use Rattle.module_format.specs.Contents.{Contents}
use Rattle.certificate.specs.Branches.{Forked, branch_at}
use Rattle.machine_state.specs.LocalStep.{target}
use Rattle.states.specs.State.{State}
use Rattle.fact_texts.specs.Texts.{Text, range_text}
use Rattle.found_parts.specs.declared.faults.StartFault.{StartFault}
use Rattle.found_parts.specs.declared.sharing.Common.{Common}
use Rattle.found_parts.specs.declared.sharing.Common.TheVariants as commons
use Rattle.found_parts.specs.declared.sharing.Shared.{Shared}
use Rattle.found_parts.specs.FaultTexts as faults
use Rattle.found_parts.specs.Sharing.{shared_in}
use Rattle.found_parts.specs.Starts.{start_fault}

-- what a start wants that is not so
unfoldable pub fault_text : Option StartFault → Text
fault_text None = []
fault_text (Some fault) = codes "; " ++ faults.fault_text fault

-- what the branch that begins at an offset has in common with another one
abbrev pub common_text : ℕ → Common → Text
common_text entry (commons.Words words) =
    codes "; the branch at " ++ (decimal entry ++ (codes " uses word " ++ (range_text words.lo words.hi ++ codes " too")))
common_text entry (commons.Parameter number) =
    codes "; the branch at " ++ (decimal entry ++ (codes " uses parameter " ++ (decimal number ++ codes " too")))

-- what a branch has in common with one that is started
unfoldable pub shared_text : Option Shared → Text
shared_text None = []
shared_text (Some shared) = common_text shared.entry shared.what

-- the same of the branch that begins at an offset
abbrev pub fault_at : Contents → State → Option Forked → Text
fault_at m s None = []
fault_at m s (Some f) = fault_text (start_fault m s f)

abbrev pub shared_at : Contents → State → Option Forked → Text
shared_at m s None = []
shared_at m s (Some f) = shared_text (shared_in m s f.branch)

-- the same where an instruction starts the branch at a distance
abbrev pub fault_part : Contents → ℕ → State → Option ℤ → Text
fault_part m next s None = []
fault_part m next s (Some distance) = fault_at m s (branch_at m (target next distance))

abbrev pub shared_part : Contents → ℕ → State → Option ℤ → Text
shared_part m next s None = []
shared_part m next s (Some distance) = shared_at m s (branch_at m (target next distance))
