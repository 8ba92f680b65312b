-- O19: what is wrong with the last item of a program.
use Rattle.std.specs.Prelude.{◌≡◌, ◌-◌, List, length, if◌then◌else◌, Option, Some, None, option_map}
use Rattle.std.specs.List.{slice_get}
use Rattle.occam_parser.specs.Blocks.{ProgramItem, GlobalConstant, GlobalProcedure, Procedure}
use Rattle.usage_checks.specs.MainRules.{is_main_name, are_links}
use Rattle.usage_reasons.specs.declared.reason.LastItem.{LastItem}
use Rattle.usage_reasons.specs.declared.reason.LastItem.TheVariants as last
use Rattle.usage_reasons.specs.declared.reason.Why.{Why}
use Rattle.usage_reasons.specs.declared.reason.Why.TheVariants as why

-- of a procedure
abbrev pub fault_of_procedure : Procedure → Option LastItem
fault_of_procedure p =
    if is_main_name p.head.name then (if are_links p.head.formals then None else Some last.NoLink)
    else Some last.OtherName

-- of the last item, if there is one
abbrev pub fault_of_last : Option ProgramItem → Option LastItem
fault_of_last None = Some last.Missing
fault_of_last (Some (GlobalConstant c)) = Some last.Constant
fault_of_last (Some (GlobalProcedure p)) = fault_of_procedure p

-- the reason is what is wrong with the last of these items
abbrev pub IsMainReason : List ProgramItem → Why → Type 0
IsMainReason items w = option_map why.NoMain (fault_of_last (slice_get items (length items - 1))) ≡ Some w
