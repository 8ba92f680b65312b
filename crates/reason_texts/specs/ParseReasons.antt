-- Why lines are no program.
use Rattle.std.specs.Prelude.{ℕ, ◌+◌, Bool, true, false, List, length, ◌==◌, nat_lt, if◌then◌else◌}
use Rattle.std.specs.Prelude.{Option, Some, None, Result, Ok, Err}
use Rattle.occam_parser.specs.declared.fault.ParseFault.{ParseFault}
use Rattle.occam_parser.specs.declared.fault.TheConstants.{UNEXPECTED_TOKEN, MISSING_BODY, NESTING, MIXTURE}
use Rattle.occam_parser.specs.declared.block.TheConstants.{MAX_LEVEL}
use Rattle.occam_parser.specs.Terminals.{Terminal}
use Rattle.occam_parser.specs.Blocks.{Row}
use Rattle.reason_texts.specs.declared.forms.Form.{Form}
use Rattle.reason_texts.specs.declared.stuck.Lack.{Lack}
use Rattle.reason_texts.specs.declared.stuck.Lack.TheVariants as lack
use Rattle.reason_texts.specs.declared.stuck.Stuck.{Stuck}
use Rattle.reason_texts.specs.declared.context.Context.{Context}
use Rattle.reason_texts.specs.declared.context.Context.TheVariants as context
use Rattle.reason_texts.specs.declared.parse.ParseReason.{ParseReason}
use Rattle.reason_texts.specs.declared.parse.ParseReason.TheVariants as reason
use Rattle.reason_texts.specs.Forms.{past_form}
use Rattle.reason_texts.specs.Contexts.{context_of, line_numbered}

abbrev pub number_of_lack : Lack → ℕ
number_of_lack (lack.Token wanted) = UNEXPECTED_TOKEN
number_of_lack lack.Nesting = NESTING
number_of_lack lack.Mixture = MIXTURE

-- the number of the fault whose reason it is
abbrev pub number_of : ParseReason → ℕ
number_of (reason.Form form stuck) = number_of_lack stuck.lack
number_of (reason.NothingBelow above) = UNEXPECTED_TOKEN
number_of (reason.OnlyOne head first) = UNEXPECTED_TOKEN
number_of reason.MissingColon = UNEXPECTED_TOKEN
number_of reason.MissingBody = MISSING_BODY
number_of reason.DeepLine = NESTING

abbrev pub stuck_reason : Form → Bool → Result (List Terminal) Stuck → Option ParseReason
stuck_reason form is_last (Err stuck) = Some (reason.Form form stuck)
stuck_reason form true (Ok rest) = Some reason.MissingColon
stuck_reason form false (Ok rest) = None

-- where a line is not of the form that it has to be of
abbrev pub form_reason : Form → Row → Bool → Option ParseReason
form_reason form r is_last = stuck_reason form is_last (past_form form r.terminals)

abbrev pub reason_in : Row → Bool → Context → Option ParseReason
reason_in r is_last (context.Wants form) = form_reason form r is_last
reason_in r is_last (context.NothingBelow above) = Some (reason.NothingBelow above)
reason_in r is_last (context.OnlyOne head first) = Some (reason.OnlyOne head first)

-- why a line below others is at fault
abbrev pub row_reason : List Row → Row → Bool → Option ParseReason
row_reason above r is_last =
    if nat_lt MAX_LEVEL r.level then Some reason.DeepLine else reason_in r is_last (context_of r.level above)

-- a reason, if it is of a number
abbrev pub of_number : ℕ → Option ParseReason → Option ParseReason
of_number number None = None
of_number number (Some r) = if number_of r == number then Some r else None

abbrev pub reason_below : ParseFault → List Row → Option (Row × List Row) → Option ParseReason
reason_below fault rows None = None
reason_below fault rows (Some x) = of_number fault.number (row_reason x.1 x.0 (length x.1 + 1 == length rows))

-- why lines are no program, by the fault that is reported
unfoldable pub parse_reason : List Row → ParseFault → Option ParseReason
parse_reason rows fault =
    if fault.number == MISSING_BODY then Some reason.MissingBody
    else reason_below fault rows (line_numbered fault.line rows)
