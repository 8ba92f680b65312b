-- What the program writes on standard output, and its exit statuses: our own choice.
use Rattle.std.specs.Prelude.{ℕ, [], ◌∷◌, ◌++◌, codes}
use Rattle.std.specs.Fmt.{decimal}
use Rattle.command_line.specs.Words.{Text}
use Rattle.command_line.specs.declared.lines.LineFault.{LineFault}
use Rattle.command_line.specs.declared.lines.LineFault.TheVariants as line_faults
use Rattle.file_access.specs.declared.failure.FileFailure.TheVariants as stops
use Rattle.tpm_actions.specs.declared.report.Report.{Report}
use Rattle.tpm_actions.specs.declared.report.Report.TheVariants.{Compiled, Upgraded, Accepted}
use Rattle.tpm_actions.specs.declared.report.Failure.{Failure}
use Rattle.tpm_actions.specs.declared.report.Failure.TheVariants.{Malformed, Uncertified, Explained, Faulted, Uncompiled}
use Rattle.tpm_actions.specs.declared.report.Failure.TheVariants.{NotUpgraded, Stopped, Unwritten}
use Rattle.tpm_actions.specs.declared.report.TheConstants.{REFUSED, MISUSED, FAILED, STARVED}

abbrev pub report_text : Report → Text
report_text (Compiled bytes) = codes "compiled " ++ (decimal bytes ++ codes " bytes")
report_text (Upgraded bytes) = codes "upgraded " ++ (decimal bytes ++ codes " bytes")
report_text (Accepted budget) = codes "accepted, budget " ++ decimal budget

-- the text and a line feed
abbrev pub report_line : Report → Text
report_line report = report_text report ++ 10 ∷ []

-- ---- exit statuses

abbrev pub status_of : Failure → ℕ
status_of (Malformed fault) = REFUSED
status_of (Uncertified refusal) = REFUSED
status_of (Explained refusal text) = REFUSED
status_of (Faulted fault text) = REFUSED
status_of (Uncompiled fault) = REFUSED
status_of (NotUpgraded fault) = REFUSED
status_of (Stopped (stops.Unread path)) = FAILED
status_of (Stopped (stops.Uncreated path)) = FAILED
status_of (Stopped (stops.ReadFailed link)) = FAILED
status_of (Stopped (stops.WriteFailed link)) = FAILED
status_of (Stopped stops.Memory) = STARVED
status_of Unwritten = FAILED

-- of words that ask for nothing
abbrev pub misuse_status : LineFault → ℕ
misuse_status (line_faults.Usage shown) = MISUSED
misuse_status (line_faults.Misfit misfit) = MISUSED
misuse_status line_faults.Memory = STARVED
