-- What is written of a run with files on the links: our own choice.
use Rattle.std.specs.Prelude.{ℕ, List, [], ◌∷◌, ◌++◌, codes, Option, Some, None, option_map, slice_index}
use Rattle.std.specs.Fmt.{decimal}
use Rattle.command_line.specs.Words.{Text}
use Rattle.command_line.specs.Links.{input_names, output_names}
use Rattle.command_line.specs.declared.links.OnLinks.{OnLinks}
use Rattle.machine_state.specs.declared.link.Link.TheVariants.{Zero, One, Two, Three}
use Rattle.machine_state.specs.Moves.{link_index}
use Rattle.link_runner.specs.declared.report.Outcome.{Outcome}
use Rattle.link_runner.specs.declared.report.Outcome.TheVariants as outcomes
use Rattle.link_runner.specs.declared.report.Report.{Report}
use Rattle.file_runs.specs.declared.debugging.Ending.{Ending}
use Rattle.file_runs.specs.declared.debugging.Ending.TheVariants.{Over, Cut, Faulted}
use Rattle.file_runs.specs.declared.reports.RunSummary.{RunSummary}
use Rattle.file_runs.specs.declared.reports.RunSummary.TheVariants.{Ended, Idle, Stopped}

abbrev pub summary_text : RunSummary → Text
summary_text (Ended executed) = codes "ended, " ++ (decimal executed ++ codes " bytes executed")
summary_text (Idle executed) = codes "idle, " ++ (decimal executed ++ codes " bytes executed")
summary_text (Stopped executed) = codes "stopped, " ++ (decimal executed ++ codes " bytes executed")

abbrev pub ended_as : Outcome → ℕ → RunSummary
ended_as outcomes.Ended executed = Ended executed
ended_as outcomes.Idle executed = Idle executed

abbrev pub ending_of : Report → RunSummary
ending_of report = ended_as report.outcome report.executed

-- the line of a link
abbrev pub count_text : Text → Option ℕ → Text
count_text name None = []
count_text name (Some count) = name ++ (codes " " ++ (decimal count ++ (codes " bytes" ++ 10 ∷ [])))

-- the line of a link that has a file
abbrev pub count_line : Text → Option Text → ℕ → Text
count_line name path count = count_text name (option_map (λ _. count) path)

-- the lines of the links of one direction
abbrev pub counts_text : OnLinks Text → OnLinks (Option Text) → List ℕ → Text
counts_text names paths counts =
    count_line names.first paths.first (slice_index counts (link_index Zero))
    ++ (count_line names.second paths.second (slice_index counts (link_index One))
    ++ (count_line names.third paths.third (slice_index counts (link_index Two))
    ++ count_line names.fourth paths.fourth (slice_index counts (link_index Three))))

-- how a run ended, and the lines of the links that have files
abbrev pub run_text : OnLinks (Option Text) → OnLinks (Option Text) → Report → Text
run_text inputs outputs report =
    summary_text (ending_of report)
    ++ (10 ∷ [] ++ (counts_text input_names inputs report.read ++ counts_text output_names outputs report.written))

-- ---- on the machine that checks each rule

-- how a run ended, or that it stopped
abbrev pub ending_at : Ending → Report → RunSummary
ending_at Over report = ending_of report
ending_at Cut report = Stopped report.executed
ending_at (Faulted fault) report = Stopped report.executed

-- how a run ended, the lines of the links that have files, and what the processes wait for
abbrev pub debug_text : Ending → OnLinks (Option Text) → OnLinks (Option Text) → Report → Text → Text
debug_text ending inputs outputs report waits =
    summary_text (ending_at ending report)
    ++ (10 ∷ [] ++ (counts_text input_names inputs report.read
    ++ (counts_text output_names outputs report.written ++ waits)))
