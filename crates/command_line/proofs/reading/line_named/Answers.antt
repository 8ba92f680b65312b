use Rattle.std.proofs.Common.{◌∙◌, Some, Option, sym, ap, ap₂}
use Rattle.clap.specs.Matches.{found_of}
use Rattle.clap.specs.Walk.{rows_of}
use Rattle.command_line.specs.Words.{Text}
use Rattle.command_line.specs.declared.links.OnLinks.{OnLinks}
use Rattle.command_line.specs.Asked.{runs}
use Rattle.command_line.specs.CommandLine.{named, paths_given}
use Rattle.command_line.proofs.reading.line_named.Goals as goal

pub returns-in-verify : goal.returns-in-verify
returns-in-verify c =
    sym (ap (λ (n : Text). named n (rows_of (found_of c.args.given.now)) c.args.path.now) c.in-verify.is)

pub returns-in-run : goal.returns-in-run
returns-in-run c =
    let rows = rows_of (found_of c.args.given.now) in
    ap₂ (λ (inputs outputs : OnLinks (Option Text)). Some (runs c.args.path.now inputs outputs))
    (c.paths_given.ensures ∙ ap (λ (names : OnLinks Text). paths_given names rows) c.input_names.ensures)
    (c.paths_given-in-run.ensures ∙ ap (λ (names : OnLinks Text). paths_given names rows) c.output_names.ensures)
    ∙ sym (ap (λ (n : Text). named n rows c.args.path.now) c.in-run.is)

pub returns-in-list : goal.returns-in-list
returns-in-list c =
    sym (ap (λ (n : Text). named n (rows_of (found_of c.args.given.now)) c.args.path.now) c.in-list.is)

pub returns-in-explain : goal.returns-in-explain
returns-in-explain c =
    sym (ap (λ (n : Text). named n (rows_of (found_of c.args.given.now)) c.args.path.now) c.in-explain.is)
