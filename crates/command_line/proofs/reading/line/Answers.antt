use Rattle.std.proofs.Common.{◌≡◌, ◌∙◌, [], true, false, is_none, option_map, ap, sym, subst}
use Rattle.std.proofs.lemmas.Result.{err_from_is_err_and}
use Rattle.clap.specs.Simple.{App}
use Rattle.clap.specs.Kinds.{HasKind}
use Rattle.clap.specs.Faults.{fault_of, is_simple_and_free}
use Rattle.command_line.specs.Asked.{asked_of}
use Rattle.command_line.specs.Words.{words_of}
use Rattle.command_line.specs.CommandLine.{taken_for, tpm}
use Rattle.command_line.proofs.Matched.{asks_for, line_is, some_asked, misused, tpm_is_free}
use Rattle.command_line.proofs.reading.line.Goals as goal
use Rattle.command_line.proofs.reading.line.Goals.{After-asked}

-- the parser takes the words, for what is read of its matches
taken : (c : After-asked) → (fault_of tpm (words_of c.args.words.now) ≡ [])
    × (taken_for (words_of c.args.words.now) ≡ option_map asked_of c.asked.result)
taken c =
    let parse = c.in_ok-matches.ensures in
    line_is _ (words_of c.args.words.now) c.in_ok-matches.matches _ c.in_ok-command.ensures parse.kinds parse.matches
    c.asked.ensures

pub unwrap-line-requires : goal.unwrap-line-requires
unwrap-line-requires c =
    let read = taken (goal.at.unwrap-line-requires c).After-asked in
    some_asked (words_of c.args.words.now) c.asked.result read.0 read.1

pub returns-clause-asked : goal.returns-clause-asked
returns-clause-asked c =
    asks_for (words_of c.args.words.now) c.unwrap-line.result true
    ((taken (goal.at.returns-clause-asked c).After-asked).1 ∙ ap (option_map asked_of) c.unwrap-line.ensures)
    (sym (ap is_none c.in-None.is) ∙ c.misfit.ensures)

pub returns-in-Some-clause-fault : goal.returns-in-Some-clause-fault
returns-in-Some-clause-fault c =
    asks_for (words_of c.args.words.now) c.unwrap-line.result false
    ((taken (goal.at.returns-in-Some-clause-fault c).After-asked).1 ∙ ap (option_map asked_of) c.unwrap-line.ensures)
    (sym (ap is_none c.in-Some.is) ∙ c.misfit.ensures)

pub returns-in_err-matches-clause-fault : goal.returns-in_err-matches-clause-fault
returns-in_err-matches-clause-fault c =
    let words = words_of c.args.words.now in
    let parse = c.in_err-matches.ensures in
    let is = c.in_ok-command.ensures in
    let made = err_from_is_err_and c.from_residual-in_err-matches.result c.from_residual-in_err-matches.ensures.1 in
    let has : HasKind (fault_of tpm words) c.in_err-matches.field-0.0 =
    subst (λ (a : App). HasKind (fault_of a words) c.in_err-matches.field-0.0) is
    (parse.kinds (ap is_simple_and_free is ∙ tpm_is_free)) in
    rw made.1 (misused words c.in_err-matches.field-0.0 made.0 has made.2)
