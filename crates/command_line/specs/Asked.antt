-- What can be asked for: our own choice.
use Rattle.std.specs.Prelude.{Bool, true, false, Option, option_map}
use Rattle.command_line.specs.declared.lines.Line.{Line}
use Rattle.command_line.specs.declared.lines.Line.TheVariants.{Compile, Upgrade, Debug, Ask}
use Rattle.command_line.specs.declared.lines.Question.{Question}
use Rattle.command_line.specs.declared.lines.Question.TheVariants.{Verdict, Run, Listing, Explanation}
use Rattle.command_line.specs.declared.links.OnLinks.{OnLinks}
use Rattle.command_line.specs.Words.{Text}
use Rattle.command_line.specs.Links.{paths_of}

-- what is asked for: the module of a source file, written to another file; a module file in version 2, written to
-- another file; the verdict on a module file, its run with files on its input links and output links, the listing of
-- its code, or the explanation of its verdict; or the run, on the machine that checks each rule, of what is in a file,
-- with files on the links, up to the number of bytes that a text is, and with each instruction written or not
pub data Asked : Type 0 where
  compiles : Text → Text → Asked
  upgrades : Text → Text → Asked
  verifies : Text → Asked
  runs : Text → OnLinks (Option Text) → OnLinks (Option Text) → Asked
  debugs : Text → OnLinks (Option Text) → OnLinks (Option Text) → Option Text → Bool → Asked
  lists : Text → Asked
  explains : Text → Asked

-- the file that is read first
abbrev pub path_of : Asked → Text
path_of (compiles source out) = source
path_of (upgrades old new) = old
path_of (verifies path) = path
path_of (runs path inputs outputs) = path
path_of (debugs path inputs outputs bytes trace) = path
path_of (lists path) = path
path_of (explains path) = path

-- of a module its verdict and its run want its verdict first
abbrev pub wants_verdict : Asked → Bool
wants_verdict (verifies path) = true
wants_verdict (runs path inputs outputs) = true
wants_verdict _ = false

-- what a question asks of the module in the file of this path
abbrev pub asked_about : Text → Question → Asked
asked_about path Verdict = verifies path
asked_about path (Run inputs outputs) = runs path (paths_of inputs) (paths_of outputs)
asked_about path Listing = lists path
asked_about path Explanation = explains path

-- what a `Line` says
abbrev pub asked_of : Line → Asked
asked_of (Compile source out) = compiles source.now out.now
asked_of (Upgrade path out) = upgrades path.now out.now
asked_of (Debug path inputs outputs bytes trace) =
    debugs path.now (paths_of inputs) (paths_of outputs) (option_map (λ text. text.now) bytes) trace
asked_of (Ask path question) = asked_about path.now question
