-- What a command line asks for: our own choice, defined as the command of the argument parser `clap`.
use Rattle.std.specs.Prelude.{List, [], ◌∷◌, ◌++◌, codes, Bool, true, false, Option, Some, None, if◌then◌else◌}
use Rattle.std.specs.Prelude.{option_and_then, option_map}
use Rattle.std.specs.Option.{option_map_or}
use Rattle.std.specs.Str.{bytes_eq}
use Rattle.clap.specs.Walk.{Row, Rule, first_of}
use Rattle.clap.specs.Simple.{App, Shape, new_shape, new_rule, subcommand_of}
use Rattle.clap.specs.Kinds.{Kinds}
use Rattle.clap.specs.Faults.{fault_of}
use Rattle.clap.specs.declared.builder.action.ArgAction.TheVariants.{SetTrue}
use Rattle.command_line.specs.declared.links.OnLinks.{OnLinks}
use Rattle.command_line.specs.Words.{Text}
use Rattle.command_line.specs.Links.{on_each, input_names, output_names}
use Rattle.command_line.specs.Asked.{Asked, compiles, upgrades, verifies, runs, debugs, lists, explains}
use Rattle.command_line.specs.Fitting.{if_fit}

-- ---- the command

-- a path that has to be given
abbrev pub path_rule : Text → Rule
path_rule name = record (new_rule name) { required = true }

abbrev pub with_path : Text → Shape → Shape
with_path name s = record s { rules = s.rules ++ path_rule name ∷ [] }

-- a subcommand, which takes the path of a module file
abbrev pub subcommand_shape : Text → Shape
subcommand_shape name = with_path (codes "MOD") (new_shape name)

-- `compile SRC OUT`
abbrev pub compile_shape : Shape
compile_shape = with_path (codes "OUT") (with_path (codes "SRC") (new_shape (codes "compile")))

-- `upgrade OLD NEW`
abbrev pub upgrade_shape : Shape
upgrade_shape = with_path (codes "NEW") (with_path (codes "OLD") (new_shape (codes "upgrade")))

-- an option, which takes a value
abbrev pub option_rule : Text → Rule
option_rule name = record (new_rule name) { long = Some name; value_names = 1 }

abbrev pub with_option : Text → Shape → Shape
with_option name s = record s { rules = s.rules ++ option_rule name ∷ [] }

-- an option that takes none
abbrev pub flag_rule : Text → Rule
flag_rule name = record (new_rule name) { long = Some name; action = Some SetTrue }

abbrev pub with_flag : Text → Shape → Shape
with_flag name s = record s { rules = s.rules ++ flag_rule name ∷ [] }

-- an option for each link of one direction
abbrev pub with_links : OnLinks Text → Shape → Shape
with_links names s =
    with_option names.fourth (with_option names.third (with_option names.second (with_option names.first s)))

abbrev pub with_all_links : Shape → Shape
with_all_links s = with_links output_names (with_links input_names s)

-- `run MOD` and its options
abbrev pub run_shape : Shape
run_shape = with_all_links (subcommand_shape (codes "run"))

-- `debug FILE` and its options
abbrev pub debug_shape : Shape
debug_shape =
    with_flag (codes "trace") (with_option (codes "bytes")
    (with_all_links (with_path (codes "FILE") (new_shape (codes "debug")))))

-- `tpm compile SRC OUT`, `tpm verify MOD`, `tpm run MOD` with files on the links, `tpm debug FILE` with those and a
-- number of bytes, `tpm list MOD`, `tpm explain MOD`, and `tpm upgrade OLD NEW`
abbrev pub tpm : App
tpm = record {
  top = record (new_shape (codes "tpm")) {
    is_leaf = false;
    subcommand_required = true;
    disable_help_subcommand = true;
  };
  subs =
      compile_shape ∷ subcommand_shape (codes "verify") ∷ run_shape ∷ debug_shape ∷ subcommand_shape (codes "list")
      ∷ subcommand_shape (codes "explain") ∷ upgrade_shape ∷ [];
}

-- ---- the meaning of the words

-- the paths that are given for the links of these names
abbrev pub paths_given : OnLinks Text → List Row → OnLinks (Option Text)
paths_given names rows = on_each (λ name. first_of name rows) names

abbrev pub named : Text → List Row → Text → Option Asked
named name rows path =
    if bytes_eq name (codes "verify") then Some (verifies path) else
    if bytes_eq name (codes "run")
    then Some (runs path (paths_given input_names rows) (paths_given output_names rows)) else
    if bytes_eq name (codes "list") then Some (lists path) else
    if bytes_eq name (codes "explain") then Some (explains path) else None

-- the module of the source, written to the file, where both paths are given
abbrev pub compiled_by : List Row → Option Asked
compiled_by rows =
    option_and_then (λ source. option_map (compiles source) (first_of (codes "OUT") rows))
    (first_of (codes "SRC") rows)

-- the module of the one file, written to the other, where both paths are given
abbrev pub upgraded_by : List Row → Option Asked
upgraded_by rows =
    option_and_then (λ old. option_map (upgrades old) (first_of (codes "NEW") rows)) (first_of (codes "OLD") rows)

-- whether this flag is given
abbrev pub flag_given : Text → List Row → Bool
flag_given name rows = option_map_or (λ value. bytes_eq value (codes "true")) (first_of name rows) false

-- the run of the module or the source whose path is given
abbrev pub debugged_by : List Row → Option Asked
debugged_by rows =
    option_map (λ path. debugs path (paths_given input_names rows) (paths_given output_names rows)
    (first_of (codes "bytes") rows) (flag_given (codes "trace") rows)) (first_of (codes "FILE") rows)

-- what is asked of the module whose path is given
abbrev pub of_module : Text → List Row → Option Asked
of_module name rows = option_and_then (named name rows) (first_of (codes "MOD") rows)

-- a subcommand's name and what was found for its arguments
abbrev pub entered_by : Text × List Row → Option Asked
entered_by found =
    if bytes_eq found.0 (codes "compile") then compiled_by found.1 else
    if bytes_eq found.0 (codes "upgrade") then upgraded_by found.1 else
    if bytes_eq found.0 (codes "debug") then debugged_by found.1 else of_module found.0 found.1

-- what is asked for, where no kind of error may come
abbrev pub unless_faulty : Kinds → Option Asked → Option Asked
unless_faulty [] asked = asked
unless_faulty (kind ∷ kinds) asked = None

-- what the command takes the words for: nothing where it does not take them
abbrev pub taken_for : List Text → Option Asked
taken_for words = unless_faulty (fault_of tpm words) (option_and_then entered_by (subcommand_of tpm words))

-- what the words ask for, if it fits together
abbrev pub line_of : List Text → Option Asked
line_of words = option_and_then if_fit (taken_for words)
