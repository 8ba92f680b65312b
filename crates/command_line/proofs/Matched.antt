-- From what the parser's getters return to what the words ask for.
use Rattle.std.proofs.Common.{◌≡◌, List, [], ◌∷◌, Bool, true, cond, Option, Some, None, option_map, option_and_then, IsSome, inl}
use Rattle.std.proofs.Common.{inr, refl, ap, ap₂, sym, ◌∙◌}
use Rattle.std.specs.Prelude.{Box}
use Rattle.std.specs.Box.{box_value}
use Rattle.std.proofs.lemmas.Option.{same_Some}
use Rattle.clap.specs.Matches.{found_of}
use Rattle.clap.specs.Walk.{Text, Row, rows_of}
use Rattle.clap.specs.Simple.{App, HasMatchesOf, is_simple, subcommand_of, subcommand_rows, subcommand_rows_of}
use Rattle.clap.specs.Kinds.{Kinds, HasKind, IsAmong}
use Rattle.clap.specs.Faults.{fault_of, is_simple_and_free}
use Rattle.clap.specs.Values.{kind_of}
use Rattle.clap.specs.declared.error.Error.{Error}
use Rattle.clap.specs.declared.error.kind.ErrorKind.{ErrorKind}
use Rattle.clap.specs.declared.parser.matches.SubCommand.{SubCommand}
use Rattle.clap.specs.declared.parser.matches.ArgMatches.TheViews.{out-ArgMatches, out-SubCommand}
use Rattle.clap.specs.declared.parser.matches.ArgMatches.{ArgMatches}
use Rattle.command_line.specs.declared.lines.Line.{Line}
use Rattle.command_line.specs.declared.lines.LineFault.{LineFault}
use Rattle.command_line.specs.declared.lines.LineFault.TheVariants as faults
use Rattle.command_line.specs.Asked.{Asked, asked_of}
use Rattle.command_line.specs.CommandLine.{entered_by, unless_faulty, line_of, taken_for, tpm}
use Rattle.command_line.specs.Fitting.{is_fit, if_fit}
use Rattle.command_line.specs.LineFaults.{FaultOf, IsFaultAt}
use Rattle.command_line.proofs.SubcommandsHavePaths.{given}

-- a subcommand's name and rows, each known separately, are known together
entered_is : {Z : Type 0} (s : Option (Box SubCommand Z)) (name : Text) (rows : List Row)
    → Some name ≡ option_map (λ b. (out-SubCommand (box_value b)).name.now) s
    → Some rows ≡ option_map (λ p. p.1) (subcommand_rows s)
    → subcommand_rows s ≡ Some (name, rows)
entered_is None name rows a b = absurd (cc)
entered_is (Some box) name rows a b =
    ap₂ (λ (x : Text) (y : List Row). Some (x, y)) (sym (same_Some _ _ a)) (sym (same_Some _ _ b))

-- what is asked for by the subcommand that was met, with this name and what was given to it
pub asks_by : (matches given : ArgMatches) (name : Text)
    → Some name ≡ option_map (λ b. (out-SubCommand (box_value b)).name.now) (out-ArgMatches matches).subcommand
    → Some (rows_of (found_of given)) ≡ option_map (λ p. p.1) (subcommand_rows_of matches)
    → entered_by (name, rows_of (found_of given)) ≡ option_and_then entered_by (subcommand_rows_of matches)
asks_by matches given name called rows =
    sym (ap (option_and_then entered_by)
    (entered_is (out-ArgMatches matches).subcommand name (rows_of (found_of given)) called rows))

-- ---- the whole line

-- what is asked for comes to nothing where a kind of error may come
some_kind : (k : ErrorKind) (kinds : Kinds) (asked : Option Asked) → IsAmong k kinds → unless_faulty kinds asked ≡ None
some_kind k [] asked among = absurd among
some_kind k (x ∷ xs) asked among = refl

-- an error of the parser, as a fault of the line
pub misused : (words : List Text) (error : Error) (fault : LineFault) → HasKind (fault_of tpm words) error
    → FaultOf error fault → IsFaultAt words fault
misused words error faults.Memory has of = tt
misused words error (faults.Misfit misfit) has of = absurd of
misused words error (faults.Usage shown) (inl starved) of = absurd (of.1 starved)
misused words error (faults.Usage shown) (inr among) of =
    ap (option_and_then if_fit) (some_kind (kind_of error) (fault_of tpm words) _ among)

pub tpm_is_simple : is_simple tpm ≡ true
tpm_is_simple = refl

pub tpm_is_free : is_simple_and_free tpm ≡ true
tpm_is_free = refl

-- what the command takes the words for, where its parser took them
pub line_is : (app : App) (words : List Text) (matches : ArgMatches) (asked : Option Asked) → app ≡ tpm
    → (is_simple_and_free app ≡ true → fault_of app words ≡ []) → HasMatchesOf app words matches
    → asked ≡ option_and_then entered_by (subcommand_rows_of matches)
    → (fault_of tpm words ≡ []) × (taken_for words ≡ asked)
line_is app words matches asked is kinds has by =
    let none : fault_of tpm words ≡ [] =
    ap (λ (a : App). fault_of a words) (sym is) ∙ kinds (ap is_simple_and_free is ∙ tpm_is_free) in
    let found : subcommand_rows_of matches ≡ subcommand_of tpm words =
    (has (ap is_simple is ∙ tpm_is_simple)).1 ∙ ap (λ (a : App). subcommand_of a words) is in (
      none,
      ap (λ (kinds : Kinds). unless_faulty kinds (option_and_then entered_by (subcommand_of tpm words))) none
          ∙ sym (ap (option_and_then entered_by) found) ∙ sym by,
    )

-- what the parser took asks for something
pub some_asked : (words : List Text) (asked : Option Line) → fault_of tpm words ≡ []
    → taken_for words ≡ option_map asked_of asked → IsSome asked
some_asked words None none is = let found = given words none in absurd (nothing (sym is ∙ found.1))
  where
    nothing : {x : Asked} → None ≡ Some x → ⊥
    nothing e = cc
some_asked words (Some line) none is = refl

-- what the words ask for, by whether that fits together
pub asks_for : (words : List Text) (line : Line) (none : Bool) → taken_for words ≡ Some (asked_of line)
    → none ≡ is_fit (asked_of line) → line_of words ≡ cond none (Some (asked_of line)) None
asks_for words line none taken fit =
    ap (option_and_then if_fit) taken ∙ ap (λ (b : Bool). cond b (Some (asked_of line)) None) (sym fit)
