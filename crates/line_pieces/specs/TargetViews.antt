-- What is stored into in a setting of the program, and the code of actions there.
use Rattle.occam_parser.specs.Expressions.{Expression, Term}
use Rattle.occam_parser.specs.Lines.{Place}
use Rattle.occam_parser.specs.Views.{expression_of}
use Rattle.line_pieces.specs.declared.setting.Setting.{Setting}
use Rattle.line_pieces.specs.declared.targets.Target as code_target
use Rattle.line_pieces.specs.declared.targets.Target.TheVariants as targets
use Rattle.line_pieces.specs.SettingViews.{entries_in, homes_in, subscript_in}
use Rattle.line_pieces.specs.Actions.{Target, NoTarget, OwnWord, KnownElement, OtherElement, target_of}
use Rattle.line_pieces.specs.Actions.{source_of, source_of_term}

abbrev pub target_seen : Setting → code_target.Target → Target
target_seen s targets.Nothing = NoTarget
target_seen s (targets.Word type w) = OwnWord type w
target_seen s (targets.Known type w n) = KnownElement type w n
target_seen s (targets.Other type w subscript) = OtherElement type w (subscript_in s (expression_of subscript.now))

abbrev pub target_in : Setting → Place → Target
target_in s p = target_of (homes_in s) (entries_in s) s.top p

abbrev pub source_of_term_in : Setting → Term → Target
source_of_term_in s x = source_of_term (homes_in s) (entries_in s) s.top x

abbrev pub source_in : Setting → Expression → Target
source_in s e = source_of (homes_in s) (entries_in s) s.top e
