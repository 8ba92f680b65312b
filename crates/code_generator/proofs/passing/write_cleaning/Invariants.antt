use Rattle.std.proofs.Common.{◌≡◌, ◌++◌, map, drop}
use Rattle.occam_parser.specs.Views.{expression_of}
use Rattle.code_generator.specs.Instances.{cleaning_code}
use Rattle.code_generator.specs.PassedViews.{parameters_of}
use Rattle.line_pieces.specs.SettingViews.{entries_in, homes_in}
use Rattle.code_generator.proofs.passing.write_cleaning.Given as goal

abbrev pub invariant-loop-place : goal.invariant-loop-place
invariant-loop-place l =
    let hs = homes_in l.setting in
    let es = entries_in l.setting in
    let qs = parameters_of l.passed in
    l.listing ++ cleaning_code hs es l.setting.top qs l.place (map expression_of (drop l.place l.actual-items))
    ≡ l.initial.listing ++ cleaning_code hs es l.setting.top qs 0 (map expression_of l.actual-items)
