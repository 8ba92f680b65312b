use Rattle.std.proofs.Common.{◌≡◌, map, drop}
use Rattle.occam_parser.specs.Views.{expression_of}
use Rattle.code_generator.specs.Instances.{all_forgotten, unknown_in}
use Rattle.code_generator.specs.PassedViews.{parameters_of, is_found}
use Rattle.line_pieces.specs.SettingViews.{entries_in, homes_in}
use Rattle.code_generator.proofs.passing.all_forgotten.Given as goal

abbrev pub invariant-loop-place : goal.invariant-loop-place
invariant-loop-place l =
    let hs = homes_in l.setting in
    let es = entries_in l.setting in
    let qs = parameters_of l.passed in
    all_forgotten hs es l.setting.top qs l.place (map expression_of (drop l.place l.passed.actuals.now))
    (map (unknown_in (is_found l.words)) l.entries.items)
    ≡ all_forgotten hs es l.setting.top qs 0 (map expression_of l.passed.actuals.now) l.entries.items
