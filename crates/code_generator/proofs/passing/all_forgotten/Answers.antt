use Rattle.std.proofs.Common.{ℕ, List, map, ap, arith, ◌∙◌}
use Rattle.std.specs.BTreeSet.{contains}
use Rattle.std.specs.Ordering.{nat_cmp}
use Rattle.occam_parser.specs.Views.{expression_of}
use Rattle.code_generator.specs.Instances.{all_forgotten, passed_target, with_target}
use Rattle.code_generator.specs.PassedViews.{parameters_of, is_found}
use Rattle.line_pieces.specs.SettingViews.{entries_in, homes_in}
use Rattle.code_generator.proofs.WordsForgotten.{forgets_none, forgets_next, forgets_all}
use Rattle.code_generator.proofs.passing.all_forgotten.Goals as goal

pub loop-place-init : goal.loop-place-init
loop-place-init c =
    ap (all_forgotten (homes_in c.args.setting) (entries_in c.args.setting) c.args.setting.top
    (parameters_of c.args.passed) 0 (map expression_of c.args.passed.actuals.now))
    (forgets_none (λ v. contains nat_cmp c.new.result v)
    (λ v. ap (λ (ks : List ℕ). contains nat_cmp (record { keys = ks }) v) c.new.ensures.empty) c.args.entries.items)

pub loop-place-preserved : goal.loop-place-preserved
loop-place-preserved c =
    let hs = homes_in c.args.setting in
    let es = entries_in c.args.setting in
    let t = c.args.setting.top in
    let old = is_found c.loop-place.words in
    let e = expression_of c.actual-item.result in
    forgets_next hs es t (parameters_of c.args.passed) c.args.passed.actuals.now c.loop-place.place c.actual-item.result
    old (is_found c.add.new.self) c.args.entries.items _ (omega arith) c.actual-item.is
    (λ v. c.in_ok-add.ensures v
    ∙ ap (λ target. with_target target old v)
    (c.passed_target.ensures ∙ ap (λ m. passed_target hs es t m e) c.meaning.ensures))
    c.loop-place.invariant

pub returns : goal.returns
returns c =
    forgets_all (homes_in c.args.setting) (entries_in c.args.setting) c.args.setting.top (parameters_of c.args.passed)
    c.args.passed.actuals.now c.loop-place.place (is_found c.loop-place.words) c.args.entries.items c.deref.result.now
    _ c.all_forgotten.result (omega arith) c.deref.ensures.value c.all_forgotten.ensures c.loop-place.invariant
