use Rattle.std.proofs.Common.{◌∙◌, sym, ap, map, ◌+◌, ◌-◌}
use Rattle.std.proofs.lemmas.Result.{err_from_is_err_and}
use Rattle.states.specs.State.{State}
use Rattle.states.specs.Views.{state_of}
use Rattle.rulings.specs.Rulings.{calls}
use Rattle.call_rules.specs.CallRules.{spends}
use Rattle.module_format.specs.Contents.{procedure_of}
use Rattle.call_rules.specs.Callings.{call_in, entered, passed_to}
use Rattle.rulings.specs.Places.{site_of}
use Rattle.call_rules.proofs.CallTests.{found_row}
use Rattle.call_rules.proofs.Touching.{procedure_called, behind_told, row_keeps}
use Rattle.call_rules.proofs.calls.calls_procedure.Goals as goal

pub all_passed-all-requires : goal.all_passed-all-requires
all_passed-all-requires c =
    let m = c.args.place.now.module.now in
    let found = found_row 1 m.procedures c.args.to (entered c.args.context c.args.callee.now) c.requires.found in
    let row = row_keeps m c.requires.belongs.kept (c.args.context - 1) (procedure_of c.args.callee.now) found.1 in
    row.1.few

pub touched-requires-clause-passed : goal.touched-requires-clause-passed
touched-requires-clause-passed c =
    c.deref.ensures.0 ∙ (c.all_passed-all.ensures.passed
    ∙ ap (λ (s : State). map (passed_to (record {
      contents = c.args.place.now.module.now;
      state = s;
      callee = procedure_of c.args.callee.now;
    })) c.args.callee.now.parameters.items) (sym c.all_passed-all.ensures.state))

pub touched-requires-clause-row : goal.touched-requires-clause-row
touched-requires-clause-row c =
    let row = found_row 1 c.args.place.now.module.now.procedures c.args.to (entered c.args.context c.args.callee.now)
    c.requires.found in
    (c.args.context - 1, row.1)

pub returns-in_err-touched-clause-ruling : goal.returns-in_err-touched-clause-ruling
returns-in_err-touched-clause-ruling c =
    let p = err_from_is_err_and c.from_residual.result c.from_residual.ensures.1 in
    rw (p.1, p.2) (procedure_called (site_of c.args.place.now) c.args.to (state_of c.args.state.now)
    (state_of c.all_passed-all.new.state) c.args.callee.now c.args.context
    (c.all_passed-all.ensures.state ∙ c.passing.ensures.state)
    ∙ c.in_err-touched.ensures.test _)

pub returns-in_err-spends-clause-ruling : goal.returns-in_err-spends-clause-ruling
returns-in_err-spends-clause-ruling c =
    let p = err_from_is_err_and c.from_residual-in_err-spends.result c.from_residual-in_err-spends.ensures.1 in
    let call = call_in c.args.place.now.module.now c.all_passed-all.new.state c.args.callee.now in
    let price = c.args.place.now.len + c.args.callee.now.number in
    let behind = behind_told call c.in_ok-touched.touched (state_of c.has_returned.new.state)
    c.in_ok-touched.ensures.touched c.has_returned.ensures.state in
    rw (p.1, p.2) (procedure_called (site_of c.args.place.now) c.args.to (state_of c.args.state.now)
    (state_of c.all_passed-all.new.state) c.args.callee.now c.args.context
    (c.all_passed-all.ensures.state ∙ c.passing.ensures.state)
    ∙ (c.in_ok-touched.ensures.test _
    ∙ (ap (λ (s : State). spends price s (calls c.args.to)) (sym behind)
    ∙ c.in_err-spends.ensures.test (calls c.args.to))))

pub returns-clause-ruling : goal.returns-clause-ruling
returns-clause-ruling c =
    let call = call_in c.args.place.now.module.now c.all_passed-all.new.state c.args.callee.now in
    let price = c.args.place.now.len + c.args.callee.now.number in
    let behind = behind_told call c.in_ok-touched.touched (state_of c.has_returned.new.state)
    c.in_ok-touched.ensures.touched c.has_returned.ensures.state in
    procedure_called (site_of c.args.place.now) c.args.to (state_of c.args.state.now)
    (state_of c.all_passed-all.new.state) c.args.callee.now c.args.context
    (c.all_passed-all.ensures.state ∙ c.passing.ensures.state)
    ∙ (c.in_ok-touched.ensures.test _
    ∙ (ap (λ (s : State). spends price s (calls c.args.to)) (sym behind)
    ∙ c.in_ok-spends.ensures.test (calls c.args.to)))
