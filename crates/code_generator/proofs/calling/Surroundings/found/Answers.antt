use Rattle.std.proofs.Common.{◌≡◌, ◌<◌, Some, option_map, slice_get, arith, sym, ap, ◌∙◌}
use Rattle.scalar_ranges.specs.Entries.{Procedure}
use Rattle.scalar_ranges.specs.Scopes.{meaning_of}
use Rattle.program_uses.specs.ActionViews.{around_of}
use Rattle.program_uses.specs.Signatures.{signatures_of, parameters_in}
use Rattle.code_generator.specs.Calls.{callee_code, where_called}
use Rattle.code_generator.specs.CallViews.{callee_of, callees_of, surroundings_of}
use Rattle.code_generator.specs.Processes.{called}
use Rattle.code_generator.proofs.CallsFound.{calls_found}
use Rattle.code_generator.proofs.calling.Surroundings.found.Goals as goal

pub returns-clause-call : goal.returns-clause-call
returns-clause-call c = λ actuals s.
    let here = surroundings_of c.args.self in
    let cs = callees_of c.args.self.callees.now in
    let number = c.in_ok-number.number in
    let callee = callee_of c.in_ok-callee.callee in
    let sigs = signatures_of c.args.self.around.signatures.now in
    let meaning : option_map meaning_of c.args.procedure ≡ Some (Procedure number) = c.in_ok-number.ensures in
    let below : number < c.args.self.count = omega arith in
    let found : slice_get cs number ≡ Some callee = sym c.in_ok-callee.ensures in
    ap (λ m. called here m actuals s) meaning
    ∙ calls_found cs (around_of c.args.self.around) number c.args.self.count callee below found
    (parameters_in sigs (Some (Procedure number))) actuals s
    ∙ (λ i. callee_code (where_called cs (sym c.in_ok-around.ensures i) number) callee
    (parameters_in sigs (sym meaning i)) actuals s)
