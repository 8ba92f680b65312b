use Rattle.std.proofs.Common.{◌≡◌, ◌∙◌, ◌≤◌, length, sym, subst, arith}
use Rattle.module_format.specs.Contents.{Contents}
use Rattle.verifier.specs.Walking.{before_of, HasGoneOn}
use Rattle.verifier.proofs.Walks.{HasEntered, has_entered, way_begins, way_goes_on, way_breaks, way_misspelled}
use Rattle.verifier.proofs.Walks.{way_ended, goes_as, breaks_as}
use Rattle.verifier.proofs.pass.judge_code.Goals as goal
use Rattle.verifier.proofs.pass.judge_code.Goals.{After-enter}

pub code-init : goal.code-init
code-init c =
    let begun = c.in-Ok.ensures.begun in
    record {
      is = begun.is;
      same = begun.same;
      inside = omega (arith, begun.at);
      on_the_way = way_begins c.args.module.now c.in-Ok.walk begun;
    }

pub returns-in-Unspelled-clause-refuses : goal.returns-in-Unspelled-clause-refuses
returns-in-Unspelled-clause-refuses c =
    way_misspelled c.args.module.now c.code.walk c.arrive.new.self c.offset.result c.broken.result
    c.code.invariant.same c.code.invariant.on_the_way c.in-Unspelled.ensures c.offset.ensures c.broken.ensures

-- the instruction that the walk is at
entered : (c : After-enter) → HasEntered c.args.module.now c.code.walk.at (before_of c.code.walk)
    c.in-Instruction.arrival c.enter.new.self
entered c =
    has_entered c.args.module.now c.code.walk c.arrive.new.self c.enter.new.self c.in-Instruction.arrival
    c.code.invariant.same c.in-Instruction.ensures c.enter.ensures.arrived c.enter.ensures.same c.enter.ensures.state

pub code-preserved : goal.code-preserved
code-preserved c =
    let e = entered (goal.at.code-preserved c).After-enter in
    let gone : HasGoneOn c.enter.new.self c.in-Instruction.arrival c.go_on.new.self =
    goes_as _ _ _ c.in-Ok-Ok.field-0 c.in-Ok-Ok.field-0-0 c.in-Ok-Ok.field-0-is c.in-Ok-Ok.ensures in
    record {
      is = gone.is;
      same = gone.same ∙ e.same;
      inside = subst (λ (m : Contents). c.go_on.new.self.at ≤ length m.code) e.same gone.inside;
      on_the_way = way_goes_on c.args.module.now c.code.walk.at (before_of c.code.walk) c.enter.new.self
          c.in-Instruction.arrival c.go_on.new.self c.code.invariant.on_the_way e gone;
    }

pub returns-in-Ok-Err-clause-refuses : goal.returns-in-Ok-Err-clause-refuses
returns-in-Ok-Err-clause-refuses c =
    way_breaks c.args.module.now c.code.walk.at (before_of c.code.walk) c.enter.new.self c.in-Instruction.arrival
    c.in-Ok-Err.breach c.code.invariant.on_the_way
    (entered (goal.at.returns-in-Ok-Err-clause-refuses c).After-enter)
    (breaks_as _ _ _ c.in-Ok-Err.field-0 c.in-Ok-Err.breach c.in-Ok-Err.field-0-is c.in-Ok-Err.ensures)

pub returns-in-Ok-ended-clause-accepts : goal.returns-in-Ok-ended-clause-accepts
returns-in-Ok-ended-clause-accepts c =
    way_ended c.args.module.now c.code.walk c.arrive.new.self c.code.invariant.same c.code.invariant.on_the_way
    c.in-End.ensures
    ∙ (sym c.ended.ensures ∙ c.in-Ok-ended.is)

pub returns-clause-refuses : goal.returns-clause-refuses
returns-clause-refuses c =
    way_ended c.args.module.now c.code.walk c.arrive.new.self c.code.invariant.same c.code.invariant.on_the_way
    c.in-End.ensures
    ∙ (sym c.ended.ensures ∙ c.in-Err-ended.is)
