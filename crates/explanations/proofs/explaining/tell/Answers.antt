use Rattle.std.proofs.Common.{◌∙◌, ◌≤◌, length, subst, arith}
use Rattle.std.specs.Prelude.{string_bytes}
use Rattle.module_format.specs.Contents.{Contents}
use Rattle.verifier.specs.Walking.{before_of, HasGoneOn}
use Rattle.verifier.proofs.Walks.{HasEntered, has_entered, way_begins, way_goes_on, goes_as, breaks_as}
use Rattle.explanation_parts.specs.Seen.{seen}
use Rattle.explanations.proofs.Explains.{begins}
use Rattle.explanations.proofs.Walked.{if_ok, told_unspelled, told_ended, told_last, told_breach, goes_on_here}
use Rattle.explanations.proofs.explaining.tell.Goals as goal
use Rattle.explanations.proofs.explaining.tell.Goals.{After-enter}

pub loop-arrival-init : goal.loop-arrival-init
loop-arrival-init c =
    let begun = c.requires.begun in
    record {
      is = begun.is;
      same = begun.same;
      inside = omega (arith, begun.at);
      on_the_way = way_begins c.args.module.now c.args.walk.now begun;
      explains = begins c.args.module.now (string_bytes c.args.text.now) c.args.walk.now.at
          (before_of c.args.walk.now) c.root_setting-setting.result c.requires.empty begun.at begun.state
          c.root_setting-setting.ensures;
    }

pub returns-in-Unspelled : goal.returns-in-Unspelled
returns-in-Unspelled c =
    if_ok c.tell_unspelled.result c.tell_unspelled.ensures
    (λ told. told_unspelled c.args.module.now c.loop-arrival.walk c.arrive.new.self (string_bytes c.loop-arrival.text)
    (string_bytes c.tell_unspelled.new.text) c.offset-at.result c.loop-arrival.setting c.args.known told
    c.loop-arrival.invariant.same c.loop-arrival.invariant.on_the_way c.loop-arrival.invariant.explains
    c.in-Unspelled.ensures c.offset-at.ensures)

pub returns-in-End : goal.returns-in-End
returns-in-End c =
    if_ok c.tell_end.result c.tell_end.ensures
    (λ told. told_ended c.args.module.now c.loop-arrival.walk c.arrive.new.self (string_bytes c.loop-arrival.text)
    (string_bytes c.tell_end.new.text) c.offset-at.result c.loop-arrival.setting c.args.known told
    c.loop-arrival.invariant.same c.loop-arrival.invariant.on_the_way c.loop-arrival.invariant.explains
    c.in-End.ensures c.offset-at.ensures)

pub returns-in-Some : goal.returns-in-Some
returns-in-Some c =
    if_ok c.tell_last.result c.tell_last.ensures
    (λ told. told_last c.args.module.now c.loop-arrival.walk c.arrive.new.self c.in-Instruction.arrival
    (string_bytes c.loop-arrival.text) (string_bytes c.tell_last.new.text) c.loop-arrival.setting c.args.known
    c.in-Some.rule c.offset-at.result told c.loop-arrival.invariant.same c.loop-arrival.invariant.on_the_way
    c.loop-arrival.invariant.explains c.in-Instruction.ensures c.requires.known c.in-Some.ensures c.offset-at.ensures)

-- the instruction that the walk is at
entered : (c : After-enter) → HasEntered c.args.module.now c.loop-arrival.walk.at (before_of c.loop-arrival.walk)
    c.in-Instruction.arrival c.enter.new.self
entered c =
    has_entered c.args.module.now c.loop-arrival.walk c.arrive.new.self c.enter.new.self c.in-Instruction.arrival
    c.loop-arrival.invariant.same c.in-Instruction.ensures c.enter.ensures.arrived c.enter.ensures.same
    c.enter.ensures.state

pub returns-in-Err : goal.returns-in-Err
returns-in-Err c =
    if_ok c.tell_breach.result c.tell_breach.ensures
    (λ told. told_breach c.args.module.now c.loop-arrival.walk c.enter.new.self c.in-Instruction.arrival c.in-Err.breach
    (string_bytes c.loop-arrival.text) (string_bytes c.push_sight.new.text) (string_bytes c.tell_breach.new.text)
    c.loop-arrival.setting c.args.known c.offset-at.result (seen c.state-reached.result) told
    c.loop-arrival.invariant.on_the_way c.loop-arrival.invariant.explains
    (entered (goal.at.returns-in-Err c).After-enter) c.requires.known c.in_default.ensures c.offset-at.ensures
    c.state-reached.ensures c.in_ok-push_sight.ensures
    (breaks_as _ _ _ c.in_ok-breach.field-0 c.in-Err.breach c.in-Err.is c.in_ok-breach.ensures))

pub loop-arrival-preserved : goal.loop-arrival-preserved
loop-arrival-preserved c =
    let e = entered (goal.at.loop-arrival-preserved c).After-enter in
    let gone : HasGoneOn c.enter.new.self c.in-Instruction.arrival c.go_on.new.self =
    goes_as _ _ _ c.in_ok-breach.field-0 c.in_default-2.field-0 c.in_default-2.is c.in_ok-breach.ensures in
    record {
      is = gone.is;
      same = gone.same ∙ e.same;
      inside = subst (λ (m : Contents). c.go_on.new.self.at ≤ length m.code) e.same gone.inside;
      on_the_way = way_goes_on c.args.module.now c.loop-arrival.walk.at (before_of c.loop-arrival.walk)
          c.enter.new.self c.in-Instruction.arrival c.go_on.new.self c.loop-arrival.invariant.on_the_way e gone;
      explains = goes_on_here c.args.module.now c.loop-arrival.walk c.enter.new.self c.go_on.new.self
          c.in-Instruction.arrival (string_bytes c.loop-arrival.text) (string_bytes c.push_sight.new.text)
          c.loop-arrival.setting c.setting_after-setting.result c.offset-at.result (seen c.state-reached.result)
          (seen c.state-reached.result) c.loop-arrival.invariant.explains e gone c.offset-at.ensures
          c.state-reached.ensures c.state-reached.ensures c.in_ok-push_sight.ensures
          c.setting_after-setting.ensures;
    }
