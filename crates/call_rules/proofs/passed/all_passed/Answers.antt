use Rattle.std.proofs.Common.{◌∙◌, pos}
use Rattle.module_format.specs.declared.rows.Parameter.{Parameter}
use Rattle.module_format.specs.declared.rows.ParameterKind.TheVariants.{Value}
use Rattle.states.specs.Views.{state_of}
use Rattle.call_rules.specs.Callings.{call_in}
use Rattle.call_rules.proofs.PassedOnce.{found_more, summed_again}
use Rattle.call_rules.proofs.passed.all_passed.Goals as goal

-- what a slice of parameters has after its end
abbrev none : Parameter
none = record { word = 0; kind = Value (pos 0) (pos 0) }

pub loop-parameter-preserved : goal.loop-parameter-preserved
loop-parameter-preserved c =
    let call = call_in c.args.place.now.module.now c.args.state.now c.args.callee.now in
    record {
      state = c.sums_lent-summed.ensures.state ∙ c.loop-parameter.invariant.state;
      belongs = λ m h. c.sums_lent-summed.ensures.belongs m (c.loop-parameter.invariant.belongs m h);
      passed = found_more call (state_of c.loop-parameter.state) c.args.callee.now.parameters.items
          c.deref-parameter-items.result.now c.loop-parameter.parameter-index none c.loop-parameter.all.items
          c.push.new.self.items c.given-fact.result c.plain.result c.lent_to-lent.result c.sums_lent-summed.result
          c.loop-parameter.invariant.state c.deref-parameter-items.ensures.value c.loop-parameter-test.true
          c.given-fact.ensures.value c.plain.ensures c.lent_to-lent.ensures c.sums_lent-summed.ensures.value
          c.loop-parameter.invariant.passed c.push.ensures.items;
      summed = summed_again (state_of c.loop-parameter.state) (state_of c.args.state.now) c.lent_to-lent.result
          c.sums_lent-summed.result c.loop-parameter.invariant.state c.sums_lent-summed.ensures.value;
    }
