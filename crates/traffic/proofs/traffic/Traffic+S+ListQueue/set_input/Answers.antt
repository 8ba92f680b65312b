use Rattle.std.proofs.Common.{◌≡◌, Some, slice_get, arith, length-set}
use Rattle.std.proofs.lemmas.Grind.{common_steps}
use Rattle.traffic.proofs.Counting.{input_recounted}
use Rattle.traffic.proofs.Uncounted.{all_after_input}
use Rattle.traffic.proofs.traffic.Traffic+S+ListQueue.set_input.Goals as goal

pub invariant_of-self : goal.invariant_of-self
invariant_of-self g c =
    let inputs = c.self.inside.inputs in
    let place = c.index.result in
    let there : slice_get inputs place ≡ Some c.input-before.result = grind (arith, common_steps) in
    record {
      steady = c.self.invariant.steady;
      four_inputs = omega (arith, length-set inputs place c.args.input, c.self.invariant.four_inputs);
      four_outputs = c.self.invariant.four_outputs;
      counted =
          rw c.hand_over.ensures
          (input_recounted c.self.inside.enabled_counts.items inputs c.self.inside.channels.items place
          c.input-before.result c.args.input there c.self.invariant.counted);
      all =
          rw (c.hand_over.ensures, c.are_still_all-self-inside.ensures, c.deref.ensures.value)
          (all_after_input c.self.inside.are_all_counted c.self.inside.enabled_counts.items inputs
          c.self.inside.channels.items place c.input-before.result c.args.input there c.self.invariant.all);
      listed = c.self.invariant.listed;
    }
