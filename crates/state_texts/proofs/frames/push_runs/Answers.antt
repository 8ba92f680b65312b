use Rattle.std.proofs.Common.{arith, string_bytes}
use Rattle.std.proofs.lemmas.Int.{ints}
use Rattle.states.specs.Views.{state_of}
use Rattle.state_texts.specs.FrameTexts.{size_between}
use Rattle.state_texts.proofs.Runs.{one_less, none_between, same_size, one_more, last_run}
use Rattle.state_texts.proofs.frames.push_runs.Goals as goal

pub loop-word-preserved : goal.loop-word-preserved
loop-word-preserved c = record {
  low = omega (arith, ints, c.loop-word.invariant.low);
  high = omega (arith, ints, c.loop-word-test.true);
  written = one_more (state_of c.args.state.now).frame c.loop-word.run c.run_after-run.result _ _ _ _ _ _ _ _
      c.loop-word.invariant.written c.fact_of-next.ensures.value c.run_after-run.ensures c.in_ok-push_parted.ensures
      (one_less _ _ _ _ (omega (arith, ints)) (omega (arith, ints)) (omega (arith, ints))) (omega (arith, ints));
}

pub returns : goal.returns
returns c =
    last_run (state_of c.args.state.now).frame c.loop-word.run _ _ _ c.args.lo _ _ (size_between c.args.lo c.args.hi)
    (string_bytes c.loop-word.text) (string_bytes c.push_run.new.text) (string_bytes c.args.text.now)
    c.loop-word.invariant.written c.in_ok-push_run.ensures (none_between _ _ (omega (arith, ints)))
    (omega (arith, ints)) (omega (arith, ints)) (same_size _ _ _ _ (omega (arith, ints)) (omega (arith, ints)))
