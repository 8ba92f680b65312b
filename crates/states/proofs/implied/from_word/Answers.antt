use Rattle.std.proofs.Common.{arith, to_z, of_z, ◌+◌, ◌/◌}
use Rattle.std.proofs.lemmas.Int.{ints}
use Rattle.std.proofs.lemmas.List.{take_rest}
use Rattle.std.specs.Int.{w64}
use Rattle.module_format.specs.Order.{least_word}
use Rattle.states.proofs.RowFacts.{rise-drop}
use Rattle.states.proofs.Hulls.{dropped}
use Rattle.states.proofs.implied.from_word.Goals as goal

pub loop-size-preserved-then-start_of-word : goal.loop-size-preserved-then-start_of-word
loop-size-preserved-then-start_of-word c =
    let fits = c.loop-size.invariant.fits in
    let more = c.loop-size-test.true in
    record {
      fits = omega (arith, fits, more);
      same = dropped c.args.row.now (c.loop-size.low + c.loop-size.size / 2) _ c.start_of.result
          (to_z w64 (of_z w64 c.args.word)) c.requires (omega (arith, fits, more)) c.start_of.ensures.value
          (omega (arith, ints));
    }

pub returns-clause-apart : goal.returns-clause-apart
returns-clause-apart c =
    rw (take_rest c.args.row.now c.loop-size.low) (rise-drop least_word c.args.row.now c.loop-size.low c.requires)
