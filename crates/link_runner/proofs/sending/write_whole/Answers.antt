use Rattle.std.proofs.Common.{take}
use Rattle.std.proofs.KnownBytes.{Appends-kept}
use Rattle.link_runner.proofs.PartlyWritten.{goes_further, stops_short, is_part}
use Rattle.link_runner.proofs.sending.write_whole.Goals as goal

pub loop-done-preserved : goal.loop-done-preserved
loop-done-preserved g c =
    let accepts = c.in-Ok.ensures in
    goes_further _ _ _ _ _ c.args.message.now c.loop-done.done c.in-Ok.count c.loop-done.invariant
    c.loop-done-test.true accepts.0 accepts.1 accepts.2 c.if-count-eq0.false

pub returns-then-count-eq0 : goal.returns-then-count-eq0
returns-then-count-eq0 g c =
    let accepts = c.in-Ok.ensures in
    let short =
    stops_short _ _ _ _ _ c.args.message.now c.loop-done.done c.in-Ok.count c.loop-done.invariant
    c.loop-done-test.true accepts.0 accepts.1 accepts.2 c.if-count-eq0.true in (
      take c.loop-done.done c.args.message.now,
      record { appends = short.0; is_part = short.1; has_failed = short.2 },
    )

pub returns-in_default : goal.returns-in_default
returns-in_default g c =
    let begun = c.loop-done.invariant in (
      take c.loop-done.done c.args.message.now,
      record {
        appends = Appends-kept _ _ _ (take c.loop-done.done c.args.message.now) begun.beginning c.in_default.ensures.0;
        is_part = is_part c.args.message.now c.loop-done.done c.loop-done-test.true;
        has_failed = c.in_default.ensures.1;
      },
    )
