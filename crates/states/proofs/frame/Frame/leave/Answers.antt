use Rattle.std.proofs.Common.{arith, refl, to_z, of_z, ◌∙◌, pos, ◌+ℤ◌}
use Rattle.std.proofs.lemmas.Int.{ints}
use Rattle.std.specs.Int.{w32}
use Rattle.states.specs.Frames.{frame_facts}
use Rattle.states.proofs.Leavings.{span-further}
use Rattle.states.proofs.frame.Frame.leave.Goals as goal

pub loop-done-preserved : goal.loop-done-preserved
loop-done-preserved c = record {
  few = let few = c.leave_some-done.ensures.few in omega (arith, few);
  facts = span-further (to_z w32 (of_z w32 c.args.first)) _ c.loop-done.done c.leave_some-done.result _ c.args.leaving
      (frame_facts c.args.self.now) (frame_facts c.loop-done.self) (frame_facts c.leave_some-done.new.self)
      (omega (arith, ints)) refl c.loop-done.invariant.facts c.leave_some-done.ensures.facts;
  room = record {
    lo = c.leave_some-done.ensures.room.lo ∙ c.loop-done.invariant.room.lo;
    len = c.leave_some-done.ensures.room.len ∙ c.loop-done.invariant.room.len;
    same = c.leave_some-done.ensures.room.same ∙ c.loop-done.invariant.room.same;
  };
}

pub leave_some-done-requires-clause-room : goal.leave_some-done-requires-clause-room
leave_some-done-requires-clause-room c =
    let same = c.loop-done.invariant.room in
    let lo = same.lo in
    let len = same.len in
    let here = c.requires.each (c.args.first +ℤ pos c.loop-done.done) (omega (arith, ints)) (omega (arith, ints)) in
    let low = here.low in
    let high = here.high in
    record { low = omega (arith, ints, lo, low); high = omega (arith, ints, lo, len, high) }
