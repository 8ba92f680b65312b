use Rattle.std.proofs.Common.{rules, arith, to_z, of_z, ◌+ℤ◌, pos}
use Rattle.std.proofs.lemmas.Int.{ints}
use Rattle.std.specs.Int.{w32}
use Rattle.states.specs.Views.{state_of}
use Rattle.rulings.specs.Pointers.{ends_in}
use Rattle.rulings.proofs.ArgumentsAgree.{near_end, frame_told, region_told}
use Rattle.rulings.proofs.place.Place.word_read.Goals as goal

pub returns-then-is_frame : goal.returns-then-is_frame
returns-then-is_frame c =
    let near = near_end c.args.pointer.lo c.args.pointer.hi c.requires in
    let from = near.0 in
    let to = near.1 in
    frame_told c.args.self.now.module.now (state_of c.args.state.now) c.args.pointer.region c.word_of_byte.result
    c.args.pointer.lo c.args.pointer.hi (to_z w32 (of_z w32 c.args.pointer.lo)) (to_z w32 (of_z w32 c.args.pointer.lo))
    (to_z w32 (of_z w32 (to_z w32 (of_z w32 c.args.pointer.hi) +ℤ pos 1)))
    (to_z w32 (of_z w32 c.word_of_byte.result)) c.words_touched.result c.frame_read.result (search rules)
    (omega (arith, ints)) c.word_of_byte.ensures.value (omega (arith, ints)) (omega (arith, ints))
    c.words_touched.ensures (omega (arith, ints)) c.frame_read.ensures

pub returns : goal.returns
returns c =
    let near = near_end c.args.pointer.lo c.args.pointer.hi c.requires in
    let from = near.0 in
    let to = near.1 in
    region_told c.args.self.now.module.now (state_of c.args.state.now) c.args.pointer.region c.args.pointer.lo
    c.args.pointer.hi _ _ (ends_in c.region_range.result) c.number_within.result (search rules) (omega (arith, ints))
    (omega (arith, ints)) c.region_range.ensures c.number_within.ensures
