use Rattle.std.proofs.lemmas.List.{drop_more}
use Rattle.std.proofs.Common.{get_or}
use Rattle.scalar_ranges.specs.Changes.{each}
use Rattle.scalar_ranges.specs.Lefts.{moved_mark}
use Rattle.scalar_ranges.proofs.LeftLists.{each_step, each_stop}
use Rattle.scalar_ranges.proofs.deferred.move_marks.Goals as goal

pub loop-number-preserved : goal.loop-number-preserved
loop-number-preserved c =
    let f = moved_mark c.args.from c.args.to in
    let numbers = c.args.numbers.now in
    let i = c.loop-number.number-index in
    each_step f numbers i (get_or numbers i 0) c.loop-number.lefts c.move_mark.new.lefts
    (each f numbers c.args.lefts.now) (drop_more numbers i 0 c.loop-number-test.true) c.move_mark.ensures
    c.loop-number.invariant

pub returns : goal.returns
returns c =
    let f = moved_mark c.args.from c.args.to in
    each_stop f c.args.numbers.now c.loop-number.number-index c.loop-number.lefts
    (each f c.args.numbers.now c.args.lefts.now) c.loop-number-test.false c.loop-number.invariant
