use Rattle.std.proofs.Common.{rules, arith, to_z, of_z}
use Rattle.std.proofs.lemmas.Int.{ints}
use Rattle.std.specs.Int.{w64}
use Rattle.small_laws.proofs.Comparisons.{int_le-true}
use Rattle.states.proofs.Hulls.{within-ends}
use Rattle.states.proofs.implied.is_row_within.Goals as goal

pub returns-then-first-start_of : goal.returns-then-first-start_of
returns-then-first-start_of c = λ ends.
    let low = c.start_of.ensures.value in
    let high = c.end_of.ensures.value in
    let begins = c.if-first-start_of.true in
    let last = int_le-true (to_z w64 (of_z w64 c.end_of.result)) (to_z w64 (of_z w64 c.args.end)) ends in
    within-ends c.args.row.now c.in-Some._later.now c.in-Some-split_last._earlier.now c.in-Some.lowest.now
    c.in-Some-split_last.highest.now c.args.first c.args.end c.requires (search rules) (search rules)
    (omega (arith, ints, low, begins)) (omega (arith, ints, high, last))
