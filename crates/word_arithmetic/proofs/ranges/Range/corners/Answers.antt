use Rattle.std.proofs.Common.{rules, arith}
use Rattle.std.proofs.lemmas.Int.{ints, clamps}
use Rattle.word_arithmetic.specs.Range.{ends_of, corners}
use Rattle.word_arithmetic.proofs.EndsLaws.{computed_at}
use Rattle.word_arithmetic.proofs.ranges.Range.corners.Goals as goal

pub fitting-requires : goal.fitting-requires
fitting-requires g c = let lo = c.least.ensures in let hi = c.greatest.ensures in omega (arith, ints, clamps)

pub returns : goal.returns
returns g c f is =
    let r = ends_of c.args.self in
    let s = ends_of c.args.other in
    let p = computed_at is r.lo s.lo _ (search rules) (search rules) (search rules) c.result_of-lo_lo.ensures in
    let q = computed_at is r.lo s.hi _ (search rules) (search rules) (search rules) c.result_of-lo_hi.ensures in
    let u = computed_at is r.hi s.lo _ (search rules) (search rules) (search rules) c.result_of-hi_lo.ensures in
    let v = computed_at is r.hi s.hi _ (search rules) (search rules) (search rules) c.result_of-hi_hi.ensures in
    let lo = c.least.ensures in
    let hi = c.greatest.ensures in
    c.fitting.ensures (corners f r s) (omega (arith, ints, clamps)) (omega (arith, ints, clamps))
