use Rattle.std.proofs.Common.{◌∙◌, sym, refl, int_le, rules, arith, w32}
use Rattle.std.specs.Int.{int_min, int_max}
use Rattle.std.proofs.lemmas.Int.{ints}
use Rattle.small_laws.proofs.Comparisons.{le-int_le, lt-int_le}
use Rattle.word_arithmetic.specs.Range.{Ends, ends_of}
use Rattle.word_arithmetic.proofs.EndsLaws.{cond_true, cond_false, passed_on}
use Rattle.word_arithmetic.proofs.NarrowingLaws.{inside_by_rule}
use Rattle.word_arithmetic.proofs.ranges.Range.inside.Goals as goal

pub returns-then-hi-lo-clause-rule : goal.returns-then-hi-lo-clause-rule
returns-then-hi-lo-clause-rule c =
    let r = ends_of c.args.self in
    let k = ends_of c.args.kept in
    let both : Ends = record { lo = int_max r.lo k.lo; hi = int_min r.hi k.hi } in
    let lo = passed_on w32 w32 int_max r.lo k.lo c.max-lo.result
    (search rules) (search rules) (search rules) c.max-lo.ensures.value in
    let hi = passed_on w32 w32 int_min r.hi k.hi c.min-hi.result
    (search rules) (search rules) (search rules) c.min-hi.ensures.value in
    cond_false (int_le both.lo both.hi) both r r (lt-int_le both.lo both.hi (omega (arith, ints))) refl

pub returns-then-hi-lo-clause-narrows : goal.returns-then-hi-lo-clause-narrows
returns-then-hi-lo-clause-narrows c =
    inside_by_rule (ends_of c.args.self) (ends_of c.args.kept) (ends_of c.args.self) (returns-then-hi-lo-clause-rule c)

pub returns-clause-rule : goal.returns-clause-rule
returns-clause-rule c =
    let r = ends_of c.args.self in
    let k = ends_of c.args.kept in
    let lo = passed_on w32 w32 int_max r.lo k.lo c.max-lo.result
    (search rules) (search rules) (search rules) c.max-lo.ensures.value in
    let hi = passed_on w32 w32 int_min r.hi k.hi c.min-hi.result
    (search rules) (search rules) (search rules) c.min-hi.ensures.value in
    let both : Ends = record { lo = int_max r.lo k.lo; hi = int_min r.hi k.hi } in
    cond_true (int_le both.lo both.hi) both r (ends_of c.new.result) (le-int_le both.lo both.hi (omega (arith, ints)))
    (λ i. record { lo = (c.new.ensures.lo ∙ sym lo) i; hi = (c.new.ensures.hi ∙ sym hi) i })

pub returns-clause-narrows : goal.returns-clause-narrows
returns-clause-narrows c =
    inside_by_rule (ends_of c.args.self) (ends_of c.args.kept) (ends_of c.new.result) (returns-clause-rule c)
