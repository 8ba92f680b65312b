use Rattle.std.proofs.Common.{true, false, sym, ◌∙◌, pos, ◌+ℤ◌, ◌-ℤ◌, rules, arith}
use Rattle.std.proofs.lemmas.Int.{ints}
use Rattle.word_arithmetic.specs.Range.{ends_of}
use Rattle.word_arithmetic.proofs.NarrowingLaws.{tested, same_ends, ends_before, begins_after, outside_at}
use Rattle.word_arithmetic.proofs.ranges.Range.part_outside.Goals as goal

pub new-requires : goal.new-requires
new-requires c =
    let r = ends_of c.args.self in
    let k = ends_of c.args.removed in
    let end = ends_before r k c.args.self.ordered (tested k r.lo true (search rules) c.if-contains.ensures.rule)
    (tested k r.hi false (search rules) c.if-contains-2.ensures.rule) in
    omega (arith, ints)

pub returns-then-contains : goal.returns-then-contains
returns-then-contains c =
    let r = ends_of c.args.self in
    let k = ends_of c.args.removed in
    let low = tested k r.lo true (search rules) c.if-contains.ensures.rule in
    let high = tested k r.hi false (search rules) c.if-contains-2.ensures.rule in
    let end = ends_before r k c.args.self.ordered low high in
    let lo = c.new.ensures.lo in
    let hi = c.new.ensures.hi in
    same_ends (ends_of c.new.result) (record { lo = k.hi +ℤ pos 1; hi = r.hi }) (omega (arith, ints))
    (omega (arith, ints))
    ∙ sym (outside_at r k true false low high)

pub new-requires-then-contains-3 : goal.new-requires-then-contains-3
new-requires-then-contains-3 c =
    let r = ends_of c.args.self in
    let k = ends_of c.args.removed in
    let end = begins_after r k c.args.self.ordered (tested k r.lo false (search rules) c.if-contains.ensures.rule)
    (tested k r.hi true (search rules) c.if-contains-3.ensures.rule) in
    omega (arith, ints)

pub returns-then-contains-3 : goal.returns-then-contains-3
returns-then-contains-3 c =
    let r = ends_of c.args.self in
    let k = ends_of c.args.removed in
    let low = tested k r.lo false (search rules) c.if-contains.ensures.rule in
    let high = tested k r.hi true (search rules) c.if-contains-3.ensures.rule in
    let end = begins_after r k c.args.self.ordered low high in
    let lo = c.new-then-contains-3.ensures.lo in
    let hi = c.new-then-contains-3.ensures.hi in
    same_ends (ends_of c.new-then-contains-3.result) (record { lo = r.lo; hi = k.lo -ℤ pos 1 }) (omega (arith, ints))
    (omega (arith, ints))
    ∙ sym (outside_at r k false true low high)
