use Rattle.std.proofs.Common.{◌≡◌, pos, ◌+ℤ◌, true, false, rules, w64, FitsSigned, int_le, to_z, of_z}
use Rattle.std.proofs.lemmas.Int.{to_z-of_z}
use Rattle.certificate.proofs.SpanLaws.{frame_tells}
use Rattle.certificate.proofs.spans.frame_has.Goals as goal

pub returns-then-frame-first : goal.returns-then-frame-first
returns-then-frame-first c =
    let lo = c.args.frame.lo in
    let hi = c.args.frame.hi in
    let first = c.args.first in
    let count = c.args.count in
    let from : to_z w64 (of_z w64 c.from-first.result) ≡ first = search rules in
    let many : to_z w64 (of_z w64 c.from.result) ≡ pos count = search rules in
    let fits : FitsSigned w64 (first +ℤ pos count) = search rules in
    let low : to_z w64 (of_z w64 lo) ≡ lo = search rules in
    let high : to_z w64 (of_z w64 hi) ≡ hi = search rules in
    let within : int_le lo first ≡ true = rw (low, from) at c.if-frame-first.true in
    let told = frame_tells lo hi first count (search rules) in
    rw (from, many, to_z-of_z w64 (first +ℤ pos count) fits, high) (rw within at told)

pub returns-else-frame-first : goal.returns-else-frame-first
returns-else-frame-first c =
    let lo = c.args.frame.lo in
    let hi = c.args.frame.hi in
    let first = c.args.first in
    let count = c.args.count in
    let from : to_z w64 (of_z w64 c.from-first.result) ≡ first = search rules in
    let low : to_z w64 (of_z w64 lo) ≡ lo = search rules in
    let below : int_le lo first ≡ false = rw (low, from) at c.if-frame-first.false in
    let told = frame_tells lo hi first count (search rules) in
    rw (low, from, below) (rw below at told)
