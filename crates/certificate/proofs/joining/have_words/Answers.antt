use Rattle.std.proofs.Common.{◌≡◌, ◌≤◌, ◌<◌, pos, ◌+ℤ◌, length, sym, true, false, rules, arith, w64, to_z, of_z}
use Rattle.std.proofs.Common.{FitsSigned, int_le}
use Rattle.std.proofs.lemmas.Bool.{ltb-true, ltb-false}
use Rattle.std.proofs.lemmas.Int.{ints, to_z-of_z}
use Rattle.std.proofs.lemmas.List.Sorted.{IsPartitionPoint-from_clause}
use Rattle.module_format.specs.declared.rows.Interval.{Interval}
use Rattle.module_format.specs.Order.{least_word}
use Rattle.module_format.proofs.IntervalLaws.{parted}
use Rattle.certificate.proofs.RightLaws.{single}
use Rattle.certificate.proofs.WordLaws.{rises, found_has, none_has}
use Rattle.certificate.proofs.joining.have_words.Goals as goal

none : Interval
none = record { lo = pos 0; hi = pos 0 }

pub returns-in-None : goal.returns-in-None
unfolding none
returns-in-None c =
    let first = c.args.first in
    let is = c.args.joined.now in
    let n = c.partition_point-index.result in
    let order = rises least_word least_word is (grind (arith, ints)) c.requires in
    let point = IsPartitionPoint-from_clause (λ (w : Interval). int_le w.hi first) is n
    c.partition_point-index.ensures.partitioned
    (λ j m e. parted e (single first) least_word is order j m) (λ a r f' h. search rules) in
    let past : length is ≤ n = ltb-false n (length is) (sym c.in-None.ensures.lookup.0) in
    none_has first c.args.count (search rules) is none (λ m lt. point.0 m none (omega arith) (omega arith))

pub returns-then-from-lo : goal.returns-then-from-lo
returns-then-from-lo c =
    let first = c.args.first in
    let count = c.args.count in
    let is = c.args.joined.now in
    let n = c.partition_point-index.result in
    let d = c.in-Some.interval.now in
    let order = rises least_word least_word is (grind (arith, ints)) c.requires in
    let point = IsPartitionPoint-from_clause (λ (w : Interval). int_le w.hi first) is n
    c.partition_point-index.ensures.partitioned
    (λ j m e. parted e (single first) least_word is order j m) (λ a r f' h. search rules) in
    let inside : n < length is = ltb-true n (length is) (sym c.in-Some.ensures.lookup.0) in
    let told = found_has first count (search rules) least_word is n d c.requires inside point
    c.in-Some.ensures.lookup.1 in
    let lo : to_z w64 (of_z w64 c.from-lo.result) ≡ first = search rules in
    let other : to_z w64 (of_z w64 c.from.result) ≡ pos count = search rules in
    let fits : FitsSigned w64 (first +ℤ pos count) = search rules in
    let low : to_z w64 (of_z w64 c.from-in-Some.result) ≡ d.lo = search rules in
    let high : to_z w64 (of_z w64 c.from-then-from-lo.result) ≡ d.hi = search rules in
    let within : int_le d.lo first ≡ true = rw (low, lo) at c.if-from-lo.true in
    rw (lo, other, to_z-of_z w64 (first +ℤ pos count) fits, high) (rw within at told)

pub returns-else-from-lo : goal.returns-else-from-lo
returns-else-from-lo c =
    let first = c.args.first in
    let count = c.args.count in
    let is = c.args.joined.now in
    let n = c.partition_point-index.result in
    let d = c.in-Some.interval.now in
    let order = rises least_word least_word is (grind (arith, ints)) c.requires in
    let point = IsPartitionPoint-from_clause (λ (w : Interval). int_le w.hi first) is n
    c.partition_point-index.ensures.partitioned
    (λ j m e. parted e (single first) least_word is order j m) (λ a r f' h. search rules) in
    let inside : n < length is = ltb-true n (length is) (sym c.in-Some.ensures.lookup.0) in
    let told = found_has first count (search rules) least_word is n d c.requires inside point
    c.in-Some.ensures.lookup.1 in
    let lo : to_z w64 (of_z w64 c.from-lo.result) ≡ first = search rules in
    let low : to_z w64 (of_z w64 c.from-in-Some.result) ≡ d.lo = search rules in
    let before : int_le d.lo first ≡ false = rw (low, lo) at c.if-from-lo.false in
    rw (low, lo, before) (rw before at told)
