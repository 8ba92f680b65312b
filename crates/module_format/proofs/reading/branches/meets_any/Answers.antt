use Rattle.std.proofs.Common.{◌≤◌, length, sym, rules, arith, w32, FitsSigned, pos}
use Rattle.std.specs.Prelude.{int_le}
use Rattle.std.proofs.lemmas.Bool.{ltb-true, ltb-false}
use Rattle.std.proofs.lemmas.Int.{to_z-of_z}
use Rattle.std.proofs.lemmas.List.Sorted.{IsPartitionPoint-from_clause}
use Rattle.module_format.specs.declared.rows.Interval.{Interval}
use Rattle.module_format.specs.Order.{least_word}
use Rattle.module_format.proofs.IntervalLaws.{parted, first_tells, none_tells}
use Rattle.module_format.proofs.reading.branches.meets_any.Goals as goal

none : Interval
none = record { lo = pos 0; hi = pos 0 }

pub returns-in-Some : goal.returns-in-Some
returns-in-Some c =
    let i = c.args.interval.now in
    let ws = c.args.others.now in
    let n = c.partition_point-first.result in
    let d = c.in-Some.other.now in
    let point = IsPartitionPoint-from_clause (λ (w : Interval).
    int_le w.hi i.lo) ws n c.partition_point-first.ensures.partitioned
    (λ j k e. parted e i least_word ws c.requires j k) (λ a r f' k. search rules) in
    let lo_fits : FitsSigned w32 d.lo = search rules in
    let hi_fits : FitsSigned w32 i.hi = search rules in
    let told = first_tells d i least_word ws n c.requires point (ltb-true _ _ (sym c.in-Some.ensures.lookup.0))
    c.in-Some.ensures.lookup.1 in
    rw (to_z-of_z w32 d.lo lo_fits, to_z-of_z w32 i.hi hi_fits) told

pub returns-in-None : goal.returns-in-None
unfolding none
returns-in-None c =
    let i = c.args.interval.now in
    let ws = c.args.others.now in
    let n = c.partition_point-first.result in
    let point = IsPartitionPoint-from_clause (λ (w : Interval).
    int_le w.hi i.lo) ws n c.partition_point-first.ensures.partitioned
    (λ j k e. parted e i least_word ws c.requires j k) (λ a r f' k. search rules) in
    let past : length ws ≤ n = ltb-false n (length ws) (sym c.in-None.ensures.lookup.0) in
    none_tells none i ws (λ k lt. point.0 k none (omega arith) (omega arith))
