use Rattle.std.proofs.Common.{◌≡◌, rules, arith, to_z, of_z, true, None, refl, ◌⊎◌, inl, inr, ◌≤ℤ◌}
use Rattle.std.proofs.lemmas.Int.{ints, to_z-of_z}
use Rattle.std.specs.Int.{w64}
use Rattle.module_format.specs.Facts.{end_of}
use Rattle.states.specs.Below.{implies}
use Rattle.states.specs.Comparing.{loop_of}
use Rattle.states.proofs.RowFacts.{segment-apart}
use Rattle.states.proofs.Hulls.{implied-more, implied-before}
use Rattle.states.proofs.implied.all_implied.Goals.{else-first-end_of-via-then-first-end_of+else-not-is_implied}
use Rattle.states.proofs.implied.all_implied.Goals.{else-first-end_of-via-else-first-end_of}
use Rattle.states.proofs.implied.all_implied.Goals as goal

pub returns-then-end-start_of : goal.returns-then-end-start_of
returns-then-end-start_of c = λ _.
    let first = c.start_of.ensures.value in
    let ends = c.if-end-start_of.true in
    rw (to_z-of_z w64 c.args.first c.ranges.first, to_z-of_z w64 c.args.end c.ranges.end) at
    (implied-before c.args.row.now c.loop-entry.rest.now c.in-Some.entry.now c.in-Some.later.now
    (to_z w64 (of_z w64 c.args.first)) (to_z w64 (of_z w64 c.args.end)) c.args.fact c.loop-entry.invariant.apart
    (search rules) (omega (arith, ints, first, ends)) c.loop-entry.invariant.so_far)

pub loop-entry-preserved : goal.loop-entry-preserved
loop-entry-preserved c =
    let either : (end_of c.in-Some.entry.now ≤ℤ to_z w64 (of_z w64 c.args.first))
    ⊎ ((loop_of c.in-Some.entry.now.fact ≡ None) × (implies c.args.fact c.in-Some.entry.now.fact ≡ true)) =
    elim c.else-first-end_of.branch [
      | else-first-end_of-via-then-first-end_of+else-not-is_implied w ↦ inr (w.if-not-is_implied.ensures refl)
      | else-first-end_of-via-else-first-end_of w ↦
          let last = c.end_of.ensures.value in
          let ended = w.if-first-end_of.false in
          inl (omega (arith, ints, last, ended))
    ] in
    record {
      apart = segment-apart c.loop-entry.rest.now c.in-Some.entry.now c.in-Some.later.now c.loop-entry.invariant.apart
          (search rules);
      so_far = implied-more c.args.row.now c.loop-entry.rest.now c.in-Some.entry.now c.in-Some.later.now
          (to_z w64 (of_z w64 c.args.first)) (to_z w64 (of_z w64 c.args.end)) c.args.fact (search rules) either
          c.loop-entry.invariant.so_far;
    }
