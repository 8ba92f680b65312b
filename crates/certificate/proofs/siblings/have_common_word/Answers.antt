use Rattle.std.proofs.Common.{◌∙◌, rules, w32}
use Rattle.std.proofs.lemmas.Int.{to_z-of_z}
use Rattle.certificate.proofs.SiblingLaws.{rise_left, first_fits, one_left, other_left, none_left}
use Rattle.certificate.proofs.siblings.have_common_word.Goals as goal

pub loop-one-preserved-then-one-other : goal.loop-one-preserved-then-one-other
loop-one-preserved-then-one-other c =
    let here = first_fits c.loop-one.left.now c.in-Some.after_one.now c.in-Some.one.now (search rules)
    c.loop-one.invariant.left in
    let there = first_fits c.loop-one.right.now c.in-Some-split_first.after_other.now c.in-Some-split_first.other.now
    (search rules) c.loop-one.invariant.right in
    record {
      left = rise_left c.loop-one.left.now c.in-Some.after_one.now c.in-Some.one.now (search rules)
          c.loop-one.invariant.left;
      right = c.loop-one.invariant.right;
      same = one_left c.loop-one.left.now c.loop-one.right.now c.in-Some.one.now c.in-Some-split_first.other.now
          c.in-Some.after_one.now c.in-Some-split_first.after_other.now (search rules) (search rules)
          c.loop-one.invariant.right (rw (
            to_z-of_z w32 c.in-Some.one.now.hi here.1,
            to_z-of_z w32 c.in-Some-split_first.other.now.lo there.0,
          ) at c.if-one-other.true) ∙ c.loop-one.invariant.same;
    }

pub loop-one-preserved : goal.loop-one-preserved
loop-one-preserved c =
    let here = first_fits c.loop-one.left.now c.in-Some.after_one.now c.in-Some.one.now (search rules)
    c.loop-one.invariant.left in
    let there = first_fits c.loop-one.right.now c.in-Some-split_first.after_other.now c.in-Some-split_first.other.now
    (search rules) c.loop-one.invariant.right in
    record {
      left = c.loop-one.invariant.left;
      right = rise_left c.loop-one.right.now c.in-Some-split_first.after_other.now c.in-Some-split_first.other.now
          (search rules) c.loop-one.invariant.right;
      same = other_left c.loop-one.left.now c.loop-one.right.now c.in-Some.one.now c.in-Some-split_first.other.now
          c.in-Some.after_one.now c.in-Some-split_first.after_other.now (search rules) (search rules)
          c.loop-one.invariant.left (rw (
            to_z-of_z w32 c.in-Some-split_first.other.now.hi there.1,
            to_z-of_z w32 c.in-Some.one.now.lo here.0,
          ) at c.if-other-one.true) ∙ c.loop-one.invariant.same;
    }

pub returns : goal.returns
returns c = none_left c.loop-one.left.now c.loop-one.right.now c.in_default.ensures.cases ∙ c.loop-one.invariant.same
