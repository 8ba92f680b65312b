use Rattle.std.proofs.Common.{◌∙◌, sym, rules}
use Rattle.certificate.proofs.SiblingLaws.{ends_left, one_end_left, other_end_left, same_left, no_end_left}
use Rattle.certificate.proofs.siblings.have_common_end.Goals as goal

pub loop-one-preserved-then-is_below : goal.loop-one-preserved-then-is_below
loop-one-preserved-then-is_below c =
    let tells = rw (c.key.ensures, c.key-in-Some.ensures) at c.is_below.ensures in
    record {
      left = ends_left c.loop-one.left.now c.in-Some.after_one.now c.in-Some.one.now (search rules)
          c.loop-one.invariant.left;
      right = c.loop-one.invariant.right;
      same = one_end_left c.loop-one.left.now c.loop-one.right.now c.in-Some.one.now c.in-Some-split_first.other.now
          c.in-Some.after_one.now c.in-Some-split_first.after_other.now (search rules) (search rules)
          c.loop-one.invariant.right (sym tells ∙ c.if-is_below.true) ∙ c.loop-one.invariant.same;
    }

pub loop-one-preserved : goal.loop-one-preserved
loop-one-preserved c =
    let tells = rw (c.key-else-is_below.ensures, c.key-else-is_below-2.ensures) at c.is_below-else-is_below.ensures in
    record {
      left = c.loop-one.invariant.left;
      right = ends_left c.loop-one.right.now c.in-Some-split_first.after_other.now c.in-Some-split_first.other.now
          (search rules) c.loop-one.invariant.right;
      same = other_end_left c.loop-one.left.now c.loop-one.right.now c.in-Some.one.now c.in-Some-split_first.other.now
          c.in-Some.after_one.now c.in-Some-split_first.after_other.now (search rules) (search rules)
          c.loop-one.invariant.left (sym tells ∙ c.if-is_below-2.true) ∙ c.loop-one.invariant.same;
    }

pub returns-else-is_below-2 : goal.returns-else-is_below-2
returns-else-is_below-2 c =
    let one = rw (c.key.ensures, c.key-in-Some.ensures) at c.is_below.ensures in
    let other = rw (c.key-else-is_below.ensures, c.key-else-is_below-2.ensures) at c.is_below-else-is_below.ensures in
    same_left c.loop-one.left.now c.loop-one.right.now c.in-Some.one.now c.in-Some-split_first.other.now
    c.in-Some.after_one.now c.in-Some-split_first.after_other.now (search rules) (search rules)
    (sym one ∙ c.if-is_below.false) (sym other ∙ c.if-is_below-2.false) ∙ c.loop-one.invariant.same

pub returns : goal.returns
returns c = no_end_left c.loop-one.left.now c.loop-one.right.now c.in_default.ensures.cases ∙ c.loop-one.invariant.same
