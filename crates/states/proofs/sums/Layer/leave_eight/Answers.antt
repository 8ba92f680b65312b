use Rattle.std.proofs.Common.{◌+◌, ◌*◌, ◌/◌, arith, ap, ◌∙◌, inl, inr}
use Rattle.std.proofs.lemmas.Bool.{cases_eq}
use Rattle.states.specs.Sums.{sum_after}
use Rattle.states.proofs.SpanSums.{left-at, left-not-at, group-of, group-below}
use Rattle.states.proofs.sums.Layer.leave_eight.Goals as goal

pub loop-i-preserved : goal.loop-i-preserved
loop-i-preserved c =
    let old = c.loop-i.self.kept.items in
    let new = c.leave.new.self.kept.items in
    let number = c.args.block * 8 + c.loop-i.i in
    let before = c.loop-i.invariant in
    record {
      done = λ n is below. elim (cases_eq n number) [
        | inl e ↦ left-at old new number n c.args.leaving c.leave.ensures e
            ∙ ap (λ s. sum_after s c.args.leaving) (before.ahead n (omega (arith, e)))
        | inr d ↦ left-not-at old new number n c.args.leaving c.leave.ensures d
            ∙ before.done n is (omega (arith, below, d))
      ];
      ahead = λ n high. left-not-at old new number n c.args.leaving c.leave.ensures (λ e. omega (arith, high, e))
          ∙ before.ahead n (omega (arith, high));
      others = λ n other. left-not-at old new number n c.args.leaving c.leave.ensures
          (λ e. other (ap (λ k. k / 8) e ∙ group-of c.args.block c.loop-i.i c.loop-i-test.true))
          ∙ before.others n other;
    }

pub returns-clause-inside : goal.returns-clause-inside
returns-clause-inside c = λ n is.
    let below = group-below n c.args.block is in
    c.loop-i.invariant.done n is (omega (arith, below, c.loop-i-test.false))
