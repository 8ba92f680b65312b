use Rattle.std.proofs.Common.{refl, sym, ◌∙◌}
use Rattle.program_uses.proofs.NumbersJoined.{meets_first, meets_last, meets_next, meets_passed, meets_here, meets_none}
use Rattle.program_uses.proofs.numbers.Numbers.meets_larger.Goals.{else-block-self-via-then-block-self+else-is_any_below-2}
use Rattle.program_uses.proofs.numbers.Numbers.meets_larger.Goals.{else-block-self-via-else-block-self}
use Rattle.program_uses.proofs.numbers.Numbers.meets_larger.Goals as goal

pub returns-then-is_any_below : goal.returns-then-is_any_below
returns-then-is_any_below c =
    let last = meets_last c.args.count c.word.result c.args.self.now c.args.other.now c.word.ensures
    (c.is_any_below.ensures.0 c.if-is_any_below.true) in
    ((λ e. last), (λ h. refl))

pub loop-block-init : goal.loop-block-init
loop-block-init c =
    meets_first c.args.count c.word.result c.args.self.now c.args.other.now c.iter-rest.result c.word.ensures
    (λ h. let k = sym c.if-is_any_below.false ∙ c.is_any_below.ensures.1 h in cc) c.iter-rest.ensures.rest
    c.iter-rest.ensures.ordered

pub returns-then-is_any_below-2 : goal.returns-then-is_any_below-2
returns-then-is_any_below-2 c =
    let here = meets_here c.args.count c.args.self.now c.args.other.now c.loop-block.rest c.next.new.self
    c.in-Some.block.now c.in-Some.word.now c.word-then-block-self.result c.in-Some.ensures.steps c.if-block-self.true
    c.word-then-block-self.ensures (c.is_any_below-then-block-self.ensures.0 c.if-is_any_below-2.true)
    c.loop-block.invariant in
    ((λ e. here), (λ h. refl))

pub loop-block-preserved : goal.loop-block-preserved
loop-block-preserved c =
    elim c.else-block-self.branch [
      | else-block-self-via-then-block-self+else-is_any_below-2 w ↦ meets_next c.args.count c.args.self.now
          c.args.other.now c.loop-block.rest c.next.new.self c.in-Some.block.now c.in-Some.word.now
          w.word-then-block-self.result c.in-Some.ensures.steps w.word-then-block-self.ensures
          (λ h. let k = sym w.if-is_any_below-2.false ∙ w.is_any_below-then-block-self.ensures.1 h in cc)
          c.loop-block.invariant
      | else-block-self-via-else-block-self w ↦ meets_passed c.args.count c.args.self.now c.args.other.now
          c.loop-block.rest c.next.new.self c.in-Some.block.now c.in-Some.word.now c.in-Some.ensures.steps
          w.if-block-self.false c.loop-block.invariant
    ]

pub returns : goal.returns
returns c = (
  λ e. absurd (let k = e in cc),
  λ h. absurd (meets_none c.args.count c.args.self.now c.args.other.now c.loop-block.rest
      c.in_default.ensures.steps.0 c.loop-block.invariant h),
)
