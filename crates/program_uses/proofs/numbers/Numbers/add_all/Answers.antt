use Rattle.std.proofs.Common.{ap, ◌∙◌}
use Rattle.program_uses.specs.Numbers.{has_number}
use Rattle.program_uses.proofs.NumbersJoined.{has_word, no_word, left_first, left_next}
use Rattle.program_uses.proofs.numbers.Numbers.add_all.Goals.{then-other-ne0+in_ok-add_word, else-other-ne0}
use Rattle.program_uses.proofs.numbers.Numbers.add_all.Goals as goal

pub loop-block-init : goal.loop-block-init
loop-block-init c =
    let old = c.args.self.now in
    let other = c.args.other.now in
    elim c.if-other-ne0.branch [
      | then-other-ne0+in_ok-add_word w ↦ left_first old c.if-other-ne0.self other c.iter-rest.result
          (λ n. ap (λ s. has_number s n) w.self-is
          ∙ has_word old w.add_word.new.self other.block other.word w.in_ok-add_word.ensures n)
          c.iter-rest.ensures.rest c.iter-rest.ensures.ordered
      | else-other-ne0 w ↦ left_first old c.if-other-ne0.self other c.iter-rest.result
          (λ n. ap (λ s. has_number s n) w.self-is ∙ no_word old other w.if-other-ne0.false n)
          c.iter-rest.ensures.rest c.iter-rest.ensures.ordered
    ]

pub loop-block-preserved-in-Continue-branch-2 : goal.loop-block-preserved-in-Continue-branch-2
loop-block-preserved-in-Continue-branch-2 c =
    left_next c.args.self.now c.loop-block.self c.add_word-then-block-other.new.self c.args.other.now
    c.loop-block.rest c.next.new.self c.in-Some.block.now c.in-Some.word.now c.in-Some.ensures.steps
    c.if-block-other.true c.in_ok-add_word-2.ensures c.loop-block.invariant
