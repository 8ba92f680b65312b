use Rattle.std.proofs.Common.{[], ℕ, sym, subst, ◌∙◌, pos, ◌+ℤ◌, ◌≤ℤ◌, ◌^◌, rules}
use Rattle.std.proofs.lemmas.Int.{to_z-of_z}
use Rattle.std.specs.Int.{w32}
use Rattle.states.specs.Remembered.{HasTimes}
use Rattle.states.proofs.BlockSums.{none-summed}
use Rattle.states.proofs.Indices.{whole-blocks}
use Rattle.states.proofs.Leavings.{facts-cleared}
use Rattle.states.proofs.Remembering.{remembered-none}
use Rattle.states.proofs.frame.Frame.new.Goals as goal

pub invariant_of-result-clause-summed : goal.invariant_of-result-clause-summed
invariant_of-result-clause-summed c = none-summed _ _ c.in_ok-new-2.field-0.kept.items c.in_ok-new-2.ensures.none

pub returns-clause-facts : goal.returns-clause-facts
returns-clause-facts c =
    facts-cleared _ c.in_ok-new-2.field-0.kept.items [] c.in_ok-new.field-0.written.items c.in_ok-new-2.ensures.none
    c.in_ok-new.ensures.empty

pub invariant_of-result-clause-compared : goal.invariant_of-result-clause-compared
invariant_of-result-clause-compared c =
    remembered-none _ _ _ _
    (facts-cleared _ c.in_ok-new-2.field-0.kept.items [] c.in_ok-new.field-0.written.items c.in_ok-new-2.ensures.none
    c.in_ok-new.ensures.empty)
    c.in_ok-new-4.ensures.none c.in_ok-new-4.ensures.began c.in_ok-new-4.ensures.firsts c.in_ok-new-4.ensures.lefts

pub invariant_of-result-clause-added : goal.invariant_of-result-clause-added
invariant_of-result-clause-added c = c.in_ok-new-3.ensures _ _

pub invariant_of-result-clause-low : goal.invariant_of-result-clause-low
invariant_of-result-clause-low c = rw (to_z-of_z w32 c.args.lo c.ranges.lo) (search rules)

pub invariant_of-result-clause-high : goal.invariant_of-result-clause-high
invariant_of-result-clause-high c =
    rw (to_z-of_z w32 c.args.lo c.ranges.lo)
    (subst (λ (n : ℕ). (c.args.lo +ℤ pos n) ≤ℤ pos (2 ^ 31)) (sym c.in_ok-new.ensures.room) c.requires)

pub invariant_of-result-clause-timed : goal.invariant_of-result-clause-timed
invariant_of-result-clause-timed c =
    let remembered = c.in_ok-new-4.field-0 in
    subst (λ (n : ℕ). HasTimes n remembered.times.len)
    (c.in_ok-new-4.ensures.words ∙ sym c.in_ok-new.ensures.room) remembered.timed

pub invariant_of-result-clause-each_timed : goal.invariant_of-result-clause-each_timed
invariant_of-result-clause-each_timed c = c.in_ok-new-4.ensures.words ∙ sym c.in_ok-new.ensures.room

pub invariant_of-result-clause-alike : goal.invariant_of-result-clause-alike
invariant_of-result-clause-alike c = c.in_ok-new-5.ensures.same ∙ sym c.in_ok-new-4.ensures.same

pub returns-clause-room : goal.returns-clause-room
returns-clause-room c = (to_z-of_z w32 c.args.lo c.ranges.lo, c.in_ok-new.ensures.room)

pub invariant_of-result-clause-inside : goal.invariant_of-result-clause-inside
invariant_of-result-clause-inside c = λ k known. absurd (cc)

pub invariant_of-result-clause-whole : goal.invariant_of-result-clause-whole
invariant_of-result-clause-whole c =
    whole-blocks c.args.room c.block_words.result c.in_ok-new.field-0.places.len c.in_ok-new-2.field-0.room
    c.block_words.ensures.value c.in_ok-new-2.ensures.room c.in_ok-new.ensures.room
