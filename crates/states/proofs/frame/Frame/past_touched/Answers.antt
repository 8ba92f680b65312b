use Rattle.std.proofs.Common.{rules, arith, SFits, ◌≡◌, ap, ℤ, ◌<ℤ◌, ◌≤ℤ◌, pos, ◌+ℤ◌, ◌-ℤ◌}
use Rattle.std.proofs.lemmas.Int.{ints, clamps, to_z-of_z}
use Rattle.std.specs.Int.{w64}
use Rattle.states.specs.declared.blocks.Block.{Block}
use Rattle.states.specs.Blocks.{block_words, first_of, leaving_at}
use Rattle.states.proofs.KnownRuns.{left-over}
use Rattle.states.proofs.frame.Frame.past_touched.Goals as goal
use Rattle.states.proofs.frame.Frame.past_touched.Goals.{After-is_some}

min-fits : (c : After-is_some) → SFits w64 c.min-last.result
min-fits c = search rules

word-before : (c : After-is_some) → c.args.word <ℤ c.min-last.result
word-before c =
    let some = c.requires.some in
    let next = c.asked_end.ensures.some in
    let value = c.min-last.ensures.value in
    omega (arith, ints, clamps, some, next, value)

-- the last word is one of the block
last-in : (c : After-is_some)
    → c.min-last.result ≤ℤ (first_of c.args.self.now.lo c.in_ok-place.place.number +ℤ pos block_words)
last-in c =
    let bound = c.min-last.ensures.other_bound in
    let few = c.asked_end.ensures.few in
    let end = c.in_ok-place.ensures.end in
    omega (arith, ints, bound, few, end)

-- how the block of these words was left
left-in : (c : After-is_some) (end k : ℤ) → end ≤ℤ c.min-last.result → c.args.word ≤ℤ k → k <ℤ end
    → leaving_at c.args.self.now.by_block.kept.items (k -ℤ c.args.self.now.lo) ≡ c.get-left.result.left
left-in c end k within low high =
    let frame = c.args.self.now in
    let last = last-in c in
    let begun = rw (to_z-of_z w64 c.args.word c.ranges.word) at c.in_ok-place.ensures.low in
    left-over frame.lo c.args.word end frame.by_block.kept.items c.in_ok-place.place.number c.get-left.result.left
    begun (omega (arith, ints, within, last)) (ap (λ (b : Block). b.left) c.get-left.ensures) k low
    high

pub past_mixed-requires-clause-some : goal.past_mixed-requires-clause-some
past_mixed-requires-clause-some c =
    let after = (goal.at.past_mixed-requires-clause-some c).After-is_some in
    rw (to_z-of_z w64 c.args.word c.ranges.word, to_z-of_z w64 c.min-last.result (min-fits after)) (word-before after)

pub past_mixed-requires-clause-left : goal.past_mixed-requires-clause-left
past_mixed-requires-clause-left c =
    let after = (goal.at.past_mixed-requires-clause-left c).After-is_some in
    rw (to_z-of_z w64 c.args.word c.ranges.word, to_z-of_z w64 c.min-last.result (min-fits after))
    (λ k low high. left-in after c.min-last.result k (omega (arith, ints)) low high)

pub returns-then-is_some-clause-each : goal.returns-then-is_some-clause-each
returns-then-is_some-clause-each c =
    let fits : SFits w64 c.past_mixed.result = search rules in
    rw (to_z-of_z w64 c.past_mixed.result fits)
    (λ k low high. c.past_mixed.ensures.each k (rw (to_z-of_z w64 c.args.word c.ranges.word) low) high)

pub run_from-requires-clause-some : goal.run_from-requires-clause-some
run_from-requires-clause-some c =
    let after = (goal.at.run_from-requires-clause-some c).After-is_some in
    rw (to_z-of_z w64 c.args.word c.ranges.word, to_z-of_z w64 c.min-last.result (min-fits after)) (word-before after)

pub past_mixed-requires-2-clause-left : goal.past_mixed-requires-2-clause-left
past_mixed-requires-2-clause-left c =
    let after = (goal.at.past_mixed-requires-2-clause-left c).After-is_some in
    let run = c.in_ok-run.run' in
    let fits : SFits w64 run.end = search rules in
    let holds = rw (to_z-of_z w64 c.args.word c.ranges.word, to_z-of_z w64 c.min-last.result (min-fits after))
    at c.in_ok-run.ensures in
    rw (to_z-of_z w64 c.args.word c.ranges.word, to_z-of_z w64 run.end fits)
    (λ k low high. left-in after run.end k holds.within low high)

pub past_mixed-requires-2-clause-said : goal.past_mixed-requires-2-clause-said
past_mixed-requires-2-clause-said c =
    let after = (goal.at.past_mixed-requires-2-clause-said c).After-is_some in
    let run = c.in_ok-run.run' in
    let fits : SFits w64 run.end = search rules in
    let holds = rw (to_z-of_z w64 c.args.word c.ranges.word, to_z-of_z w64 c.min-last.result (min-fits after))
    at c.in_ok-run.ensures in
    rw (to_z-of_z w64 c.args.word c.ranges.word, to_z-of_z w64 run.end fits) holds.same

pub returns-clause-each : goal.returns-clause-each
returns-clause-each c =
    let fits : SFits w64 c.past_mixed-2.result = search rules in
    rw (to_z-of_z w64 c.past_mixed-2.result fits)
    (λ k low high. c.past_mixed-2.ensures.each k (rw (to_z-of_z w64 c.args.word c.ranges.word) low) high)
