use Rattle.std.proofs.Common.{rules, arith, subst, sym, SFits, ◌≡◌, pos, ℤ, ◌+ℤ◌, to_z}
use Rattle.std.proofs.lemmas.Int.{ints, to_z-of_z}
use Rattle.std.specs.Int.{w64}
use Rattle.states.specs.Frames.{frame_facts}
use Rattle.states.specs.Sums.{words_of}
use Rattle.states.specs.declared.sums.Size.TheVariants.{Group}
use Rattle.states.proofs.Hulls.{together-each}
use Rattle.states.proofs.NextWords.{later-fits}
use Rattle.states.proofs.frame.Frame.past_group.Goals as goal

pub returns-clause-each : goal.returns-clause-each
returns-clause-each c =
    let size : ℤ = to_z w64 c.words.result in
    let size_is : size ≡ pos c.words.result = search (rules, arith, ints) in
    let value = c.words.ensures.value in
    let few = c.words.ensures.few in
    let some = c.requires.some in
    let near = c.requires.near in
    let next_fits : SFits w64 (c.args.word +ℤ size) =
    subst (λ (z : ℤ). SFits w64 (c.args.word +ℤ z)) (sym size_is)
    (later-fits c.args.word c.words.result c.ranges.word (omega (arith, ints, some, near)) few) in
    let sum = rw (to_z-of_z w64 c.args.word c.ranges.word) at c.in_ok-all.ensures in
    rw (to_z-of_z w64 c.args.word c.ranges.word, to_z-of_z w64 (c.args.word +ℤ size) next_fits)
    (together-each (frame_facts c.args.self.now) c.args.word (c.args.word +ℤ size) (words_of Group) c.in_ok-all.all
    c.args.wanted c.says.result sum (omega (arith, ints, size_is, value)) c.says.ensures c.if-not-says.false)
