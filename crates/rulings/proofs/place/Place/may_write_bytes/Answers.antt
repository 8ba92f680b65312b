use Rattle.std.proofs.Common.{rules, ℕ, ℤ, SFits, subst}
use Rattle.std.proofs.lemmas.Int.{to_z-of_z}
use Rattle.std.specs.Int.{w32}
use Rattle.states.specs.Views.{CanWriteSpan}
use Rattle.rulings.specs.Reach.{word_of_byte}
use Rattle.rulings.proofs.place.Place.may_write_bytes.Goals as goal

pub returns-in-Frame-clause-room : goal.returns-in-Frame-clause-room
returns-in-Frame-clause-room c = λ frame allowed.
    let state = c.args.state.now in
    let fits : SFits w32 c.word_of_byte.result = search rules in
    let room = c.writes_words.ensures.room c.args.self.now.module.now c.requires.belongs allowed in
    let there = rw (to_z-of_z w32 c.word_of_byte.result fits) at room in
    let first = rw (to_z-of_z w32 c.args.first c.ranges.first) at c.word_of_byte.ensures.value in
    let count = rw (to_z-of_z w32 c.args.first c.ranges.first, to_z-of_z w32 c.args.end c.ranges.end)
    at c.words_touched.ensures in
    subst (λ (n : ℕ). CanWriteSpan state (word_of_byte c.args.first) n) count
    (subst (λ (w : ℤ). CanWriteSpan state w c.words_touched.result) first there)
