use Rattle.std.proofs.Common.{◌≡◌, ◌*◌, ℕ, ℤ, pos, ◌+ℤ◌, rules, arith, vec_len, length, ap, subst, ◌∙◌, SFits, List}
use Rattle.std.proofs.lemmas.Int.{ints, to_z-of_z}
use Rattle.std.specs.Int.{w64}
use Rattle.module_format.specs.Rows.{Entry}
use Rattle.states.specs.Blocks.{block_words}
use Rattle.states.specs.Frames.{frame_facts}
use Rattle.states.specs.Implied.{WantsOnlyWithin}
use Rattle.states.specs.State.{entry_fact}
use Rattle.states.proofs.Remembering.{remembered-first}
use Rattle.states.proofs.frame.Frame.before_all.Goals as goal

pub returns : goal.returns
returns c =
    let frame = c.args.self.now in
    let kept = frame.remembered in
    let end = c.word_of-end.result in
    let fits : SFits w64 end = search rules in
    let from_fits : SFits w64 c.from.result = search rules in
    let from_is : c.from.result ≡ frame.lo = (let e = c.from.ensures in omega (arith, ints, e)) in
    let at = rw c.block_words.ensures.value at c.word_of-end.ensures in
    let len : vec_len kept.times ≡ length kept.times.items = omega arith in
    let within = rw (to_z-of_z w64 end fits, to_z-of_z w64 c.from.result from_fits) at
    (c.is_row_within.ensures c.if-not-is_row_within.false) in
    let entries = c.args.row.now.entries.items in
    let inside : WantsOnlyWithin (entry_fact entries) frame.lo end =
    subst (λ (es : List Entry). WantsOnlyWithin (entry_fact es) frame.lo end) c.deref.ensures.value
    (subst (λ (lo : ℤ). WantsOnlyWithin (entry_fact c.deref.result.now) lo end) from_is within) in
    remembered-first (entry_fact frame.row.now) frame.lo end kept (frame_facts frame) entries
    (at ∙ ap (λ (n : ℕ). frame.lo +ℤ pos (n * block_words)) (c.len.ensures ∙ len)) inside
    (c.is_plain.ensures c.if-not-is_plain.false)
