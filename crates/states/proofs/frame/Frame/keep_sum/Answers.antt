use Rattle.std.proofs.Common.{arith, ℤ, pos, ◌+ℤ◌, ◌<◌, SFits, ap, ◌∙◌, sym, subst}
use Rattle.std.specs.Prelude.{vec_len}
use Rattle.std.proofs.lemmas.Int.{to_z-of_z}
use Rattle.std.specs.Int.{w32, w64}
use Rattle.states.specs.Frames.{frame_facts}
use Rattle.states.specs.Spans.{together}
use Rattle.states.proofs.NextWords.{frame-fits, frame-fits-wide}
use Rattle.states.proofs.frame.Frame.keep_sum.Goals as goal

pub invariant_of-self-clause-added : goal.invariant_of-self-clause-added
invariant_of-self-clause-added c =
    let frame = c.args.self.now in
    let facts = frame_facts frame in
    let word = c.word_at-word.result in
    let word_is = c.word_at-word.ensures in
    let room = c.room.ensures in
    let behind = c.if-room-index.false in
    let count = vec_len frame.overlay.places in
    let inside : c.args.index < count = omega (arith, room, behind) in
    let fits : SFits w32 word =
    subst (λ (w : ℤ). SFits w32 w) (sym word_is) (frame-fits frame.lo c.args.index count frame.low frame.high inside) in
    let wide : SFits w64 word =
    subst (λ (w : ℤ). SFits w64 w) (sym word_is)
    (frame-fits-wide frame.lo c.args.index count frame.low frame.high inside) in
    let all = rw (to_z-of_z w64 word wide, to_z-of_z w32 word fits) at c.together-all.ensures in
    c.keep.ensures facts frame.lo frame.added
    (all ∙ (ap (λ (w : ℤ). together facts w c.words.result) word_is
    ∙ ap (together facts (frame.lo +ℤ pos c.args.index)) c.words.ensures.value))
