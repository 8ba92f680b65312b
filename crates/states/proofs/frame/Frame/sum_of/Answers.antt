use Rattle.std.proofs.Common.{arith, ◌≡◌, ℤ, ◌+ℤ◌, pos, sym, ap, ◌∙◌}
use Rattle.std.proofs.lemmas.Int.{ints}
use Rattle.states.specs.Frames.{frame_facts}
use Rattle.states.specs.Spans.{together}
use Rattle.states.specs.Sums.{words_of}
use Rattle.states.proofs.frame.Frame.sum_of.Goals as goal

pub returns : goal.returns
returns c =
    let frame = c.args.self.now in
    let index = c.in_ok-index.index in
    let apart = c.in_ok-index.ensures in
    let word_is : c.args.word ≡ frame.lo +ℤ pos index = omega (arith, ints, apart) in
    c.in_ok-sum.ensures (frame_facts frame) frame.lo frame.added
    ∙ ap (λ (w : ℤ). together (frame_facts frame) w (words_of c.args.size)) (sym word_is)
