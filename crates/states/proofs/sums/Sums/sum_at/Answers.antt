use Rattle.std.proofs.Common.{ℕ, ◌*◌, ◌/◌, ap, sym, ◌∙◌, arith}
use Rattle.states.specs.declared.sums.Layer.{Layer}
use Rattle.states.specs.Sums.{words_of, layer_of, sum_numbered}
use Rattle.states.proofs.SpanSums.{if-there, sum-there, of-size, whole-number}
use Rattle.states.proofs.sums.Sums.sum_at.Goals as goal

pub returns : goal.returns
returns c =
    let words_is = c.words-words.ensures.value in
    let number = c.args.index / c.words-words.result in
    if-there _ c.get.result (λ sum some facts lo right.
    sum-there facts lo (words_of c.args.size) c.args.index number (layer_of c.args.size c.args.self.now).kept.items
    c.get.result
    (c.get.ensures ∙ ap (λ (l : Layer). sum_numbered l.kept.items number) c.layer.ensures)
    (ap (λ (n : ℕ). number * n) (sym words_is)
    ∙ whole-number c.args.index c.words-words.result (omega (arith, c.if-index-words-ne0.false)))
    (of-size facts lo c.args.self.now c.args.size right) sum some)
