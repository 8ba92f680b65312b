use Rattle.std.proofs.Common.{arith, refl, ap, ◌∙◌, inl, inr}
use Rattle.std.proofs.lemmas.Bool.{cases_lt}
use Rattle.std.proofs.lemmas.Int.{ints, to_z-of_z}
use Rattle.std.specs.Int.{w32}
use Rattle.states.specs.Frames.{frame_facts}
use Rattle.states.specs.Spans.{together, with_silent}
use Rattle.states.proofs.SpanFacts.{silent-before, silent-behind}
use Rattle.states.proofs.BlockSums.{together-further}
use Rattle.states.proofs.frame.Frame.together.Goals as goal

pub loop-done-init : goal.loop-done-init
loop-done-init c = (
  elim (cases_lt c.words_before-end.result c.words_before-before.result) [
    | inr rises ↦ rises
    | inl falls ↦
        let few = c.words_before-before.ensures.few in
        let before = c.words_before-before.ensures.before c.words_before-end.result falls in
        let behind = c.words_before-end.ensures.behind c.words_before-end.result (omega arith) (omega (arith, few)) in
        let end = c.end.ensures.value in
        absurd (omega (arith, ints, before, behind, end))
  ],
  c.with_silent-all.ensures
      ∙ (ap (with_silent c.words_before-before.result) c.of_none.ensures
      ∙ silent-before c.args.self.now _ _ c.words_before-before.result refl
      (λ j less. let before = c.words_before-before.ensures.before j less in omega (arith, ints))),
)

pub loop-done-preserved : goal.loop-done-preserved
loop-done-preserved c = (
  omega (arith, ints),
  together-further (frame_facts c.args.self.now) _ _ c.loop-done.done c.piece-piece.result.count _
      c.loop-done.all c.piece-piece.result.all _ (omega (arith, ints)) refl c.loop-done.invariant.1
      c.piece-piece.ensures.all c.joined-all.ensures,
)

pub returns : goal.returns
returns c =
    c.with_silent.ensures
    ∙ silent-behind c.args.self.now c.args.first _ c.words_before-end.result c.args.count c.loop-done.all
    c.words_before-end.ensures.few refl
    (λ j low high.
    let behind = c.words_before-end.ensures.behind j low high in
    let end = c.end.ensures.value in
    omega (arith, ints))
    ((rw (to_z-of_z w32 c.args.first c.ranges.first) at c.loop-done.invariant.1)
    ∙ ap (together (frame_facts c.args.self.now) c.args.first) (omega (arith, c.loop-done.invariant.0)))
