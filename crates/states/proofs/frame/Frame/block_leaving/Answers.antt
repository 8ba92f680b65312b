use Rattle.std.proofs.Common.{Some, refl, sym, ap, ◌∙◌}
use Rattle.module_format.specs.Rows.{Fact}
use Rattle.states.specs.declared.blocks.Block.{Block}
use Rattle.states.specs.declared.span.Leaving.{Leaving}
use Rattle.states.specs.declared.span.Leaving.TheVariants.{Become}
use Rattle.states.specs.Blocks.{block_words, first_of}
use Rattle.states.specs.Frames.{frame_facts, over_facts, with_span}
use Rattle.states.proofs.Leavings.{left-alike, left-unknown}
use Rattle.states.proofs.frame.Frame.block_leaving.Goals as goal

pub returns : goal.returns
returns c =
    let frame = c.args.self.now in
    ap (λ (x : Fact). with_span (first_of frame.lo c.args.number) block_words (Become x) (frame_facts frame))
    c.left_of.ensures
    ∙ left-alike frame.lo frame.by_block.kept.items (over_facts frame) c.args.number c.in-Become.said c.args.leaving
    (sym (ap (λ (b : Block). b.left) c.get-sum.ensures)
    ∙ (c.in-Some.is ∙ ap (λ (l : Leaving). Some l) c.in-Become.is))

pub returns-then-not-has_number : goal.returns-then-not-has_number
returns-then-not-has_number c =
    let frame = c.args.self.now in
    let first = first_of frame.lo c.args.number in
    left-unknown (frame_facts frame) first block_words c.in-Widen.lo c.in-Widen.hi (c.if-not-has_number.ensures refl)
    ∙ ap (λ (l : Leaving). with_span first block_words l (frame_facts frame)) (sym c.in-Widen.is)
