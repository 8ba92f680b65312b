use Rattle.std.proofs.Common.{rules, arith, Some, None, SFits, sym, ap, ◌∙◌}
use Rattle.std.proofs.lemmas.Int.{to_z-of_z}
use Rattle.std.specs.Int.{w64}
use Rattle.module_format.specs.Rows.{Fact}
use Rattle.states.specs.declared.known.WordFact.TheVariants.{Alone}
use Rattle.states.proofs.Loops.{index-below}
use Rattle.states.proofs.Entering.{written-fact}
use Rattle.states.proofs.frame.Frame.fact_written.Goals as goal

pub word_at-requires : goal.word_at-requires
word_at-requires c =
    let overlay = c.args.self.now.overlay in
    let below =
    index-below overlay.places.items overlay.written.items c.args.index c.args.fact overlay.placed c.requires in
    omega (arith, below)

pub returns-in-Some : goal.returns-in-Some
returns-in-Some c =
    let frame = c.args.self.now in
    let fits : SFits w64 c.word_at.result = search rules in
    let left = rw (to_z-of_z w64 c.word_at.result fits) at c.leaving.ensures in
    ap (λ (f : Fact). Alone f) c.left_of.ensures
    ∙ written-fact frame.lo frame.row.now frame.overlay.written.items frame.by_block.kept.items c.word_at.result
    c.args.index c.args.fact (Some c.in-Some.leaving) c.requires c.word_at.ensures (sym c.in-Some.is ∙ left)

pub returns-in-None : goal.returns-in-None
returns-in-None c =
    let frame = c.args.self.now in
    let fits : SFits w64 c.word_at.result = search rules in
    let left = rw (to_z-of_z w64 c.word_at.result fits) at c.leaving.ensures in
    written-fact frame.lo frame.row.now frame.overlay.written.items frame.by_block.kept.items c.word_at.result
    c.args.index c.args.fact None c.requires c.word_at.ensures (sym c.in-None.is ∙ left)
