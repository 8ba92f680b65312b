use Rattle.std.proofs.Common.{sym, ◌∙◌}
use Rattle.std.proofs.lemmas.Int.{to_z-of_z}
use Rattle.std.specs.Int.{w64}
use Rattle.states.proofs.Entering.{none-is, kept-fact}
use Rattle.states.proofs.frame.Frame.is_kept.Goals as goal

pub returns-then-is_none : goal.returns-then-is_none
returns-then-is_none c = λ yes.
    let frame = c.args.self.now in
    let written = rw (to_z-of_z w64 c.args.word c.ranges.word) at c.written.ensures in
    let left = rw (to_z-of_z w64 c.args.word c.ranges.word) at c.leaving.ensures in
    kept-fact frame.lo frame.row.now frame.overlay.written.items frame.by_block.kept.items c.args.word
    (sym written ∙ none-is c.written.result c.is_none.result c.is_none.ensures c.if-is_none.true)
    (sym left ∙ none-is c.leaving.result c.is_none-then-is_none.result c.is_none-then-is_none.ensures yes)
