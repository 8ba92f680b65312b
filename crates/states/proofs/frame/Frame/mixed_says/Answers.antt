use Rattle.std.proofs.Common.{sym, ◌∙◌, ap}
use Rattle.std.proofs.lemmas.Int.{to_z-of_z}
use Rattle.std.specs.Int.{w64}
use Rattle.module_format.specs.Rows.{Fact}
use Rattle.states.specs.Below.{implies}
use Rattle.states.proofs.KnownRuns.{left-says, mixed-word}
use Rattle.states.proofs.frame.Frame.mixed_says.Goals as goal

pub returns-in-Some : goal.returns-in-Some
returns-in-Some c = λ yes.
    let frame = c.args.self.now in
    let is = rw (to_z-of_z w64 c.args.word c.ranges.word) at c.written.ensures in
    mixed-word frame.lo c.args.word frame.row.now frame.overlay.written.items frame.by_block.kept.items
    c.args.mixed.left c.written.result c.args.wanted c.requires.left is
    (rw c.in-Some.is (left-says c.args.mixed.left c.in-Some.fact c.args.wanted
    ∙ (ap (λ (f : Fact). implies f c.args.wanted) (sym c.left_fact.ensures) ∙ (sym c.implies.ensures ∙ yes))))

pub returns-in-None : goal.returns-in-None
returns-in-None c = λ yes.
    let frame = c.args.self.now in
    let is = rw (to_z-of_z w64 c.args.word c.ranges.word) at c.written.ensures in
    mixed-word frame.lo c.args.word frame.row.now frame.overlay.written.items frame.by_block.kept.items
    c.args.mixed.left c.written.result c.args.wanted c.requires.left is (rw c.in-None.is (c.requires.said yes))
