use Rattle.std.proofs.Common.{sym, ap, ◌∙◌}
use Rattle.std.proofs.lemmas.Int.{to_z-of_z}
use Rattle.std.specs.Int.{w64}
use Rattle.states.specs.Below.{says}
use Rattle.states.specs.Frames.{frame_facts}
use Rattle.states.specs.State.{is_same_number}
use Rattle.states.proofs.Hulls.{plain-said}
use Rattle.states.proofs.frame.Frame.entry_says.Goals as goal

pub returns-in-None : goal.returns-in-None
returns-in-None c = λ yes k low high.
    let entry = c.args.entry.now in
    let each = rw (to_z-of_z w64 c.args.first c.ranges.first, to_z-of_z w64 c.args.end c.ranges.end)
    at (c.runs_say.ensures yes) in
    ap (says (frame_facts c.args.self.now k))
    (plain-said entry.fact (is_same_number entry.word k) (sym c.loop_of.ensures ∙ c.in-None.is))
    ∙ each k low high
