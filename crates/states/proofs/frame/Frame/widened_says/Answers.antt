use Rattle.std.proofs.Common.{◌≡◌, rules, arith, SFits, Some, sym, ◌∙◌, ap}
use Rattle.std.proofs.lemmas.Int.{to_z-of_z}
use Rattle.std.specs.Int.{w32}
use Rattle.states.specs.declared.remembered.Changes.{Changes}
use Rattle.states.specs.declared.span.Leaving.TheVariants.{Widen}
use Rattle.states.specs.Frames.{frame_facts}
use Rattle.states.specs.State.{entry_fact}
use Rattle.states.specs.Remembered.{time_of, changes_of, leaving_since}
use Rattle.states.proofs.Remembering.{widened-says}
use Rattle.states.proofs.frame.Frame.widened_says.Goals as goal

pub returns : goal.returns
returns c = λ yes.
    let frame = c.args.self.now in
    let kept = frame.remembered in
    let lo = c.in-Some-Widen.lo in
    let hi = c.in-Some-Widen.hi in
    let lo_fits : SFits w32 lo = search rules in
    let hi_fits : SFits w32 hi = search rules in
    let written = ap (λ (x : Changes). x.written) c.changes.ensures in
    let later = c.if-compared-changes.false in
    let range : leaving_since kept.began (time_of kept.times.items c.args.number)
    (changes_of kept.by_block.items c.args.number) ≡ Some (Widen lo hi) =
    sym c.range.ensures ∙ search rules in
    widened-says (entry_fact frame.row.now) frame.lo kept (frame_facts frame) c.args.row.now c.args.compared
    c.args.number lo hi c.requires.known
    (omega (arith, later, written)) range
    (rw (to_z-of_z w32 lo lo_fits, to_z-of_z w32 hi hi_fits) at (c.fact_says.ensures yes))
