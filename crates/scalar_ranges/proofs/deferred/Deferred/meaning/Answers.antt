use Rattle.std.proofs.Common.{ap, sym, ◌∙◌, Some, option_map}
use Rattle.scalar_ranges.specs.EntryViews.{meaning_of}
use Rattle.scalar_ranges.specs.Lefts.{meant_left}
use Rattle.scalar_ranges.specs.LeftViews.{left_by}
use Rattle.scalar_ranges.specs.TrackedViews.{known_by}
use Rattle.scalar_ranges.proofs.Postponing.{meaning_now}
use Rattle.scalar_ranges.proofs.deferred.Deferred.meaning.Goals as goal

pub returns-in-None : goal.returns-in-None
returns-in-None c =
    let now = c.args.self.now in
    let n = c.args.number in
    ap (option_map (meant_left now.stage (left_by now n))) c.in-None.ensures
    ∙ sym (meaning_now now.stage (left_by now) n (known_by now.tracked))

pub returns-in-Some : goal.returns-in-Some
returns-in-Some c =
    let now = c.args.self.now in
    let n = c.args.number in
    ap Some (c.meant.ensures ∙ ap (λ o. meant_left now.stage o (meaning_of c.in-Some.meaning)) c.left.ensures)
    ∙ ap (option_map (meant_left now.stage (left_by now n))) c.in-Some.ensures
    ∙ sym (meaning_now now.stage (left_by now) n (known_by now.tracked))
