use Rattle.std.proofs.Common.{ap, sym, ◌∙◌, Some, option_map}
use Rattle.scalar_ranges.specs.EntryViews.{entry_of}
use Rattle.scalar_ranges.specs.Lefts.{meant_left}
use Rattle.scalar_ranges.specs.LeftViews.{left_by}
use Rattle.scalar_ranges.specs.TrackedViews.{known_by}
use Rattle.scalar_ranges.proofs.Postponing.{entry_now, entry_meant}
use Rattle.scalar_ranges.proofs.deferred.Deferred.entry.Goals as goal

pub returns-in-None : goal.returns-in-None
returns-in-None c =
    let now = c.args.self.now in
    let n = c.args.number in
    ap (option_map (entry_meant now.stage (left_by now n))) c.in-None.ensures
    ∙ sym (entry_now now.stage (left_by now) n (known_by now.tracked))

pub returns-in-Some : goal.returns-in-Some
returns-in-Some c =
    let now = c.args.self.now in
    let n = c.args.number in
    let e = entry_of c.in-Some.entry in
    ap (λ m. Some (record { name = e.name; meaning = m }))
    (c.meant.ensures ∙ ap (λ o. meant_left now.stage o e.meaning) c.left.ensures)
    ∙ ap (option_map (entry_meant now.stage (left_by now n))) c.in-Some.ensures
    ∙ sym (entry_now now.stage (left_by now) n (known_by now.tracked))
