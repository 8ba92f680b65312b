use Rattle.std.proofs.Common.{◌≡◌, pos, ◌+ℤ◌, Bool, SFits, rules, arith, ap, ◌∙◌, sym, ◌||◌}
use Rattle.std.proofs.lemmas.Int.{ints, to_z-of_z}
use Rattle.std.specs.Int.{w64}
use Rattle.states.specs.Remembering.{was_changed, was_alone}
use Rattle.states.specs.State.{is_alone, entry_fact}
use Rattle.states.proofs.Dues.{same-due}
use Rattle.states.proofs.frame.Frame.loop_due.Goals as goal

pub returns-then-not-is_changed_after-2 : goal.returns-then-not-is_changed_after-2
returns-then-not-is_changed_after-2 c =
    let frame = c.args.self.now in
    let said = entry_fact frame.row.now in
    let kept = frame.remembered in
    let word = c.args.entry.now.word in
    let k = c.start_of-word.result in
    let near = c.start_of-word.ensures.near in
    let value = c.start_of-word.ensures.value in
    let fits : SFits w64 k = search rules in
    let next_fits : SFits w64 (k +ℤ pos 1) = search (rules, arith, ints) in
    let next : k +ℤ pos 1 ≡ word +ℤ pos 1 = omega (arith, ints, value) in
    let first = rw (to_z-of_z w64 k fits) at (c.is_changed_after.ensures c.if-not-is_changed_after.true) in
    let second = rw (to_z-of_z w64 k fits, to_z-of_z w64 (k +ℤ pos 1) next_fits) at
    (c.is_changed_after-then-not-is_changed_after.ensures c.if-not-is_changed_after-2.true) in
    let here : was_changed frame.lo kept kept.time word ≡ was_changed frame.lo kept c.args.time word =
    ap (was_changed frame.lo kept kept.time) (sym value) ∙ (first ∙ ap (was_changed frame.lo kept c.args.time) value) in
    let there : was_changed frame.lo kept kept.time (word +ℤ pos 1)
    ≡ was_changed frame.lo kept c.args.time (word +ℤ pos 1) =
    ap (was_changed frame.lo kept kept.time) (sym next) ∙ (second ∙ ap (was_changed frame.lo kept c.args.time) next) in
    same-due (was_alone said frame.lo kept c.args.time) (was_alone said frame.lo kept kept.time) c.args.entry.now
    (ap (λ (b : Bool). is_alone (said word) || b) here)
    (ap (λ (b : Bool). is_alone (said (word +ℤ pos 1)) || b) there)
