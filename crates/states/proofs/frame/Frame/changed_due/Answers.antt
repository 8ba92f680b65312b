use Rattle.std.proofs.Common.{◌≡◌, ◌*◌, ◌<◌, ℕ, ℤ, pos, ◌+ℤ◌, Bool, true, false, SFits, rules, arith, sym, ap}
use Rattle.std.proofs.Common.{◌∙◌, subst}
use Rattle.std.proofs.lemmas.Int.{ints, to_z-of_z}
use Rattle.std.specs.Int.{w64}
use Rattle.states.specs.Remembered.{IsDueSince}
use Rattle.states.specs.Remembering.{was_alone}
use Rattle.states.specs.State.{entry_fact}
use Rattle.states.proofs.Dues.{alike-is, same-is, unlike-not, if-some-is, kept-due, entered-due}
use Rattle.states.proofs.frame.Frame.changed_due.Goals as goal
use Rattle.states.proofs.frame.Frame.changed_due.Goals.{After-was_alone-was_alone}

-- which words were by themselves at a time
abbrev alone : After-was_alone-was_alone → ℕ → ℤ → Bool
alone c = was_alone (entry_fact c.args.self.now.row.now) c.args.self.now.lo c.args.self.now.remembered

-- the first word now
first-now : (c : After-was_alone-was_alone)
    → c.was_alone-is_alone.result ≡ alone c c.args.self.now.remembered.time c.args.entry.now.word
first-now c =
    let k = c.start_of-word.result in
    let near = c.start_of-word.ensures.near in
    let fits : SFits w64 k = search rules in
    rw (to_z-of_z w64 k fits) at c.was_alone-is_alone.ensures
    ∙ ap (alone c c.args.self.now.remembered.time) c.start_of-word.ensures.value

-- the first word then
first-then : (c : After-was_alone-was_alone)
    → c.was_alone-was_alone.result ≡ alone c c.args.time c.args.entry.now.word
first-then c =
    let k = c.start_of-word.result in
    let near = c.start_of-word.ensures.near in
    let fits : SFits w64 k = search rules in
    rw (to_z-of_z w64 k fits) at c.was_alone-was_alone.ensures
    ∙ ap (alone c c.args.time) c.start_of-word.ensures.value

-- both words are by themselves now, or neither is
both-now : (c : After-was_alone-was_alone) → alone c c.args.self.now.remembered.time c.args.entry.now.word
    ≡ alone c c.args.self.now.remembered.time (c.args.entry.now.word +ℤ pos 1)
both-now c =
    let k = c.start_of-word.result in
    let near = c.start_of-word.ensures.near in
    let value = c.start_of-word.ensures.value in
    let fits : SFits w64 k = search rules in
    let next_fits : SFits w64 (k +ℤ pos 1) = search (rules, arith, ints) in
    let next : k +ℤ pos 1 ≡ c.args.entry.now.word +ℤ pos 1 = omega (arith, ints, value) in
    let second = rw (to_z-of_z w64 k fits, to_z-of_z w64 (k +ℤ pos 1) next_fits) at c.was_alone.ensures in
    sym (first-now c)
    ∙ (alike-is c.was_alone-is_alone.result c.was_alone.result c.if-is_alone-was_alone.false
    ∙ (second ∙ ap (alone c c.args.self.now.remembered.time) next))

pub returns-then-is_alone-was_alone-2 : goal.returns-then-is_alone-was_alone-2
returns-then-is_alone-was_alone-2 c =
    let after = (goal.at.returns-then-is_alone-was_alone-2 c).After-was_alone-was_alone in
    kept-due (alone after c.args.time) (alone after c.args.self.now.remembered.time) c.args.entry.now c.args.wanted
    c.requires (both-now after)
    (sym (first-now after) ∙ (same-is c.was_alone-is_alone.result c.was_alone-was_alone.result
    c.if-is_alone-was_alone-2.true ∙ first-then after))

pub returns : goal.returns
returns c =
    let after = (goal.at.returns c).After-was_alone-was_alone in
    let was = c.was_alone-was_alone.result in
    let kept : was ≡ false = c.if-was_alone.false in
    let entered : c.was_alone-is_alone.result ≡ true =
    unlike-not c.was_alone-is_alone.result was c.if-is_alone-was_alone-2.false kept in
    if-some-is (IsDueSince (alone after c.args.time) (alone after c.args.self.now.remembered.time) c.args.entry.now)
    c.checked_mul.result (c.args.wanted.weight * c.from.result < 18446744073709551616)
    (c.args.wanted.weight * c.from.result) c.checked_mul.ensures
    (subst (IsDueSince (alone after c.args.time) (alone after c.args.self.now.remembered.time) c.args.entry.now)
    (ap (λ (n : ℕ). c.args.wanted.weight * n) (sym (c.from.ensures ∙ c.saturating_sub.ensures)))
    (entered-due (alone after c.args.time) (alone after c.args.self.now.remembered.time) c.args.entry.now c.args.wanted
    c.requires (both-now after) (sym (first-then after) ∙ kept) (sym (first-now after) ∙ entered)))
