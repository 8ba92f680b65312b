use Rattle.std.proofs.Common.{rules, arith, SFits, sym, ◌∙◌}
use Rattle.std.proofs.lemmas.Int.{ints, to_z-of_z}
use Rattle.std.specs.Int.{w64}
use Rattle.states.specs.Frames.{frame_facts}
use Rattle.states.proofs.KnownRuns.{entered-paid, plain-words, plain-entry}
use Rattle.states.proofs.frame.Frame.entry_cost.Goals as goal

pub returns-in-Some : goal.returns-in-Some
returns-in-Some c =
    entered-paid (frame_facts c.args.self.now) c.args.entry.now c.in_ok-paid.paid
    (c.in_ok-paid.ensures (frame_facts c.args.self.now))

pub returns : goal.returns
returns c =
    let facts = frame_facts c.args.self.now in
    let entry = c.args.entry.now in
    let none = sym c.loop_of.ensures ∙ c.in_default.is in
    let starts = c.start_of.ensures.value in
    let ends = c.end_of.ensures.value in
    let start_fits : SFits w64 c.start_of.result = search rules in
    let end_fits : SFits w64 c.end_of.result = search rules in
    let each = rw (to_z-of_z w64 c.start_of.result start_fits, to_z-of_z w64 c.end_of.result end_fits)
    at (c.words_say.ensures c.if-not-words_say.false) in
    plain-entry facts entry none
    (plain-words facts entry none
    (λ k low high. each k (omega (arith, ints, starts, low)) (omega (arith, ints, ends, high))))
