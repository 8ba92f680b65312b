use Rattle.std.proofs.Common.{◌∙◌, sym, ap, subst, ℕ, is_some, arith, to_z, of_z}
use Rattle.std.proofs.lemmas.Int.{ints}
use Rattle.std.specs.Int.{w32, w64}
use Rattle.states.specs.Views.{CanWriteSpan}
use Rattle.call_rules.specs.Callings.{calling_of}
use Rattle.call_rules.proofs.Touching.{not_own, is_own, handed_word}
use Rattle.call_rules.proofs.calling.Calling.own_frame.Goals as goal

pub returns-in_err-first-clause-own : goal.returns-in_err-first-clause-own
returns-in_err-first-clause-own c =
    ap is_some c.from_residual.ensures
    ∙ not_own (calling_of c.args.self.now) _ (omega (arith, ints)) c.requires.some
    (sym (c.writable_word.ensures.allowed c.args.self.now.place.module.now c.requires.belongs)
    ∙ ap is_some c.in_err-first.was)

pub returns-clause-own : goal.returns-clause-own
returns-clause-own c =
    let found =
    handed_word c.writable_word.result c.in_ok-first.first (to_z w64 (of_z w64 c.callee_word.result)) c.in_ok-first.was
    c.writable_word.ensures.some in
    sym c.if-not-writes_words.false
    ∙ is_own (calling_of c.args.self.now) (to_z w32 (of_z w32 c.in_ok-first.first)) c.frame_size.result
    c.writes_words.result (omega (arith, ints)) c.frame_size.ensures
    (c.writes_words.ensures.allowed c.args.self.now.place.module.now c.requires.belongs)

pub returns-then-not-writes_words-clause-own : goal.returns-then-not-writes_words-clause-own
returns-then-not-writes_words-clause-own c =
    let found =
    handed_word c.writable_word.result c.in_ok-first.first (to_z w64 (of_z w64 c.callee_word.result)) c.in_ok-first.was
    c.writable_word.ensures.some in
    sym c.if-not-writes_words.true
    ∙ is_own (calling_of c.args.self.now) (to_z w32 (of_z w32 c.in_ok-first.first)) c.frame_size.result
    c.writes_words.result (omega (arith, ints)) c.frame_size.ensures
    (c.writes_words.ensures.allowed c.args.self.now.place.module.now c.requires.belongs)

pub returns-clause-room : goal.returns-clause-room
returns-clause-room c =
    subst (λ (n : ℕ). CanWriteSpan c.args.self.now.state.now (to_z w32 (of_z w32 c.in_ok-first.first)) n)
    c.frame_size.ensures
    (c.writes_words.ensures.room c.args.self.now.place.module.now c.requires.belongs c.if-not-writes_words.false)
