use Rattle.std.proofs.Common.{◌∙◌, sym, ap, refl}
use Rattle.states.specs.State.{State}
use Rattle.states.specs.Views.{state_of}
use Rattle.rulings.specs.Places.{site_of}
use Rattle.rulings.specs.Rulings.{forks_to, with_a}
use Rattle.local_rules.specs.WordRules.{where_true}
use Rattle.local_rules.proofs.Narrowed.{left-false, left-true}
use Rattle.local_rules.proofs.word_rules.forks.Goals as goal

pub returns-clause-ruling : goal.returns-clause-ruling
returns-clause-ruling c =
    let site = site_of c.args.place.now in
    let s = state_of c.args.state.now in
    let m = state_of c.narrow.new.state in
    let t = with_a c.of-state.result m in
    let first = left-false s m t c.told_by-narrowing.result c.args.state.now.stack.a.source c.of-state.result refl
    c.told_by-narrowing.ensures.if_false c.narrow.ensures.state c.of-state.ensures refl in
    let second = left-true s m (state_of c.forks_to.new.state) (state_of c.narrow-2.new.state)
    (state_of c.pop.new.self) c.told_by-narrowing.result
    c.args.state.now.stack.a.source c.of-state.result refl c.told_by-narrowing.ensures.if_true
    c.narrow.ensures.state c.forks_to.ensures.left.state c.narrow-2.ensures.state c.pop.ensures.state in
    ap (λ (x : State). forks_to site c.args.to x (where_true s)) (sym first)
    ∙ ap (λ (x : State). forks_to site c.args.to t x) (sym second)
    ∙ c.in_ok-forks_to.ensures.forks (state_of c.pop.new.self)
