use Rattle.std.proofs.Common.{◌≡◌, ◌+◌, ap, ◌∙◌, arith}
use Rattle.machine_state.specs.Access.{may}
use Rattle.machine_state.specs.Views.{holding_view}
use Rattle.machine_state.proofs.Copying.{all_places-here, all_places-refused, all_places-on, all_places-end}
use Rattle.machine_state.proofs.holding.Holding.may_all.Goals as goal

pub loop-k-init : goal.loop-k-init
loop-k-init c = all_places-here (may c.args.access (holding_view c.args.self.now)) c.args.place c.args.count

pub loop-k-preserved : goal.loop-k-preserved
loop-k-preserved c =
    let test = may c.args.access (holding_view c.args.self.now) in
    let here : c.from.result + c.from-in-loop-k.result ≡ c.args.place + c.loop-k.k = omega arith in
    all_places-on test c.args.place c.loop-k.k c.args.count c.may.result (omega arith)
    (c.may.ensures ∙ ap test here) c.if-not-may.false c.loop-k.invariant

pub returns : goal.returns
returns c =
    all_places-end (may c.args.access (holding_view c.args.self.now)) c.args.place c.loop-k.k c.args.count (omega arith)
    c.loop-k.invariant

pub returns-then-not-may : goal.returns-then-not-may
returns-then-not-may c =
    let test = may c.args.access (holding_view c.args.self.now) in
    let here : c.from.result + c.from-in-loop-k.result ≡ c.args.place + c.loop-k.k = omega arith in
    all_places-refused test c.args.place c.loop-k.k c.args.count c.may.result (omega arith)
    (c.may.ensures ∙ ap test here) c.if-not-may.true c.loop-k.invariant
