use Rattle.states.proofs.Lookups.{lookup-at}
use Rattle.states.proofs.overlay.Overlay.get.Goals as goal
use Rattle.std.proofs.Common.{rules, sym, ◌∙◌, ap, Some}

pub returns : goal.returns
returns c =
    let e = lookup-at c.args.self.now.places.items c.args.self.now.written.items c.args.index c.in_ok-place.place
    c.index.result.now c.args.self.now.placed (search rules) (search rules) in
    ap (λ w. Some w.fact) c.index.ensures ∙ sym e
