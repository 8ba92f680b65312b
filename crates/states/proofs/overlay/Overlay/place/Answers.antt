use Rattle.std.proofs.Common.{rules, ◌≡◌, ◌<◌, get_or, length, ◌∙◌}
use Rattle.std.proofs.lemmas.Grind.{get_or_default_zero}
use Rattle.states.proofs.Lookups.{lookup-outside, lookup-beyond, lookup-other}
use Rattle.states.proofs.overlay.Overlay.place.Goals as goal

pub returns-then-index-len-clause-none : goal.returns-then-index-len-clause-none
returns-then-index-len-clause-none c = lookup-outside _ _ _ c.args.self.now.placed (search rules)

pub returns-then-place-len-clause-none : goal.returns-then-place-len-clause-none
returns-then-place-len-clause-none c =
    let low : c.args.index < length c.args.self.now.places.items = search rules in
    let at : c.index-place.result.now ≡ get_or c.args.self.now.places.items c.args.index 0 =
    c.index-place.ensures ∙ get_or_default_zero _ _ _ low in
    lookup-beyond _ _ _ c.args.self.now.placed (search rules)

pub returns-then-index-clause-none : goal.returns-then-index-clause-none
returns-then-index-clause-none c =
    let low : c.args.index < length c.args.self.now.places.items = search rules in
    let at : c.index-place.result.now ≡ get_or c.args.self.now.places.items c.args.index 0 =
    c.index-place.ensures ∙ get_or_default_zero _ _ _ low in
    lookup-other c.args.self.now.places.items c.args.self.now.written.items c.args.index c.index-place.result.now
    c.index.result.now c.args.self.now.placed at (search rules) (search (rules, c.if-index.true))
