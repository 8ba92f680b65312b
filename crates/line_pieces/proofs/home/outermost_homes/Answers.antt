use Rattle.std.proofs.Common.{◌≡◌, length, min, take, arith, sym, ap, ◌∙◌}
use Rattle.std.proofs.lemmas.List.{take_min, take-map}
use Rattle.line_pieces.specs.HomeViews.{home_seen, homes_seen}
use Rattle.line_pieces.proofs.home.outermost_homes.Goals as goal

pub returns : goal.returns
returns c =
    let homes = c.args.homes.now in
    let n = c.args.count in
    let all : c.loop-number.number ≡ min n (length homes) = omega (arith, c.min-number-end.ensures) in
    c.loop-number.invariant ∙ ap (λ k. homes_seen (take k homes)) all ∙ ap homes_seen (take_min n homes)
    ∙ sym (take-map home_seen n homes)
