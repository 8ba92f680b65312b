use Rattle.std.proofs.Common.{◌<◌, length, refl, sym, subst, arith, List, ℕ}
use Rattle.std.specs.List.{Contains}
use Rattle.std.proofs.lemmas.Option.{slice_get_read}
use Rattle.traffic.proofs.ListedCells.{still_listed}
use Rattle.traffic.proofs.opened.reserve_list.Goals as goal

pub returns-in-Some : goal.returns-in-Some
returns-in-Some c =
    let lists = c.args.lists.now.items in
    let within : c.args.opener < length lists = omega (arith, c.in-Some.ensures.variant.0 refl) in
    still_listed lists c.args.opener c.in-Some.cells.now c.reserve.new.self
    (slice_get_read lists (length lists) c.args.opener c.in-Some.cells.now refl within c.in-Some.ensures.value)
    (λ k found. subst (λ (l : List ℕ). Contains l k) (sym c.reserve.ensures.items) found)
