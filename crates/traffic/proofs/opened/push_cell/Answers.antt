use Rattle.std.proofs.Common.{◌<◌, length, refl, sym, arith, ◌∙◌}
use Rattle.std.specs.Prelude.{is_ok}
use Rattle.std.proofs.lemmas.Option.{slice_get_read}
use Rattle.traffic.proofs.ListedCells.{still_listed, pushed_keeps, pushed_there}
use Rattle.traffic.proofs.opened.push_cell.Goals as goal

pub returns-in-Some-clause-kept : goal.returns-in-Some-clause-kept
returns-in-Some-clause-kept c =
    let lists = c.args.lists.now.items in
    let within : c.args.opener < length lists = omega (arith, c.in-Some.ensures.variant.0 refl) in
    still_listed lists c.args.opener c.in-Some.cells.now c.push.new.self
    (slice_get_read lists (length lists) c.args.opener c.in-Some.cells.now refl within c.in-Some.ensures.value)
    (pushed_keeps c.in-Some.cells.now c.push.new.self c.args.cell (is_ok c.push.result) c.push.ensures.items)

pub returns-in-Some-clause-added : goal.returns-in-Some-clause-added
returns-in-Some-clause-added c done =
    let lists = c.args.lists.now.items in
    let within : c.args.opener < length lists = omega (arith, c.in-Some.ensures.variant.0 refl) in
    pushed_there lists c.args.opener c.in-Some.cells.now c.push.new.self c.args.cell
    (slice_get_read lists (length lists) c.args.opener c.in-Some.cells.now refl within c.in-Some.ensures.value)
    (is_ok c.push.result) c.push.ensures.items (sym c.is_ok.ensures.value ∙ done)
