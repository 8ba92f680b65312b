use Rattle.std.proofs.Common.{ℕ, ap, ◌∙◌, unwrap_or, get_or}
use Rattle.module_builder.proofs.RowLaws.{found_row, missing_row, placed_more, placed_same}
use Rattle.module_builder.proofs.rows.rows_in.Goals as goal
use Rattle.module_builder.proofs.rows.rows_in.Goals.{in-Some+in_ok-placed+in_ok-push, in_default}

pub loop-pair-preserved : goal.loop-pair-preserved
loop-pair-preserved g c =
    let kind = g.R.Row.kind in
    let order = c.args.order.now in
    let rows = c.args.rows.now in
    let i = c.loop-pair.pair-index in
    let offsets = c.args.layout.now.places.items in
    let before = c.loop-pair.sorted.items in
    let after = c.match-get.sorted.items in
    let number = (get_or order i (0, 0)).1 in
    elim c.match-get.branch [
      | in-Some+in_ok-placed+in_ok-push w ↦
          let row = w.in-Some.row.now in
          let here = found_row rows number row w.in-Some.ensures.lookup.0 w.in-Some.ensures.lookup.1 in
          let context = w.unwrap_or-context.ensures
          ∙ ap (λ o. unwrap_or o 0) (rw w.context.ensures at w.context_number.ensures) in
          placed_more kind.view _ order rows i (0, 0) row before after w.in_ok-placed.field-0 c.loop-pair-test.true
          here c.loop-pair.invariant (w.in_ok-placed.ensures ∙ ap (λ (n : ℕ). kind.placed offsets n row) context)
          (ap (λ v. v.items) w.sorted-is ∙ w.in_ok-push.ensures.items)
      | in_default w ↦
          let here = missing_row rows number w.in_default.ensures.lookup.0 in
          placed_same kind.view _ order rows i (0, 0) before after c.loop-pair-test.true here c.loop-pair.invariant
          (ap (λ v. v.items) w.sorted-is)
    ]
