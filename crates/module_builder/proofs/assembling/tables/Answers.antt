use Rattle.std.proofs.Common.{rules, ◌≡◌}
use Rattle.std.proofs.lemmas.List.{map-id}
use Rattle.module_builder.specs.Ordering.{rows_in}
use Rattle.module_builder.proofs.assembling.tables.Goals as goal

pub returns : goal.returns
returns c =
    let d = c.args.draft.now in
    let o = c.args.orders.now in
    let procedures = rw (c.deref-2.ensures.value, c.deref-3.ensures.value) at c.in_ok-rows_in.ensures in
    let labels = rw (c.deref-4.ensures.value, c.deref-5.ensures.value) at c.in_ok-rows_in-2.ensures in
    let pars = rw (c.deref-6.ensures.value, c.deref-7.ensures.value) at c.in_ok-rows_in-3.ensures in
    let tables : c.in_ok-rows_in-4.field-0.items ≡ rows_in o.table_rows.items d.table_rows.items =
    rw (map-id, map-id, c.deref-8.ensures.value, c.deref-9.ensures.value) at c.in_ok-rows_in-4.ensures in
    search rules
