use Rattle.module_builder.proofs.orders.Orders.of.Goals as goal

pub returns-clause-order : goal.returns-clause-order
returns-clause-order c = record {
  procedures = rw c.deref.ensures.value at c.in_ok-procedures.ensures.order;
  labels = rw c.deref-7.ensures.value at c.in_ok-order_of_rows.ensures.order;
  pars = rw c.deref-2.ensures.value at c.in_ok-pars.ensures.order;
  table_rows = rw c.deref-8.ensures.value at c.in_ok-order_of_rows-2.ensures.order;
}
