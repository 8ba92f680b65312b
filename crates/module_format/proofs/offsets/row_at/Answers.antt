use Rattle.std.proofs.Common.{◌<◌, ◌≤◌, ◌∙◌, ltb, length, sym, rules}
use Rattle.std.proofs.lemmas.Bool.{ltb-true, ltb-false}
use Rattle.std.proofs.lemmas.List.Sorted.{IsPartitionPoint-from_clause, IsPartitionedBy-ltb}
use Rattle.module_format.proofs.OffsetLaws.{before_here, none_past, none_here}
use Rattle.module_format.proofs.offsets.row_at.Goals as goal

pub returns : goal.returns
returns g c =
    let place = g.T.AtOffset.place in
    let point = IsPartitionPoint-from_clause (λ r. ltb (place r) c.args.offset) _ _
    c.partition_point-index.ensures.partitioned (IsPartitionedBy-ltb place _ _ c.requires) (λ a r f' k. search rules) in
    record {
      inside = ltb-true _ _ (sym c.in_ok-row.ensures.lookup.0);
      is = c.in_ok-row.ensures.lookup.1;
      here = sym c.place.ensures ∙ c.if-place-offset.false;
      before = λ k d lt. before_here place _ _ _ point d k lt;
    }

pub returns-in_err-row : goal.returns-in_err-row
returns-in_err-row g c =
    let place = g.T.AtOffset.place in
    let point = IsPartitionPoint-from_clause (λ r. ltb (place r) c.args.offset) _ _
    c.partition_point-index.ensures.partitioned (IsPartitionedBy-ltb place _ _ c.requires) (λ a r f' k. search rules) in
    let past : length c.args.rows.now ≤ c.partition_point-index.result =
    ltb-false _ _ (sym c.in_err-row.ensures.lookup.0) in
    rw c.from_residual.ensures (none_past place _ _ _ point past)

pub returns-then-place-offset : goal.returns-then-place-offset
returns-then-place-offset g c =
    let place = g.T.AtOffset.place in
    let point = IsPartitionPoint-from_clause (λ r. ltb (place r) c.args.offset) _ _
    c.partition_point-index.ensures.partitioned (IsPartitionedBy-ltb place _ _ c.requires) (λ a r f' k. search rules) in
    let inside : c.partition_point-index.result < length c.args.rows.now =
    ltb-true _ _ (sym c.in_ok-row.ensures.lookup.0) in
    none_here place _ _ _ point c.in_ok-row.row.now c.requires inside (sym c.in_ok-row.ensures.lookup.1)
    (λ e. c.if-place-offset.true (c.place.ensures ∙ e))
