use Rattle.std.proofs.Common.{sym, leb, rules}
use Rattle.std.proofs.lemmas.List.Sorted.{IsPartitionPoint-from_clause, IsPartitionedBy-leb}
use Rattle.module_format.specs.declared.row_owners.RowOwner.{RowOwner}
use Rattle.module_format.proofs.RowOwnerLaws.{ends_rise, row_there, owner_there}
use Rattle.module_format.proofs.row_owners.row_of.Goals as goal

none : RowOwner
none = record { end = 0; owner = 0 }

pub returns : goal.returns
returns c m branch there owners =
    let rows = c.args.rows.now in
    let n = c.args.context in
    let index = c.partition_point.result in
    let parted = IsPartitionedBy-leb (λ o. o.end) rows n (ends_rise m _ rows owners) in
    let point = IsPartitionPoint-from_clause (λ (o : RowOwner). leb o.end n) rows index
    c.partition_point.ensures.partitioned parted (λ a r f' k. search rules) in
    record {
      inside = row_there m _ rows owners n index none point branch there;
      owner = λ d. sym (owner_there m _ rows owners n index d point branch there);
    }
