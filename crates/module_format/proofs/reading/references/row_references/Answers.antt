use Rattle.std.proofs.Common.{arith}
use Rattle.std.proofs.lemmas.List.{map-id}
use Rattle.module_format.specs.Contents.{label_of}
use Rattle.module_format.proofs.Loop.{ok_weaker}
use Rattle.module_format.proofs.Sizes.{label_size}
use Rattle.module_format.proofs.reading.references.row_references.Goals as goal

pub list_references-requires : goal.list_references-requires
list_references-requires c =
    let row = c.args.row.now in
    let size = label_size (label_of row) in
    rw (c.deref.ensures.value, map-id row.entries.items)
    (omega (
      arith,
      size,
      c.fact_size.ensures.value,
      c.fact_size-2.ensures.value,
      c.fact_size-3.ensures.value,
      c.requires,
    ))

pub returns-clause-behind : goal.returns-clause-behind
returns-clause-behind c =
    let row = c.args.row.now in
    let size = label_size (label_of row) in
    let behind = rw (c.deref.ensures.value, map-id row.entries.items) at c.list_references.ensures.behind in
    ok_weaker c.list_references.result behind
    (λ end e. omega (
      arith,
      e,
      size,
      c.fact_size.ensures.value,
      c.fact_size-2.ensures.value,
      c.fact_size-3.ensures.value,
    ))
