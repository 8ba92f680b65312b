use Rattle.std.proofs.Common.{rules, arith, refl, subst, length, List}
use Rattle.std.proofs.lemmas.Int.{ints, clamps}
use mir.Val.{to_z}
use Rattle.std.specs.Int.{w32}
use Rattle.module_format.specs.Rows.{ProcedureRow}
use Rattle.module_format.specs.Contents.{contents_of}
use Rattle.states.proofs.States.{covers, rows-within-more, RowsWithin}
use Rattle.states.proofs.state.room_of.Goals as goal

pub returns-clause-covers : goal.returns-clause-covers
returns-clause-covers c =
    covers (contents_of c.args.tables.now) (to_z w32 c.loop-row.lo-bits)
    (to_z w32 c.loop-row.hi-bits) c.args.tables.now.procedures.items refl
    (record { low = c.loop-row.invariant.low; high = c.loop-row.invariant.high })
    (subst (λ (rows : List ProcedureRow).
    RowsWithin (to_z w32 c.loop-row.lo-bits) (to_z w32 c.loop-row.hi-bits) rows
    (length rows)) c.deref-row-items.ensures.value (λ i h d. c.loop-row.invariant.rows i (omega arith) d))

pub loop-row-preserved : goal.loop-row-preserved
loop-row-preserved c = record {
  low = let l = c.loop-row.invariant.low in omega (arith, ints, clamps);
  high = let h = c.loop-row.invariant.high in omega (arith, ints, clamps);
  rows =
      rows-within-more _ _ _ _ c.deref-row-items.result.now c.loop-row.row-index c.row-item.result
      (search rules) c.loop-row.invariant.rows
      (omega (arith, ints, clamps)) (omega (arith, ints, clamps)) c.row-item.is (omega (arith, ints, clamps))
      (omega (arith, ints, clamps));
}
