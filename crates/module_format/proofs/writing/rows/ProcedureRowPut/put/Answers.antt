use Rattle.std.proofs.Common.{◌≡◌, length, rules, arith, vec_len, w32}
use Rattle.std.proofs.lemmas.Int.{to_z-of_z}
use Rattle.std.proofs.lemmas.List.{map-id}
use Rattle.module_format.specs.Spelling.{procedure_bytes}
use Rattle.module_format.proofs.WritingLaws.{piece, ◌>>◌}
use Rattle.module_format.proofs.writing.rows.ProcedureRowPut.put.Goals as goal

pub returns : goal.returns
unfolding procedure_bytes
returns c =
    let row = c.args.self.now in
    let len : vec_len row.parameters ≡ length row.parameters.items = omega (arith, row.parameters.ok.0) in
    (piece _ _ c.u32.ensures >> piece _ _ (rw (to_z-of_z w32 row.lo (search rules)) at c.i32.ensures)
    >> piece _ _ (rw (to_z-of_z w32 row.hi (search rules)) at c.i32-2.ensures) >> piece _ _ c.u64.ensures
    >> piece _ _ (rw (c.len.ensures, len) at c.u16.ensures)
    >> piece _ _ (rw (c.deref.ensures.value, map-id row.parameters.items) at c.put_all.ensures)).wrote
