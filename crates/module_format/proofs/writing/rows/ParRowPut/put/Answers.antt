use Rattle.std.proofs.Common.{◌≡◌, length, map, refl, rules, arith, vec_len, w32}
use Rattle.std.proofs.lemmas.Int.{to_z-of_z}
use Rattle.std.proofs.lemmas.List.{map-id, length-map}
use Rattle.module_format.specs.Contents.{branch_of}
use Rattle.module_format.specs.Spelling.{par_bytes}
use Rattle.module_format.proofs.WritingLaws.{piece, ◌>>◌}
use Rattle.module_format.proofs.writing.rows.ParRowPut.put.Goals as goal

pub returns : goal.returns
unfolding par_bytes
returns c =
    let row = c.args.self.now in
    let depth = rw (to_z-of_z w32 row.depth (search rules)) at c.i32.ensures in
    let block = rw (to_z-of_z w32 row.block (search rules)) at c.i32-2.ensures in
    let branches = map branch_of row.branches.items in
    let channel_len : vec_len row.channels ≡ length row.channels.items = omega (arith, row.channels.ok.0) in
    let mapped : length branches ≡ length row.branches.items = rw length-map refl in
    let branch_len : vec_len row.branches ≡ length branches = omega (arith, row.branches.ok.0, mapped) in
    let channel_count = rw (c.len.ensures, channel_len) at c.u16-2.ensures in
    let branch_count = rw (c.len-2.ensures, branch_len) at c.u16-3.ensures in
    let channels = rw (c.deref.ensures.value, map-id row.channels.items) at c.put_all.ensures in
    let rows = rw c.deref-2.ensures.value at c.put_all-2.ensures in
    (piece _ _ c.u16.ensures >> piece _ _ depth >> piece _ _ block >> piece _ _ c.u32.ensures
    >> piece _ _ channel_count >> piece _ _ branch_count >> piece _ _ channels >> piece _ _ rows).wrote
