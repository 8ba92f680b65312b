use Rattle.std.proofs.Common.{◌≡◌, length, FitsSigned, rules, arith, vec_len, w32}
use Rattle.std.proofs.lemmas.Int.{to_z-of_z}
use Rattle.std.proofs.lemmas.List.{map-id}
use Rattle.module_format.specs.Spelling.{label_bytes}
use Rattle.module_format.proofs.WritingLaws.{piece, ◌>>◌}
use Rattle.module_format.proofs.writing.rows.LabelRowPut.put.Goals as goal

pub returns : goal.returns
unfolding label_bytes
returns c =
    let row = c.args.self.now in
    let fits : FitsSigned w32 row.depth = search rules in
    let depth = rw (to_z-of_z w32 row.depth fits) at c.i32.ensures in
    let len : vec_len row.entries ≡ length row.entries.items = omega (arith, row.entries.ok.0) in
    let count = rw (c.len.ensures, len) at c.u16-2.ensures in
    let entries = rw (c.deref.ensures.value, map-id row.entries.items) at c.put_all.ensures in
    (piece _ _ c.u32.ensures >> piece _ _ c.u16.ensures >> piece _ _ depth >> piece _ _ c.u64.ensures
    >> piece _ _ c.put_fact.ensures >> piece _ _ c.put_fact-2.ensures >> piece _ _ c.put_fact-3.ensures
    >> piece _ _ count >> piece _ _ entries).wrote
