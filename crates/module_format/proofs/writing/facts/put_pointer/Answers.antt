use Rattle.std.proofs.Common.{w32}
use Rattle.std.proofs.lemmas.Int.{to_z-of_z}
use Rattle.module_format.specs.Spelling.{fact_bytes}
use Rattle.module_format.proofs.WritingLaws.{piece, ◌>>◌}
use Rattle.module_format.proofs.writing.facts.put_pointer.Goals as goal

pub returns : goal.returns
unfolding fact_bytes
returns c =
    let lo = rw (to_z-of_z w32 c.args.lo c.ranges.lo) at c.i32.ensures in
    let hi = rw (to_z-of_z w32 c.args.hi c.ranges.hi) at c.i32-2.ensures in
    let step = rw c.step_size.ensures at c.u8-2.ensures in
    (piece _ _ c.u8.ensures >> piece _ _ c.put_region.ensures >> piece _ _ lo >> piece _ _ hi >> piece _ _ step).wrote
