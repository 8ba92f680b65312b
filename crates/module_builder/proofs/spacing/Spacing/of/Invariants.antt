use Rattle.std.proofs.Common.{◌≡◌, sum, take}
use Rattle.module_builder.specs.Spacing.{AreOffsets}
use Rattle.module_builder.proofs.spacing.Spacing.of.Given as goal

abbrev pub invariant-loop-len : goal.invariant-loop-len
invariant-loop-len l = record {
  follow : AreOffsets (take l.len-index l.len-items) l.offsets.items;
  end : l.end ≡ sum (take l.len-index l.len-items);
}
