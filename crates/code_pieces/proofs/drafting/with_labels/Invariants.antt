use Rattle.std.proofs.Common.{◌≡◌, [], None, replicate}
use Rattle.code_pieces.proofs.drafting.with_labels.Given as goal

abbrev pub invariant-loop-made : goal.invariant-loop-made
invariant-loop-made l = record {
  items : l.code.items ≡ [];
  labels : l.code.labels ≡ replicate l._made None;
}
