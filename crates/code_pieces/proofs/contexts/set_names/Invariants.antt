use Rattle.std.proofs.Common.{◌≡◌, ◌<◌, ℕ, length, map, drop, get_or}
use Rattle.code_pieces.specs.PieceViews.{branch_of}
use Rattle.code_pieces.specs.Contexts.{nowhere, name_among}
use Rattle.code_pieces.proofs.contexts.set_names.Given as goal

abbrev pub invariant-loop-branch : goal.invariant-loop-branch
invariant-loop-branch l = record {
  count : length l.names ≡ length l.initial.names;
  each : (k : ℕ) → k < length l.names
      → name_among k l.par l.branch (map branch_of (drop l.branch l.branches)) (get_or l.names k nowhere)
      ≡ name_among k l.par 0 (map branch_of l.branches) (get_or l.initial.names k nowhere);
}
