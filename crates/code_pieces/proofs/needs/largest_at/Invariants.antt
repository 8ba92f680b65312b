use Rattle.std.proofs.Common.{◌≡◌, List, max, length, drop}
use Rattle.code_pieces.specs.Numbers.{Numbered, largest_at}
use Rattle.code_pieces.specs.Needed.{Tells}
use Rattle.code_pieces.specs.WellFormed.{AreBelow}
use Rattle.code_pieces.proofs.needs.largest_at.Given as goal

abbrev pub invariant-loop-label : goal.invariant-loop-label
invariant-loop-label l = record {
  largest : (ns : List Numbered) → Tells l.numbers ns
      → max l.largest (largest_at (drop l.label-index l.labels) ns) ≡ largest_at l.labels ns;
  below : AreBelow (length l.numbers) l.labels → AreBelow (length l.numbers) (drop l.label-index l.labels);
}
