use Rattle.std.proofs.Common.{◌≤ℤ◌}
use Rattle.module_format.specs.Facts.{end_of}
use Rattle.module_format.specs.Order.{InOrder, least_word}
use Rattle.module_format.specs.Pars.{IntervalKeeps, behind_interval}
use Rattle.states.specs.Cutting.{CutsOn}
use Rattle.states.proofs.Comparisons.{ahead}
use Rattle.states.proofs.cutting.cut_words.Given as goal

abbrev pub invariant-loop-word : goal.invariant-loop-word
invariant-loop-word l = record {
  order : InOrder IntervalKeeps behind_interval least_word l.left;
  begun : l.entry.word ≤ℤ l.word;
  within : l.word ≤ℤ end_of l.entry;
  cuts : CutsOn l.side l.entry l.fn.pieces.items l.pieces.items l.intervals l.left l.entry.word l.word;
}

abbrev pub decreases-loop-word : goal.decreases-loop-word
decreases-loop-word l = ahead l.word
