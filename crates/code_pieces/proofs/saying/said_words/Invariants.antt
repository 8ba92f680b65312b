use Rattle.std.proofs.Common.{◌≡◌, drop, reverse}
use Rattle.std.specs.List.{AllByRecursion}
use Rattle.code_pieces.specs.Numbers.{Needs}
use Rattle.code_pieces.specs.Needed.{IsKnown}
use Rattle.code_pieces.specs.Laying.{said}
use Rattle.code_pieces.specs.Pieces.{Row}
use Rattle.code_pieces.specs.DraftedRows.{IsOfFewWords}
use Rattle.code_pieces.specs.WellFormed.{HaveFewWords}
use Rattle.code_pieces.proofs.saying.said_words.Given as goal

abbrev pub invariant-loop-number : goal.invariant-loop-number
invariant-loop-number l = record {
  said : (n : Needs) → IsKnown l.needs n → reverse l.words.items ≡ said n.weights (drop l.number l.entries);
  few : HaveFewWords (Row 0 l.entries) → AllByRecursion IsOfFewWords (reverse l.words.items);
}
