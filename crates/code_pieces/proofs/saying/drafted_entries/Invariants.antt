use Rattle.std.proofs.Common.{◌≡◌, ◌++◌, map, drop}
use Rattle.std.specs.List.{AllByRecursion}
use Rattle.code_pieces.specs.DraftedRows.{drafted_entry, IsOfFewWords}
use Rattle.code_pieces.proofs.saying.drafted_entries.Given as goal

abbrev pub invariant-loop-words : goal.invariant-loop-words
invariant-loop-words l = record {
  drafted : l.entries.items ++ map drafted_entry (drop l.words-index l.said) ≡ map drafted_entry l.said;
  few : AllByRecursion IsOfFewWords l.said → AllByRecursion IsOfFewWords (drop l.words-index l.said);
}
