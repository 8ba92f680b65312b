use Rattle.std.proofs.Common.{◌≡◌, ◌++◌, drop}
use Rattle.line_pieces.specs.Cutting.{uses_of, all_words}
use Rattle.line_pieces.proofs.noting.Notes.all_words.Given as goal

abbrev pub invariant-loop-entry : goal.invariant-loop-entry
invariant-loop-entry l =
    l.words.items ++ all_words l.access (uses_of l.self) (drop l.entry-index l.known)
    ≡ all_words l.access (uses_of l.self) l.known
