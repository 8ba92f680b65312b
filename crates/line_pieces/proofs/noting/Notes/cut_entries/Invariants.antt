use Rattle.std.proofs.Common.{◌≡◌, ◌++◌, drop}
use Rattle.line_pieces.specs.Cutting.{uses_of, cut_entries}
use Rattle.line_pieces.proofs.noting.Notes.cut_entries.Given as goal

abbrev pub invariant-loop-entry : goal.invariant-loop-entry
invariant-loop-entry l =
    l.kept.items ++ cut_entries l.self.outside (uses_of l.self) (drop l.entry-index l.entries)
    ≡ cut_entries l.self.outside (uses_of l.self) l.entries
