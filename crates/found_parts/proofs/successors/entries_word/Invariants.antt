use Rattle.std.proofs.Common.{◌≡◌, drop}
use Rattle.module_format.specs.Contents.{par_of}
use Rattle.found_parts.specs.Successors.{hidden_word}
use Rattle.found_parts.specs.Firsts.{first_of}
use Rattle.found_parts.proofs.successors.entries_word.Given as goal

abbrev pub invariant-loop-entry : goal.invariant-loop-entry
invariant-loop-entry l =
    first_of (hidden_word (par_of l.par)) l.entries
    ≡ first_of (hidden_word (par_of l.par)) (drop l.entry-index l.entries)
