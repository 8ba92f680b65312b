-- What the program finds that a condition says.
use Rattle.std.specs.Prelude.{ℕ, List, Option, Some, None}
use Rattle.scalar_ranges.specs.declared.narrowing.Test as code_test
use Rattle.scalar_ranges.specs.declared.scope.Meaning as code_meaning
use Rattle.scalar_ranges.specs.Entries.{Entry}
use Rattle.scalar_ranges.specs.Narrowing.{Tested}
use Rattle.scalar_ranges.specs.Changes.{changed_to}
use Rattle.scalar_ranges.specs.EntryViews.{meaning_of}

abbrev pub tested_of : code_test.Test → Tested
tested_of t = record { name = t.name.now; comparison = t.comparison; constant = t.constant }

-- the entry with a number means something else, if one is given
abbrev pub changed_by : Option (ℕ × code_meaning.Meaning) → List Entry → List Entry
changed_by None es = es
changed_by (Some change) es = changed_to (meaning_of change.1) change.0 es
