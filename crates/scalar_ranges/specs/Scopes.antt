-- What a scope of the program knows.
pub use Rattle.scalar_ranges.specs.EntryViews.{meaning_of, entry_of}
use Rattle.std.specs.Prelude.{List}
use Rattle.scalar_ranges.specs.declared.scope.Scope as code_scope
use Rattle.scalar_ranges.specs.Entries.{Entry}
use Rattle.scalar_ranges.specs.Moves.{Block, Known}
use Rattle.scalar_ranges.specs.LeftViews.{known_now}

abbrev pub known_of : code_scope.Scope → Known
known_of scope = known_now scope.known

abbrev pub entries_of : code_scope.Scope → List Entry
entries_of scope = (known_of scope).entries

abbrev pub blocks_of : code_scope.Scope → List Block
blocks_of scope = (known_of scope).blocks
