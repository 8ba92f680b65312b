-- What is known where a line is.
use Rattle.std.specs.Prelude.{List}
use Rattle.scalar_ranges.specs.Entries.{Entry}
use Rattle.scalar_ranges.specs.Scopes.{entries_of}
use Rattle.usage_reasons.specs.declared.site.Site.{Site}

abbrev pub known_at : Site → List Entry
known_at s = entries_of s.scope.now
