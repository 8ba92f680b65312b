-- What the program tracks, and what is known by it.
use Rattle.scalar_ranges.specs.declared.changes.Tracked as code_tracked
use Rattle.scalar_ranges.specs.Moves.{Known}
use Rattle.scalar_ranges.specs.Changes.{Tracked, known_in}
use Rattle.scalar_ranges.specs.ChangeViews.{tracked_from}

abbrev pub tracked_of : code_tracked.Tracked → Tracked
tracked_of t = tracked_from t.slots.items t.blocks.items

abbrev pub known_by : code_tracked.Tracked → Known
known_by t = known_in (tracked_of t)
