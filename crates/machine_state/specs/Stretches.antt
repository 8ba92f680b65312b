-- Stretches of places as the program keeps them.
use Rattle.machine_state.specs.declared.spans.Stretch as kept
use Rattle.machine_state.specs.Spans.{Stretch}

abbrev pub stretch_view : kept.Stretch → Stretch
stretch_view s = record { start = s.start; size = s.size }
