-- Holdings stay apart, whatever a valid module does.
use Rattle.std.specs.Prelude.{List}
use Rattle.module_format.specs.Contents.{Contents}
use Rattle.module_format.specs.Keeping.{Keeps}
use Rattle.machine_state.specs.declared.event.Event.{Event}
use Rattle.machine_state.specs.Apart.{AllApart}
use Rattle.machine_state.specs.Happens.{world_after}

abbrev pub HoldingsStayApart : Type 0
HoldingsStayApart = (m : Contents) (es : List Event) → Keeps m
    → AllApart (world_after m es).roles (world_after m es).channels
