-- What a host's machine holds.
use Rattle.std.specs.Prelude.{Option, Some, None}
use Rattle.std.specs.Coded.{Coded, coded_option}
use Rattle.std.specs.Box.Ownership.{box_owns}
use Rattle.std.specs.declared.alloc.Global.{Global}
use Rattle.std.specs.contracts.impls.GlobalAllocator.TheImpl.{ghosts}
use base.Fml.{Fml, ftrue}
use denote.RawPtr.{Ptr}
use Rattle.accepted_runs.specs.Running.{PlainExecution}
use Rattle.kept_runs.specs.contracts.kept_run.KeptRun.{the_row}

-- A run lies at the pointer, with the right to free its memory; nothing is owned if there is none.
abbrev pub held_at : Global → Ptr → Option PlainExecution → Fml
held_at alloc at (Some run) = box_owns (ghosts.dealloc_token alloc) the_row at run
held_at alloc at None = ftrue

-- how what is held is stored
abbrev pub held_code : Coded (Option PlainExecution)
held_code = coded_option the_row.coded
