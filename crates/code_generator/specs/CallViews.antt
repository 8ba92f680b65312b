-- The procedures that those of the program are, and what is around a process of the program.
use Rattle.std.specs.Prelude.{List, map}
use Rattle.occam_parser.specs.BlockViews.{procedure_of}
use Rattle.program_uses.specs.ActionViews.{around_of}
use Rattle.code_generator.specs.declared.calling.Callee as code_callee
use Rattle.code_generator.specs.declared.calling.Surroundings as calling
use Rattle.code_generator.specs.Calls.{Callee, where_called}
use Rattle.code_generator.specs.Processes.{Surroundings}

abbrev pub callee_of : code_callee.Callee → Callee
callee_of c = record { procedure = procedure_of c.proc.now; names = c.names }

abbrev pub callees_of : List code_callee.Callee → List Callee
callees_of cs = map callee_of cs

abbrev pub surroundings_of : calling.Surroundings → Surroundings
surroundings_of w = where_called (callees_of w.callees.now) (around_of w.around) w.count
