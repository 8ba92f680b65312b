use Rattle.std.proofs.Common.{◌≡◌, take, true}
use Rattle.occam_parser.specs.BlockViews.{all_processes}
use Rattle.code_generator.specs.Processes.{all_do_nothing}
use Rattle.code_generator.proofs.choices.+nothing.Given as goal

abbrev pub invariant-all_do_nothing-loop-process : goal.invariant-all_do_nothing-loop-process
invariant-all_do_nothing-loop-process l =
    true ≡ all_do_nothing (all_processes (take l.process-index l.processes))
