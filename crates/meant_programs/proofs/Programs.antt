-- A module of a program's code runs as the program means.
use Rattle.code_pieces.specs.Laying.{apart, words_taken}
use Rattle.code_pieces.specs.LaidModule.{laid_module}
use Rattle.placed_code.specs.Closing.{first_point}
use Rattle.placed_code.specs.LaidCode.{laid_code}
use Rattle.usage_checks.proofs.ProgramsGoWell.{programs_go_on}
use Rattle.meant_runs.proofs.MainsRun.{runs_follow_main}
use Rattle.meant_programs.specs.Programs.{ProgramsRunAsMeant}
use Rattle.meant_programs.proofs.Items.{main_is_found}
use Rattle.meant_programs.proofs.MainMemory.{memory_begins}
use Rattle.meant_programs.proofs.Mains.{main_behaves}

pub programs_run_as_meant : ProgramsRunAsMeant
programs_run_as_meant items code links bytes none sequential has_words is says fit well =
    let ps = apart code.pieces in
    let footing = (laid_code ps code.labels says.arrangement.lengths 0).footing in
    let memory = (first_point (laid_module ps code.labels links says.arrangement)).held.memory in
    let found = main_is_found items code footing (words_taken ps) ps memory none sequential has_words is
    (memory_begins ps code.labels links bytes says) in
    runs_follow_main ps code.labels links bytes says items well (programs_go_on items none sequential has_words)
    (main_behaves items code links bytes none is says fit found)
