use Rattle.machine_state.proofs.cpu.Cpu.own_word.Goals as goal
use Rattle.machine_state.proofs.Scheduling.{may_write_word-read}

pub load_word-requires : goal.load_word-requires
load_word-requires g c = may_write_word-read _ _ c.requires
