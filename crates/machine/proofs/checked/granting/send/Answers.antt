use Rattle.module_format.specs.Contents.{contents_of}
use Rattle.traffic.specs.Settling.{here_in}
use Rattle.machine_state.specs.Asking.{scheduled}
use Rattle.machine.proofs.Granting.{emits_defined}
use Rattle.machine.proofs.checked.granting.send.Goals as goal

pub returns-in-Emitted-clause-grants : goal.returns-in-Emitted-clause-grants
returns-in-Emitted-clause-grants c =
    let message = c.args.message.now in
    let w = c.args.processes.now.world in
    let settles = rw c.in-Emitted.is at c.in_ok-link.ensures.settles in (
      settles,
      emits_defined (here_in (contents_of c.args.tables.now) message.here) message.exchange
          (scheduled message.registers w.memory) w _ c.in-Emitted.link _ settles c.requires.defined,
    )
