use Rattle.tpm_actions.proofs.Beginnings.{more_written, none_written}
use Rattle.tpm_actions.proofs.telling.tell.Goals as goal
use Rattle.tpm_actions.proofs.telling.tell.Goals.{in-Ok, in-Err}

pub loop-preserved : goal.loop-preserved
loop-preserved g c = elim c.match-write.branch [
  | in-Ok w ↦ rw w.written-is (more_written _ _ _ c.args.text.now c.loop.written w.in-Ok.count c.loop.invariant
      w.in-Ok.ensures.bound w.in-Ok.ensures.bytes)
  | in-Err w ↦ rw w.written-is (none_written _ _ _ c.args.text.now c.loop.written c.loop.invariant
      w.in-Err.ensures.bytes)
]
