use Rattle.tpm_actions.proofs.Beginnings.{IsWritten}
use Rattle.tpm_actions.proofs.telling.tell.Given as goal

abbrev pub invariant-loop : goal.invariant-loop
invariant-loop g l =
    IsWritten (g.O.Write.contents l.initial.out) (g.O.Write.contents l.out) l.text l.written
