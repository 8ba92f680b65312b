use Rattle.code_generator.specs.Alternations.{StaysSo}
use Rattle.code_generator.proofs.processes.ProcessWriter.guards_of.Given as goal

abbrev pub invariant-loop-branch : goal.invariant-loop-branch
invariant-loop-branch l = StaysSo l.initial.self l.self
