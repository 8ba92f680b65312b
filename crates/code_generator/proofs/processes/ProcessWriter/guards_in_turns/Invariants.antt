use Rattle.code_generator.specs.Alternations.{StaysSo}
use Rattle.code_generator.proofs.processes.ProcessWriter.guards_in_turns.Given as goal

abbrev pub invariant-loop-turn : goal.invariant-loop-turn
invariant-loop-turn l = StaysSo l.initial.self l.self
