use Rattle.std.proofs.Common.{◌≡◌, drop}
use Rattle.command_line.specs.Fitting.{number_from}
use Rattle.command_line.proofs.fitting.number_in.Given as goal

abbrev pub invariant-loop-byte : goal.invariant-loop-byte
invariant-loop-byte l = number_from l.number (drop l.byte-index l.bytes) ≡ number_from 0 l.bytes
