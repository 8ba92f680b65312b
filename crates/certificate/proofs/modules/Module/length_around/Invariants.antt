use Rattle.std.proofs.Common.{◌≡◌, ◌-◌}
use Rattle.certificate.specs.Rights.{length_around, channel_length}
use Rattle.certificate.proofs.modules.Module.length_around.Given as goal

abbrev pub invariant-loop : goal.invariant-loop
invariant-loop l = length_around (l.end - l.counter) l.self l.number l.word ≡ channel_length l.self l.context l.word
